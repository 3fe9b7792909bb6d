-- What is found of a claimed race in the phase of its time and number is what the run shows.
use Rattle.std.proofs.Common.{◌≡◌, ℕ, zero, suc, ◌+◌, ◌-◌, ◌<◌, List, [], ◌∷◌, ◌++◌, length, Bool, true, false, not, ◌&&◌, ◌||◌, refl, sym, ap, subst, ◌∙◌, inl, inr, arith}
use Rattle.std.specs.Prelude.{Option, Some, None, is_some, slice_get, nat_eq, nat_lt}
use Rattle.std.proofs.lemmas.Bool.{eq-eqb, ne_eqb, cases_eq, ltb-true, lt-ltb}
use Rattle.vf_base.specs.Base.{ReportedPair}
use Rattle.v_design.specs.Designs.{Machine}
use Rattle.v_design.specs.States.{Event, Step, LaneStep, start, is_quiescent, turn_of}
use Rattle.v_design.specs.Runs.{replayed, ends_by, IsLegal}
use Rattle.v_design.specs.Grades.{Phase, cut}
use Rattle.v_design.specs.PhaseLogs.{phase_race}
use Rattle.v_design.specs.WellFormed.{KeepsRules}
use Rattle.v_design.specs.Laws.{NamesConflict}
use Rattle.cert_laws.specs.Replays.{RunLine, SlotAt, PhaseNumber, StepsOf, UpdatesOf, Replay, step_on, steps_on, may_end, phase_on, slot_on, begun, next_line, is_through}
use Rattle.cert_laws.specs.Valid.{shows}
use Rattle.cert_laws.specs.Meaning.{IsPrinted}
use Rattle.replay_laws.specs.Claimed.{pair_if, pair_of_phase, pair_in, at_time, pair_among, pair_of_run}
use Rattle.replay_laws.specs.Looked.{HasLooked, found_if, found_then, found_after, RacesAreLookedFor}
use Rattle.replay_laws.proofs.Words.{some-eq, both-true, then-some, allowed-some, append-nothing, get-last, get-other}
use Rattle.replay_laws.proofs.Following.{begun-stands, step-stands, here-more, other-more, present, phase-stands, slot-stands}
use Rattle.replay_laws.proofs.Pairs.{in-run, holds}

-- One more phase

if-same : {A : Type 0} (number : ℕ) (b : Bool) (one other : Option A) → nat_lt 0 number ≡ b → (0 < number → one ≡ other) → pair_if (nat_lt 0 number) one ≡ pair_if (nat_lt 0 number) other
if-same number true one other e h = ap (pair_if (nat_lt 0 number)) (h (ltb-true 0 number e))
if-same number false one other e h = ap (λ b. pair_if b one) e ∙ sym (ap (λ b. pair_if b other) e)

-- what the phases of one time show
abbrev shown : Machine → ℕ → ℕ → List ℕ → List ℕ → List Phase → Option ReportedPair
shown machine time number first second phases = pair_if (nat_lt 0 number) (pair_in machine time number first second (slice_get phases (number - 1)))

-- one more phase of the time, of a number
shown-more : (machine : Machine) (time number : ℕ) (first second : List ℕ) (phases : List Phase) (phase : Phase) (count : ℕ) → count ≡ length phases + 1 →
    shown machine time number first second (phases ++ phase ∷ [])
    ≡ found_if (nat_eq count number) (pair_of_phase machine time number first second phase.begins phase.events) (shown machine time number first second phases)
shown-more machine time number first second phases phase count e =
    elim (cases_eq count number) [
      | inl same ↦
          (let place : number - 1 ≡ length phases = omega (arith, e, same) in
          (λ i. pair_if (lt-ltb 0 number (omega (arith, e, same)) i)
          (pair_in machine time number first second ((ap (slice_get (phases ++ phase ∷ [])) place ∙ get-last phases phase) i)))
          ∙ sym (ap (λ b. found_if b (pair_of_phase machine time number first second phase.begins phase.events) (shown machine time number first second phases)) (eq-eqb count number same)))
      | inr other ↦
          if-same number (nat_lt 0 number) (pair_in machine time number first second (slice_get (phases ++ phase ∷ []) (number - 1)))
          (pair_in machine time number first second (slice_get phases (number - 1))) refl
          (λ low. ap (pair_in machine time number first second) (get-other phases phase (number - 1) (λ is. other (omega (arith, e, is, low)))))
          ∙ sym (ap (λ b. found_if b (pair_of_phase machine time number first second phase.begins phase.events) (shown machine time number first second phases)) (ne_eqb count number other))
    ]

-- one more phase, of a time and of a number
among-more : (machine : Machine) (time number : ℕ) (first second : List ℕ) (ended : List Phase) (phase : Phase) (count : ℕ) → count ≡ length (at_time phase.begins.time ended) + 1 →
    pair_among machine time number first second (ended ++ phase ∷ [])
    ≡ found_if (nat_eq phase.begins.time time && nat_eq count number) (pair_of_phase machine time number first second phase.begins phase.events)
    (pair_among machine time number first second ended)
among-more machine time number first second ended phase count e =
    elim (cases_eq phase.begins.time time) [
      | inl same ↦
          ap (shown machine time number first second) (here-more time ended phase same)
          ∙ shown-more machine time number first second (at_time time ended) phase count (e ∙ ap (λ at. length (at_time at ended) + 1) same)
          ∙ sym (ap (λ b. found_if (b && nat_eq count number) (pair_of_phase machine time number first second phase.begins phase.events) (pair_among machine time number first second ended))
          (eq-eqb phase.begins.time time same))
      | inr other ↦
          ap (shown machine time number first second) (other-more time ended phase other)
          ∙ sym (ap (λ b. found_if (b && nat_eq count number) (pair_of_phase machine time number first second phase.begins phase.events) (pair_among machine time number first second ended))
          (ne_eqb phase.begins.time time other))
    ]

-- what has been found once the phase of a replay ends
then-among : (machine : Machine) (time number : ℕ) (first second : List ℕ) (replay : Replay) (found : Option ReportedPair) (looked : HasLooked machine time number first second replay found) →
    found_then machine time number first second replay found ≡ pair_among machine time number first second (looked.ended ++ present looked.turn replay ∷ [])
then-among machine time number first second replay found looked =
    (λ i. found_if (nat_eq (looked.stands.same_time i) time && nat_eq replay.number number) (pair_of_phase machine time number first second replay.begins replay.events) (looked.found_is i))
    ∙ sym (among-more machine time number first second looked.ended (present looked.turn replay) replay.number looked.stands.number_is)

-- Lines

looked-begins : (machine : Machine) (time number : ℕ) (first second : List ℕ) → KeepsRules machine.design → HasLooked machine time number first second (begun machine) None
looked-begins machine time number first second rules = record {
  ended = [];
  turn = None;
  stands = begun-stands machine time rules;
  found_is = nothing (nat_lt 0 number);
}
  where
    nothing : (b : Bool) → None ≡ pair_if b (pair_in machine time number first second (slice_get [] (number - 1)))
    nothing true = refl
    nothing false = refl

looked-step : (machine : Machine) (time number : ℕ) (first second : List ℕ) (event : Event) (replay next : Replay) (found : Option ReportedPair) → KeepsRules machine.design →
    step_on machine event replay ≡ Some next → HasLooked machine time number first second replay found → HasLooked machine time number first second next found
looked-step machine time number first second event replay next found rules e looked = record {
  ended = looked.ended;
  turn = looked.turn;
  stands = step-stands machine time looked.ended looked.turn event replay next rules e looked.stands;
  found_is = looked.found_is;
}

looked-steps : (machine : Machine) (time number : ℕ) (first second : List ℕ) (count : ℕ) (event : Event) (replay next : Replay) (found : Option ReportedPair) → KeepsRules machine.design →
    steps_on count machine event replay ≡ Some next → HasLooked machine time number first second replay found → HasLooked machine time number first second next found
looked-steps machine time number first second zero event replay next found rules e looked =
    subst (λ (r : Replay). HasLooked machine time number first second r found) (some-eq replay next e) looked
looked-steps machine time number first second (suc count) event replay next found rules e looked =
    let s = then-some (step_on machine event replay) (λ r. steps_on count machine event r) next e in
    looked-steps machine time number first second count event s.0 next found rules s.2 (looked-step machine time number first second event replay s.0 found rules s.1 looked)

looked-phase : (machine : Machine) (time number : ℕ) (first second : List ℕ) (following : ℕ) (replay next : Replay) (found : Option ReportedPair) → is_quiescent replay.now ≡ true →
    phase_on (turn_of replay.now) following replay ≡ Some next → HasLooked machine time number first second replay found →
    HasLooked machine time number first second next (found_then machine time number first second replay found)
looked-phase machine time number first second following replay next found quiet e looked = record {
  ended = looked.ended ++ present looked.turn replay ∷ [];
  turn = turn_of replay.now;
  stands = phase-stands machine time following looked.ended looked.turn replay next (turn_of replay.now) refl quiet e looked.stands;
  found_is = then-among machine time number first second replay found looked;
}

looked-slot : (machine : Machine) (time number : ℕ) (first second : List ℕ) (later : ℕ) (replay next : Replay) (found : Option ReportedPair) → is_quiescent replay.now ≡ true →
    slot_on time (turn_of replay.now) later replay ≡ Some next → HasLooked machine time number first second replay found →
    HasLooked machine time number first second next (found_then machine time number first second replay found)
looked-slot machine time number first second later replay next found quiet e looked = record {
  ended = looked.ended ++ present looked.turn replay ∷ [];
  turn = turn_of replay.now;
  stands = slot-stands machine time later looked.ended looked.turn replay next (turn_of replay.now) refl quiet e looked.stands;
  found_is = then-among machine time number first second replay found looked;
}

quiet-end : (race : Bool) (machine : Machine) (replay : Replay) → may_end race machine replay ≡ true → is_quiescent replay.now ≡ true
quiet-end race machine replay e = (both-true (is_quiescent replay.now) (race || not (is_some (phase_race machine replay.begins replay.events))) e).0

looked-line : (race : Bool) (machine : Machine) (time number : ℕ) (first second : List ℕ) (line : RunLine) (replay next : Replay) (found : Option ReportedPair) → KeepsRules machine.design →
    next_line race machine time line replay ≡ Some next → HasLooked machine time number first second replay found →
    HasLooked machine time number first second next (found_after machine time number first second line replay found)
looked-line race machine time number first second (SlotAt later) replay next found rules e looked =
    let a = allowed-some (may_end race machine replay) (slot_on time (turn_of replay.now) later replay) next e in
    looked-slot machine time number first second later replay next found (quiet-end race machine replay a.0) a.1 looked
looked-line race machine time number first second (PhaseNumber following) replay next found rules e looked =
    let a = allowed-some (may_end race machine replay) (phase_on (turn_of replay.now) following replay) next e in
    looked-phase machine time number first second following replay next found (quiet-end race machine replay a.0) a.1 looked
looked-line race machine time number first second (StepsOf process count) replay next found rules e looked =
    looked-steps machine time number first second count (Step process) replay next found rules (allowed-some (nat_lt 0 count) (steps_on count machine (Step process) replay) next e).1 looked
looked-line race machine time number first second (UpdatesOf process count) replay next found rules e looked =
    looked-steps machine time number first second count (LaneStep process) replay next found rules (allowed-some (nat_lt 0 count) (steps_on count machine (LaneStep process) replay) next e).1
    looked

-- The end

looked-ends : (machine : Machine) (time number : ℕ) (first second : List ℕ) (replay : Replay) (found : Option ReportedPair) → HasLooked machine time number first second replay found →
    pair_of_run machine time number first second replay.moves ≡ found_then machine time number first second replay found
looked-ends machine time number first second replay found looked =
    ap (pair_among machine time number first second)
    (ap (cut machine None (start machine) [] (start machine)) (sym (append-nothing replay.moves)) ∙ looked.stands.cuts [])
    ∙ sym (then-among machine time number first second replay found looked)

looked-shows : (machine : Machine) (time number : ℕ) (first second : List ℕ) (replay : Replay) (found : Option ReportedPair) → HasLooked machine time number first second replay found →
    shows machine time number first second replay.moves ≡ is_some (found_then machine time number first second replay found)
looked-shows machine time number first second replay found looked =
    sym (in-run machine time number first second replay.moves) ∙ ap (λ (o : Option ReportedPair). is_some o) (looked-ends machine time number first second replay found looked)

looked-holds : (race : Bool) (machine : Machine) (time number : ℕ) (first second : List ℕ) (replay : Replay) (found : Option ReportedPair) (pair : ReportedPair) →
    is_through race machine time (Some replay) ≡ true → HasLooked machine time number first second replay found → found_then machine time number first second replay found ≡ Some pair →
    IsPrinted machine.design time number first second pair × NamesConflict machine pair
looked-holds race machine time number first second replay found pair e looked is =
    let legal : IsLegal machine time replay.moves replay.now =
    record {
      leads = ap (replayed machine time (start machine)) (sym (append-nothing replay.moves)) ∙ looked.stands.leads [];
      ends = (both-true (may_end race machine replay) (ends_by time replay.now) e).1;
    } in
    holds machine time number first second replay.moves replay.now pair legal (looked-ends machine time number first second replay found looked ∙ is)

-- The law

pub races_are_looked_for : RacesAreLookedFor
races_are_looked_for = record {
  begins = looked-begins;
  step = looked-step;
  phase = looked-phase;
  slot = looked-slot;
  line = looked-line;
  ends = looked-ends;
  shows_it = looked-shows;
  holds = looked-holds;
}
