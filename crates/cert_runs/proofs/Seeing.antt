-- What the strobes see of a run goes on with its lines (runs and slots by IEEE 1364-2001, clause 5).
use Rattle.std.proofs.Common.{◌≡◌, ℕ, zero, suc, ◌+◌, ◌<◌, ◌≤◌, List, [], ◌∷◌, ◌++◌, length, map, drop, filter, Bool, true, false, ◌&&◌, ◌⊎◌, inl, inr, refl, sym, ap, subst, ◌∙◌, append_assoc, arith}
use Rattle.std.specs.Prelude.{Option, Some, None, cond, nat_eq, nat_le, nat_lt}
use Rattle.std.proofs.lemmas.Bool.{eqb-true, leb-true, le-leb, lt-leb}
use Rattle.std.proofs.lemmas.List.{append-nil}
use Rattle.four_value.specs.declared.logic.Bit.{Bit}
use Rattle.vf_base.specs.Base.{WatchedBit}
use Rattle.vf_base.specs.Lists.{AllHold}
use Rattle.v_design.specs.Designs.{Machine}
use Rattle.v_design.specs.WellFormed.{IsAscending}
use Rattle.v_design.specs.States.{State, Event, Step, LaneStep, TurnKind, PostponedTurn, UpdatesTurn, TimeTurn, start, possible, after, turn_of, turned, found_or}
use Rattle.v_design.specs.Runs.{Move, Happens, Turns, then_state, only_if, stays_within, happened, most_steps}
use Rattle.v_design.specs.Grades.{Samples, samples, samples_at, state_after_slots}
use Rattle.v_design.specs.Laws.{run_samples}
use Rattle.order_laws.specs.Settling.{settling}
use Rattle.kept_samples.specs.Plain.{sample_of}
use Rattle.kept_samples.specs.declared.kept.Sample.{Sample}
use Rattle.cert_laws.specs.Replays.{RunLine, SlotAt, PhaseNumber, StepsOf, UpdatesOf, Replay, with_events, stepped_on, step_on, steps_on, may_end, turned_on, phase_on, slot_on, begun, first_line}
use Rattle.cert_laws.specs.Replays.{if_allowed, next_line, run_line}
use Rattle.cert_laws.specs.Valid.{moves_of}
use Rattle.cert_runs.specs.Samples.{KeepsBefore, state_of, IsAhead, SeenSoFar, slot_time}
use Rattle.cert_runs.proofs.Keeping.{hold-append, hold-front, hold-back, hold-each, hold-both, samples-joined, samples-same}

-- Answers

pub some-is : {A : Type 0} (x y : A) → Some x ≡ Some y → x ≡ y
some-is x y e = ap (found_or x) e

both-true : (b c : Bool) → (b && c) ≡ true → (b ≡ true) × (c ≡ true)
both-true true c e = (refl, e)
both-true false c e = cc

only-some : {A : Type 0} (b : Bool) (x y : A) → only_if b x ≡ Some y → (b ≡ true) × (x ≡ y)
only-some true x y e = (refl, some-is x y e)
only-some false x y e = cc

then-some : {A B : Type 0} (found : Option A) (next : A → Option B) (b : B) → then_state found next ≡ Some b → (a : A) × (found ≡ Some a) × (next a ≡ Some b)
then-some None next b e = cc
then-some (Some a) next b e = (a, refl, e)

allowed-some : {A : Type 0} (b : Bool) (x : Option A) (y : A) → if_allowed b x ≡ Some y → (b ≡ true) × (x ≡ Some y)
allowed-some true x y e = (refl, e)
allowed-some false x y e = cc

-- Strobes that are ahead

happens-on : (machine : Machine) (strobe : ℕ) (state : State) (events : List Event) (rest : List Move) →
    state_after_slots machine strobe state (map Happens events ++ rest) ≡ state_after_slots machine strobe (happened machine state events) rest
happens-on machine strobe state [] rest = refl
happens-on machine strobe state (event ∷ events) rest = happens-on machine strobe (after machine state event) events rest

ahead-events : (machine : Machine) (strobe : ℕ) (events : List Event) (r : Replay) → IsAhead machine (Some r) strobe → IsAhead machine (Some (with_events machine events r)) strobe
ahead-events machine strobe events r ahead = λ rest.
    ap (state_after_slots machine strobe (start machine)) (append_assoc r.moves (map Happens events) rest)
    ∙ ahead (map Happens events ++ rest) ∙ happens-on machine strobe r.now events rest

-- the state after a turn and other moves, by the turn that comes and whether it stays within the strobe's time
abbrev on_turn : Machine → ℕ → State → List Move → Option TurnKind → State
on_turn machine strobe state rest found =
    elim found [ None ↦ state | Some turn ↦ elim (stays_within strobe turn) [ true ↦ state_after_slots machine strobe (turned turn state) rest | false ↦ state ] ]

abbrev if_within : Machine → ℕ → State → List Move → TurnKind → Bool → State
if_within machine strobe state rest turn within = elim within [ true ↦ state_after_slots machine strobe (turned turn state) rest | false ↦ state ]

turn-on : (machine : Machine) (strobe : ℕ) (turn : TurnKind) (r : Replay) (within : Bool) → turn_of r.now ≡ Some turn → stays_within strobe turn ≡ within → IsAhead machine (Some r) strobe →
    (rest : List Move) → state_after_slots machine strobe (start machine) ((r.moves ++ Turns ∷ []) ++ rest) ≡ if_within machine strobe r.now rest turn within
turn-on machine strobe turn r within found is ahead rest =
    ap (state_after_slots machine strobe (start machine)) (append_assoc r.moves (Turns ∷ []) rest) ∙ ahead (Turns ∷ rest)
    ∙ ap (on_turn machine strobe r.now rest) found ∙ ap (if_within machine strobe r.now rest turn) is

-- What a line does

-- the run goes on by more moves: strobes from a time on that were ahead still are, and those before it see where the run stood, whatever moves follow
pub record LeadsOn (machine : Machine) (run : Option Replay) (bound time : ℕ) (next : Replay) : Type 0 where
  pub more : List Move
  pub moves_are : next.moves ≡ moves_of run ++ more
  pub ahead : (strobe : ℕ) → time ≤ strobe → IsAhead machine run strobe → IsAhead machine (Some next) strobe
  pub passed : (strobe : ℕ) → strobe < time → IsAhead machine run strobe → (rest : List Move) → state_after_slots machine strobe (start machine) (next.moves ++ rest) ≡ state_of machine run
  pub in_time : time ≤ bound

leads-nothing : (machine : Machine) (bound : ℕ) (r : Replay) → LeadsOn machine (Some r) bound 0 r
leads-nothing machine bound r = record {
  more = [];
  moves_are = sym (append-nil r.moves);
  ahead = λ strobe low h. h;
  passed = λ strobe low h rest. absurd (omega (arith, low));
  in_time = omega arith;
}

leads-twice : (machine : Machine) (bound : ℕ) (r mid next : Replay) → LeadsOn machine (Some r) bound 0 mid → LeadsOn machine (Some mid) bound 0 next → LeadsOn machine (Some r) bound 0 next
leads-twice machine bound r mid next one other = record {
  more = one.more ++ other.more;
  moves_are = other.moves_are ∙ ap (λ ms. ms ++ other.more) one.moves_are ∙ append_assoc r.moves one.more other.more;
  ahead = λ strobe low h. other.ahead strobe low (one.ahead strobe low h);
  passed = λ strobe low h rest. absurd (omega (arith, low));
  in_time = omega arith;
}

leads-step : (machine : Machine) (bound : ℕ) (event : Event) (r next : Replay) → step_on machine event r ≡ Some next → LeadsOn machine (Some r) bound 0 next
leads-step machine bound event r next e =
    let o = only-some (possible r.now event && nat_lt r.steps most_steps) (stepped_on machine event r) next e in
    let events : List Event = event ∷ settling machine (after machine r.now event) in
    subst (LeadsOn machine (Some r) bound 0) o.1 (record {
      more = map Happens events;
      moves_are = refl;
      ahead = λ strobe low h. ahead-events machine strobe events r h;
      passed = λ strobe low h rest. absurd (omega (arith, low));
      in_time = omega arith;
    })

leads-steps : (machine : Machine) (bound count : ℕ) (event : Event) (r next : Replay) → steps_on count machine event r ≡ Some next → LeadsOn machine (Some r) bound 0 next
leads-steps machine bound zero event r next e = subst (LeadsOn machine (Some r) bound 0) (some-is r next e) (leads-nothing machine bound r)
leads-steps machine bound (suc count) event r next e =
    let t = then-some (step_on machine event r) (λ s. steps_on count machine event s) next e in
    leads-twice machine bound r t.0 next (leads-step machine bound event r t.0 t.1) (leads-steps machine bound count event t.0 next t.2)

-- a turn within the slot
leads-turn : (machine : Machine) (bound number : ℕ) (turn : TurnKind) (r next : Replay) → turn_of r.now ≡ Some turn → ((strobe : ℕ) → stays_within strobe turn ≡ true) →
    turned_on turn number r.steps r ≡ next → LeadsOn machine (Some r) bound 0 next
leads-turn machine bound number turn r next found within is = subst (LeadsOn machine (Some r) bound 0) is (record {
  more = Turns ∷ [];
  moves_are = refl;
  ahead = λ strobe low h rest. turn-on machine strobe turn r true found (within strobe) h rest;
  passed = λ strobe low h rest. absurd (omega (arith, low));
  in_time = omega arith;
})

leads-phase : (machine : Machine) (bound number : ℕ) (r next : Replay) (found : Option TurnKind) → turn_of r.now ≡ found → phase_on found number r ≡ Some next → LeadsOn machine (Some r) bound 0 next
leads-phase machine bound number r next None f e = cc
leads-phase machine bound number r next (Some PostponedTurn) f e =
    leads-turn machine bound number PostponedTurn r next f (λ strobe. refl) (only-some (nat_eq number (r.number + 1)) (turned_on PostponedTurn number r.steps r) next e).1
leads-phase machine bound number r next (Some UpdatesTurn) f e =
    leads-turn machine bound number UpdatesTurn r next f (λ strobe. refl) (only-some (nat_eq number (r.number + 1)) (turned_on UpdatesTurn number r.steps r) next e).1
leads-phase machine bound number r next (Some (TimeTurn later)) f e = cc

-- a turn to the slot of a time
leads-slot : (machine : Machine) (bound time : ℕ) (r next : Replay) (found : Option TurnKind) → turn_of r.now ≡ found → slot_on bound found time r ≡ Some next → LeadsOn machine (Some r) bound time next
leads-slot machine bound time r next None f e = cc
leads-slot machine bound time r next (Some PostponedTurn) f e = cc
leads-slot machine bound time r next (Some UpdatesTurn) f e = cc
leads-slot machine bound time r next (Some (TimeTurn later)) f e =
    let o = only-some (nat_eq later time && nat_le later bound) (turned_on (TimeTurn later) 1 0 r) next e in
    let p = both-true (nat_eq later time) (nat_le later bound) o.0 in
    let same : later ≡ time = eqb-true later time p.0 in
    let within : later ≤ bound = leb-true later bound p.1 in
    subst (LeadsOn machine (Some r) bound time) o.1 (record {
      more = Turns ∷ [];
      moves_are = refl;
      ahead = λ strobe low h rest. turn-on machine strobe (TimeTurn later) r true f (le-leb later strobe (omega (arith, same, low))) h rest;
      passed = λ strobe low h rest. turn-on machine strobe (TimeTurn later) r false f (lt-leb later strobe (omega (arith, same, low))) h rest;
      in_time = omega (arith, same, within);
    })

leads-next : (race : Bool) (machine : Machine) (bound : ℕ) (line : RunLine) (r next : Replay) → next_line race machine bound line r ≡ Some next → LeadsOn machine (Some r) bound (slot_time line) next
leads-next race machine bound (SlotAt time) r next e =
    leads-slot machine bound time r next (turn_of r.now) refl (allowed-some (may_end race machine r) (slot_on bound (turn_of r.now) time r) next e).1
leads-next race machine bound (PhaseNumber number) r next e =
    leads-phase machine bound number r next (turn_of r.now) refl (allowed-some (may_end race machine r) (phase_on (turn_of r.now) number r) next e).1
leads-next race machine bound (StepsOf process count) r next e =
    leads-steps machine bound count (Step process) r next (allowed-some (nat_lt 0 count) (steps_on count machine (Step process) r) next e).1
leads-next race machine bound (UpdatesOf process count) r next e =
    leads-steps machine bound count (LaneStep process) r next (allowed-some (nat_lt 0 count) (steps_on count machine (LaneStep process) r) next e).1

-- the first line begins the run, at time 0
leads-first : (machine : Machine) (bound : ℕ) (line : RunLine) (next : Replay) → first_line machine line ≡ Some next → LeadsOn machine None bound 0 next × (slot_time line ≡ 0)
leads-first machine bound (SlotAt time) next e =
    let o = only-some (nat_eq time 0) (begun machine) next e in
    let r : Replay = record { begins = start machine; events = []; now = start machine; number = 1; steps = 0; moves = [] } in (
      subst (LeadsOn machine None bound 0) o.1 (record {
        more = map Happens (settling machine (start machine));
        moves_are = refl;
        ahead = λ strobe low h. ahead-events machine strobe (settling machine (start machine)) r (λ rest. refl);
        passed = λ strobe low h rest. absurd (omega (arith, low));
        in_time = omega arith;
      }),
      eqb-true time 0 o.0,
    )
leads-first machine bound (PhaseNumber number) next e = cc
leads-first machine bound (StepsOf process count) next e = cc
leads-first machine bound (UpdatesOf process count) next e = cc

pub line-leads : (race : Bool) (machine : Machine) (bound : ℕ) (line : RunLine) (run : Option Replay) (next : Replay) → run_line race machine bound line run ≡ Some next →
    LeadsOn machine run bound (slot_time line) next
line-leads race machine bound line None next e = let f = leads-first machine bound line next e in subst (λ t. LeadsOn machine None bound t next) (sym f.1) f.0
line-leads race machine bound line (Some r) next e = leads-next race machine bound line r next e

-- the line of a run that hasn't begun passes no strobe
pub line-first : (race : Bool) (machine : Machine) (bound : ℕ) (line : RunLine) (next : Replay) → run_line race machine bound line None ≡ Some next → slot_time line ≡ 0
line-first race machine bound line next e = (leads-first machine bound line next e).1

-- Samples

module _ (machine : Machine) (watched : List WatchedBit) (strobes : List ℕ) (bound : ℕ) where
  -- a run that hasn't begun
  pub seen-none : (kept : List Sample) → kept ≡ [] → SeenSoFar machine watched strobes bound None kept
  seen-none kept none = subst (SeenSoFar machine watched strobes bound None) (sym none) (record {
    passed = [];
    strobes_are = refl;
    samples_are = λ rest. refl;
    in_time = tt;
    ahead = all-ahead strobes;
  })
    where
      all-ahead : (xs : List ℕ) → AllHold (IsAhead machine None) xs
      all-ahead [] = tt
      all-ahead (x ∷ xs) = ((λ rest. refl), all-ahead xs)

  module _ (time : ℕ) (run : Option Replay) (bits : List Bit) (old new : List Sample) (rise : IsAscending strobes) (k : KeepsBefore time bits strobes old new)
      (s : SeenSoFar machine watched strobes bound run old) where
    -- the strobes that are passed now were ahead, and so are those that are left
    both-ahead : AllHold (IsAhead machine run) (k.now ++ drop (length new) strobes)
    both-ahead = subst (AllHold (IsAhead machine run)) k.left_is s.ahead

    strobes-are : strobes ≡ (s.passed ++ k.now) ++ drop (length new) strobes
    strobes-are = s.strobes_are ∙ ap (λ xs. s.passed ++ xs) k.left_is ∙ sym (append_assoc s.passed k.now (drop (length new) strobes))

    -- where the strobes that are passed now see the bits in some moves that go on from the run, the samples are those of these moves
    samples-on : (more moves : List Move) → moves ≡ moves_of run ++ more →
        ((strobe : ℕ) → strobe < time → IsAhead machine run strobe → bits ≡ run_samples machine watched moves strobe) →
        map sample_of new ≡ samples_at (run_samples machine watched moves) (s.passed ++ k.now)
    samples-on more moves is sees =
        let seen : Samples = run_samples machine watched moves in
        k.samples_are
        ∙ (λ i. (s.samples_are more ∙ ap (λ ms. samples_at (run_samples machine watched ms) s.passed) (sym is)) i
        ++ samples-same (λ strobe. bits) seen k.now
        (hold-both (λ strobe. strobe < time) (IsAhead machine run) (λ strobe. bits ≡ seen strobe) k.now (λ strobe low h. sees strobe low h) k.before
        (hold-front (IsAhead machine run) k.now (drop (length new) strobes) both-ahead)) i)
        ∙ sym (samples-joined seen s.passed k.now)

    -- a line is followed
    pub seen-on : (next : Replay) → (time ≡ 0) ⊎ (bits ≡ samples watched (state_of machine run).values) → LeadsOn machine run bound time next →
        SeenSoFar machine watched strobes bound (Some next) new
    seen-on next sees l = record {
      passed = s.passed ++ k.now;
      strobes_are = strobes-are;
      samples_are = λ rest.
          samples-on (l.more ++ rest) (next.moves ++ rest) (ap (λ ms. ms ++ rest) l.moves_are ∙ append_assoc (moves_of run) l.more rest)
          (λ strobe low h. elim sees [
            | inl none ↦ absurd (omega (arith, low, none))
            | inr is ↦ is ∙ ap (λ (state : State). samples watched state.values) (sym (l.passed strobe low h rest))
          ]);
      in_time = hold-append (λ strobe. strobe ≤ bound) s.passed k.now s.in_time
          (hold-each (λ strobe. strobe < time) (λ strobe. strobe ≤ bound) k.now (λ strobe low. omega (arith, low, l.in_time)) k.before);
      ahead = hold-both (λ strobe. time ≤ strobe) (IsAhead machine run) (IsAhead machine (Some next)) (drop (length new) strobes) (λ strobe low h. l.ahead strobe low h) (k.later rise)
          (hold-back (IsAhead machine run) k.now (drop (length new) strobes) both-ahead);
    }

-- Where a run is left

-- a strobe that is ahead sees where the run stands
ahead-sees : (machine : Machine) (watched : List WatchedBit) (r : Replay) (strobe : ℕ) → IsAhead machine (Some r) strobe → samples watched r.now.values ≡ run_samples machine watched r.moves strobe
ahead-sees machine watched r strobe ahead =
    ap (λ (state : State). samples watched state.values) (sym (ap (state_after_slots machine strobe (start machine)) (sym (append-nil r.moves)) ∙ ahead []))

filter-all : (bound : ℕ) (xs ys : List ℕ) → AllHold (λ x. x ≤ bound) xs → filter (λ x. nat_le x bound) (xs ++ ys) ≡ xs ++ filter (λ x. nat_le x bound) ys
filter-all bound [] ys h = refl
filter-all bound (x ∷ xs) ys h = λ i. cond (le-leb x bound h.0 i) (x ∷ filter-all bound xs ys h.1 i) (filter-all bound xs ys h.1 i)

filter-none : (bound : ℕ) (xs : List ℕ) → AllHold (λ x. bound + 1 ≤ x) xs → filter (λ x. nat_le x bound) xs ≡ []
filter-none bound [] h = refl
filter-none bound (x ∷ xs) h = λ i. cond (lt-leb x bound (let low : bound + 1 ≤ x = h.0 in omega (arith, low)) i) (x ∷ filter-none bound xs h.1 i) (filter-none bound xs h.1 i)

-- the samples up to the bound, where the strobes up to it have seen where the run stands
pub seen-all : (machine : Machine) (watched : List WatchedBit) (strobes : List ℕ) (bound : ℕ) (r : Replay) (bits : List Bit) (old new : List Sample) → IsAscending strobes →
    bits ≡ samples watched r.now.values → KeepsBefore (bound + 1) bits strobes old new → SeenSoFar machine watched strobes bound (Some r) old →
    map sample_of new ≡ samples_at (run_samples machine watched r.moves) (filter (λ strobe. nat_le strobe bound) strobes)
seen-all machine watched strobes bound r bits old new rise is k s =
    samples-on machine watched strobes bound (bound + 1) (Some r) bits old new rise k s [] r.moves (sym (append-nil r.moves)) (λ strobe low h. is ∙ ahead-sees machine watched r strobe h)
    ∙ ap (samples_at (run_samples machine watched r.moves)) (sym (ap (filter (λ strobe. nat_le strobe bound)) (strobes-are machine watched strobes bound (bound + 1) (Some r) bits old new rise k s)
    ∙ filter-all bound (s.passed ++ k.now) (drop (length new) strobes) passed
    ∙ ap (λ xs. (s.passed ++ k.now) ++ xs) (filter-none bound (drop (length new) strobes) (k.later rise))
    ∙ append-nil (s.passed ++ k.now)))
  where
    passed : AllHold (λ x. x ≤ bound) (s.passed ++ k.now)
    passed = hold-append (λ x. x ≤ bound) s.passed k.now s.in_time (hold-each (λ x. x < bound + 1) (λ x. x ≤ bound) k.now (λ x low. omega (arith, low)) k.before)
