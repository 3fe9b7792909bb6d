-- A claimed race is looked for while a run is replayed, in the phase of its time and number when that phase ends (phases by IEEE 1364-2001, clause 5).
use Rattle.std.specs.Prelude.{◌≡◌, ℕ, ◌+◌, ◌<◌, Bool, true, false, ◌&&◌, List, [], ◌++◌, length, Option, Some, None, is_some, nat_eq}
use Rattle.vf_base.specs.Base.{ReportedPair}
use Rattle.v_design.specs.Designs.{Machine}
use Rattle.v_design.specs.States.{Event, TurnKind, start, is_quiescent, turn_of}
use Rattle.v_design.specs.Runs.{Move, replayed}
use Rattle.v_design.specs.Grades.{Phase, cut}
use Rattle.v_design.specs.WellFormed.{KeepsRules}
use Rattle.cert_laws.specs.Replays.{RunLine, SlotAt, PhaseNumber, StepsOf, UpdatesOf, Replay, step_on, phase_on, slot_on, begun, next_line, is_through}
use Rattle.v_design.specs.Laws.{NamesConflict}
use Rattle.cert_laws.specs.Valid.{shows}
use Rattle.cert_laws.specs.Meaning.{IsPrinted}
use Rattle.replay_laws.specs.Times.{TimesWithin}
use Rattle.replay_laws.specs.Claimed.{at_time, pair_of_phase, pair_among, pair_of_run}

-- where a replay stands in a run up to a bound: some phases have ended, and the one that goes on began with a turn
pub record StandsAt (machine : Machine) (bound : ℕ) (ended : List Phase) (turn : Option TurnKind) (replay : Replay) : Type 0 where
  pub leads : (rest : List Move) → replayed machine bound (start machine) (replay.moves ++ rest) ≡ replayed machine bound replay.now rest
  pub cuts : (rest : List Move) →
      cut machine None (start machine) [] (start machine) (replay.moves ++ rest) ≡ ended ++ cut machine turn replay.begins replay.events replay.now rest
  -- its number is the next one among the phases of its time, and no phase is later
  pub number_is : replay.number ≡ length (at_time replay.begins.time ended) + 1
  pub none_later : (time : ℕ) → replay.begins.time < time → at_time time ended ≡ []
  pub same_time : replay.now.time ≡ replay.begins.time
  pub turns : ℕ
  pub times : TimesWithin turns replay.now

-- what has been found of a claimed race in the phases that have ended of a run up to its time
pub record HasLooked (machine : Machine) (time number : ℕ) (first second : List ℕ) (replay : Replay) (found : Option ReportedPair) : Type 0 where
  pub ended : List Phase
  pub turn : Option TurnKind
  pub stands : StandsAt machine time ended turn replay
  pub found_is : found ≡ pair_among machine time number first second ended

-- whether a replay is in the phase of a time and of a number
abbrev pub is_there : ℕ → ℕ → Replay → Bool
is_there time number replay = nat_eq replay.now.time time && nat_eq replay.number number

-- what is found now, where a test holds, else what was found before
abbrev pub found_if : Bool → Option ReportedPair → Option ReportedPair → Option ReportedPair
found_if true now before = now
found_if false now before = before

-- what has been found once the phase of a replay ends
abbrev pub found_then : Machine → ℕ → ℕ → List ℕ → List ℕ → Replay → Option ReportedPair → Option ReportedPair
found_then machine time number first second replay before =
    found_if (is_there time number replay) (pair_of_phase machine time number first second replay.begins replay.events) before

-- what has been found after a line: the line of a phase or a slot ends the phase before it
abbrev pub found_after : Machine → ℕ → ℕ → List ℕ → List ℕ → RunLine → Replay → Option ReportedPair → Option ReportedPair
found_after machine time number first second (SlotAt at) replay before = found_then machine time number first second replay before
found_after machine time number first second (PhaseNumber next) replay before = found_then machine time number first second replay before
found_after machine time number first second (StepsOf process count) replay before = before
found_after machine time number first second (UpdatesOf process count) replay before = before

pub record RacesAreLookedFor : Type 0 where
  -- from the beginning of a replay on
  pub begins : (machine : Machine) (time number : ℕ) (first second : List ℕ) → KeepsRules machine.design → HasLooked machine time number first second (begun machine) None
  -- through each step, and through the end of each phase
  pub step : (machine : Machine) (time number : ℕ) (first second : List ℕ) (event : Event) (replay next : Replay) (found : Option ReportedPair) → KeepsRules machine.design →
      step_on machine event replay ≡ Some next → HasLooked machine time number first second replay found → HasLooked machine time number first second next found
  pub phase : (machine : Machine) (time number : ℕ) (first second : List ℕ) (following : ℕ) (replay next : Replay) (found : Option ReportedPair) → is_quiescent replay.now ≡ true →
      phase_on (turn_of replay.now) following replay ≡ Some next → HasLooked machine time number first second replay found →
      HasLooked machine time number first second next (found_then machine time number first second replay found)
  pub slot : (machine : Machine) (time number : ℕ) (first second : List ℕ) (later : ℕ) (replay next : Replay) (found : Option ReportedPair) → is_quiescent replay.now ≡ true →
      slot_on time (turn_of replay.now) later replay ≡ Some next → HasLooked machine time number first second replay found →
      HasLooked machine time number first second next (found_then machine time number first second replay found)
  -- and so through each line
  pub line : (race : Bool) (machine : Machine) (time number : ℕ) (first second : List ℕ) (line : RunLine) (replay next : Replay) (found : Option ReportedPair) →
      KeepsRules machine.design → next_line race machine time line replay ≡ Some next → HasLooked machine time number first second replay found →
      HasLooked machine time number first second next (found_after machine time number first second line replay found)
  -- where the replay is left, its run shows what has been found once its phase ends
  pub ends : (machine : Machine) (time number : ℕ) (first second : List ℕ) (replay : Replay) (found : Option ReportedPair) → HasLooked machine time number first second replay found →
      pair_of_run machine time number first second replay.moves ≡ found_then machine time number first second replay found
  pub shows_it : (machine : Machine) (time number : ℕ) (first second : List ℕ) (replay : Replay) (found : Option ReportedPair) → HasLooked machine time number first second replay found →
      shows machine time number first second replay.moves ≡ is_some (found_then machine time number first second replay found)
  -- and where it is through to the time, the very pair that has been found is printed as claimed and names two conflicting accesses of a legal order
  pub holds : (race : Bool) (machine : Machine) (time number : ℕ) (first second : List ℕ) (replay : Replay) (found : Option ReportedPair) (pair : ReportedPair) →
      is_through race machine time (Some replay) ≡ true → HasLooked machine time number first second replay found →
      found_then machine time number first second replay found ≡ Some pair → IsPrinted machine.design time number first second pair × NamesConflict machine pair
