-- A race that is claimed of a run, by the time and the number of a phase and two texts: the first pair of accesses of that phase that it may mean (phases by
-- IEEE 1364-2001, clause 5; the texts' format is this program's own).
use Rattle.std.specs.Prelude.{◌≡◌, ℕ, ◌-◌, Bool, true, false, ◌&&◌, List, [], ◌∷◌, filter, Option, Some, None, is_some, option_map, find, slice_get, nat_eq, nat_lt}
use Rattle.vf_base.specs.Base.{ReportedPair}
use Rattle.v_design.specs.Designs.{FlatDesign, Machine}
use Rattle.v_design.specs.States.{State, Event, start}
use Rattle.v_design.specs.Runs.{Move, IsLegal}
use Rattle.v_design.specs.Grades.{Phase, cut, race_of}
use Rattle.v_design.specs.Logs.{LoggedPhase, PhaseAccess, log_accesses, conflict}
use Rattle.v_design.specs.PhaseLogs.{log_of}
use Rattle.v_design.specs.Laws.{NamesConflict}
use Rattle.cert_laws.specs.Valid.{prints, some_conflict, shows}
use Rattle.cert_laws.specs.Meaning.{IsPrinted}

-- In a log

-- an access with the first later one that has a text and conflicts with it
abbrev pub pair_with : FlatDesign → LoggedPhase → List ℕ → PhaseAccess → List PhaseAccess → Option (PhaseAccess × PhaseAccess)
pair_with design log second access later = option_map (λ other. (access, other)) (find (λ other. prints design second other && conflict log access other) later)

-- a pair, where a test holds
abbrev pub pair_if : {A : Type 0} → Bool → Option A → Option A
pair_if true pair = pair
pair_if false pair = None

-- a pair, else another
abbrev pub pair_or : {A : Type 0} → Option A → Option A → Option A
pair_or None other = other
pair_or (Some pair) other = Some pair

-- the first access with the first text, and the first later one with the second, that conflict
abbrev pub first_pair : FlatDesign → LoggedPhase → List ℕ → List ℕ → List PhaseAccess → Option (PhaseAccess × PhaseAccess)
first_pair design log first second [] = None
first_pair design log first second (access ∷ later) =
    pair_or (pair_if (prints design first access) (pair_with design log second access later)) (first_pair design log first second later)

-- In a run

-- the first pair of a phase, as a report names it
abbrev pub pair_of_phase : Machine → ℕ → ℕ → List ℕ → List ℕ → State → List Event → Option ReportedPair
pair_of_phase machine time number first second begins events =
    let log = log_of machine begins events in option_map (race_of time number) (first_pair machine.design log first second (log_accesses machine.design log))

-- the same of a phase that may be there
abbrev pub pair_in : Machine → ℕ → ℕ → List ℕ → List ℕ → Option Phase → Option ReportedPair
pair_in machine time number first second None = None
pair_in machine time number first second (Some phase) = pair_of_phase machine time number first second phase.begins phase.events

-- the phases of a time
abbrev pub at_time : ℕ → List Phase → List Phase
at_time time phases = filter (λ (phase : Phase). nat_eq phase.begins.time time) phases

-- the pair of the phase of a time and of a number, from 1
abbrev pub pair_among : Machine → ℕ → ℕ → List ℕ → List ℕ → List Phase → Option ReportedPair
pair_among machine time number first second phases = pair_if (nat_lt 0 number) (pair_in machine time number first second (slice_get (at_time time phases) (number - 1)))

-- the same of a run
abbrev pub pair_of_run : Machine → ℕ → ℕ → List ℕ → List ℕ → List Move → Option ReportedPair
pair_of_run machine time number first second moves = pair_among machine time number first second (cut machine None (start machine) [] (start machine) moves)

pub record ClaimsAreShown : Type 0 where
  -- there is a pair just where there is a conflict
  pub in_log : (design : FlatDesign) (log : LoggedPhase) (first second : List ℕ) (accesses : List PhaseAccess) →
      is_some (first_pair design log first second accesses) ≡ some_conflict design log first second accesses
  pub in_run : (machine : Machine) (time number : ℕ) (first second : List ℕ) (moves : List Move) →
      is_some (pair_of_run machine time number first second moves) ≡ shows machine time number first second moves
  -- the pair is printed as claimed, and names two conflicting accesses of a legal order
  pub holds : (machine : Machine) (time number : ℕ) (first second : List ℕ) (moves : List Move) (final : State) (pair : ReportedPair) → IsLegal machine time moves final →
      pair_of_run machine time number first second moves ≡ Some pair → IsPrinted machine.design time number first second pair × NamesConflict machine pair
