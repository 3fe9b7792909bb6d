-- A counter of own steps within a phase (steps by IEEE 1364-2001, clause 9; phases by clause 5).
use Rattle.std.specs.Prelude.{◌≡◌, ◌⊎◌, ℕ, ◌+◌, ◌<◌, ◌≤◌, Bool, true, false, List, [], ◌∷◌, ◌++◌, map, length, sum, Option, Some, None, nat_eq, if◌then◌else◌, slice_get}
use Rattle.std.specs.List.{AllZip}
use Rattle.v_design.specs.Designs.{Machine}
use Rattle.v_design.specs.Expressions.{up_from}
use Rattle.v_design.specs.Grades.{Phase}
use Rattle.v_design.specs.OwnSteps.{CountsOwn, ProcessRun, good_runs, phase_beside, process_runs}
use Rattle.v_design.specs.PhaseLogs.{is_step_of}
use Rattle.v_design.specs.States.{State, TurnKind, Event, Step}
use Rattle.copy_laws.specs.OwnRuns.{last_goes_on}
use Rattle.copy_overlay.specs.Statuses.{AllCount}

-- Runs of a process

-- a run ticked nothing, or all its steps count as own, however it goes on, and it ticked no more
abbrev pub TicksOwn : Option ProcessRun → ProcessRun → ℕ → Type 0
TicksOwn good run ticked = (ticked ≡ 0) ⊎ (AllCount good run × (ticked ≤ length run.steps))

-- the first of some runs, and those behind it
abbrev pub first_of : List ProcessRun → Option ProcessRun
first_of [] = None
first_of (run ∷ runs) = Some run

abbrev pub behind_first : List ProcessRun → List ProcessRun
behind_first [] = []
behind_first (run ∷ runs) = runs

-- each run beside the good machine's of its number ticked so
abbrev pub EachTicks : List ProcessRun → List ProcessRun → List ℕ → Type 0
EachTicks good [] [] = Unit {0}
EachTicks good [] (tick ∷ ticks) = ⊥
EachTicks good (run ∷ runs) [] = ⊥
EachTicks good (run ∷ runs) (tick ∷ ticks) = TicksOwn (first_of good) run tick × EachTicks (behind_first good) runs ticks

-- what the last one ticked
abbrev pub last_tick : List ℕ → ℕ
last_tick [] = 0
last_tick (tick ∷ []) = tick
last_tick (tick ∷ next ∷ ticks) = last_tick (next ∷ ticks)

-- the runs of a process ticked no more than that; where the last one is followed it ticked nothing
pub record ProcessTicks (good runs : List ProcessRun) (follows : Bool) (ticked : ℕ) : Type 0 where
  pub ticks : List ℕ
  pub each : EachTicks good runs ticks
  pub last : follows ≡ true → last_tick ticks ≡ 0
  pub total : ticked ≤ sum ticks

-- all steps of the last run count as own, however it goes on
abbrev pub OwnLast : List ProcessRun → List ProcessRun → Type 0
OwnLast good [] = ⊥
OwnLast good (run ∷ []) = AllCount (first_of good) run
OwnLast good (run ∷ next ∷ runs) = OwnLast (behind_first good) (next ∷ runs)

-- how many steps it has
abbrev pub last_steps : List ProcessRun → ℕ
last_steps [] = 0
last_steps (run ∷ []) = length run.steps
last_steps (run ∷ next ∷ runs) = last_steps (next ∷ runs)

-- A phase

-- a phase with one event more
abbrev pub behind_event : Phase → Event → Phase
behind_event phase event = record phase { events = phase.events ++ event ∷ [] }

-- so the runs of all processes ticked, beside those of the good machine's phase; of some the last one is followed
pub record PhaseTicks (good faulty : Machine) (other : Option Phase) (phase : Phase) (follows : ℕ → Bool) (ticked : ℕ) : Type 0 where
  pub parts : ℕ → ℕ
  pub each : (process : ℕ) → process < length faulty.design.processes →
      ProcessTicks (good_runs good process phase.turn other) (process_runs faulty process phase) (follows process) (parts process)
  pub total : ticked ≤ sum (map parts (up_from 0 (length faulty.design.processes)))

-- with another answer for one process
abbrev pub with_answer : ℕ → Bool → (ℕ → Bool) → ℕ → Bool
with_answer process answer follows other = if nat_eq other process then answer else follows other

-- Bounds

-- a counter is at most what some runs count as own
abbrev pub AtMostOwn : List (Option ProcessRun × ProcessRun) → ℕ → Type 0
AtMostOwn pairs ticked = (counts : List ℕ) → AllZip CountsOwn pairs counts → ticked ≤ sum counts

-- The laws
pub record OwnStepsCount : Type 0 where
  -- a phase begins: nothing ticked, whatever is followed
  pub begins : (good faulty : Machine) (other : Option Phase) (turn : Option TurnKind) (begins : State) (follows : ℕ → Bool) →
      PhaseTicks good faulty other (record { turn = turn; begins = begins; events = [] }) follows 0
  -- an event that is no step of a process
  pub passes : (good faulty : Machine) (other : Option Phase) (phase : Phase) (event : Event) (follows : ℕ → Bool) (ticked : ℕ) → ((process : ℕ) → is_step_of process event ≡ false) →
      PhaseTicks good faulty other phase follows ticked → PhaseTicks good faulty other (behind_event phase event) follows ticked
  -- a step that doesn't tick, of a run that goes on
  pub goes_on : (good faulty : Machine) (other : Option Phase) (phase : Phase) (process : ℕ) (follows : ℕ → Bool) (ticked : ℕ) → last_goes_on (process_runs faulty process phase) ≡ true →
      PhaseTicks good faulty other phase follows ticked → PhaseTicks good faulty other (behind_event phase (Step process)) follows ticked
  -- or of a new one, which may be followed
  pub new : (good faulty : Machine) (other : Option Phase) (phase : Phase) (process : ℕ) (answer : Bool) (follows : ℕ → Bool) (ticked : ℕ) →
      last_goes_on (process_runs faulty process phase) ≡ false → PhaseTicks good faulty other phase follows ticked →
      PhaseTicks good faulty other (behind_event phase (Step process)) (with_answer process answer follows) ticked
  -- a step that ticks, of a run that counts as own
  pub own : (good faulty : Machine) (other : Option Phase) (phase : Phase) (process : ℕ) (follows : ℕ → Bool) (ticked : ℕ) → process < length faulty.design.processes →
      OwnLast (good_runs good process phase.turn other) (process_runs faulty process (behind_event phase (Step process))) → PhaseTicks good faulty other phase follows ticked →
      PhaseTicks good faulty other (behind_event phase (Step process)) (with_answer process false follows) (ticked + 1)
  -- a step with which a run that was followed is own: all its steps tick
  pub turns_own : (good faulty : Machine) (other : Option Phase) (phase : Phase) (process : ℕ) (follows : ℕ → Bool) (ticked : ℕ) → process < length faulty.design.processes →
      follows process ≡ true → last_goes_on (process_runs faulty process phase) ≡ true →
      OwnLast (good_runs good process phase.turn other) (process_runs faulty process (behind_event phase (Step process))) → PhaseTicks good faulty other phase follows ticked →
      PhaseTicks good faulty other (behind_event phase (Step process)) (with_answer process false follows) (ticked + last_steps (process_runs faulty process (behind_event phase (Step process))))
  -- behind the phase the counter is at most the own steps of its runs
  pub ends : (good faulty : Machine) (other : Option Phase) (phase : Phase) (follows : ℕ → Bool) (ticked : ℕ) → PhaseTicks good faulty other phase follows ticked →
      AtMostOwn (phase_beside good faulty other phase) ticked
  -- the last run counts as own where it is known of its number
  pub last : (good before : List ProcessRun) (run : ProcessRun) → AllCount (slice_get good (length before)) run → OwnLast good (before ++ run ∷ [])
  -- bounds of runs one behind the other
  pub none : AtMostOwn [] 0
  pub less : (pairs : List (Option ProcessRun × ProcessRun)) (ticked fewer : ℕ) → fewer ≤ ticked → AtMostOwn pairs ticked → AtMostOwn pairs fewer
  pub joins : (one other : List (Option ProcessRun × ProcessRun)) (ticked more : ℕ) → AtMostOwn one ticked → AtMostOwn other more → AtMostOwn (one ++ other) (ticked + more)
