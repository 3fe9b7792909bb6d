-- Where runs of a phase leave the processes as they are taken one after another (processes by IEEE 1364-2001, clause 9; nonblocking updates by clause 9.2.2).
use Rattle.std.specs.Prelude.{◌≡◌, ℕ, ◌+◌, ◌-◌, ◌<◌, ◌≤◌, true, false, List, [], ◌++◌, map, length, take, drop, get_or, count_by, nat_eq, Some, slice_get}
use Rattle.vf_base.specs.Lists.{has, joined}
use Rattle.v_design.specs.Designs.{FlatDesign, good_machine}
use Rattle.v_design.specs.States.{LaterUpdate}
use Rattle.v_design.specs.OwnSteps.{ProcessRun, process_runs}
use Rattle.v_design.specs.Grades.{Phase}
use Rattle.copy_laws.specs.SharedRuns.{activity_at_end, appended_by}
use Rattle.process_code.specs.declared.state.ProcState.{ProcState}
use Rattle.good_trace.specs.RunsKept.{Stands}
use Rattle.moment_parts.specs.Lanes.{later_lists}
use Rattle.moment_parts.specs.StatesKept.{AreStatesOf}
use Rattle.moment_parts.specs.declared.kept.Standing.{Standing}

-- where processes stand, by their numbers, with what they have pending and how many of their runs have ended in the phase
pub record ProcessesKept : Type 0 where
  pub states : List ProcState
  pub later : List (List LaterUpdate)
  pub ran : List ℕ

-- as it is kept
abbrev pub processes_of : Standing → ProcessesKept
processes_of standing = record { states = standing.states.items; later = later_lists standing.later.items; ran = standing.ran.items }

-- of each process of a design something is kept
pub record StandEach (design : FlatDesign) (kept : ProcessesKept) : Type 0 where
  pub states : length kept.states ≡ length design.processes
  pub later : length kept.later ≡ length design.processes
  pub ran : length kept.ran ≡ length design.processes

-- what so many runs of a process in a phase append, behind so many earlier ones
abbrev pub appended_behind : FlatDesign → Phase → ℕ → ℕ → ℕ → List LaterUpdate
appended_behind design phase process earlier count =
    joined (map (λ (run : ProcessRun). appended_by phase.begins.time run.steps) (take count (drop earlier (process_runs (good_machine design) process phase))))

-- how many of some runs are of a process
abbrev pub count_of : ℕ → List ℕ → ℕ
count_of process processes = count_by (λ own. nat_eq own process) processes

-- a process stands where the run of a number of a phase left it
pub record StandsBehind (design : FlatDesign) (phase : Phase) (process number : ℕ) (own : ProcState) : Type 0 where
  pub run : ProcessRun
  pub is : slice_get (process_runs (good_machine design) process phase) number ≡ Some run
  pub stands : Stands design process (activity_at_end run.begins run.steps) own

-- the next runs of some processes in a phase were taken, in order: each stands where its last one left it, and has pending what they appended; the others stand as they stood
pub record AreRunsTaken (design : FlatDesign) (phase : Phase) (processes : List ℕ) (old new : ProcessesKept) : Type 0 where
  pub each : StandEach design new
  pub ran : (process : ℕ) → process < length design.processes → get_or new.ran process 0 ≡ get_or old.ran process 0 + count_of process processes
  pub later : (process : ℕ) → process < length design.processes →
      get_or new.later process [] ≡ get_or old.later process [] ++ appended_behind design phase process (get_or old.ran process 0) (count_of process processes)
  pub still : (process : ℕ) (own : ProcState) → has processes process ≡ false → slice_get new.states process ≡ Some own → slice_get old.states process ≡ Some own
  pub stands : (process : ℕ) (own : ProcState) → has processes process ≡ true → slice_get new.states process ≡ Some own →
      StandsBehind design phase process (get_or new.ran process 0 - 1) own
  pub states_of : AreStatesOf design new.states

-- so many runs of each process come in a phase
abbrev pub HaveRuns : FlatDesign → Phase → List ℕ → ProcessesKept → Type 0
HaveRuns design phase processes kept =
    (process : ℕ) → process < length design.processes →
    get_or kept.ran process 0 + count_of process processes ≤ length (process_runs (good_machine design) process phase)

-- no process has more runs in a phase than there are numbers for them
abbrev pub HaveFewRuns : FlatDesign → Phase → Type 0
HaveFewRuns design phase = (process : ℕ) → length (process_runs (good_machine design) process phase) ≤ 300000
