-- The ends of the process runs of some phases (phases by IEEE 1364-2001, clause 5; processes by clause 9).
use Rattle.std.specs.Prelude.{◌≡◌, ℕ, ◌+◌, ◌<◌, ◌≤◌, Bool, true, false, ◌&&◌, List, [], ◌∷◌, ◌++◌, map, filter, length, Option, Some, nat_eq, slice_get}
use Rattle.std.specs.List.{All}
use Rattle.std.specs.Option.{option_map}
use Rattle.vf_base.specs.Base.{process_number}
use Rattle.vf_base.specs.Lists.{joined, map_numbered}
use Rattle.v_design.specs.Designs.{FlatDesign, Machine}
use Rattle.v_design.specs.Plain.{process_of}
use Rattle.v_design.specs.States.{State, Event, Step, LaneStep, Evaluation, NetUpdate, after, step_of, is_ready}
use Rattle.v_design.specs.Grades.{Phase}
use Rattle.v_design.specs.OwnSteps.{StepSeen, ProcessRun, process_runs}
use Rattle.v_design.specs.Processes.{Activity}
use Rattle.process_code.specs.Codes.{IsCodeOf}
use Rattle.process_code.specs.StatesOf.{IsStateOf}
use Rattle.process_code.specs.RunEnds.{RunTold, StepTold, StepsStandIn, act_of, told_by}
use Rattle.process_code.specs.declared.code.Code.{Code}
use Rattle.process_code.specs.declared.state.RunEnd.{RunEnd}
use Rattle.copy_laws.specs.SharedRuns.{activity_after, activity_at_end, appended_by, written_by}

-- The codes of a design's processes

-- a code of the process with a number
pub record IsCodeAt (design : FlatDesign) (number : ℕ) (code : Code) : Type 0 where
  pub process_is : slice_get design.processes number ≡ Some (process_of code.process.now)
  pub code_of : IsCodeOf code.process.now code

-- a code of each process, by the processes' numbers
pub record AreCodesOf (design : FlatDesign) (codes : List Code) : Type 0 where
  pub count : length codes ≡ length design.processes
  pub each : (number : ℕ) (code : Code) → slice_get codes number ≡ Some code → IsCodeAt design number code

-- What is told

-- what a step tells that a process takes at a time, by what it does before it
abbrev pub step_told : ℕ → Activity → StepSeen → StepTold
step_told time activity seen = record { stands = activity; line = seen.step.line; act = act_of time seen.step.action; read = seen.read }

-- what some steps tell: each goes on from what the one before left the process doing
abbrev pub steps_told : ℕ → Activity → List StepSeen → List StepTold
steps_told time activity [] = []
steps_told time activity (seen ∷ rest) = step_told time activity seen ∷ steps_told time (activity_after seen) rest

-- what the end of a run of the definition tells
abbrev pub told_of : ℕ → ProcessRun → RunTold
told_of time run =
    record { activity = activity_at_end run.begins run.steps; later = appended_by time run.steps; writes = written_by run.steps; steps = steps_told time run.begins run.steps }

-- the ends of the runs of a process in the phase of a number
abbrev pub is_end_of : ℕ → ℕ → RunEnd → Bool
is_end_of number process run = nat_eq run.phase number && nat_eq (process_number run.process) process

abbrev pub ends_of : ℕ → ℕ → List RunEnd → List RunEnd
ends_of number process runs = filter (is_end_of number process) runs

-- The order

-- the process whose run an event ends: the one that takes a step after which it isn't ready
abbrev pub ender_if : Bool → ℕ → List ℕ
ender_if true process = []
ender_if false process = process ∷ []

abbrev pub ender_of : Machine → State → Event → List ℕ
ender_of machine state (Step process) = ender_if (is_ready (step_of machine state process).next) process
ender_of machine state (LaneStep process) = []
ender_of machine state (Evaluation node) = []
ender_of machine state (NetUpdate node) = []

-- the processes whose runs end in some events, in the order in which they end
abbrev pub enders_in : Machine → State → List Event → List ℕ
enders_in machine state [] = []
enders_in machine state (event ∷ events) = ender_of machine state event ++ enders_in machine (after machine state event) events

-- a process's run ends in the phase of a number
pub record Ender : Type 0 where
  pub phase : ℕ
  pub process : ℕ

-- the runs that end in a phase
abbrev pub phase_enders : Machine → ℕ → Phase → List Ender
phase_enders machine number phase = map (λ (process : ℕ). record { phase = number; process = process }) (enders_in machine phase.begins phase.events)

-- those of some phases, numbered from 1, one phase after another
abbrev pub slot_enders : Machine → List Phase → List Ender
slot_enders machine phases = joined (map_numbered (phase_enders machine) 1 phases)

-- the phase and the process of a run that ended
abbrev pub ender_told : RunEnd → Ender
ender_told run = record { phase = run.phase; process = process_number run.process }

-- All ends

-- a run that ended in one of so many phases, of a process that has a code, is in a state of that code, and was so before each of its steps
pub record IsEndWithin (codes : List Code) (phases : ℕ) (run : RunEnd) : Type 0 where
  pub first : 1 ≤ run.phase
  pub last : run.phase ≤ phases
  pub process : process_number run.process < length codes
  pub state : (code : Code) → slice_get codes (process_number run.process) ≡ Some code → IsStateOf code run.state
  pub steps : (code : Code) → slice_get codes (process_number run.process) ≡ Some code → StepsStandIn code run.steps

-- the ends of all runs of some phases, numbered from 1, in the order in which the runs end: those of one process and phase tell of its runs there, in their order
pub record AreRunEnds (codes : List Code) (machine : Machine) (phases : List Phase) (runs : List RunEnd) : Type 0 where
  pub within : All (IsEndWithin codes (length phases)) runs
  pub order : map ender_told runs ≡ slot_enders machine phases
  pub told : (number process : ℕ) (phase : Phase) (code : Code) → slice_get phases number ≡ Some phase → slice_get codes process ≡ Some code →
      map (told_by code) (ends_of (number + 1) process runs) ≡ map (told_of phase.begins.time) (process_runs machine process phase)

-- the same whichever codes of the machine's processes one has
abbrev pub HaveRunEnds : Machine → List Phase → List RunEnd → Type 0
HaveRunEnds machine phases runs = (codes : List Code) → AreCodesOf machine.design codes → AreRunEnds codes machine phases runs

-- The law

-- what the ends of some runs tell, each by the code of its process
abbrev pub told_by_codes : List Code → RunEnd → Option RunTold
told_by_codes codes run = option_map (λ (code : Code). told_by code run) (slice_get codes (process_number run.process))

-- the ends of the runs of some phases are one list: two such lists tell the same, place by place, of runs of the same phases and processes
abbrev pub RunEndsAreFixed : Type 0
RunEndsAreFixed =
    (codes : List Code) (machine : Machine) (phases : List Phase) (one other : List RunEnd) → AreRunEnds codes machine phases one → AreRunEnds codes machine phases other →
    (map ender_told one ≡ map ender_told other) × (map (told_by_codes codes) one ≡ map (told_by_codes codes) other)
