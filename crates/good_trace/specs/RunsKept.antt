-- The process runs of a trace and of its windows, and where the processes stand between them (phases by IEEE 1364-2001, clause 5; processes by clause 9).
use Rattle.std.specs.Prelude.{◌≡◌, ℕ, ◌<◌, List, [], map, length, get_or, Option, Some, slice_get}
use Rattle.std.specs.Option.{option_map}
use Rattle.v_design.specs.Designs.{FlatDesign, TestPlan, good_machine}
use Rattle.v_design.specs.Plain.{due_of}
use Rattle.v_design.specs.Processes.{Activity}
use Rattle.v_design.specs.Grades.{Phase}
use Rattle.v_design.specs.OwnSteps.{process_runs}
use Rattle.v_design.specs.declared.plan.Due.{Due}
use Rattle.process_code.specs.Points.{activity_of}
use Rattle.process_code.specs.RunEnds.{StepsStandIn, told_by}
use Rattle.process_code.specs.StatesOf.{IsStateOf}
use Rattle.process_code.specs.declared.code.Code.{Code}
use Rattle.process_code.specs.declared.state.ProcState.{ProcState}
use Rattle.process_code.specs.declared.state.RunEnd.{RunEnd}
use Rattle.run_ends.specs.RunEnds.{IsCodeAt, AreCodesOf, told_of, AreRunEnds}
use Rattle.between_slots.specs.Between.{activity_through, window_phases}
use Rattle.between_slots.specs.Updates.{updates_through}
use Rattle.copy_laws.specs.Windows.{WindowEnd}
use Rattle.window_runs.specs.declared.index.RunIndex.{RunIndex}
use Rattle.window_runs.specs.RunsByProcess.{IsRunIndexOf}
use Rattle.good_trace.specs.declared.between.BetweenSlots.{BetweenSlots}
use Rattle.good_trace.specs.declared.events.Events.{Events}
use Rattle.good_trace.specs.declared.pushed.PushedSlots.{PushedSlots}
use Rattle.good_trace.specs.declared.pushed.SlotTable.{SlotTable}
use Rattle.good_trace.specs.Traces.{IsTrace, IsTraceWindow}

-- What contracts say

-- a state of each code of a process, which does this
pub record Stands (design : FlatDesign) (process : ℕ) (activity : Activity) (state : ProcState) : Type 0 where
  pub state_of : (code : Code) → IsCodeAt design process code → IsStateOf code state
  pub does : (code : Code) → IsCodeAt design process code → activity_of code state ≡ activity

-- what was found tells, by each code of a process, of its run of a number in a phase, if there is one, ends in a state of that code, and has its process in one before each step
pub record TellsRun (design : FlatDesign) (process : ℕ) (phase : Phase) (number : ℕ) (found : Option RunEnd) : Type 0 where
  pub told : (code : Code) → IsCodeAt design process code →
      option_map (told_by code) found ≡ slice_get (map (told_of phase.begins.time) (process_runs (good_machine design) process phase)) number
  pub state_of : (code : Code) (run : RunEnd) → IsCodeAt design process code → found ≡ Some run → IsStateOf code run.state
  pub stand : (code : Code) (run : RunEnd) → IsCodeAt design process code → found ≡ Some run → StepsStandIn code run.steps

-- What is kept

-- where each process stands after so many slots of the good first run, by number: in a state of its code, which does what the process does then
pub record AreStatesAt (codes : List Code) (design : FlatDesign) (plan : TestPlan) (number : ℕ) (states : List ProcState) : Type 0 where
  pub count : length states ≡ length design.processes
  pub state_of : (process : ℕ) (state : ProcState) (code : Code) → slice_get states process ≡ Some state → slice_get codes process ≡ Some code → IsStateOf code state
  pub does : (process : ℕ) (state : ProcState) (code : Code) → slice_get states process ≡ Some state → slice_get codes process ≡ Some code →
      activity_of code state ≡ activity_through design plan number process

-- the updates that each process has pending after so many slots of the good first run, by number
pub record AreUpdatesAt (design : FlatDesign) (plan : TestPlan) (number : ℕ) (updates : List (List Due)) : Type 0 where
  pub count : length updates ≡ length design.processes
  pub each : (process : ℕ) → process < length design.processes → map due_of (get_or updates process []) ≡ updates_through design plan number process

-- the runs of the slots from one number to before another, with their phases numbered through, and where the processes stand before them
pub record AreRunsKept (codes : List Code) (design : FlatDesign) (plan : TestPlan) (through before phases : ℕ) (states : List ProcState) (runs : List RunEnd) : Type 0 where
  pub codes_are : AreCodesOf design codes
  pub phase_count : phases ≡ length (window_phases design plan before through)
  pub states_are : AreStatesAt codes design plan before states
  pub runs_are : AreRunEnds codes (good_machine design) (window_phases design plan before through) runs

-- those of a window, with an index of them
pub record HasRuns (design : FlatDesign) (plan : TestPlan) (before through phases : ℕ) (states : List ProcState) (runs : List RunEnd) (index : RunIndex) : Type 0 where
  pub codes : List Code
  pub kept : AreRunsKept codes design plan through before phases states runs
  pub index_is : IsRunIndexOf (length design.processes) runs index

-- all that a trace keeps
pub record KeepsTrace (codes : List Code) (design : FlatDesign) (plan : TestPlan) (pushed closed steps phases : ℕ) (before : BetweenSlots) (slots : PushedSlots) : Type 0 where
  pub slots_kept : IsTrace design plan pushed closed steps before.values.items slots
  pub runs_kept : AreRunsKept codes design plan pushed closed phases before.states.items slots.table.runs.items
  pub updates_kept : AreUpdatesAt design plan closed before.updates.items

-- all that a window has
pub record KeepsWindow (design : FlatDesign) (plan : TestPlan) (begins ends : ℕ) (ending : WindowEnd) (phases : ℕ) (before : BetweenSlots) (events : Events) (slots : SlotTable)
    (index : RunIndex) : Type 0 where
  pub window : IsTraceWindow design plan begins ends ending before.values.items events slots
  pub has_runs : HasRuns design plan begins ends phases before.states.items slots.runs.items index
  pub has_updates : AreUpdatesAt design plan begins before.updates.items
