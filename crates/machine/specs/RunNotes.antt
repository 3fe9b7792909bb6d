-- What is noted of the runs of processes (IEEE 1364-2001, clauses 5 and 9).
use Rattle.std.specs.Prelude.{◌≡◌, ℕ, ◌+◌, List, length, Option, None, Some}
use Rattle.std.specs.Option.{option_map}
use Rattle.vf_base.specs.Base.{object_number}
use Rattle.four_value.specs.Values.{LogicValue}
use Rattle.v_design.specs.Plain.{due_of, update_of}
use Rattle.v_design.specs.Assignments.{value_at}
use Rattle.v_design.specs.Designs.{FlatDesign, Machine}
use Rattle.v_design.specs.Processes.{Activity}
use Rattle.v_design.specs.States.{Step, process_at}
use Rattle.v_design.specs.Grades.{Phase}
use Rattle.v_design.specs.declared.plan.Due.{Due}
use Rattle.process_code.specs.Points.{activity_of}
use Rattle.process_code.specs.RunEnds.{ActTold, TellsRead, TellsWrite, TellsAppend, TellsInner, act_by}
use Rattle.process_code.specs.StatesOf.{IsStateOf}
use Rattle.process_code.specs.declared.code.Code.{Code}
use Rattle.process_code.specs.declared.state.ProcState.{ProcState}
use Rattle.process_code.specs.declared.state.StepTaken.{StepTaken}
use Rattle.process_table.specs.declared.deed.Act.{Act}
use Rattle.process_table.specs.declared.deed.Act.TheVariants.{Read, Write}
use Rattle.process_table.specs.declared.table.ProcessTable.{ProcessTable}
use Rattle.process_table.specs.declared.deed.Stepped.{Stepped}
use Rattle.process_table.specs.Deeds.{IsStepOf, read_by}
use Rattle.process_table.specs.Arranged.{table_of}
use Rattle.slot_record.specs.SlotRecords.{one_more, state_in}
use Rattle.run_ends.specs.RunEnds.{IsCodeAt}
use Rattle.run_record.specs.RunRecords.{RecordsRuns}
use Rattle.run_record.specs.declared.record.RunRecord.{RunRecord}

-- what a step did, by the object that it touched and the update that it appended
abbrev pub told_act : Option Act → Option Due → ActTold
told_act (Some (Read object)) later = TellsRead (object_number object)
told_act (Some (Write update)) later = TellsWrite (update_of update)
told_act None (Some due) = TellsAppend (due_of due)
told_act None None = TellsInner

-- a step as it is kept, taken over some values from where its process stood
pub record IsTaken (stepped : Stepped) (values : List LogicValue) (stands : ProcState) (taken : StepTaken) : Type 0 where
  pub line : taken.line ≡ stepped.line
  pub act : act_by taken.act ≡ told_act stepped.act stepped.later
  pub read : taken.read ≡ option_map (value_at values) (read_by stepped.act)
  pub state : taken.state ≡ stands

-- where a process stands was kept: in each of its codes, a state that does what the process does
pub record StandsBefore (design : FlatDesign) (process : ℕ) (activity : Activity) (found : Option ProcState) : Type 0 where
  pub stands : ProcState
  pub found_is : found ≡ Some stands
  pub state_of : (code : Code) → IsCodeAt design process code → IsStateOf code stands
  pub does : (code : Code) → IsCodeAt design process code → activity_of code stands ≡ activity

-- a step that a process took over some values is noted, in the phase of a number, if it was kept where the process stood before it: the record of runs stands for the
-- phase with this step more
abbrev pub NotesRun : (number process : ℕ) (found : Option ProcState) (stepped : Stepped) (values : List LogicValue) (table : ProcessTable) (old new : RunRecord) → Type 0
NotesRun number process found stepped values table old new =
    (machine : Machine) (before : List Phase) (phase : Phase) → RecordsRuns machine before phase old →
    StandsBefore machine.design process (process_at (state_in machine phase) process).activity found → (state_in machine phase).values ≡ values →
    IsStepOf machine (state_in machine phase) process stepped (table_of table) →
    number ≡ length before + 1 → RecordsRuns machine before (one_more (Step process) phase) new
