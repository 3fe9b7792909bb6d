-- Steps that are known before they are taken (IEEE 1364-2001, clauses 5 and 9).
use Rattle.std.proofs.Common.{refl}
use Rattle.std.specs.Prelude.{◌≡◌, ℕ, List, [], ◌∷◌, Option, Some, None}
use Rattle.std.specs.Option.{option_map, option_to_list}
use Rattle.vf_base.specs.Base.{object_number}
use Rattle.v_design.specs.Designs.{Machine}
use Rattle.v_design.specs.Plain.{due_of, update_of}
use Rattle.v_design.specs.Processes.{Action, ReadsObject, WritesObject, AppendsUpdate, TouchesNothing}
use Rattle.v_design.specs.declared.plan.Due.{Due}
use Rattle.v_design.specs.Assignments.{ValueUpdate}
use Rattle.v_design.specs.States.{State, LaterUpdate, appended, step_of, next_activity, write_of}
use Rattle.process_code.specs.Points.{activity_of}
use Rattle.process_code.specs.RunEnds.{ActTold, TellsRead, TellsWrite, TellsAppend, TellsInner, act_by, act_of}
use Rattle.process_code.specs.declared.code.Code.{Code}
use Rattle.process_code.specs.declared.state.ProcState.{ProcState}
use Rattle.process_code.specs.declared.state.StepAct.{StepAct}
use Rattle.run_ends.specs.RunEnds.{IsCodeAt}
use Rattle.process_table.specs.declared.deed.Act.{Act}
use Rattle.process_table.specs.declared.deed.Act.TheVariants.{Read, Write}
use Rattle.process_table.specs.Deeds.{read_by, read_of, written_by}
use Rattle.process_table.specs.Tables.{TableState, IsTableOf}

-- the object that a step reads, as it is told
abbrev pub read_told : ActTold → Option ℕ
read_told (TellsRead object) = Some object
read_told (TellsWrite update) = None
read_told (TellsAppend later) = None
read_told TellsInner = None

-- the update that it writes
abbrev pub written_told : ActTold → Option ValueUpdate
written_told (TellsRead object) = None
written_told (TellsWrite update) = Some update
written_told (TellsAppend later) = None
written_told TellsInner = None

-- the update that it appends
abbrev pub later_told : ActTold → List LaterUpdate
later_told (TellsRead object) = []
later_told (TellsWrite update) = []
later_told (TellsAppend later) = later ∷ []
later_told TellsInner = []

-- what a step did that says this of itself
abbrev pub told_act : Option Act → Option Due → ActTold
told_act (Some (Read object)) later = TellsRead (object_number object)
told_act (Some (Write update)) later = TellsWrite (update_of update)
told_act None (Some due) = TellsAppend (due_of due)
told_act None None = TellsInner

-- the next step of a process in a state is of this line, does this, and leaves the process at this state, in each code of it
pub record IsKnownStep (machine : Machine) (state : State) (process told_line : ℕ) (told_act : StepAct) (next : ProcState) : Type 0 where
  pub line : told_line ≡ (step_of machine state process).line
  pub act : act_by told_act ≡ act_of state.time (step_of machine state process).action
  pub does : (code : Code) → IsCodeAt machine.design process code → activity_of code next ≡ next_activity state.values (step_of machine state process).action (step_of machine state process).next

-- the same in a state of some machine with the processes of a table
pub record IsStepKnown (table : TableState) (process told_line : ℕ) (told_act : StepAct) (next : ProcState) : Type 0 where
  pub machine : Machine
  pub state : State
  pub of : IsTableOf machine state table
  pub step : IsKnownStep machine state process told_line told_act next

-- a step that read, wrote and appended what an action does did that action
pub told-act : (act : Option Act) (later : Option Due) (time : ℕ) (action : Action) → read_by act ≡ read_of action → written_by act ≡ write_of action →
    option_to_list (option_map due_of later) ≡ appended time action → told_act act later ≡ act_of time action
told-act (Some (Read object)) later time (ReadsObject other) reads writes appends = cc
told-act (Some (Read object)) later time (WritesObject update) reads writes appends = cc
told-act (Some (Read object)) later time (AppendsUpdate delay update) reads writes appends = cc
told-act (Some (Read object)) later time TouchesNothing reads writes appends = cc
told-act (Some (Write one)) later time (ReadsObject other) reads writes appends = cc
told-act (Some (Write one)) later time (WritesObject update) reads writes appends = cc
told-act (Some (Write one)) later time (AppendsUpdate delay update) reads writes appends = cc
told-act (Some (Write one)) later time TouchesNothing reads writes appends = cc
told-act None later time (ReadsObject other) reads writes appends = cc
told-act None later time (WritesObject update) reads writes appends = cc
told-act None None time (AppendsUpdate delay update) reads writes appends = cc
told-act None None time TouchesNothing reads writes appends = refl
told-act None (Some due) time (AppendsUpdate delay update) reads writes appends = cc
told-act None (Some due) time TouchesNothing reads writes appends = cc
