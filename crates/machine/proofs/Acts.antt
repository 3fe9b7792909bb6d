-- A step as it is kept is that of its process (processes by IEEE 1364-2001, clause 9).
use Rattle.std.proofs.Common.{◌≡◌, ℕ, ◌+◌, List, [], ◌∷◌, refl, sym, ap, subst, ◌∙◌}
use Rattle.std.specs.Prelude.{Option, None, Some, slice_get}
use Rattle.std.specs.Option.{option_map, option_to_list}
use Rattle.four_value.specs.Values.{LogicValue}
use Rattle.vf_base.specs.Base.{object_number}
use Rattle.v_design.specs.Plain.{due_of, update_of}
use Rattle.v_design.specs.Assignments.{value_at}
use Rattle.v_design.specs.Designs.{FlatDesign, Machine}
use Rattle.v_design.specs.Processes.{Action, ReadsObject, WritesObject, AppendsUpdate, TouchesNothing}
use Rattle.v_design.specs.States.{State, ProcessState, appended, write_of, step_of, process_at, found_or, idle_process}
use Rattle.v_design.specs.OwnSteps.{value_read}
use Rattle.v_design.specs.declared.plan.Due.{Due}
use Rattle.process_code.specs.Points.{activity_of}
use Rattle.process_code.specs.RunEnds.{TellsRead, TellsWrite, TellsAppend, act_of}
use Rattle.process_code.specs.StatesOf.{IsStateOf}
use Rattle.process_code.specs.declared.state.ProcState.{ProcState}
use Rattle.process_code.specs.declared.state.StepTaken.{StepTaken}
use Rattle.process_table.specs.Deeds.{IsStepOf, read_by, read_of, written_by}
use Rattle.process_table.specs.Tables.{TableState, IsTableOf, process_in}
use Rattle.process_table.specs.declared.deed.Act.{Act}
use Rattle.process_table.specs.declared.deed.Act.TheVariants.{Read, Write}
use Rattle.process_table.specs.declared.deed.Stepped.{Stepped}
use Rattle.run_record.specs.Notes.{StepSays}
use Rattle.machine.specs.RunNotes.{IsTaken, StandsBefore, told_act}

-- What it did

first-is : {A : Type 0} (x y : A) → x ∷ [] ≡ y ∷ [] → x ≡ y
first-is x y e = cc

some-is : {A : Type 0} (x y : A) → Some x ≡ Some y → x ≡ y
some-is x y e = ap (found_or x) e

act-is : (act : Option Act) (later : Option Due) (action : Action) (time : ℕ) → read_by act ≡ read_of action → written_by act ≡ write_of action →
    option_to_list (option_map due_of later) ≡ appended time action → told_act act later ≡ act_of time action
act-is None later (ReadsObject object) time reads writes laters = cc
act-is (Some (Read own)) later (ReadsObject object) time reads writes laters = ap TellsRead (some-is (object_number own) object reads)
act-is (Some (Write update)) later (ReadsObject object) time reads writes laters = cc
act-is None later (WritesObject update) time reads writes laters = cc
act-is (Some (Read own)) later (WritesObject update) time reads writes laters = cc
act-is (Some (Write own)) later (WritesObject update) time reads writes laters = ap TellsWrite (some-is (update_of own) update writes)
act-is None None (AppendsUpdate delay update) time reads writes laters = cc
act-is None (Some due) (AppendsUpdate delay update) time reads writes laters = ap TellsAppend (first-is (due_of due) (record { time = time + delay; update = update }) laters)
act-is (Some (Read own)) later (AppendsUpdate delay update) time reads writes laters = cc
act-is (Some (Write own)) later (AppendsUpdate delay update) time reads writes laters = cc
act-is None None TouchesNothing time reads writes laters = refl
act-is None (Some due) TouchesNothing time reads writes laters = cc
act-is (Some (Read own)) later TouchesNothing time reads writes laters = cc
act-is (Some (Write own)) later TouchesNothing time reads writes laters = cc

value-is : (state : State) (action : Action) → option_map (value_at state.values) (read_of action) ≡ value_read state action
value-is state (ReadsObject object) = refl
value-is state (WritesObject update) = refl
value-is state (AppendsUpdate delay update) = refl
value-is state TouchesNothing = refl

-- The step

pub step-says : (machine : Machine) (state : State) (process : ℕ) (stepped : Stepped) (values : List LogicValue) (table : TableState) (stands : ProcState) (taken : StepTaken) →
    IsTaken stepped values stands taken → StandsBefore machine.design process (process_at state process).activity (Some stands) → state.values ≡ values →
    IsStepOf machine state process stepped table → StepSays machine state process taken
step-says machine state process stepped values table stands taken is before same step =
    let here : before.stands ≡ taken.state = sym (is.state ∙ some-is stands before.stands before.found_is) in
    record {
      line_is = is.line ∙ step.line;
      act_is = is.act ∙ act-is stepped.act stepped.later (step_of machine state process).action state.time step.read step.write step.later;
      read_is =
          is.read ∙ ap (λ v. option_map (value_at v) (read_by stepped.act)) (sym same) ∙ ap (option_map (value_at state.values)) step.read
          ∙ value-is state (step_of machine state process).action;
      state_of = λ code at. subst (IsStateOf code) here (before.state_of code at);
      activity = λ code at. ap (activity_of code) (sym here) ∙ before.does code at;
    }

-- Where a process of a state stands in its table

pub before-step : (machine : Machine) (state : State) (process : ℕ) (table : TableState) (found : Option ProcState) → IsTableOf machine state table →
    StandsBefore table.design process (process_in table process).activity found → StandsBefore machine.design process (process_at state process).activity found
before-step machine state process table found is stands =
    subst (λ (d : FlatDesign). StandsBefore d process (process_at state process).activity found) is.design
    (subst (λ (ps : List ProcessState). StandsBefore table.design process (found_or idle_process (slice_get ps process)).activity found) is.processes stands)
