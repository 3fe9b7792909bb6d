-- What a step and a turn did (IEEE 1364-2001, clause 5).
use Rattle.std.specs.Prelude.{◌≡◌, ℕ, Option, Some, None}
use Rattle.std.specs.Option.{option_map, option_to_list}
use Rattle.vf_base.specs.Base.{object_number}
use Rattle.v_design.specs.Plain.{due_of, update_of}
use Rattle.v_design.specs.Designs.{Machine}
use Rattle.v_design.specs.Assignments.{ValueUpdate}
use Rattle.v_design.specs.Processes.{Action, ReadsObject, WritesObject, AppendsUpdate, TouchesNothing}
use Rattle.v_design.specs.States.{State, TurnKind, PostponedTurn, UpdatesTurn, TimeTurn, appended, write_of, step_of, is_ready, next_activity, after_step, with_process}
use Rattle.v_design.specs.Accesses.{waiting_entries, is_waiting}
use Rattle.process_code.specs.Points.{StepSaid, SaysRead, SaysWrite, SaysLater, SaysAwait, SaysSleep, SaysZero, SaysFinished, SaysInner}
use Rattle.process_table.specs.declared.deed.Act.{Act}
use Rattle.process_table.specs.declared.deed.Act.TheVariants.{Read, Write}
use Rattle.process_table.specs.declared.deed.Stepped.{Stepped}
use Rattle.process_table.specs.declared.deed.TableTurn.{TableTurn}
use Rattle.process_table.specs.declared.deed.TableTurn.TheVariants.{Postponed, Updates, Time}
use Rattle.process_table.specs.Tables.{TableState, IsTableOf, process_in}

-- the object that an action reads
abbrev pub read_of : Action → Option ℕ
read_of (ReadsObject object) = Some object
read_of (WritesObject update) = None
read_of (AppendsUpdate delay update) = None
read_of TouchesNothing = None

-- the object that a step says it reads
abbrev pub read_by : Option Act → Option ℕ
read_by None = None
read_by (Some (Read object)) = Some (object_number object)
read_by (Some (Write update)) = None

-- the update that a step says it writes
abbrev pub written_by : Option Act → Option ValueUpdate
written_by None = None
written_by (Some (Read object)) = None
written_by (Some (Write update)) = Some (update_of update)

-- the object that a step of a process's code says it reads
abbrev pub read_said : StepSaid → Option ℕ
read_said (SaysRead object) = Some object
read_said (SaysWrite update) = None
read_said (SaysLater update time) = None
read_said SaysAwait = None
read_said (SaysSleep time) = None
read_said SaysZero = None
read_said SaysFinished = None
read_said SaysInner = None

-- the update that it says it writes
abbrev pub written_said : StepSaid → Option ValueUpdate
written_said (SaysRead object) = None
written_said (SaysWrite update) = Some update
written_said (SaysLater update time) = None
written_said SaysAwait = None
written_said (SaysSleep time) = None
written_said SaysZero = None
written_said SaysFinished = None
written_said SaysInner = None

-- a step of a process in a state: its line, what it reads, writes and appends, the wait that it begins, whether its process is still ready, and what the process does and
-- all processes are after it
pub record IsStepOf (machine : Machine) (state : State) (process : ℕ) (stepped : Stepped) (table : TableState) : Type 0 where
  pub line : stepped.line ≡ (step_of machine state process).line
  pub read : read_by stepped.act ≡ read_of (step_of machine state process).action
  pub write : written_by stepped.act ≡ write_of (step_of machine state process).action
  pub later : option_to_list (option_map due_of stepped.later) ≡ appended state.time (step_of machine state process).action
  pub waits : stepped.waits ≡ is_waiting (step_of machine state process).next
  pub ready : stepped.ready ≡ is_ready (step_of machine state process).next
  pub activity : (process_in table process).activity ≡ next_activity state.values (step_of machine state process).action (step_of machine state process).next
  pub entries : waiting_entries (process_in table process).activity ≡ waiting_entries (step_of machine state process).next
  pub after : IsTableOf machine (with_process process (after_step state (step_of machine state process)) state) table

-- the kind of a turn
abbrev pub turn_kind : TableTurn → TurnKind
turn_kind Postponed = PostponedTurn
turn_kind Updates = UpdatesTurn
turn_kind (Time time) = TimeTurn time
