-- What a process does at a position of its code, and what a step of it does there (IEEE 1364-2001, clause 9).
use Rattle.std.specs.Prelude.{◌≡◌, ℕ, suc, zero, ◌+◌, ◌-◌, ◌≤◌, ◌<◌, Bool, true, false, if◌then◌else◌, List, [], ◌∷◌, ◌++◌, map, length, get_or, set, slice_get, Option, Some, None, option_map}
use Rattle.std.specs.Prelude.{vec_capacity}
use Rattle.vf_base.specs.Base.{SourcePlace, source_place, object_number}
use Rattle.vf_base.specs.declared.ids.ObjectId.{ObjectId}
use Rattle.four_value.specs.Values.{LogicValue}
use Rattle.v_design.specs.Trees.{Entry, Statement, Null, Block, If, Case, For, While, Repeat, Forever, Delay, EventControl, Wait, Blocking, Nonblocking, Finish}
use Rattle.v_design.specs.Assignments.{ValueUpdate}
use Rattle.v_design.specs.Processes.{Task, Activity, Action, ReadsObject, WritesObject, AppendsUpdate, TouchesNothing, ProcessStep, process_step, writes_left, appends_left, change_entries}
use Rattle.v_design.specs.Processes as activities
use Rattle.v_design.specs.States.{next_activity}
use Rattle.v_design.specs.Plain.{statement_of, process_of, update_of}
use Rattle.process_code.specs.Rests.{Part, Runs, tasks_of}
use Rattle.process_code.specs.Positions.{rests_of}
use Rattle.process_code.specs.declared.code.Code.{Code}
use Rattle.process_code.specs.declared.state.Stage.{Stage}
use Rattle.process_code.specs.declared.state.Stage.TheVariants.{Ready, Waiting, Asleep, Postponed, Done}
use Rattle.process_code.specs.declared.state.ProcState.{ProcState}
use Rattle.process_code.specs.declared.state.Did.{Did}
use Rattle.process_code.specs.declared.state.Did.TheVariants.{Read, Write, Later, Await, Sleep, Zero, Finished, Inner}

-- where a process stands, as plain data
pub record Point : Type 0 where
  pub stage : Stage
  pub position : ℕ
  pub operands : List LogicValue
  pub counts : List ℕ
  pub place : SourcePlace
  pub delay : Option ℕ
  pub updates : List (Option ValueUpdate)

-- where a state stands
abbrev pub point_of : ProcState → Point
point_of s =
    record {
      stage = s.stage;
      position = s.position;
      operands = s.operands.items;
      counts = s.counts.items;
      place = source_place s.place;
      delay = s.delay;
      updates = map (option_map update_of) s.updates.items;
    }

-- the updates of an assignment that are left, before other tasks
abbrev pub updates_left : SourcePlace → Option ℕ → List (Option ValueUpdate) → List Task → List Task
updates_left place None updates tasks = writes_left place updates tasks
updates_left place (Some delay) updates tasks = appends_left place delay updates tasks

-- the tasks that are left at a point
abbrev pub tasks_at : List (List Part) → Point → List Task
tasks_at rests p = updates_left p.place p.delay p.updates (tasks_of p.counts (get_or rests p.position []))

-- the place of the statement that waits
abbrev pub wait_place : List Part → SourcePlace
wait_place (Runs (EventControl place entries body) ∷ rest) = place
wait_place (Runs (Wait place condition body) ∷ rest) = place
wait_place other = record { line = 0; column = 0 }

-- the entries of the statement that waits
abbrev pub wait_entries : List Part → List Entry
wait_entries (Runs (EventControl place entries body) ∷ rest) = entries
wait_entries (Runs (Wait place condition body) ∷ rest) = change_entries condition
wait_entries other = []

-- what a process does at a point
abbrev pub activity_by : List (List Part) → Point → Stage → Activity
activity_by rests p Ready = activities.Ready (tasks_at rests p) p.operands
activity_by rests p (Waiting at) = activities.Waiting (wait_place (get_or rests at [])) (wait_entries (get_or rests at [])) (tasks_at rests p)
activity_by rests p (Asleep time) = activities.Asleep time (tasks_at rests p)
activity_by rests p Postponed = activities.Postponed (tasks_at rests p)
activity_by rests p Done = activities.Done

-- what a process does at a point of its code
abbrev pub activity_at : List (List Part) → Point → Activity
activity_at rests p = activity_by rests p p.stage

-- what the process of a state does
abbrev pub activity_of : Code → ProcState → Activity
activity_of code state = activity_at (rests_of code.spots.items) (point_of state)

-- what a step did, as plain data
pub data StepSaid : Type 0 where
  SaysRead : (object : ℕ) → StepSaid
  SaysWrite : (update : ValueUpdate) → StepSaid
  SaysLater : (update : ValueUpdate) (time : ℕ) → StepSaid
  SaysAwait : StepSaid
  SaysSleep : (time : ℕ) → StepSaid
  SaysZero : StepSaid
  SaysFinished : StepSaid
  SaysInner : StepSaid

-- what the code's type says
abbrev pub said_by : Did → StepSaid
said_by (Read object) = SaysRead (object_number object)
said_by (Write update) = SaysWrite (update_of update)
said_by (Later update time) = SaysLater (update_of update) time
said_by Await = SaysAwait
said_by (Sleep time) = SaysSleep time
said_by Zero = SaysZero
said_by Finished = SaysFinished
said_by Inner = SaysInner

-- the object that a step reads, if it reads one, has a number below a limit
abbrev pub ReadsBelow : ℕ → StepSaid → Type 0
ReadsBelow limit (SaysRead object) = object < limit
ReadsBelow limit (SaysWrite update) = Unit {0}
ReadsBelow limit (SaysLater update time) = Unit {0}
ReadsBelow limit SaysAwait = Unit {0}
ReadsBelow limit (SaysSleep time) = Unit {0}
ReadsBelow limit SaysZero = Unit {0}
ReadsBelow limit SaysFinished = Unit {0}
ReadsBelow limit SaysInner = Unit {0}

-- how a process goes on
abbrev pub said_of_activity : Activity → StepSaid
said_of_activity (activities.Ready tasks operands) = SaysInner
said_of_activity (activities.Waiting place entries tasks) = SaysAwait
said_of_activity (activities.Asleep time tasks) = SaysSleep time
said_of_activity (activities.Postponed tasks) = SaysZero
said_of_activity activities.Done = SaysFinished

-- what a step does at a time
abbrev pub said_of : ℕ → Action → Activity → StepSaid
said_of now (ReadsObject object) next = SaysRead object
said_of now (WritesObject update) next = SaysWrite update
said_of now (AppendsUpdate delay update) next = SaysLater update (now + delay)
said_of now TouchesNothing next = said_of_activity next

-- a step goes on as the definition says, over the values of all objects
pub record IsStep (now : ℕ) (values : List LogicValue) (rests : List (List Part)) (step : ProcessStep) (new : Point) (said : StepSaid) : Type 0 where
  pub activity : activity_at rests new ≡ next_activity values step.action step.next
  pub says : said ≡ said_of now step.action step.next

-- a point with no updates left, ready with some operands read
abbrev pub ready_at : ℕ → List LogicValue → List ℕ → SourcePlace → Option ℕ → Point
ready_at position operands counts place delay =
    record { stage = Ready; position = position; operands = operands; counts = counts; place = place; delay = delay; updates = [] }

-- a point with updates left
abbrev pub left_at : Stage → ℕ → List ℕ → SourcePlace → Option ℕ → List (Option ValueUpdate) → Point
left_at stage position counts place delay updates =
    record { stage = stage; position = position; operands = []; counts = counts; place = place; delay = delay; updates = updates }

-- what the write of an update says
abbrev pub said_write : Option ValueUpdate → StepSaid
said_write None = SaysInner
said_write (Some update) = SaysWrite update

-- what the append of an update says
abbrev pub said_append : ℕ → Option ValueUpdate → StepSaid
said_append time None = SaysInner
said_append time (Some update) = SaysLater update time

-- how a process stops for a delay: postponed for 0, else asleep
abbrev pub stage_after : ℕ → ℕ → Stage
stage_after now zero = Postponed
stage_after now (suc delay) = Asleep (now + suc delay)

-- what a delay says
abbrev pub said_delay : ℕ → ℕ → StepSaid
said_delay now zero = SaysZero
said_delay now (suc delay) = SaysSleep (now + suc delay)

-- what the first of the updates that are left says
abbrev pub said_update : Option ℕ → ℕ → Option ValueUpdate → StepSaid
said_update None now update = said_write update
said_update (Some delay) now update = said_append (now + delay) update

-- some update is left
abbrev pub HasUpdates : {A : Type 0} → List A → Type 0
HasUpdates [] = ⊥
HasUpdates (update ∷ updates) = Unit {0}

-- the first of the updates that are left is taken
abbrev pub TakesFirst : ℕ → Point → Point → StepSaid → List (Option ValueUpdate) → Type 0
TakesFirst now old new said [] = ⊥
TakesFirst now old new said (update ∷ updates) = (new ≡ record old { operands = []; updates = updates }) × (said ≡ said_update old.delay now update)

abbrev pub TakesUpdate : ℕ → Point → Point → StepSaid → Type 0
TakesUpdate now old new said = TakesFirst now old new said old.updates

-- a point after a turn of a repeat, of which so many turns were left
abbrev pub after_turn : Point → ℕ → ℕ → ℕ → ℕ → Point
after_turn p number inner next zero = record p { position = next; operands = [] }
after_turn p number inner next (suc count) = record p { position = inner; operands = []; counts = set p.counts number count }
