-- A step lets a process sleep until a later time alone (IEEE 1364-2001, clause 9.7).
use Rattle.std.proofs.Common.{ℕ, zero, suc, Bool, true, false, List, [], ◌∷◌, Option, Some, None, arith}
use Rattle.vf_base.specs.Base.{SourcePlace}
use Rattle.four_value.specs.Values.{LogicValue}
use Rattle.v_design.specs.Trees.{Expression, Statement, Null, Block, If, Case, For, While, Repeat, Forever, Delay, EventControl, Wait, Blocking, Nonblocking, Finish}
use Rattle.v_design.specs.Expressions.{Progress, Needs, Has, read_expression}
use Rattle.v_design.specs.Designs.{FlatProcess}
use Rattle.v_design.specs.Assignments.{ValueUpdate, read_assignment}
use Rattle.v_design.specs.Processes.{Task, Run, Turns, Writes, Appends, Activity, Ready, Waiting, Asleep, Postponed, Done, Action, ReadsObject, WritesObject, AppendsUpdate, TouchesNothing}
use Rattle.v_design.specs.Processes.{ProcessStep, reads_or, write_step, append_step, assignment_step, wait_step, end_step, turns_step, statement_step, process_step, read_case, goes_on, after_delay}
use Rattle.v_design.specs.States.{next_activity}
use Rattle.event_queue.specs.Queues.{holding_of, WakesAfter}
use Rattle.process_table.specs.Rows.{step_from}

-- what a step leads to wakes after a time
abbrev Wakes : ℕ → ProcessStep → Type 0
Wakes now step = WakesAfter now (holding_of step.next)

reads-wakes : {A : Type 0} (now line : ℕ) (tasks : List Task) (operands : List LogicValue) (progress : Progress A) (act : A → ProcessStep) → ((answer : A) → Wakes now (act answer)) →
    Wakes now (reads_or line tasks operands progress act)
reads-wakes now line tasks operands (Needs object) act same = tt
reads-wakes now line tasks operands (Has answer left) act same = same answer

write-wakes : (now : ℕ) (place : SourcePlace) (updates : List (Option ValueUpdate)) (tasks : List Task) → Wakes now (write_step place updates tasks)
write-wakes now place [] tasks = tt
write-wakes now place (update ∷ updates) tasks = tt

append-wakes : (now : ℕ) (place : SourcePlace) (delay : ℕ) (updates : List (Option ValueUpdate)) (tasks : List Task) → Wakes now (append_step place delay updates tasks)
append-wakes now place delay [] tasks = tt
append-wakes now place delay (update ∷ updates) tasks = tt

delay-wakes : (now line delay : ℕ) (tasks : List Task) → Wakes now (goes_on line (after_delay now delay tasks))
delay-wakes now line zero tasks = tt
delay-wakes now line (suc delay) tasks = omega arith

assigns-wakes : (now : ℕ) (place : SourcePlace) (delay : Option ℕ) (updates : List (Option ValueUpdate)) (tasks : List Task) → Wakes now (assignment_step place now delay updates tasks)
assigns-wakes now place None updates tasks = write-wakes now place updates tasks
assigns-wakes now place (Some delay) updates tasks = delay-wakes now place.line delay _

wait-wakes : (now : ℕ) (place : SourcePlace) (condition : Expression) (body : Statement) (tasks : List Task) (b : Bool) → Wakes now (wait_step place condition body tasks b)
wait-wakes now place condition body tasks true = tt
wait-wakes now place condition body tasks false = tt

statement-wakes : (now : ℕ) (operands : List LogicValue) (statement : Statement) (tasks : List Task) → Wakes now (statement_step now operands statement tasks)
statement-wakes now operands Null tasks = tt
statement-wakes now operands (Block inner) tasks = tt
statement-wakes now operands (If place condition first second) tasks = reads-wakes now place.line _ operands (read_expression condition operands) _ (λ value. tt)
statement-wakes now operands (Case place kind value items default) tasks = reads-wakes now place.line _ operands (read_case kind value items default operands) _ (λ statement. tt)
statement-wakes now operands (For place first_targets first condition next_targets next body) tasks =
    reads-wakes now place.line _ operands (read_assignment place.line first_targets first operands) _ (λ updates. write-wakes now place updates _)
statement-wakes now operands (While place condition body) tasks = reads-wakes now place.line _ operands (read_expression condition operands) _ (λ value. tt)
statement-wakes now operands (Repeat place count body) tasks = reads-wakes now place.line _ operands (read_expression count operands) _ (λ value. tt)
statement-wakes now operands (Forever place body) tasks = tt
statement-wakes now operands (Delay place delay body) tasks = delay-wakes now place.line delay _
statement-wakes now operands (EventControl place entries body) tasks = tt
statement-wakes now operands (Wait place condition body) tasks =
    reads-wakes now place.line _ operands (read_expression condition operands) _ (λ value. wait-wakes now place condition body tasks _)
statement-wakes now operands (Blocking place targets delay value) tasks =
    reads-wakes now place.line _ operands (read_assignment place.line targets value operands) _ (λ updates. assigns-wakes now place delay updates tasks)
statement-wakes now operands (Nonblocking place targets delay value) tasks =
    reads-wakes now place.line _ operands (read_assignment place.line targets value operands) _ (λ updates. append-wakes now place delay updates tasks)
statement-wakes now operands (Finish place) tasks = tt

end-wakes : (now : ℕ) (always : Bool) (body : Statement) → Wakes now (end_step always body)
end-wakes now true body = tt
end-wakes now false body = tt

turns-wakes : (now : ℕ) (place : SourcePlace) (count : ℕ) (body : Statement) (tasks : List Task) → Wakes now (turns_step place count body tasks)
turns-wakes now place zero body tasks = tt
turns-wakes now place (suc count) body tasks = tt

process-wakes : (process : FlatProcess) (now : ℕ) (tasks : List Task) (operands : List LogicValue) → Wakes now (process_step process now tasks operands)
process-wakes process now [] operands = end-wakes now process.always process.body
process-wakes process now (Run statement ∷ tasks) operands = statement-wakes now operands statement tasks
process-wakes process now (Turns place count body ∷ tasks) operands = turns-wakes now place count body tasks
process-wakes process now (Writes place updates ∷ tasks) operands = write-wakes now place updates tasks
process-wakes process now (Appends place delay updates ∷ tasks) operands = append-wakes now place delay updates tasks

-- a value that is read changes no sleep
wakes-next : (now : ℕ) (values : List LogicValue) (action : Action) (next : Activity) → WakesAfter now (holding_of next) → WakesAfter now (holding_of (next_activity values action next))
wakes-next now values (ReadsObject object) (Ready tasks operands) h = h
wakes-next now values (ReadsObject object) (Waiting place entries tasks) h = h
wakes-next now values (ReadsObject object) (Asleep time tasks) h = h
wakes-next now values (ReadsObject object) (Postponed tasks) h = h
wakes-next now values (ReadsObject object) Done h = h
wakes-next now values (WritesObject update) next h = h
wakes-next now values (AppendsUpdate delay update) next h = h
wakes-next now values TouchesNothing next h = h

-- whatever a process does next wakes later, if it was awake
pub step-wakes : (process : FlatProcess) (now : ℕ) (values : List LogicValue) (activity : Activity) → WakesAfter now (holding_of activity) →
    WakesAfter now (holding_of (next_activity values (step_from process now activity).action (step_from process now activity).next))
step-wakes process now values (Ready tasks operands) h =
    wakes-next now values (process_step process now tasks operands).action (process_step process now tasks operands).next (process-wakes process now tasks operands)
step-wakes process now values (Waiting place entries tasks) h = h
step-wakes process now values (Asleep time tasks) h = h
step-wakes process now values (Postponed tasks) h = h
step-wakes process now values Done h = h
