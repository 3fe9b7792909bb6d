-- The lines of the statements at which a process stands (IEEE 1364-2001, clause 9).
use Rattle.std.specs.Prelude.{◌≡◌, ℕ, zero, suc, ◌+◌, List, [], ◌∷◌, Option, Some, None, refl, Bool, true, false}
use Rattle.vf_base.specs.Base.{SourcePlace}
use Rattle.four_value.specs.Values.{LogicValue}
use Rattle.v_design.specs.Trees.{Statement, Null, Block, If, Case, For, While, Repeat, Forever, Delay, EventControl, Wait, Blocking, Nonblocking, Finish}
use Rattle.v_design.specs.Expressions.{Progress, Needs, Has, sign_of, read_expression}
use Rattle.v_design.specs.Designs.{FlatProcess}
use Rattle.v_design.specs.Assignments.{ValueUpdate, read_assignment}
use Rattle.v_design.specs.Processes.{Task, Run, Turns, Writes, Appends, ProcessStep, reads_or, write_step, append_step, assignment_step, wait_step, end_step, turns_step, statement_step}
use Rattle.v_design.specs.Processes.{process_step, read_case}
use Rattle.process_code.specs.Rests.{Part, Runs, TurnsLeft}

-- the line of a statement; a null statement and a block take no step
abbrev pub line_of : Statement → ℕ
line_of Null = 0
line_of (Block inner) = 0
line_of (If place condition first second) = place.line
line_of (Case place kind value items default) = place.line
line_of (For place first_targets first condition next_targets next body) = place.line
line_of (While place condition body) = place.line
line_of (Repeat place count body) = place.line
line_of (Forever place body) = place.line
line_of (Delay place delay body) = place.line
line_of (EventControl place entries body) = place.line
line_of (Wait place condition body) = place.line
line_of (Blocking place targets delay value) = place.line
line_of (Nonblocking place targets delay value) = place.line
line_of (Finish place) = place.line

-- the line of what is first in a rest
abbrev pub line_of_part : Part → ℕ
line_of_part (Runs statement) = line_of statement
line_of_part (TurnsLeft number place body) = place.line

-- the line of a task
abbrev pub line_of_task : Task → ℕ
line_of_task (Run statement) = line_of statement
line_of_task (Turns place count body) = place.line
line_of_task (Writes place updates) = place.line
line_of_task (Appends place delay updates) = place.line

-- the line of the first of some tasks; 0 at the end of the body
abbrev pub line_of_tasks : List Task → ℕ
line_of_tasks [] = 0
line_of_tasks (task ∷ tasks) = line_of_task task

-- A step has the line of the first task

reads-line : {A : Type 0} (line : ℕ) (tasks : List Task) (operands : List LogicValue) (progress : Progress A) (act : A → ProcessStep) → ((answer : A) → (act answer).line ≡ line) →
    (reads_or line tasks operands progress act).line ≡ line
reads-line line tasks operands (Needs object) act same = refl
reads-line line tasks operands (Has answer left) act same = same answer

write-line : (place : SourcePlace) (updates : List (Option ValueUpdate)) (tasks : List Task) → (write_step place updates tasks).line ≡ place.line
write-line place [] tasks = refl
write-line place (update ∷ updates) tasks = refl

append-line : (place : SourcePlace) (delay : ℕ) (updates : List (Option ValueUpdate)) (tasks : List Task) → (append_step place delay updates tasks).line ≡ place.line
append-line place delay [] tasks = refl
append-line place delay (update ∷ updates) tasks = refl

assigns-line : (place : SourcePlace) (now : ℕ) (delay : Option ℕ) (updates : List (Option ValueUpdate)) (tasks : List Task) → (assignment_step place now delay updates tasks).line ≡ place.line
assigns-line place now None updates tasks = write-line place updates tasks
assigns-line place now (Some delay) updates tasks = refl

wait-line : (place : SourcePlace) (condition : _) (body : Statement) (tasks : List Task) (b : Bool) → (wait_step place condition body tasks b).line ≡ place.line
wait-line place condition body tasks true = refl
wait-line place condition body tasks false = refl

statement-line : (now : ℕ) (operands : List LogicValue) (statement : Statement) (tasks : List Task) → (statement_step now operands statement tasks).line ≡ line_of statement
statement-line now operands Null tasks = refl
statement-line now operands (Block inner) tasks = refl
statement-line now operands (If place condition first second) tasks = reads-line place.line _ operands (read_expression condition operands) _ (λ value. refl)
statement-line now operands (Case place kind value items default) tasks = reads-line place.line _ operands (read_case kind value items default operands) _ (λ statement. refl)
statement-line now operands (For place first_targets first condition next_targets next body) tasks =
    reads-line place.line _ operands (read_assignment place.line first_targets first operands) _ (λ updates. write-line place updates _)
statement-line now operands (While place condition body) tasks = reads-line place.line _ operands (read_expression condition operands) _ (λ value. refl)
statement-line now operands (Repeat place count body) tasks = reads-line place.line _ operands (read_expression count operands) _ (λ value. refl)
statement-line now operands (Forever place body) tasks = refl
statement-line now operands (Delay place delay body) tasks = refl
statement-line now operands (EventControl place entries body) tasks = refl
statement-line now operands (Wait place condition body) tasks =
    reads-line place.line _ operands (read_expression condition operands) _ (λ value. wait-line place condition body tasks _)
statement-line now operands (Blocking place targets delay value) tasks =
    reads-line place.line _ operands (read_assignment place.line targets value operands) _ (λ updates. assigns-line place now delay updates tasks)
statement-line now operands (Nonblocking place targets delay value) tasks =
    reads-line place.line _ operands (read_assignment place.line targets value operands) _ (λ updates. append-line place delay updates tasks)
statement-line now operands (Finish place) tasks = refl

end-line : (always : Bool) (body : Statement) → (end_step always body).line ≡ 0
end-line true body = refl
end-line false body = refl

turns-line : (place : SourcePlace) (count : ℕ) (body : Statement) (tasks : List Task) → (turns_step place count body tasks).line ≡ place.line
turns-line place zero body tasks = refl
turns-line place (suc count) body tasks = refl

-- whatever the time and the operands
pub step-line : (process : FlatProcess) (now : ℕ) (tasks : List Task) (operands : List LogicValue) → (process_step process now tasks operands).line ≡ line_of_tasks tasks
step-line process now [] operands = end-line process.always process.body
step-line process now (Run statement ∷ tasks) operands = statement-line now operands statement tasks
step-line process now (Turns place count body ∷ tasks) operands = turns-line place count body tasks
step-line process now (Writes place updates ∷ tasks) operands = write-line place updates tasks
step-line process now (Appends place delay updates ∷ tasks) operands = append-line place delay updates tasks
