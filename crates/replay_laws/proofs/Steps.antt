-- A step of a process keeps its delays under 2^32, and who sleeps after it wakes later than now and less than 2^32 steps later.
use Rattle.std.proofs.Common.{ℕ, zero, suc, ◌+◌, ◌≤◌, List, [], ◌∷◌, Bool, true, false, arith}
use Rattle.std.specs.Prelude.{Option, Some, None}
use Rattle.vf_base.specs.Base.{SourcePlace}
use Rattle.vf_base.specs.Lists.{AllHold}
use Rattle.four_value.specs.Values.{LogicValue, is_true, natural_number}
use Rattle.four_value.specs.declared.operator.CaseKind.{CaseKind}
use Rattle.v_design.specs.Trees.{Expression, Statement, Null, Block, If, Case, For, While, Repeat, Forever, Delay, EventControl, Wait, Blocking, Nonblocking, Finish}
use Rattle.v_design.specs.Trees.{Statements, no_statements, more_statements, CaseItems, no_items, more_items}
use Rattle.v_design.specs.Expressions.{Progress, Needs, Has, then_with, read_expression, read_each, sign_of, width_of}
use Rattle.v_design.specs.Sized.{IsSizedStatement, AreSizedStatements, AreSizedItems, IsDelay, IsDelayIf}
use Rattle.v_design.specs.Designs.{FlatProcess, Machine}
use Rattle.v_design.specs.Assignments.{ValueUpdate, read_assignment, some_label_matches}
use Rattle.v_design.specs.Processes.{Task, Run, Turns, Writes, Appends, Activity, Ready, Waiting, Asleep, Postponed, Done, Action, ReadsObject, WritesObject, AppendsUpdate, TouchesNothing}
use Rattle.v_design.specs.Processes.{ProcessStep, opened, opened_all, after_delay, reads_or, write_step, append_step, assignment_step, turns_step, wait_step, statement_step, end_step, process_step}
use Rattle.v_design.specs.Processes.{writes_left, write_action, append_action, turns_to, either_statement, read_items, read_case, loop_of, turns_of}
use Rattle.v_design.specs.States.{State, source_at, activity_step, next_activity}
use Rattle.replay_laws.specs.Times.{HasDelays, WakesWithin}

abbrev pub AllDelays : List Task → Type 0
AllDelays tasks = AllHold HasDelays tasks

-- what a step appends has a delay under 2^32
abbrev pub ActionWithin : Action → Type 0
ActionWithin (ReadsObject object) = Unit {0}
ActionWithin (WritesObject update) = Unit {0}
ActionWithin (AppendsUpdate delay update) = IsDelay delay
ActionWithin TouchesNothing = Unit {0}

abbrev pub StepWithin : ℕ → ℕ → ProcessStep → Type 0
StepWithin now latest step = WakesWithin now latest step.next × ActionWithin step.action

-- Statements that are opened

mutual
  opened-delays : (statement : Statement) (tasks : List Task) → IsSizedStatement statement → AllDelays tasks → AllDelays (opened statement tasks)
  opened-delays Null tasks h k = k
  opened-delays (Block statements) tasks h k = opened_all-delays statements tasks h k
  opened-delays (If place condition first second) tasks h k = (h, k)
  opened-delays (Case place kind value items default) tasks h k = (h, k)
  opened-delays (For place first_targets first condition next_targets next body) tasks h k = (h, k)
  opened-delays (While place condition body) tasks h k = (h, k)
  opened-delays (Repeat place count body) tasks h k = (h, k)
  opened-delays (Forever place body) tasks h k = (h, k)
  opened-delays (Delay place delay body) tasks h k = (h, k)
  opened-delays (EventControl place entries body) tasks h k = (h, k)
  opened-delays (Wait place condition body) tasks h k = (h, k)
  opened-delays (Blocking place targets delay value) tasks h k = (h, k)
  opened-delays (Nonblocking place targets delay value) tasks h k = (h, k)
  opened-delays (Finish place) tasks h k = (h, k)

  opened_all-delays : (statements : Statements) (tasks : List Task) → AreSizedStatements statements → AllDelays tasks → AllDelays (opened_all statements tasks)
  opened_all-delays no_statements tasks h k = k
  opened_all-delays (more_statements first rest) tasks h k = opened-delays first (opened_all rest tasks) h.0 (opened_all-delays rest tasks h.1 k)

pub body-delays : (statement : Statement) → IsSizedStatement statement → AllDelays (opened statement [])
body-delays statement h = opened-delays statement [] h tt

either-sized : (b : Bool) (first second : Statement) → IsSizedStatement first → IsSizedStatement second → IsSizedStatement (either_statement b first second)
either-sized true first second h k = h
either-sized false first second h k = k

-- What reading gives

abbrev Gives : {A : Type 0} → (A → Type 0) → Progress A → Type 0
Gives Q (Needs object) = Unit {0}
Gives Q (Has answer left) = Q answer

anything : {A : Type 0} (found : Progress A) → Gives (λ (a : A). Unit {0}) found
anything (Needs object) = tt
anything (Has answer left) = tt

then-gives : {A B : Type 0} (Q : B → Type 0) (found : Progress A) (next : A → List LogicValue → Progress B) → ((a : A) (left : List LogicValue) → Gives Q (next a left)) →
    Gives Q (then_with found next)
then-gives Q (Needs object) next h = tt
then-gives Q (Has answer left) next h = h answer left

items-give : (width : ℕ) (signed : Bool) (kind : CaseKind) (value : LogicValue) (items : CaseItems) (default : Statement) (operands : List LogicValue) → AreSizedItems width signed items →
    IsSizedStatement default → Gives IsSizedStatement (read_items kind value items default operands)
items-give width signed kind value no_items default operands h k = k
items-give width signed kind value (more_items labels statement rest) default operands h k =
    then-gives IsSizedStatement (read_each labels operands) _
    (λ read others. choose read (read_items kind value rest default others) (items-give width signed kind value rest default others h.2 k))
  where
    choose : (read : List LogicValue) (found : Progress Statement) → Gives IsSizedStatement found →
        Gives IsSizedStatement (then_with found (λ otherwise left. Has (either_statement (some_label_matches kind value read) statement otherwise) left))
    choose read (Needs object) g = tt
    choose read (Has otherwise left) g = either-sized (some_label_matches kind value read) statement otherwise h.1 g

-- Steps

reads-within : {A : Type 0} (Q : A → Type 0) (now latest line : ℕ) (tasks : List Task) (operands : List LogicValue) (found : Progress A) (act : A → ProcessStep) → AllDelays tasks →
    Gives Q found → ((a : A) → Q a → StepWithin now latest (act a)) →
    StepWithin now latest (reads_or line tasks operands found act)
reads-within Q now latest line tasks operands (Needs object) act k g h = (k, tt)
reads-within Q now latest line tasks operands (Has answer left) act k g h = h answer g

delay-within : (now latest delay : ℕ) (tasks : List Task) → now + 4294967296 ≤ latest → IsDelay delay → AllDelays tasks → WakesWithin now latest (after_delay now delay tasks)
delay-within now latest zero tasks low d k = k
delay-within now latest (suc delay) tasks low d k = (omega arith, omega (arith, low, d), k)

left-delays : (place : SourcePlace) (updates : List (Option ValueUpdate)) (tasks : List Task) → AllDelays tasks → AllDelays (writes_left place updates tasks)
left-delays place [] tasks k = k
left-delays place (update ∷ updates) tasks k = (tt, k)

write-action : (update : Option ValueUpdate) → ActionWithin (write_action update)
write-action None = tt
write-action (Some update) = tt

write-within : (now latest : ℕ) (place : SourcePlace) (updates : List (Option ValueUpdate)) (tasks : List Task) → AllDelays tasks → StepWithin now latest (write_step place updates tasks)
write-within now latest place [] tasks k = (k, tt)
write-within now latest place (update ∷ updates) tasks k = (left-delays place updates tasks k, write-action update)

append-action : (delay : ℕ) (update : Option ValueUpdate) → IsDelay delay → ActionWithin (append_action delay update)
append-action delay None d = tt
append-action delay (Some update) d = d

append-within : (now latest : ℕ) (place : SourcePlace) (delay : ℕ) (updates : List (Option ValueUpdate)) (tasks : List Task) → IsDelay delay → AllDelays tasks →
    StepWithin now latest (append_step place delay updates tasks)
append-within now latest place delay [] tasks d k = (k, tt)
append-within now latest place delay (update ∷ []) tasks d k = (k, append-action delay update d)
append-within now latest place delay (update ∷ (next ∷ updates)) tasks d k = ((d, k), append-action delay update d)

assigns-within : (now latest : ℕ) (place : SourcePlace) (delay : Option ℕ) (updates : List (Option ValueUpdate)) (tasks : List Task) → now + 4294967296 ≤ latest → IsDelayIf delay →
    AllDelays tasks → StepWithin now latest (assignment_step place now delay updates tasks)
assigns-within now latest place None updates tasks low d k = write-within now latest place updates tasks k
assigns-within now latest place (Some delay) updates tasks low d k = (delay-within now latest delay (writes_left place updates tasks) low d (left-delays place updates tasks k), tt)

wait-within : (now latest : ℕ) (place : SourcePlace) (condition : Expression) (body : Statement) (tasks : List Task) (b : Bool) → IsSizedStatement (Wait place condition body) →
    AllDelays tasks → StepWithin now latest (wait_step place condition body tasks b)
wait-within now latest place condition body tasks true h k = (opened-delays body tasks h.1 k, tt)
wait-within now latest place condition body tasks false h k = ((h, k), tt)

turns-within : (now latest : ℕ) (place : SourcePlace) (count : ℕ) (body : Statement) (tasks : List Task) → IsSizedStatement body → AllDelays tasks →
    StepWithin now latest (turns_step place count body tasks)
turns-within now latest place zero body tasks h k = (k, tt)
turns-within now latest place (suc count) body tasks h k = (opened-delays body (Turns place count body ∷ tasks) h (h, k), tt)

end-within : (now latest : ℕ) (always : Bool) (body : Statement) → IsSizedStatement body → StepWithin now latest (end_step always body)
end-within now latest true body h = (body-delays body h, tt)
end-within now latest false body h = (tt, tt)

statement-within : (now latest : ℕ) (operands : List LogicValue) (statement : Statement) (tasks : List Task) → now + 4294967296 ≤ latest → IsSizedStatement statement → AllDelays tasks →
    StepWithin now latest (statement_step now operands statement tasks)
statement-within now latest operands Null tasks low h k = (k, tt)
statement-within now latest operands (Block inner) tasks low h k = (opened_all-delays inner tasks h k, tt)
statement-within now latest operands (If place condition first second) tasks low h k =
    reads-within (λ (a : LogicValue). Unit {0}) now latest place.line (Run (If place condition first second) ∷ tasks) operands (read_expression condition operands)
    (λ value. turns_to place.line (opened (either_statement (is_true value) first second) tasks)) (h, k) (anything (read_expression condition operands))
    (λ value u. (opened-delays (either_statement (is_true value) first second) tasks (either-sized (is_true value) first second h.1 h.2) k, tt))
statement-within now latest operands (Case place kind value items default) tasks low h k =
    reads-within IsSizedStatement now latest place.line (Run (Case place kind value items default) ∷ tasks) operands (read_case kind value items default operands)
    (λ statement. turns_to place.line (opened statement tasks)) (h, k)
    (then-gives IsSizedStatement (read_expression value operands) _ (λ bits others. items-give (width_of value) (sign_of value) kind bits items default others h.2 h.3))
    (λ statement s. (opened-delays statement tasks s k, tt))
statement-within now latest operands (For place first_targets first condition next_targets next body) tasks low h k =
    reads-within (λ (a : List (Option ValueUpdate)). Unit {0}) now latest place.line (Run (For place first_targets first condition next_targets next body) ∷ tasks) operands
    (read_assignment place.line first_targets first operands) (λ updates. write_step place updates (Run (loop_of place condition next_targets next body) ∷ tasks)) (h, k)
    (anything (read_assignment place.line first_targets first operands))
    (λ updates u. write-within now latest place updates (Run (loop_of place condition next_targets next body) ∷ tasks) ((h.1, (h.3, ((h.2, tt), tt))), k))
statement-within now latest operands (While place condition body) tasks low h k =
    reads-within (λ (a : LogicValue). Unit {0}) now latest place.line (Run (While place condition body) ∷ tasks) operands (read_expression condition operands)
    (λ value. turns_to place.line (opened (either_statement (is_true value) (Block (more_statements body (more_statements (While place condition body) no_statements))) Null) tasks)) (h, k)
    (anything (read_expression condition operands))
    (λ value u. (
      opened-delays (either_statement (is_true value) (Block (more_statements body (more_statements (While place condition body) no_statements))) Null) tasks
          (either-sized (is_true value) (Block (more_statements body (more_statements (While place condition body) no_statements))) Null (h.1, (h, tt)) tt) k,
      tt,
    ))
statement-within now latest operands (Repeat place count body) tasks low h k =
    reads-within (λ (a : LogicValue). Unit {0}) now latest place.line (Run (Repeat place count body) ∷ tasks) operands (read_expression count operands)
    (λ value. turns_to place.line (Turns place (turns_of (natural_number (sign_of count) value)) body ∷ tasks)) (h, k) (anything (read_expression count operands))
    (λ value u. ((h.1, k), tt))
statement-within now latest operands (Forever place body) tasks low h k = (opened-delays body (Run (Forever place body) ∷ tasks) h (h, k), tt)
statement-within now latest operands (Delay place delay body) tasks low h k = (delay-within now latest delay (opened body tasks) low h.0 (opened-delays body tasks h.1 k), tt)
statement-within now latest operands (EventControl place entries body) tasks low h k = (opened-delays body tasks h.1 k, tt)
statement-within now latest operands (Wait place condition body) tasks low h k =
    reads-within (λ (a : LogicValue). Unit {0}) now latest place.line (Run (Wait place condition body) ∷ tasks) operands (read_expression condition operands)
    (λ value. wait_step place condition body tasks (is_true value)) (h, k) (anything (read_expression condition operands))
    (λ value u. wait-within now latest place condition body tasks (is_true value) h k)
statement-within now latest operands (Blocking place targets delay value) tasks low h k =
    reads-within (λ (a : List (Option ValueUpdate)). Unit {0}) now latest place.line (Run (Blocking place targets delay value) ∷ tasks) operands
    (read_assignment place.line targets value operands) (λ updates. assignment_step place now delay updates tasks) (h, k) (anything (read_assignment place.line targets value operands))
    (λ updates u. assigns-within now latest place delay updates tasks low h.1 k)
statement-within now latest operands (Nonblocking place targets delay value) tasks low h k =
    reads-within (λ (a : List (Option ValueUpdate)). Unit {0}) now latest place.line (Run (Nonblocking place targets delay value) ∷ tasks) operands
    (read_assignment place.line targets value operands) (λ updates. append_step place delay updates tasks) (h, k) (anything (read_assignment place.line targets value operands))
    (λ updates u. append-within now latest place delay updates tasks h.1 k)
statement-within now latest operands (Finish place) tasks low h k = (tt, tt)

step-within : (process : FlatProcess) (now latest : ℕ) (tasks : List Task) (operands : List LogicValue) → now + 4294967296 ≤ latest → IsSizedStatement process.body → AllDelays tasks →
    StepWithin now latest (process_step process now tasks operands)
step-within process now latest [] operands low s k = end-within now latest process.always process.body s
step-within process now latest (Run statement ∷ tasks) operands low s k = statement-within now latest operands statement tasks low k.0 k.1
step-within process now latest (Turns place count body ∷ tasks) operands low s k = turns-within now latest place count body tasks k.0 k.1
step-within process now latest (Writes place updates ∷ tasks) operands low s k = write-within now latest place updates tasks k.1
step-within process now latest (Appends place delay updates ∷ tasks) operands low s k = append-within now latest place delay updates tasks k.0 k.1

-- the step that a process takes in a state
pub activity-within : (machine : Machine) (state : State) (number latest : ℕ) (activity : Activity) → state.time + 4294967296 ≤ latest → IsSizedStatement (source_at machine number).body →
    WakesWithin state.time latest activity → StepWithin state.time latest (activity_step machine state number activity)
activity-within machine state number latest (Ready tasks operands) low s h = step-within (source_at machine number) state.time latest tasks operands low s h
activity-within machine state number latest (Waiting place entries tasks) low s h = (h, tt)
activity-within machine state number latest (Asleep time tasks) low s h = (h, tt)
activity-within machine state number latest (Postponed tasks) low s h = (h, tt)
activity-within machine state number latest Done low s h = (tt, tt)

-- what it does then
pub next-within : (now latest : ℕ) (values : List LogicValue) (action : Action) (next : Activity) → WakesWithin now latest next → WakesWithin now latest (next_activity values action next)
next-within now latest values (ReadsObject object) (Ready tasks operands) h = h
next-within now latest values (ReadsObject object) (Waiting place entries tasks) h = h
next-within now latest values (ReadsObject object) (Asleep time tasks) h = h
next-within now latest values (ReadsObject object) (Postponed tasks) h = h
next-within now latest values (ReadsObject object) Done h = tt
next-within now latest values (WritesObject update) next h = h
next-within now latest values (AppendsUpdate delay update) next h = h
next-within now latest values TouchesNothing next h = h
