-- A step that begins a wait touches no object.
use Rattle.std.proofs.Common.{◌≡◌, ℕ, zero, suc, List, [], ◌∷◌, Bool, true, false, refl, sym, ap, ◌∙◌, ◌⊎◌, inl, inr}
use Rattle.std.specs.Prelude.{Option, Some, None}
use Rattle.four_value.specs.Values.{LogicValue, is_true}
use Rattle.vf_base.specs.Base.{SourcePlace}
use Rattle.v_design.specs.Trees.{Expression, Entry, Statement, Null, Block, If, Case, For, While, Repeat, Forever, Delay, EventControl, Wait, Blocking, Nonblocking, Finish}
use Rattle.v_design.specs.Expressions.{Progress, Needs, Has, read_expression}
use Rattle.v_design.specs.Designs.{FlatProcess, Machine}
use Rattle.v_design.specs.Assignments.{ValueUpdate, read_assignment}
use Rattle.v_design.specs.Processes.{Task, Run, Turns, Writes, Appends, Activity, Ready, Waiting, Asleep, Postponed, Done, TouchesNothing, ProcessStep, reads_or, write_step, append_step}
use Rattle.v_design.specs.Processes.{assignment_step, read_case, turns_step, loop_of, wait_step, statement_step, end_step, process_step}
use Rattle.v_design.specs.States.{State, Step, activity_step, step_of, process_at, source_at, write_of}
use Rattle.v_design.specs.Accesses.{waiting_entries}
use Rattle.order_laws.proofs.Unaffected.{write_by, awaits_by}

-- the step begins no wait, or it touches nothing
abbrev pub WaitsOrTouches : ProcessStep → Type 0
WaitsOrTouches step = (waiting_entries step.next ≡ []) ⊎ (step.action ≡ TouchesNothing)

reads-wait : {A : Type 0} (line : ℕ) (tasks : List Task) (operands : List LogicValue) (p : Progress A) (act : A → ProcessStep) → ((a : A) → WaitsOrTouches (act a)) →
    WaitsOrTouches (reads_or line tasks operands p act)
reads-wait line tasks operands (Needs object) act h = inl refl
reads-wait line tasks operands (Has answer left) act h = h answer

write-waits : (place : SourcePlace) (updates : List (Option ValueUpdate)) (tasks : List Task) → WaitsOrTouches (write_step place updates tasks)
write-waits place [] tasks = inl refl
write-waits place (update ∷ updates) tasks = inl refl

append-waits : (place : SourcePlace) (delay : ℕ) (updates : List (Option ValueUpdate)) (tasks : List Task) → WaitsOrTouches (append_step place delay updates tasks)
append-waits place delay [] tasks = inl refl
append-waits place delay (update ∷ updates) tasks = inl refl

assignment-waits : (place : SourcePlace) (now : ℕ) (delay : Option ℕ) (updates : List (Option ValueUpdate)) (tasks : List Task) → WaitsOrTouches (assignment_step place now delay updates tasks)
assignment-waits place now None updates tasks = write-waits place updates tasks
assignment-waits place now (Some delay) updates tasks = inr refl

turns-waits : (place : SourcePlace) (count : ℕ) (body : Statement) (tasks : List Task) → WaitsOrTouches (turns_step place count body tasks)
turns-waits place zero body tasks = inr refl
turns-waits place (suc count) body tasks = inr refl

wait-waits : (place : SourcePlace) (condition : Expression) (body : Statement) (tasks : List Task) (b : Bool) → WaitsOrTouches (wait_step place condition body tasks b)
wait-waits place condition body tasks true = inr refl
wait-waits place condition body tasks false = inr refl

statement-waits : (now : ℕ) (operands : List LogicValue) (statement : Statement) (tasks : List Task) → WaitsOrTouches (statement_step now operands statement tasks)
statement-waits now operands Null tasks = inr refl
statement-waits now operands (Block inner) tasks = inr refl
statement-waits now operands (If place condition first second) tasks =
    reads-wait place.line (Run (If place condition first second) ∷ tasks) operands (read_expression condition operands) _ (λ value. inr refl)
statement-waits now operands (Case place kind value items default) tasks =
    reads-wait place.line (Run (Case place kind value items default) ∷ tasks) operands (read_case kind value items default operands) _ (λ statement. inr refl)
statement-waits now operands (For place first_targets first condition next_targets next body) tasks =
    reads-wait place.line (Run (For place first_targets first condition next_targets next body) ∷ tasks) operands (read_assignment place.line first_targets first operands) _
    (λ updates. write-waits place updates (Run (loop_of place condition next_targets next body) ∷ tasks))
statement-waits now operands (While place condition body) tasks = reads-wait place.line (Run (While place condition body) ∷ tasks) operands (read_expression condition operands) _ (λ value. inr refl)
statement-waits now operands (Repeat place count body) tasks = reads-wait place.line (Run (Repeat place count body) ∷ tasks) operands (read_expression count operands) _ (λ value. inr refl)
statement-waits now operands (Forever place body) tasks = inr refl
statement-waits now operands (Delay place delay body) tasks = inr refl
statement-waits now operands (EventControl place entries body) tasks = inr refl
statement-waits now operands (Wait place condition body) tasks =
    reads-wait place.line (Run (Wait place condition body) ∷ tasks) operands (read_expression condition operands) _ (λ value. wait-waits place condition body tasks (is_true value))
statement-waits now operands (Blocking place targets delay value) tasks =
    reads-wait place.line (Run (Blocking place targets delay value) ∷ tasks) operands (read_assignment place.line targets value operands) _ (λ updates. assignment-waits place now delay updates tasks)
statement-waits now operands (Nonblocking place targets delay value) tasks =
    reads-wait place.line (Run (Nonblocking place targets delay value) ∷ tasks) operands (read_assignment place.line targets value operands) _ (λ updates. append-waits place delay updates tasks)
statement-waits now operands (Finish place) tasks = inr refl

end-waits : (always : Bool) (body : Statement) → WaitsOrTouches (end_step always body)
end-waits true body = inr refl
end-waits false body = inr refl

pub step-waits : (process : FlatProcess) (now : ℕ) (tasks : List Task) (operands : List LogicValue) → WaitsOrTouches (process_step process now tasks operands)
step-waits process now [] operands = end-waits process.always process.body
step-waits process now (Run statement ∷ tasks) operands = statement-waits now operands statement tasks
step-waits process now (Turns place count body ∷ tasks) operands = turns-waits place count body tasks
step-waits process now (Writes place updates ∷ tasks) operands = write-waits place updates tasks
step-waits process now (Appends place delay updates ∷ tasks) operands = append-waits place delay updates tasks

pub activity-waits : (machine : Machine) (state : State) (number : ℕ) (activity : Activity) → WaitsOrTouches (activity_step machine state number activity)
activity-waits machine state number (Ready tasks operands) = step-waits (source_at machine number) state.time tasks operands
activity-waits machine state number (Waiting place entries tasks) = inr refl
activity-waits machine state number (Asleep time tasks) = inr refl
activity-waits machine state number (Postponed tasks) = inr refl
activity-waits machine state number Done = inr refl

-- so a step that begins a wait writes nothing, and changes no value
pub waiting-writes-nothing : (machine : Machine) (state : State) (number : ℕ) (entry : Entry) (entries : List Entry) → awaits_by machine state (Step number) ≡ entry ∷ entries →
    write_by machine state (Step number) ≡ None
waiting-writes-nothing machine state number entry entries e = go (activity-waits machine state number (process_at state number).activity)
  where
    not_empty : [] ≡ entry ∷ entries → write_by machine state (Step number) ≡ None
    not_empty f = cc

    go : WaitsOrTouches (step_of machine state number) → write_by machine state (Step number) ≡ None
    go (inl none) = not_empty (sym none ∙ e)
    go (inr nothing) = ap write_of nothing
