-- A step that ends a run touches nothing: it leaves all nodes, all values and all other processes as they are.
use Rattle.std.proofs.Common.{◌≡◌, ℕ, zero, suc, List, [], ◌∷◌, Bool, true, false, refl, ap, ◌∙◌, ◌⊎◌, inl, inr}
use Rattle.std.specs.Prelude.{◌≢◌, Option, Some, None, slice_get}
use Rattle.four_value.specs.Values.{LogicValue, is_true}
use Rattle.vf_base.specs.Base.{SourcePlace}
use Rattle.vf_base.specs.Lists.{change_at}
use Rattle.v_design.specs.Trees.{Expression, Statement, Null, Block, If, Case, For, While, Repeat, Forever, Delay, EventControl, Wait, Blocking, Nonblocking, Finish}
use Rattle.v_design.specs.Expressions.{Progress, Needs, Has, read_expression}
use Rattle.v_design.specs.Designs.{FlatProcess, Machine}
use Rattle.v_design.specs.Assignments.{ValueUpdate, read_assignment}
use Rattle.v_design.specs.Processes.{Task, Run, Turns, Writes, Appends, Activity, Ready, Waiting, Asleep, Postponed, Done, Action, TouchesNothing, ProcessStep, reads_or, write_step, append_step}
use Rattle.v_design.specs.Processes.{assignment_step, read_case, turns_step, loop_of, wait_step, statement_step, end_step, process_step}
use Rattle.v_design.specs.States.{State, ProcessState, Step, activity_step, step_of, process_at, source_at, write_of, is_ready, found_or, idle_process, after, after_step, with_process, written_if, next_activity}
use Rattle.copy_laws.proofs.Parts.{changed-elsewhere}
use Rattle.phase_blocks.proofs.Lists.{true-false}

-- the step leaves its process ready, or it touches nothing
abbrev ReadyOrTouches : ProcessStep → Type 0
ReadyOrTouches step = (is_ready step.next ≡ true) ⊎ (step.action ≡ TouchesNothing)

reads-ready : {A : Type 0} (line : ℕ) (tasks : List Task) (operands : List LogicValue) (p : Progress A) (act : A → ProcessStep) → ((a : A) → ReadyOrTouches (act a)) →
    ReadyOrTouches (reads_or line tasks operands p act)
reads-ready line tasks operands (Needs object) act h = inl refl
reads-ready line tasks operands (Has answer left) act h = h answer

write-ready : (place : SourcePlace) (updates : List (Option ValueUpdate)) (tasks : List Task) → ReadyOrTouches (write_step place updates tasks)
write-ready place [] tasks = inl refl
write-ready place (update ∷ updates) tasks = inl refl

append-ready : (place : SourcePlace) (delay : ℕ) (updates : List (Option ValueUpdate)) (tasks : List Task) → ReadyOrTouches (append_step place delay updates tasks)
append-ready place delay [] tasks = inl refl
append-ready place delay (update ∷ updates) tasks = inl refl

assignment-ready : (place : SourcePlace) (now : ℕ) (delay : Option ℕ) (updates : List (Option ValueUpdate)) (tasks : List Task) → ReadyOrTouches (assignment_step place now delay updates tasks)
assignment-ready place now None updates tasks = write-ready place updates tasks
assignment-ready place now (Some delay) updates tasks = inr refl

turns-ready : (place : SourcePlace) (count : ℕ) (body : Statement) (tasks : List Task) → ReadyOrTouches (turns_step place count body tasks)
turns-ready place zero body tasks = inr refl
turns-ready place (suc count) body tasks = inr refl

wait-ready : (place : SourcePlace) (condition : Expression) (body : Statement) (tasks : List Task) (b : Bool) → ReadyOrTouches (wait_step place condition body tasks b)
wait-ready place condition body tasks true = inr refl
wait-ready place condition body tasks false = inr refl

statement-ready : (now : ℕ) (operands : List LogicValue) (statement : Statement) (tasks : List Task) → ReadyOrTouches (statement_step now operands statement tasks)
statement-ready now operands Null tasks = inr refl
statement-ready now operands (Block inner) tasks = inr refl
statement-ready now operands (If place condition first second) tasks =
    reads-ready place.line (Run (If place condition first second) ∷ tasks) operands (read_expression condition operands) _ (λ value. inr refl)
statement-ready now operands (Case place kind value items default) tasks =
    reads-ready place.line (Run (Case place kind value items default) ∷ tasks) operands (read_case kind value items default operands) _ (λ statement. inr refl)
statement-ready now operands (For place first_targets first condition next_targets next body) tasks =
    reads-ready place.line (Run (For place first_targets first condition next_targets next body) ∷ tasks) operands (read_assignment place.line first_targets first operands) _
    (λ updates. write-ready place updates (Run (loop_of place condition next_targets next body) ∷ tasks))
statement-ready now operands (While place condition body) tasks =
    reads-ready place.line (Run (While place condition body) ∷ tasks) operands (read_expression condition operands) _ (λ value. inr refl)
statement-ready now operands (Repeat place count body) tasks =
    reads-ready place.line (Run (Repeat place count body) ∷ tasks) operands (read_expression count operands) _ (λ value. inr refl)
statement-ready now operands (Forever place body) tasks = inr refl
statement-ready now operands (Delay place delay body) tasks = inr refl
statement-ready now operands (EventControl place entries body) tasks = inr refl
statement-ready now operands (Wait place condition body) tasks =
    reads-ready place.line (Run (Wait place condition body) ∷ tasks) operands (read_expression condition operands) _ (λ value. wait-ready place condition body tasks (is_true value))
statement-ready now operands (Blocking place targets delay value) tasks =
    reads-ready place.line (Run (Blocking place targets delay value) ∷ tasks) operands (read_assignment place.line targets value operands) _
    (λ updates. assignment-ready place now delay updates tasks)
statement-ready now operands (Nonblocking place targets delay value) tasks =
    reads-ready place.line (Run (Nonblocking place targets delay value) ∷ tasks) operands (read_assignment place.line targets value operands) _
    (λ updates. append-ready place delay updates tasks)
statement-ready now operands (Finish place) tasks = inr refl

end-ready : (always : Bool) (body : Statement) → ReadyOrTouches (end_step always body)
end-ready true body = inr refl
end-ready false body = inr refl

step-ready : (process : FlatProcess) (now : ℕ) (tasks : List Task) (operands : List LogicValue) → ReadyOrTouches (process_step process now tasks operands)
step-ready process now [] operands = end-ready process.always process.body
step-ready process now (Run statement ∷ tasks) operands = statement-ready now operands statement tasks
step-ready process now (Turns place count body ∷ tasks) operands = turns-ready place count body tasks
step-ready process now (Writes place updates ∷ tasks) operands = write-ready place updates tasks
step-ready process now (Appends place delay updates ∷ tasks) operands = append-ready place delay updates tasks

activity-ready : (machine : Machine) (state : State) (number : ℕ) (activity : Activity) → ReadyOrTouches (activity_step machine state number activity)
activity-ready machine state number (Ready tasks operands) = step-ready (source_at machine number) state.time tasks operands
activity-ready machine state number (Waiting place entries tasks) = inr refl
activity-ready machine state number (Asleep time tasks) = inr refl
activity-ready machine state number (Postponed tasks) = inr refl
activity-ready machine state number Done = inr refl

touches-nothing : (machine : Machine) (state : State) (p : ℕ) → is_ready (step_of machine state p).next ≡ false → (step_of machine state p).action ≡ TouchesNothing
touches-nothing machine state p stops = elim (activity-ready machine state p (process_at state p).activity) [
  | inl ready ↦ true-false (is_ready (step_of machine state p).next) ready stops
  | inr nothing ↦ nothing
]

-- The state behind such a step

stopped : (machine : Machine) (state : State) (p : ℕ) → is_ready (step_of machine state p).next ≡ false →
    after machine state (Step p) ≡ with_process p (after_step state (step_of machine state p)) state
stopped machine state p stops =
    ap (λ (a : Action). written_if machine (write_of a) (with_process p (after_step state (step_of machine state p)) state)) (touches-nothing machine state p stops)

pub stopped-nodes : (machine : Machine) (state : State) (p : ℕ) → is_ready (step_of machine state p).next ≡ false → (after machine state (Step p)).nodes ≡ state.nodes
stopped-nodes machine state p stops = ap (λ (s : State). s.nodes) (stopped machine state p stops)

pub stopped-other : (machine : Machine) (state : State) (p q : ℕ) → p ≢ q → is_ready (step_of machine state p).next ≡ false →
    process_at (after machine state (Step p)) q ≡ process_at state q
stopped-other machine state p q apart stops =
    ap (λ (s : State). process_at s q) (stopped machine state p stops)
    ∙ changed-elsewhere idle_process state.processes p (after_step state (step_of machine state p)) q apart

own-changed : (change : ProcessState → ProcessState) → ((s : ProcessState) → is_ready (change s).activity ≡ false) → (xs : List ProcessState) (p : ℕ) →
    is_ready (found_or idle_process (slice_get (change_at xs p change) p)).activity ≡ false
own-changed change h [] p = refl
own-changed change h (x ∷ xs) zero = h x
own-changed change h (x ∷ xs) (suc p) = own-changed change h xs p

pub stopped-own : (machine : Machine) (state : State) (p : ℕ) → is_ready (step_of machine state p).next ≡ false → is_ready (process_at (after machine state (Step p)) p).activity ≡ false
stopped-own machine state p stops =
    ap (λ (s : State). is_ready (process_at s p).activity) (stopped machine state p stops)
    ∙ own-changed (after_step state (step_of machine state p))
    (λ s. ap (λ (a : Action). is_ready (next_activity state.values a (step_of machine state p).next)) (touches-nothing machine state p stops) ∙ stops) state.processes p
