-- Each form of a statement: where a process stands after a step of it (IEEE 1364-2001, clause 9).
use Rattle.std.proofs.Common.{◌≡◌, ℕ, zero, suc, ◌+◌, ◌<◌, Bool, true, false, List, [], ◌∷◌, ◌++◌, length, get_or, set, Option, Some, None, refl, sym, ap, ◌∙◌, subst, arith, get_or-set_same}
use Rattle.std.specs.Prelude.{if◌then◌else◌}
use Rattle.std.proofs.lemmas.Option.{get_or_from_slice_get}
use Rattle.vf_base.specs.Base.{SourcePlace}
use Rattle.four_value.specs.Values.{LogicValue, is_true, natural_number}
use Rattle.four_value.specs.declared.operator.CaseKind.{CaseKind}
use Rattle.v_design.specs.Trees.{Entry, Expression, Target, Statement, Null, Block, If, Case, For, While, Repeat, Forever, Delay, EventControl, Wait, Blocking, Nonblocking, Finish, no_statements}
use Rattle.v_design.specs.Trees.{more_statements, CaseItems}
use Rattle.v_design.specs.Expressions.{sign_of, Progress, Needs, Has, read_expression}
use Rattle.v_design.specs.Assignments.{ValueUpdate, value_at, read_assignment}
use Rattle.v_design.specs.Designs.{FlatProcess}
use Rattle.v_design.specs.Processes.{Task, Run, Activity, ProcessStep, ReadsObject, TouchesNothing, process_step, end_step, reads_or, turns_to, goes_on, after_delay, opened, either_statement}
use Rattle.v_design.specs.Processes.{read_case, turns_of, turns_step, loop_of, write_step, write_action, writes_left, append_step, append_action, appends_left, assignment_step, wait_step}
use Rattle.v_design.specs.Processes as activities
use Rattle.v_design.specs.States.{next_activity}
use Rattle.process_code.specs.Rests.{Part, Runs, TurnsLeft, opened_parts, tasks_of, NumbersFall}
use Rattle.process_code.specs.RestsLaws.{tasks_of-opened, tasks_of-set}
use Rattle.process_code.specs.Positions.{StandsAt}
use Rattle.process_code.specs.Points.{Point, tasks_at, updates_left, wait_place, wait_entries, activity_at, activity_by, StepSaid, SaysRead, SaysWrite, SaysLater, SaysAwait, SaysSleep, SaysZero}
use Rattle.process_code.specs.Points.{SaysFinished, SaysInner, said_of, said_of_activity, IsStep, ready_at, left_at, said_write, said_append, stage_after, said_delay}
use Rattle.process_code.specs.declared.state.Stage.{Stage}
use Rattle.process_code.specs.declared.state.Stage.TheVariants.{Ready, Waiting, Asleep, Postponed, Done}

-- Points

-- no updates left are no task
pub updates_left-none : (place : SourcePlace) (delay : Option ℕ) (tasks : List Task) → updates_left place delay [] tasks ≡ tasks
updates_left-none place None tasks = refl
updates_left-none place (Some delay) tasks = refl

rest-is : (rests : List (List Part)) (position : ℕ) (rest : List Part) → StandsAt rests position rest → get_or rests position [] ≡ rest
rest-is rests position rest h = get_or_from_slice_get rests position rest [] h

-- the tasks at a position with no updates left
pub tasks-ready : (rests : List (List Part)) (position : ℕ) (rest : List Part) (counts : List ℕ) (place : SourcePlace) (delay : Option ℕ) → StandsAt rests position rest →
    updates_left place delay [] (tasks_of counts (get_or rests position [])) ≡ tasks_of counts rest
tasks-ready rests position rest counts place delay h = updates_left-none place delay _ ∙ ap (tasks_of counts) (rest-is rests position rest h)

-- what a process does that is ready at a position
pub activity-ready : (rests : List (List Part)) (position : ℕ) (rest : List Part) (operands : List LogicValue) (counts : List ℕ) (place : SourcePlace) (delay : Option ℕ) →
    StandsAt rests position rest → activity_at rests (ready_at position operands counts place delay) ≡ activities.Ready (tasks_of counts rest) operands
activity-ready rests position rest operands counts place delay h = ap (λ tasks. activities.Ready tasks operands) (tasks-ready rests position rest counts place delay h)

-- the tasks of an opened statement
opened-tasks : (counts : List ℕ) (s : Statement) (rest : List Part) → opened s (tasks_of counts rest) ≡ tasks_of counts (opened_parts s rest)
opened-tasks counts s rest = sym (tasks_of-opened counts s rest)

-- Steps of any statement

-- a step that reads an object
pub step-reads : {A : Type 0} (now : ℕ) (values : List LogicValue) (rests : List (List Part)) (position : ℕ) (rest : List Part) (operands : List LogicValue) (counts : List ℕ) (place : SourcePlace)
    (delay : Option ℕ)
    (line object : ℕ) (progress : Progress A) (act : A → ProcessStep) (step : ProcessStep) →
    StandsAt rests position rest → step ≡ reads_or line (tasks_of counts rest) operands progress act → progress ≡ Needs object →
    IsStep now values rests step (ready_at position (operands ++ (value_at values object ∷ [])) counts place delay) (SaysRead object)
step-reads now values rests position rest operands counts place delay line object progress act step h e needs =
    let known : step ≡ record { line = line; action = ReadsObject object; next = activities.Ready (tasks_of counts rest) operands } =
    e ∙ ap (λ pr. reads_or line (tasks_of counts rest) operands pr act) needs in
    let P : ProcessStep → Type 0 = λ s. IsStep now values rests s (ready_at position (operands ++ (value_at values object ∷ [])) counts place delay) (SaysRead object) in
    subst P (sym known) (record { activity = activity-ready rests position rest (operands ++ (value_at values object ∷ [])) counts place delay h; says = refl })

-- a step that touches no object and goes on at a position
pub step-inner : (now : ℕ) (values : List LogicValue) (rests : List (List Part)) (position : ℕ) (rest : List Part) (counts : List ℕ) (place : SourcePlace) (delay : Option ℕ) (line : ℕ)
    (step : ProcessStep) →
    StandsAt rests position rest → step ≡ turns_to line (tasks_of counts rest) → IsStep now values rests step (ready_at position [] counts place delay) SaysInner
step-inner now values rests position rest counts place delay line step h e =
    let P : ProcessStep → Type 0 = λ s. IsStep now values rests s (ready_at position [] counts place delay) SaysInner in
    subst P (sym e) (record { activity = activity-ready rests position rest [] counts place delay h; says = refl })

-- a write of the first update that is left
pub step-write : (now : ℕ) (values : List LogicValue) (rests : List (List Part)) (position : ℕ) (rest : List Part) (counts : List ℕ) (place : SourcePlace)
    (update : Option ValueUpdate) (updates : List (Option ValueUpdate)) (step : ProcessStep) →
    StandsAt rests position rest → step ≡ write_step place (update ∷ updates) (tasks_of counts rest) →
    IsStep now values rests step (left_at Ready position counts place None updates) (said_write update)
step-write now values rests position rest counts place update updates step h e =
    let here : activity_at rests (left_at Ready position counts place None updates) ≡ activities.Ready (writes_left place updates (tasks_of counts rest)) [] =
    ap (λ r. activities.Ready (writes_left place updates (tasks_of counts r)) []) (rest-is rests position rest h) in
    let P : ProcessStep → Type 0 = λ s. IsStep now values rests s (left_at Ready position counts place None updates) (said_write update) in
    let Q : Option ValueUpdate → Type 0 = λ u. IsStep now values rests (write_step place (u ∷ updates) (tasks_of counts rest)) (left_at Ready position counts place None updates) (said_write u) in
    subst P (sym e) (elim update as Q [ None ↦ record { activity = here; says = refl } | Some u ↦ record { activity = here; says = refl } ])

-- an append of the first update that is left
pub step-append : (now : ℕ) (values : List LogicValue) (rests : List (List Part)) (position : ℕ) (rest : List Part) (counts : List ℕ) (place : SourcePlace) (delay : ℕ)
    (update : Option ValueUpdate) (updates : List (Option ValueUpdate)) (step : ProcessStep) →
    StandsAt rests position rest → step ≡ append_step place delay (update ∷ updates) (tasks_of counts rest) →
    IsStep now values rests step (left_at Ready position counts place (Some delay) updates) (said_append (now + delay) update)
step-append now values rests position rest counts place delay update updates step h e =
    let here : activity_at rests (left_at Ready position counts place (Some delay) updates) ≡ activities.Ready (appends_left place delay updates (tasks_of counts rest)) [] =
    ap (λ r. activities.Ready (appends_left place delay updates (tasks_of counts r)) []) (rest-is rests position rest h) in
    let P : ProcessStep → Type 0 = λ s. IsStep now values rests s (left_at Ready position counts place (Some delay) updates) (said_append (now + delay) update) in
    let Q : Option ValueUpdate → Type 0 = λ u. IsStep now values rests (append_step place delay (u ∷ updates) (tasks_of counts rest)) (left_at Ready position counts place (Some delay) updates)
    (said_append (now + delay) u) in
    subst P (sym e) (elim update as Q [ None ↦ record { activity = here; says = refl } | Some u ↦ record { activity = here; says = refl } ])

-- a delay, before the updates that are left of an assignment and a rest
pub step-delay : (now : ℕ) (values : List LogicValue) (rests : List (List Part)) (position : ℕ) (rest : List Part) (counts : List ℕ) (place : SourcePlace) (line delay : ℕ)
    (updates : List (Option ValueUpdate)) (step : ProcessStep) →
    StandsAt rests position rest → step ≡ goes_on line (after_delay now delay (writes_left place updates (tasks_of counts rest))) →
    IsStep now values rests step (left_at (stage_after now delay) position counts place None updates) (said_delay now delay)
step-delay now values rests position rest counts place line delay updates step h e =
    let P : ProcessStep → Type 0 = λ s. IsStep now values rests s (left_at (stage_after now delay) position counts place None updates) (said_delay now delay) in
    let Q : ℕ → Type 0 = λ d. IsStep now values rests (goes_on line (after_delay now d (writes_left place updates (tasks_of counts rest))))
    (left_at (stage_after now d) position counts place None updates) (said_delay now d) in
    subst P (sym e) (elim delay as Q [
      | zero ↦ record { activity = ap (λ r. activities.Postponed (writes_left place updates (tasks_of counts r))) (rest-is rests position rest h); says = refl }
      | suc d ↦ record { activity = ap (λ r. activities.Asleep (now + suc d) (writes_left place updates (tasks_of counts r))) (rest-is rests position rest h); says = refl }
    ])

-- Branches

-- the branch that a condition chooses
pub either-stands : (rests : List (List Part)) (chosen : Bool) (first second : Statement) (inner other : ℕ) (rest : List Part) →
    StandsAt rests inner (opened_parts first rest) → StandsAt rests other (opened_parts second rest) →
    StandsAt rests (if chosen then inner else other) (opened_parts (either_statement chosen first second) rest)
either-stands rests true first second inner other rest h k = h
either-stands rests false first second inner other rest h k = k

-- an if that decides
pub step-if : (process : FlatProcess) (now : ℕ) (values : List LogicValue) (rests : List (List Part)) (operands left : List LogicValue) (counts : List ℕ) (old_place : SourcePlace) (delay : Option ℕ)
    (place : SourcePlace) (condition : Expression) (first second : Statement) (after : List Part) (inner other : ℕ) (value : LogicValue) →
    StandsAt rests inner (opened_parts first after) → StandsAt rests other (opened_parts second after) → read_expression condition operands ≡ Has value left →
    IsStep now values rests (process_step process now (tasks_of counts (Runs (If place condition first second) ∷ after)) operands)
    (ready_at (if is_true value then inner else other) [] counts old_place delay) SaysInner
step-if process now values rests operands left counts old_place delay place condition first second after inner other value h k has =
    step-inner now values rests (if is_true value then inner else other) (opened_parts (either_statement (is_true value) first second) after) counts old_place delay place.line _
    (either-stands rests (is_true value) first second inner other after h k)
    (ap (λ pr. reads_or place.line (Run (If place condition first second) ∷ tasks_of counts after) operands pr
    (λ v. turns_to place.line (opened (either_statement (is_true v) first second) (tasks_of counts after)))) has
    ∙ ap (turns_to place.line) (opened-tasks counts (either_statement (is_true value) first second) after))

-- a loop that decides: its body stands before the loop
pub step-while : (process : FlatProcess) (now : ℕ) (values : List LogicValue) (rests : List (List Part)) (operands left : List LogicValue) (counts : List ℕ) (old_place : SourcePlace)
    (delay : Option ℕ)
    (place : SourcePlace) (condition : Expression) (body : Statement) (after : List Part) (inner next : ℕ) (value : LogicValue) →
    StandsAt rests inner (opened_parts body (Runs (While place condition body) ∷ after)) → StandsAt rests next after → read_expression condition operands ≡ Has value left →
    IsStep now values rests (process_step process now (tasks_of counts (Runs (While place condition body) ∷ after)) operands)
    (ready_at (if is_true value then inner else next) [] counts old_place delay) SaysInner
step-while process now values rests operands left counts old_place delay place condition body after inner next value h k has =
    let again : Statement = Block (more_statements body (more_statements (While place condition body) no_statements)) in
    step-inner now values rests (if is_true value then inner else next) (opened_parts (either_statement (is_true value) again Null) after) counts old_place delay place.line _
    (either-stands rests (is_true value) again Null inner next after h k)
    (ap (λ pr. reads_or place.line (Run (While place condition body) ∷ tasks_of counts after) operands pr
    (λ v. turns_to place.line (opened (either_statement (is_true v) again Null) (tasks_of counts after)))) has
    ∙ ap (turns_to place.line) (opened-tasks counts (either_statement (is_true value) again Null) after))

-- a case that has chosen a statement
pub step-case : (process : FlatProcess) (now : ℕ) (values : List LogicValue) (rests : List (List Part)) (operands left : List LogicValue) (counts : List ℕ) (old_place : SourcePlace) (delay : Option ℕ)
    (place : SourcePlace) (kind : CaseKind) (value : Expression) (items : CaseItems) (default chosen : Statement) (after : List Part) (position : ℕ) →
    StandsAt rests position (opened_parts chosen after) → read_case kind value items default operands ≡ Has chosen left →
    IsStep now values rests (process_step process now (tasks_of counts (Runs (Case place kind value items default) ∷ after)) operands) (ready_at position [] counts old_place delay) SaysInner
step-case process now values rests operands left counts old_place delay place kind value items default chosen after position h has =
    step-inner now values rests position (opened_parts chosen after) counts old_place delay place.line _ h
    (ap (λ pr. reads_or place.line (Run (Case place kind value items default) ∷ tasks_of counts after) operands pr (λ s. turns_to place.line (opened s (tasks_of counts after)))) has
    ∙ ap (turns_to place.line) (opened-tasks counts chosen after))

-- Loops

-- a turn of a forever
pub step-forever : (process : FlatProcess) (now : ℕ) (values : List LogicValue) (rests : List (List Part)) (operands : List LogicValue) (counts : List ℕ) (old_place : SourcePlace) (delay : Option ℕ)
    (place : SourcePlace) (body : Statement) (after : List Part) (inner : ℕ) → StandsAt rests inner (opened_parts body (Runs (Forever place body) ∷ after)) →
    IsStep now values rests (process_step process now (tasks_of counts (Runs (Forever place body) ∷ after)) operands) (ready_at inner [] counts old_place delay) SaysInner
step-forever process now values rests operands counts old_place delay place body after inner h =
    step-inner now values rests inner _ counts old_place delay place.line _ h (ap (turns_to place.line) (opened-tasks counts body (Runs (Forever place body) ∷ after)))

-- the count of a repeat is fixed
pub step-repeat : (process : FlatProcess) (now : ℕ) (values : List LogicValue) (rests : List (List Part)) (operands left : List LogicValue) (counts : List ℕ) (old_place : SourcePlace)
    (delay : Option ℕ)
    (place : SourcePlace) (count : Expression) (body : Statement) (after : List Part) (number inner : ℕ) (value : LogicValue) → number < length counts → NumbersFall number after →
    StandsAt rests inner (TurnsLeft number place body ∷ after) → read_expression count operands ≡ Has value left →
    IsStep now values rests (process_step process now (tasks_of counts (Runs (Repeat place count body) ∷ after)) operands)
    (ready_at inner [] (set counts number (turns_of (natural_number (sign_of count) value))) old_place delay) SaysInner
step-repeat process now values rests operands left counts old_place delay place count body after number inner value low falls h has =
    let turns = turns_of (natural_number (sign_of count) value) in
    let fixed : get_or (set counts number turns) number 0 ≡ turns = rw get_or-set_same refl in
    step-inner now values rests inner _ (set counts number turns) old_place delay place.line _ h
    (ap (λ pr. reads_or place.line (Run (Repeat place count body) ∷ tasks_of counts after) operands pr
    (λ v. turns_to place.line (activities.Turns place (turns_of (natural_number (sign_of count) v)) body ∷ tasks_of counts after))) has
    ∙ ap (λ n. turns_to place.line (activities.Turns place n body ∷ tasks_of counts after)) (sym fixed)
    ∙ ap (λ tasks. turns_to place.line (activities.Turns place (get_or (set counts number turns) number 0) body ∷ tasks)) (sym (tasks_of-set counts number turns after falls)))

-- a turn of a repeat
pub step-turn : (process : FlatProcess) (now : ℕ) (values : List LogicValue) (rests : List (List Part)) (operands : List LogicValue) (counts : List ℕ) (old_place : SourcePlace) (delay : Option ℕ)
    (place : SourcePlace) (body : Statement) (after : List Part) (number inner count : ℕ) → number < length counts → NumbersFall number after → get_or counts number 0 ≡ suc count →
    StandsAt rests inner (opened_parts body (TurnsLeft number place body ∷ after)) →
    IsStep now values rests (process_step process now (tasks_of counts (TurnsLeft number place body ∷ after)) operands) (ready_at inner [] (set counts number count) old_place delay) SaysInner
step-turn process now values rests operands counts old_place delay place body after number inner count low falls more h =
    let fixed : get_or (set counts number count) number 0 ≡ count = rw get_or-set_same refl in
    step-inner now values rests inner _ (set counts number count) old_place delay place.line _ h
    (ap (λ n. turns_step place n body (tasks_of counts after)) more
    ∙ ap (λ n. turns_to place.line (opened body (activities.Turns place n body ∷ tasks_of counts after))) (sym fixed)
    ∙ ap (λ tasks. turns_to place.line (opened body (activities.Turns place (get_or (set counts number count) number 0) body ∷ tasks))) (sym (tasks_of-set counts number count after falls))
    ∙ ap (turns_to place.line) (opened-tasks (set counts number count) body (TurnsLeft number place body ∷ after)))

-- the end of a repeat
pub step-turns_end : (process : FlatProcess) (now : ℕ) (values : List LogicValue) (rests : List (List Part)) (operands : List LogicValue) (counts : List ℕ) (old_place : SourcePlace) (delay : Option ℕ)
    (place : SourcePlace) (body : Statement) (after : List Part) (number next : ℕ) → get_or counts number 0 ≡ 0 → StandsAt rests next after →
    IsStep now values rests (process_step process now (tasks_of counts (TurnsLeft number place body ∷ after)) operands) (ready_at next [] counts old_place delay) SaysInner
step-turns_end process now values rests operands counts old_place delay place body after number next none h =
    step-inner now values rests next after counts old_place delay place.line _ h (ap (λ n. turns_step place n body (tasks_of counts after)) none)

-- Delays and waits

-- a delay before a statement
pub step-delayed : (process : FlatProcess) (now : ℕ) (values : List LogicValue) (rests : List (List Part)) (operands : List LogicValue) (counts : List ℕ) (old_place : SourcePlace)
    (place : SourcePlace) (delay : ℕ) (body : Statement) (after : List Part) (inner : ℕ) → StandsAt rests inner (opened_parts body after) →
    IsStep now values rests (process_step process now (tasks_of counts (Runs (Delay place delay body) ∷ after)) operands) (left_at (stage_after now delay) inner counts old_place None [])
    (said_delay now delay)
step-delayed process now values rests operands counts old_place place delay body after inner h =
    step-delay now values rests inner _ counts old_place place.line delay [] _ h (ap (λ tasks. goes_on place.line (after_delay now delay tasks)) (opened-tasks counts body after))

-- what a process does that waits
pub activity-waiting : (rests : List (List Part)) (at position : ℕ) (rest own : List Part) (counts : List ℕ) (place : SourcePlace) (delay : Option ℕ) →
    StandsAt rests at own → StandsAt rests position rest →
    activity_at rests (left_at (Waiting at) position counts place delay []) ≡ activities.Waiting (wait_place own) (wait_entries own) (tasks_of counts rest)
activity-waiting rests at position rest own counts place delay h k =
    ap (λ r. activities.Waiting (wait_place r) (wait_entries r) (updates_left place delay [] (tasks_of counts (get_or rests position [])))) (rest-is rests at own h)
    ∙ ap (λ tasks. activities.Waiting (wait_place own) (wait_entries own) tasks) (tasks-ready rests position rest counts place delay k)

-- an event control begins its wait
pub step-event : (process : FlatProcess) (now : ℕ) (values : List LogicValue) (rests : List (List Part)) (operands : List LogicValue) (counts : List ℕ) (old_place : SourcePlace) (delay : Option ℕ)
    (place : SourcePlace) (entries : List Entry) (body : Statement) (after : List Part) (at inner : ℕ) →
    StandsAt rests at (Runs (EventControl place entries body) ∷ after) → StandsAt rests inner (opened_parts body after) →
    IsStep now values rests (process_step process now (tasks_of counts (Runs (EventControl place entries body) ∷ after)) operands) (left_at (Waiting at) inner counts old_place delay []) SaysAwait
step-event process now values rests operands counts old_place delay place entries body after at inner h k =
    record {
      activity = activity-waiting rests at inner _ (Runs (EventControl place entries body) ∷ after) counts old_place delay h k
          ∙ ap (λ tasks. activities.Waiting place entries tasks) (sym (opened-tasks counts body after));
      says = refl;
    }

-- a wait whose condition is true goes on
pub step-wait_over : (process : FlatProcess) (now : ℕ) (values : List LogicValue) (rests : List (List Part)) (operands left : List LogicValue) (counts : List ℕ) (old_place : SourcePlace)
    (delay : Option ℕ)
    (place : SourcePlace) (condition : Expression) (body : Statement) (after : List Part) (inner : ℕ) (value : LogicValue) →
    StandsAt rests inner (opened_parts body after) → read_expression condition operands ≡ Has value left → is_true value ≡ true →
    IsStep now values rests (process_step process now (tasks_of counts (Runs (Wait place condition body) ∷ after)) operands) (ready_at inner [] counts old_place delay) SaysInner
step-wait_over process now values rests operands left counts old_place delay place condition body after inner value h has holds =
    step-inner now values rests inner _ counts old_place delay place.line _ h
    (ap (λ pr. reads_or place.line (Run (Wait place condition body) ∷ tasks_of counts after) operands pr (λ v. wait_step place condition body (tasks_of counts after) (is_true v))) has
    ∙ ap (wait_step place condition body (tasks_of counts after)) holds
    ∙ ap (turns_to place.line) (opened-tasks counts body after))

-- a wait whose condition isn't true begins, and tests again after it
pub step-wait : (process : FlatProcess) (now : ℕ) (values : List LogicValue) (rests : List (List Part)) (operands left : List LogicValue) (counts : List ℕ) (old_place : SourcePlace) (delay : Option ℕ)
    (place : SourcePlace) (condition : Expression) (body : Statement) (after : List Part) (at : ℕ) (value : LogicValue) →
    StandsAt rests at (Runs (Wait place condition body) ∷ after) → read_expression condition operands ≡ Has value left → is_true value ≡ false →
    IsStep now values rests (process_step process now (tasks_of counts (Runs (Wait place condition body) ∷ after)) operands) (left_at (Waiting at) at counts old_place delay []) SaysAwait
step-wait process now values rests operands left counts old_place delay place condition body after at value h has fails =
    let known = ap (λ pr. reads_or place.line (Run (Wait place condition body) ∷ tasks_of counts after) operands pr (λ v. wait_step place condition body (tasks_of counts after) (is_true v))) has
    ∙ ap (wait_step place condition body (tasks_of counts after)) fails in
    let P : ProcessStep → Type 0 = λ s. IsStep now values rests s (left_at (Waiting at) at counts old_place delay []) SaysAwait in
    subst P (sym known) (record { activity = activity-waiting rests at at _ (Runs (Wait place condition body) ∷ after) counts old_place delay h h; says = refl })

-- Assignments

-- an assignment whose updates are known writes the first of them
pub step-blocking : (process : FlatProcess) (now : ℕ) (values : List LogicValue) (rests : List (List Part)) (operands left : List LogicValue) (counts : List ℕ)
    (place : SourcePlace) (targets : List Target) (value : Expression) (after : List Part) (next : ℕ) (update : Option ValueUpdate) (updates : List (Option ValueUpdate)) →
    StandsAt rests next after → read_assignment place.line targets value operands ≡ Has (update ∷ updates) left →
    IsStep now values rests (process_step process now (tasks_of counts (Runs (Blocking place targets None value) ∷ after)) operands) (left_at Ready next counts place None updates) (said_write update)
step-blocking process now values rests operands left counts place targets value after next update updates h has =
    step-write now values rests next after counts place update updates _ h
    (ap (λ pr. reads_or place.line (Run (Blocking place targets None value) ∷ tasks_of counts after) operands pr (λ us. assignment_step place now None us (tasks_of counts after))) has)

-- an assignment with a delay inside fixes its updates and stops
pub step-blocking_delay : (process : FlatProcess) (now : ℕ) (values : List LogicValue) (rests : List (List Part)) (operands left : List LogicValue) (counts : List ℕ)
    (place : SourcePlace) (targets : List Target) (delay : ℕ) (value : Expression) (after : List Part) (next : ℕ) (updates : List (Option ValueUpdate)) →
    StandsAt rests next after → read_assignment place.line targets value operands ≡ Has updates left →
    IsStep now values rests (process_step process now (tasks_of counts (Runs (Blocking place targets (Some delay) value) ∷ after)) operands)
    (left_at (stage_after now delay) next counts place None updates) (said_delay now delay)
step-blocking_delay process now values rests operands left counts place targets delay value after next updates h has =
    step-delay now values rests next after counts place place.line delay updates _ h
    (ap (λ pr. reads_or place.line (Run (Blocking place targets (Some delay) value) ∷ tasks_of counts after) operands pr (λ us. assignment_step place now (Some delay) us (tasks_of counts after))) has)

-- a nonblocking assignment appends the first of its updates
pub step-nonblocking : (process : FlatProcess) (now : ℕ) (values : List LogicValue) (rests : List (List Part)) (operands left : List LogicValue) (counts : List ℕ)
    (place : SourcePlace) (targets : List Target) (delay : ℕ) (value : Expression) (after : List Part) (next : ℕ) (update : Option ValueUpdate) (updates : List (Option ValueUpdate)) →
    StandsAt rests next after → read_assignment place.line targets value operands ≡ Has (update ∷ updates) left →
    IsStep now values rests (process_step process now (tasks_of counts (Runs (Nonblocking place targets delay value) ∷ after)) operands)
    (left_at Ready next counts place (Some delay) updates) (said_append (now + delay) update)
step-nonblocking process now values rests operands left counts place targets delay value after next update updates h has =
    step-append now values rests next after counts place delay update updates _ h
    (ap (λ pr. reads_or place.line (Run (Nonblocking place targets delay value) ∷ tasks_of counts after) operands pr (λ us. append_step place delay us (tasks_of counts after))) has)

-- the first assignment of a for
pub step-for : (process : FlatProcess) (now : ℕ) (values : List LogicValue) (rests : List (List Part)) (operands left : List LogicValue) (counts : List ℕ)
    (place : SourcePlace) (first_targets : List Target) (first condition : Expression) (next_targets : List Target) (next : Expression) (body : Statement) (after : List Part) (inner : ℕ)
    (update : Option ValueUpdate) (updates : List (Option ValueUpdate)) →
    StandsAt rests inner (Runs (loop_of place condition next_targets next body) ∷ after) → read_assignment place.line first_targets first operands ≡ Has (update ∷ updates) left →
    IsStep now values rests (process_step process now (tasks_of counts (Runs (For place first_targets first condition next_targets next body) ∷ after)) operands)
    (left_at Ready inner counts place None updates) (said_write update)
step-for process now values rests operands left counts place first_targets first condition next_targets next body after inner update updates h has =
    step-write now values rests inner _ counts place update updates _ h
    (ap (λ pr. reads_or place.line (Run (For place first_targets first condition next_targets next body) ∷ tasks_of counts after) operands pr
    (λ us. write_step place us (Run (loop_of place condition next_targets next body) ∷ tasks_of counts after))) has)

-- Ends

-- an initial that is done, and a finish
pub step-done : (now : ℕ) (values : List LogicValue) (rests : List (List Part)) (position : ℕ) (counts : List ℕ) (place : SourcePlace) (delay : Option ℕ) (line : ℕ) (step : ProcessStep) →
    step ≡ goes_on line activities.Done → IsStep now values rests step (left_at Done position counts place delay []) SaysFinished
step-done now values rests position counts place delay line step e =
    let P : ProcessStep → Type 0 = λ s. IsStep now values rests s (left_at Done position counts place delay []) SaysFinished in
    subst P (sym e) (record { activity = refl; says = refl })

-- an always begins again
pub step-again : (process : FlatProcess) (now : ℕ) (values : List LogicValue) (rests : List (List Part)) (start : ℕ) (operands : List LogicValue) (counts : List ℕ) (place : SourcePlace)
    (delay : Option ℕ) →
    process.always ≡ true → StandsAt rests start (opened_parts process.body []) → IsStep now values rests (process_step process now [] operands) (ready_at start [] counts place delay) SaysInner
step-again process now values rests start operands counts place delay always h =
    step-inner now values rests start _ counts place delay 0 _ h (ap (λ b. end_step b process.body) always ∙ ap (turns_to 0) (opened-tasks counts process.body []))
