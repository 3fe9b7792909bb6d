-- What a process reads next is an object of the design (IEEE 1364-2001, clause 9).
use Rattle.std.proofs.Common.{◌≡◌, ℕ, zero, suc, ◌+◌, ◌<◌, Bool, true, false, List, [], ◌∷◌, ◌++◌, length, map, get_or, refl, sym, ap, ◌∙◌, subst, arith}
use Rattle.std.specs.Prelude.{Option, Some, None, IfSome, slice_get}
use Rattle.std.specs.Option.{option_map}
use Rattle.four_value.specs.Values.{LogicValue}
use Rattle.vf_base.specs.Base.{SourcePlace}
use Rattle.vf_base.specs.Lists.{AllHold}
use Rattle.v_design.specs.Trees.{Expression, Statement, Null, Block, If, Case, For, While, Repeat, Forever, Delay, EventControl, Wait, Blocking, Nonblocking, Finish}
use Rattle.v_design.specs.Reads.{named_in, named_in_targets, named_by, named_by_items}
use Rattle.v_design.specs.Expressions.{Progress, Needs, Has, read_expression}
use Rattle.v_design.specs.Assignments.{ValueUpdate, read_assignment}
use Rattle.v_design.specs.Designs.{FlatDesign, FlatProcess, Machine}
use Rattle.v_design.specs.Plain.{statement_of}
use Rattle.v_design.specs.PlainDesigns.{design_of}
use Rattle.v_design.specs.Processes.{Task, Run, Turns, Writes, Appends, ProcessStep, process_step, reads_or, write_step, append_step, assignment_step, turns_step, wait_step, end_step, statement_step, read_case}
use Rattle.v_design.specs.RulesHold.{rules_hold}
use Rattle.v_design.specs.States.{State, ProcessState, found_or, step_of}
use Rattle.process_operands.specs.Bounds.{Bounds, reads_most, reads_most_items, reads_most_targets}
use Rattle.process_operands.specs.BoundsLaws.{AreBelow, bounds-expression, bounds-case, bounds-assignment}
use Rattle.process_code.specs.Codes.{rests_in_code}
use Rattle.process_code.specs.Points.{Point, point_of, tasks_at, updates_left, activity_of, activity_by}
use Rattle.process_code.specs.Rests.{Part, Runs, TurnsLeft, tasks_of}
use Rattle.process_code.specs.StatesOf.{IsStateOf, IsPartWithin}
use Rattle.process_code.specs.declared.code.Code.{Code}
use Rattle.process_code.specs.declared.state.ProcState.{ProcState}
use Rattle.process_code.specs.declared.state.Stage.{Stage}
use Rattle.process_code.specs.declared.state.Stage.TheVariants as stages
use Rattle.process_table.specs.declared.row.Row.{Row}
use Rattle.process_table.specs.declared.table.ProcessTable.{ProcessTable}
use Rattle.process_table.specs.Arranged.{IsKept, table_of}
use Rattle.process_table.specs.Deeds.{read_of}
use Rattle.process_table.specs.Rows.{RowState, IsGoodRow, row_state, row_states, state_at, text_at, step_from}
use Rattle.process_table.specs.Tables.{TableState, IsTableOf}
use Rattle.process_table.specs.Waited.{body_of}
use Rattle.process_table.proofs.Bodies.{bodies-below, left, right}
use Rattle.process_table.proofs.Changed.{no_row}
use Rattle.process_table.proofs.CodesAt.{code-at}
use Rattle.process_table.proofs.Lists.{AllHold-at}
use Rattle.process_table.proofs.Steps.{step-of}
use Rattle.process_table.proofs.TableCalls.{process-row}

-- a step reads an object with a number below a limit, if it reads one
abbrev StepReads : ℕ → ProcessStep → Type 0
StepReads limit step = IfSome (read_of step.action) (λ (object : ℕ). object < limit)

-- what a step reads that needs an operand, or acts with what was read
reads-below : {A : Type 0} (most limit line : ℕ) (tasks : List Task) (operands : List LogicValue) (progress : Progress A) (act : A → ProcessStep) → Bounds most limit operands progress →
    ((answer : A) → StepReads limit (act answer)) → StepReads limit (reads_or line tasks operands progress act)
reads-below most limit line tasks operands (Needs object) act bounds acts = bounds.0
reads-below most limit line tasks operands (Has answer left) act bounds acts = acts answer

write-below : (limit : ℕ) (place : SourcePlace) (updates : List (Option ValueUpdate)) (tasks : List Task) → StepReads limit (write_step place updates tasks)
write-below limit place [] tasks = tt
write-below limit place (None ∷ updates) tasks = tt
write-below limit place (Some update ∷ updates) tasks = tt

append-below : (limit : ℕ) (place : SourcePlace) (delay : ℕ) (updates : List (Option ValueUpdate)) (tasks : List Task) → StepReads limit (append_step place delay updates tasks)
append-below limit place delay [] tasks = tt
append-below limit place delay (None ∷ updates) tasks = tt
append-below limit place delay (Some update ∷ updates) tasks = tt

assignment-below : (limit : ℕ) (place : SourcePlace) (now : ℕ) (delay : Option ℕ) (updates : List (Option ValueUpdate)) (tasks : List Task) →
    StepReads limit (assignment_step place now delay updates tasks)
assignment-below limit place now None updates tasks = write-below limit place updates tasks
assignment-below limit place now (Some delay) updates tasks = tt

wait-below : (limit : ℕ) (place : SourcePlace) (condition : Expression) (body : Statement) (tasks : List Task) (holds : Bool) → StepReads limit (wait_step place condition body tasks holds)
wait-below limit place condition body tasks true = tt
wait-below limit place condition body tasks false = tt

statement-below : (limit now : ℕ) (operands : List LogicValue) (statement : Statement) (tasks : List Task) → AreBelow limit (named_by statement) →
    StepReads limit (statement_step now operands statement tasks)
statement-below limit now operands Null tasks h = tt
statement-below limit now operands (Block many) tasks h = tt
statement-below limit now operands (If place condition first second) tasks h =
    reads-below (reads_most condition) limit _ _ operands (read_expression condition operands) _
    (bounds-expression limit condition operands (left _ (named_in condition) (named_by first ++ named_by second) h)) (λ value. tt)
statement-below limit now operands (Case place kind value items default) tasks h =
    reads-below (reads_most value + reads_most_items items) limit _ _ operands (read_case kind value items default operands) _
    (bounds-case limit kind value items default operands (left _ (named_in value) (named_by_items items ++ named_by default) h)
    (left _ (named_by_items items) (named_by default) (right _ (named_in value) (named_by_items items ++ named_by default) h)))
    (λ statement. tt)
statement-below limit now operands (For place first_targets first condition next_targets next body) tasks h =
    reads-below (reads_most first + reads_most_targets first_targets) limit _ _ operands (read_assignment place.line first_targets first operands) _
    (bounds-assignment limit place.line first_targets first operands (left _ (named_in_targets first_targets) _ h)
    (left _ (named_in first) _ (right _ (named_in_targets first_targets) _ h)))
    (λ updates. write-below limit place updates _)
statement-below limit now operands (While place condition body) tasks h =
    reads-below (reads_most condition) limit _ _ operands (read_expression condition operands) _
    (bounds-expression limit condition operands (left _ (named_in condition) (named_by body) h)) (λ value. tt)
statement-below limit now operands (Repeat place count body) tasks h =
    reads-below (reads_most count) limit _ _ operands (read_expression count operands) _
    (bounds-expression limit count operands (left _ (named_in count) (named_by body) h)) (λ value. tt)
statement-below limit now operands (Forever place body) tasks h = tt
statement-below limit now operands (Delay place delay body) tasks h = tt
statement-below limit now operands (EventControl place entries body) tasks h = tt
statement-below limit now operands (Wait place condition body) tasks h =
    reads-below (reads_most condition) limit _ _ operands (read_expression condition operands) _
    (bounds-expression limit condition operands (left _ (named_in condition) (named_by body) h)) (λ value. wait-below limit place condition body tasks _)
statement-below limit now operands (Blocking place targets delay value) tasks h =
    reads-below (reads_most value + reads_most_targets targets) limit _ _ operands (read_assignment place.line targets value operands) _
    (bounds-assignment limit place.line targets value operands (left _ (named_in_targets targets) (named_in value) h) (right _ (named_in_targets targets) (named_in value) h))
    (λ updates. assignment-below limit place now delay updates tasks)
statement-below limit now operands (Nonblocking place targets delay value) tasks h =
    reads-below (reads_most value + reads_most_targets targets) limit _ _ operands (read_assignment place.line targets value operands) _
    (bounds-assignment limit place.line targets value operands (left _ (named_in_targets targets) (named_in value) h) (right _ (named_in_targets targets) (named_in value) h))
    (λ updates. append-below limit place delay updates tasks)
statement-below limit now operands (Finish place) tasks h = tt

end-below : (limit : ℕ) (always : Bool) (body : Statement) → StepReads limit (end_step always body)
end-below limit true body = tt
end-below limit false body = tt

turns-below : (limit : ℕ) (place : SourcePlace) (count : ℕ) (body : Statement) (tasks : List Task) → StepReads limit (turns_step place count body tasks)
turns-below limit place zero body tasks = tt
turns-below limit place (suc count) body tasks = tt

-- behind the updates that are left stands the first part of the rest
step-below : (limit : ℕ) (process : FlatProcess) (now : ℕ) (body : Statement) (place : SourcePlace) (delay : Option ℕ) (updates : List (Option ValueUpdate)) (counts : List ℕ) (rest : List Part)
    (operands : List LogicValue) → AreBelow limit (named_by body) → AllHold (IsPartWithin body) rest →
    StepReads limit (process_step process now (updates_left place delay updates (tasks_of counts rest)) operands)
step-below limit process now body place None [] counts [] operands h within = end-below limit process.always process.body
step-below limit process now body place None [] counts (Runs statement ∷ rest) operands h within = statement-below limit now operands statement (tasks_of counts rest) (within.0.below limit h)
step-below limit process now body place None [] counts (TurnsLeft number turn inner ∷ rest) operands h within = turns-below limit turn (get_or counts number 0) inner (tasks_of counts rest)
step-below limit process now body place (Some delay) [] counts [] operands h within = end-below limit process.always process.body
step-below limit process now body place (Some delay) [] counts (Runs statement ∷ rest) operands h within = statement-below limit now operands statement (tasks_of counts rest) (within.0.below limit h)
step-below limit process now body place (Some delay) [] counts (TurnsLeft number turn inner ∷ rest) operands h within = turns-below limit turn (get_or counts number 0) inner (tasks_of counts rest)
step-below limit process now body place None (update ∷ updates) counts rest operands h within = write-below limit place (update ∷ updates) (tasks_of counts rest)
step-below limit process now body place (Some delay) (update ∷ updates) counts rest operands h within = append-below limit place delay (update ∷ updates) (tasks_of counts rest)

rest-at : (rests : List (List Part)) (position : ℕ) (rest : List Part) → slice_get rests position ≡ Some rest → get_or rests position [] ≡ rest
rest-at [] position rest e = absurd (cc)
rest-at (first ∷ rests) zero rest e = cc
rest-at (first ∷ rests) (suc position) rest e = rest-at rests position rest e

-- of a state of a code
state-below : (limit : ℕ) (process : FlatProcess) (now : ℕ) (code : Code) (state : ProcState) → IsStateOf code state → AreBelow limit (named_by (statement_of code.process.now.body)) →
    StepReads limit (step_from process now (activity_of code state))
state-below limit process now code state is h = go state.stage
  where
    go : (stage : Stage) → StepReads limit (step_from process now (activity_by (rests_in_code code) (point_of state) stage))
    go stages.Ready =
        subst (λ (rest : List Part). StepReads limit (process_step process now (updates_left (point_of state).place (point_of state).delay (point_of state).updates
        (tasks_of (point_of state).counts rest)) (point_of state).operands)) (sym (rest-at (rests_in_code code) state.position is.rest.rest is.rest.stands))
        (step-below limit process now (statement_of code.process.now.body) (point_of state).place (point_of state).delay (point_of state).updates (point_of state).counts is.rest.rest
        (point_of state).operands h is.rest.within)
    go (stages.Waiting at) = tt
    go (stages.Asleep time) = tt
    go stages.Postponed = tt
    go stages.Done = tt

-- of a row
state-found : (rows : List Row) (p : ℕ) → state_at (row_states rows) p ≡ found_or no_row (option_map row_state (slice_get rows p))
state-found [] p = refl
state-found (row ∷ rows) zero = refl
state-found (row ∷ rows) (suc p) = state-found rows p

found-low : (rows : List Row) (p : ℕ) (row : Row) → slice_get rows p ≡ Some row → (p < length rows) × (row ≡ get_or rows p row)
found-low [] p row e = absurd (cc)
found-low (first ∷ rows) zero row e = (omega arith, (let same : first ≡ row = cc in sym same))
found-low (first ∷ rows) (suc p) row e = let rest = found-low rows p row e in (omega (arith, rest.0), rest.1)

-- the number of objects of a table's design
abbrev objects_of : ProcessTable → ℕ
objects_of t = length (design_of t.design.now).objects

-- what a process of a table reads next
pub reads-there : (t : ProcessTable) → IsKept t → (machine : Machine) (state : State) → IsTableOf machine state (table_of t) → (p : ℕ) →
    IfSome (read_of (step_of machine state p).action) (λ (object : ℕ). object < length (design_of t.design.now).objects)
reads-there t kept machine state of p =
    subst (StepReads (objects_of t)) (sym step) (go (slice_get t.rows.items p) refl)
  where
    step : step_of machine state p ≡ step_from (text_at (design_of t.design.now).processes p) t.time (found_or no_row (option_map row_state (slice_get t.rows.items p))).activity
    step =
        step-of machine state (table_of t) p of
        ∙ ap (λ (process : ProcessState). step_from (text_at (design_of t.design.now).processes p) t.time process.activity)
        (process-row (design_of t.design.now) t.time t.rows.items t.index t.ready t.lanes t.queue kept p)
        ∙ ap (λ (row : RowState). step_from (text_at (design_of t.design.now).processes p) t.time row.activity) (state-found t.rows.items p)

    go : (found : Option Row) → slice_get t.rows.items p ≡ found →
        StepReads (objects_of t) (step_from (text_at (design_of t.design.now).processes p) t.time (found_or no_row (option_map row_state found)).activity)
    go None e = tt
    go (Some row) e =
        let low = found-low t.rows.items p row e in
        let at = code-at t kept p row low.0 low.1 in
        state-below (objects_of t) (text_at (design_of t.design.now).processes p) t.time row.code row.state (AllHold-at IsGoodRow t.rows.items p row kept.good low.0 low.1).state
        (subst (λ (process : Option FlatProcess). AreBelow (objects_of t) (named_by (found_or (text_at [] 0) process).body)) at.process_is
        (bodies-below (design_of t.design.now) (rules_hold (design_of t.design.now) t.design.now.rules) p))
