-- What a step does at a point of the code is the step of the definition (IEEE 1364-2001, clause 9).
use Rattle.std.proofs.Common.{◌≡◌, ℕ, zero, suc, ◌+◌, ◌<◌, ◌≤◌, Bool, true, false, List, [], ◌∷◌, ◌++◌, length, get_or, set, Option, Some, None, refl, sym, ap, ◌∙◌, subst, arith}
use Rattle.std.specs.Prelude.{if◌then◌else◌}
use Rattle.vf_base.specs.Base.{SourcePlace}
use Rattle.four_value.specs.Values.{LogicValue, is_true, natural_number}
use Rattle.v_design.specs.Trees.{Entry, Expression, Target, Statement, Null, Block, If, Case, For, While, Repeat, Forever, Delay, EventControl, Wait, Blocking, Nonblocking, Finish, no_statements}
use Rattle.v_design.specs.Trees.{more_statements, CaseItems, no_items, more_items}
use Rattle.v_design.specs.Expressions.{sign_of, Progress, Needs, Has, read_expression}
use Rattle.v_design.specs.Assignments.{ValueUpdate, value_at, read_assignment}
use Rattle.v_design.specs.Designs.{FlatProcess}
use Rattle.v_design.specs.Processes.{Task, ProcessStep, process_step, reads_or, goes_on, end_step, read_case, write_step, append_step}
use Rattle.v_design.specs.Processes as activities
use Rattle.process_operands.specs.Choices.{chosen_by}
use Rattle.process_code.specs.Rests.{Part, Runs, TurnsLeft, opened_parts, tasks_of, NumbersFall}
use Rattle.process_code.specs.Positions.{StandsAt, ItemsLead, PartLeads}
use Rattle.process_code.specs.Points.{Point, StepSaid, SaysInner, IsStep, ready_at, left_at, said_write, said_append, said_update, TakesFirst, after_turn, stage_after, said_delay, tasks_at}
use Rattle.process_code.specs.Points.{updates_left}
use Rattle.process_code.specs.Acts.{Acts, GoesTo, Branches, position_by, Chooses, Counts, WaitsUnless, Assigns, filled, ActsBy, ActsPart}
use Rattle.process_code.specs.StepLaws.{step-reads, step-write, step-append, step-if, step-while, step-case, step-forever, step-repeat, step-turn, step-turns_end, step-delayed, step-event}
use Rattle.process_code.specs.StepLaws.{step-wait_over, step-wait, step-blocking, step-blocking_delay, step-nonblocking, step-for, step-done}
use Rattle.process_code.specs.declared.code.Ways.{Ways}
use Rattle.process_code.specs.declared.state.Stage.{Stage}
use Rattle.process_code.specs.declared.state.Stage.TheVariants.{Ready, Waiting, Asleep, Postponed, Done}

-- Points

-- a ready point with no updates left
pub ready-point : (p : Point) → p.stage ≡ Ready → p.updates ≡ [] → p ≡ ready_at p.position p.operands p.counts p.place p.delay
ready-point p h k =
    ap (λ (stage : Stage). record p { stage = stage }) h
    ∙ ap (λ (updates : List (Option ValueUpdate)). record { stage = Ready; position = p.position; operands = p.operands; counts = p.counts; place = p.place; delay = p.delay; updates = updates }) k

-- a step that is told by equal points
pub is-step : (now : ℕ) (values : List LogicValue) (rests : List (List Part)) (step : ProcessStep) (new other : Point) (said saying : StepSaid) → new ≡ other → said ≡ saying →
    IsStep now values rests step other saying → IsStep now values rests step new said
is-step now values rests step new other said saying e f h =
    subst (λ p. IsStep now values rests step p said) (sym e) (subst (IsStep now values rests step other) (sym f) h)

-- a step that reads, else acts
acts-step : {A : Type 0} (now : ℕ) (values : List LogicValue) (rests : List (List Part)) (position : ℕ) (rest : List Part) (operands : List LogicValue) (counts : List ℕ) (place : SourcePlace)
    (delay : Option ℕ)
    (line : ℕ) (progress : Progress A) (go : A → ProcessStep) (act : A → Point → StepSaid → Type 0) (step : ProcessStep) (new : Point) (said : StepSaid) →
    StandsAt rests position rest → step ≡ reads_or line (tasks_of counts rest) operands progress go →
    ((a : A) (left : List LogicValue) → progress ≡ Has a left → act a new said → IsStep now values rests step new said) →
    Acts values progress act (ready_at position operands counts place delay) new said → IsStep now values rests step new said
acts-step {A} now values rests position rest operands counts place delay line progress go act step new said here is goes acts = by_progress progress refl acts
  where
    by_progress : (p : Progress A) → progress ≡ p → Acts values p act (ready_at position operands counts place delay) new said → IsStep now values rests step new said
    by_progress (Needs object) e h =
        is-step now values rests step new _ said _ h.0 h.1 (step-reads now values rests position rest operands counts place delay line object progress go step here is e)
    by_progress (Has a left) e h = goes a left e h

-- the position of the statement that is chosen
pub chosen-stands : (rests : List (List Part)) (positions : List ℕ) (items : CaseItems) (default : Statement) (other : ℕ) (after : List Part) (choice : Option ℕ) →
    ItemsLead rests positions items after → StandsAt rests other (opened_parts default after) →
    StandsAt rests (position_by positions other choice) (opened_parts (chosen_by items default choice) after)
chosen-stands rests positions items default other after None h k = k
chosen-stands rests [] no_items default other after (Some n) h k = k
chosen-stands rests (p ∷ positions) no_items default other after (Some n) h k = absurd h
chosen-stands rests [] (more_items labels statement others) default other after (Some n) h k = absurd h
chosen-stands rests (p ∷ positions) (more_items labels statement others) default other after (Some zero) h k = h.0
chosen-stands rests (p ∷ positions) (more_items labels statement others) default other after (Some (suc n)) h k = chosen-stands rests positions others default other after (Some n) h.1 k

-- an assignment that writes at once
writes-first : (now : ℕ) (values : List LogicValue) (rests : List (List Part)) (step : ProcessStep) (position : ℕ) (counts : List ℕ) (place : SourcePlace) (updates : List (Option ValueUpdate))
    (new : Point) (said : StepSaid) →
    ((update : Option ValueUpdate) (others : List (Option ValueUpdate)) → updates ≡ update ∷ others →
    IsStep now values rests step (left_at Ready position counts place None others) (said_write update)) →
    TakesFirst now (left_at Ready position counts place None updates) new said updates → IsStep now values rests step new said
writes-first now values rests step position counts place [] new said known h = absurd h
writes-first now values rests step position counts place (update ∷ others) new said known h = is-step now values rests step new _ said _ h.0 h.1 (known update others refl)

appends-first : (now : ℕ) (values : List LogicValue) (rests : List (List Part)) (step : ProcessStep) (position : ℕ) (counts : List ℕ) (place : SourcePlace) (delay : ℕ)
    (updates : List (Option ValueUpdate)) (new : Point) (said : StepSaid) →
    ((update : Option ValueUpdate) (others : List (Option ValueUpdate)) → updates ≡ update ∷ others →
    IsStep now values rests step (left_at Ready position counts place (Some delay) others) (said_append (now + delay) update)) →
    TakesFirst now (left_at Ready position counts place (Some delay) updates) new said updates → IsStep now values rests step new said
appends-first now values rests step position counts place delay [] new said known h = absurd h
appends-first now values rests step position counts place delay (update ∷ others) new said known h = is-step now values rests step new _ said _ h.0 h.1 (known update others refl)

assigns-step : (process : FlatProcess) (now : ℕ) (values : List LogicValue) (rests : List (List Part)) (position : ℕ) (operands left : List LogicValue) (counts : List ℕ) (old_place : SourcePlace)
    (old_delay : Option ℕ)
    (place : SourcePlace) (targets : List Target) (delay : Option ℕ) (value : Expression) (after : List Part) (next : ℕ) (updates : List (Option ValueUpdate)) (new : Point) (said : StepSaid) →
    StandsAt rests next after → read_assignment place.line targets value operands ≡ Has updates left →
    Assigns now (ready_at position operands counts old_place old_delay) place delay next updates new said →
    IsStep now values rests (process_step process now (tasks_of counts (Runs (Blocking place targets delay value) ∷ after)) operands) new said
assigns-step process now values rests position operands left counts old_place old_delay place targets None value after next updates new said stands has h =
    writes-first now values rests _ next counts place updates new said
    (λ update others e. step-blocking process now values rests operands left counts place targets value after next update others stands (has ∙ ap (λ us. Has us left) e)) h
assigns-step process now values rests position operands left counts old_place old_delay place targets (Some delay) value after next updates new said stands has h =
    is-step now values rests _ new _ said _ h.0 h.1 (step-blocking_delay process now values rests operands left counts place targets delay value after next updates stands has)

-- a wait that goes on or begins
waits-step : (process : FlatProcess) (now : ℕ) (values : List LogicValue) (rests : List (List Part)) (position : ℕ) (operands left : List LogicValue) (counts : List ℕ) (old_place : SourcePlace)
    (delay : Option ℕ)
    (place : SourcePlace) (condition : Expression) (body : Statement) (after : List Part) (inner : ℕ) (value : LogicValue) (holds : Bool) (new : Point) (said : StepSaid) →
    StandsAt rests position (Runs (Wait place condition body) ∷ after) → StandsAt rests inner (opened_parts body after) → read_expression condition operands ≡ Has value left → is_true value ≡ holds →
    WaitsUnless (ready_at position operands counts old_place delay) inner holds new said →
    IsStep now values rests (process_step process now (tasks_of counts (Runs (Wait place condition body) ∷ after)) operands) new said
waits-step process now values rests position operands left counts old_place delay place condition body after inner value true new said here stands has holds h =
    is-step now values rests _ new _ said _ h.0 h.1 (step-wait_over process now values rests operands left counts old_place delay place condition body after inner value stands has holds)
waits-step process now values rests position operands left counts old_place delay place condition body after inner value false new said here stands has holds h =
    is-step now values rests _ new _ said _ h.0 h.1 (step-wait process now values rests operands left counts old_place delay place condition body after position value here has holds)

-- a turn of a repeat, or its end
turns-step : (process : FlatProcess) (now : ℕ) (values : List LogicValue) (rests : List (List Part)) (position : ℕ) (operands : List LogicValue) (counts : List ℕ) (old_place : SourcePlace)
    (delay : Option ℕ)
    (number : ℕ) (place : SourcePlace) (body : Statement) (after : List Part) (inner next count : ℕ) (new : Point) (said : StepSaid) →
    number < length counts → NumbersFall number after → StandsAt rests inner (opened_parts body (TurnsLeft number place body ∷ after)) → StandsAt rests next after → get_or counts number 0 ≡ count →
    new ≡ after_turn (ready_at position operands counts old_place delay) number inner next count → said ≡ SaysInner →
    IsStep now values rests (process_step process now (tasks_of counts (TurnsLeft number place body ∷ after)) operands) new said
turns-step process now values rests position operands counts old_place delay number place body after inner next zero new said low falls stands further is e f =
    is-step now values rests _ new _ said _ e f (step-turns_end process now values rests operands counts old_place delay place body after number next is further)
turns-step process now values rests position operands counts old_place delay number place body after inner next (suc count) new said low falls stands further is e f =
    is-step now values rests _ new _ said _ e f (step-turn process now values rests operands counts old_place delay place body after number inner count low falls is stands)

-- a step of what is first in the rest is the step of the definition
pub part-step : (process : FlatProcess) (now : ℕ) (values : List LogicValue) (rests : List (List Part)) (repeats position : ℕ) (operands : List LogicValue) (counts : List ℕ) (place : SourcePlace)
    (delay : Option ℕ)
    (ways : Ways) (next : ℕ) (part : Part) (after : List Part) (new : Point) (said : StepSaid) →
    StandsAt rests position (part ∷ after) → StandsAt rests next after → PartLeads repeats rests ways part after → repeats ≤ length counts →
    ActsPart now values part ways next (ready_at position operands counts place delay) new said →
    IsStep now values rests (process_step process now (tasks_of counts (part ∷ after)) operands) new said
part-step process now values rests repeats position operands counts place delay ways next (Runs Null) after new said here stands leads room acts = absurd leads
part-step process now values rests repeats position operands counts place delay ways next (Runs (Block many)) after new said here stands leads room acts = absurd leads
part-step process now values rests repeats position operands counts place delay ways next (Runs (If p condition first second)) after new said here stands leads room acts =
    acts-step now values rests position _ operands counts place delay p.line (read_expression condition operands) _ _ _ new said here refl
    (λ value left has h. is-step now values rests _ new _ said _ h.0 h.1 (step-if process now values rests operands left counts place delay p condition first second after ways.inner ways.other value
    leads.0 leads.1 has)) acts
part-step process now values rests repeats position operands counts place delay ways next (Runs (Case p kind value items default)) after new said here stands leads room acts =
    acts-step now values rests position _ operands counts place delay p.line (read_case kind value items default operands) _ _ _ new said here refl
    (λ statement left has h. is-step now values rests _ new _ said _ h.goes.0 h.goes.1
    (step-case process now values rests operands left counts place delay p kind value items default (chosen_by items default h.choice) after (position_by ways.items.items ways.other h.choice)
    (chosen-stands rests ways.items.items items default ways.other after h.choice leads.0 leads.1) (has ∙ ap (λ s. Has s left) h.chosen))) acts
part-step process now values rests repeats position operands counts place delay ways next (Runs (For p first_targets first condition next_targets last body)) after new said here stands leads room
    acts =
    acts-step now values rests position _ operands counts place delay p.line (read_assignment p.line first_targets first operands) _ _ _ new said here refl
    (λ updates left has h. writes-first now values rests _ ways.inner counts p updates new said
    (λ update others e. step-for process now values rests operands left counts p first_targets first condition next_targets last body after ways.inner update others leads
    (has ∙ ap (λ us. Has us left) e)) h) acts
part-step process now values rests repeats position operands counts place delay ways next (Runs (While p condition body)) after new said here stands leads room acts =
    acts-step now values rests position _ operands counts place delay p.line (read_expression condition operands) _ _ _ new said here refl
    (λ value left has h. is-step now values rests _ new _ said _ h.0 h.1 (step-while process now values rests operands left counts place delay p condition body after ways.inner next value leads
    stands has)) acts
part-step process now values rests repeats position operands counts place delay ways next (Runs (Repeat p count body)) after new said here stands leads room acts =
    acts-step now values rests position _ operands counts place delay p.line (read_expression count operands) _ _ _ new said here refl
    (λ value left has h. is-step now values rests _ new _ said _ h.0 h.1
    (step-repeat process now values rests operands left counts place delay p count body after ways.other ways.inner value (omega (arith, leads.0, room)) leads.1 leads.2 has)) acts
part-step process now values rests repeats position operands counts place delay ways next (Runs (Forever p body)) after new said here stands leads room acts =
    is-step now values rests _ new _ said _ acts.0 acts.1 (step-forever process now values rests operands counts place delay p body after ways.inner leads)
part-step process now values rests repeats position operands counts place delay ways next (Runs (Delay p d body)) after new said here stands leads room acts =
    is-step now values rests _ new _ said _ acts.0 acts.1 (step-delayed process now values rests operands counts place p d body after ways.inner leads)
part-step process now values rests repeats position operands counts place delay ways next (Runs (EventControl p entries body)) after new said here stands leads room acts =
    is-step now values rests _ new _ said _ acts.0 acts.1 (step-event process now values rests operands counts place delay p entries body after position ways.inner here leads)
part-step process now values rests repeats position operands counts place delay ways next (Runs (Wait p condition body)) after new said here stands leads room acts =
    acts-step now values rests position _ operands counts place delay p.line (read_expression condition operands) _ _ _ new said here refl
    (λ value left has h. waits-step process now values rests position operands left counts place delay p condition body after ways.inner value (is_true value) new said here leads has refl h) acts
part-step process now values rests repeats position operands counts place delay ways next (Runs (Blocking p targets d value)) after new said here stands leads room acts =
    acts-step now values rests position _ operands counts place delay p.line (read_assignment p.line targets value operands) _ _ _ new said here refl
    (λ updates left has h. assigns-step process now values rests position operands left counts place delay p targets d value after next updates new said stands has h) acts
part-step process now values rests repeats position operands counts place delay ways next (Runs (Nonblocking p targets d value)) after new said here stands leads room acts =
    acts-step now values rests position _ operands counts place delay p.line (read_assignment p.line targets value operands) _ _ _ new said here refl
    (λ updates left has h. appends-first now values rests _ next counts p d updates new said
    (λ update others e. step-nonblocking process now values rests operands left counts p targets d value after next update others stands (has ∙ ap (λ us. Has us left) e)) h) acts
part-step process now values rests repeats position operands counts place delay ways next (Runs (Finish p)) after new said here stands leads room acts =
    is-step now values rests _ new _ said _ acts.0 acts.1 (step-done now values rests position counts place delay p.line _ refl)
part-step process now values rests repeats position operands counts place delay ways next (TurnsLeft number p body) after new said here stands leads room acts =
    turns-step process now values rests position operands counts place delay number p body after ways.inner next (get_or counts number 0) new said
    (omega (arith, leads.0, room)) leads.1 leads.2 stands refl acts.0 acts.1

-- a step of the first update that is left
pub update-step : (process : FlatProcess) (now : ℕ) (values : List LogicValue) (rests : List (List Part)) (position : ℕ) (rest : List Part) (operands : List LogicValue) (counts : List ℕ)
    (place : SourcePlace) (delay : Option ℕ)
    (updates : List (Option ValueUpdate)) (new : Point) (said : StepSaid) → StandsAt rests position rest →
    TakesFirst now (record { stage = Ready; position = position; operands = operands; counts = counts; place = place; delay = delay; updates = updates }) new said updates →
    IsStep now values rests (process_step process now (updates_left place delay updates (tasks_of counts rest)) operands) new said
update-step process now values rests position rest operands counts place delay [] new said here h = absurd h
update-step process now values rests position rest operands counts place None (update ∷ updates) new said here h =
    is-step now values rests _ new _ said _ h.0 h.1 (step-write now values rests position rest counts place update updates _ here refl)
update-step process now values rests position rest operands counts place (Some delay) (update ∷ updates) new said here h =
    is-step now values rests _ new _ said _ h.0 h.1 (step-append now values rests position rest counts place delay update updates _ here refl)
