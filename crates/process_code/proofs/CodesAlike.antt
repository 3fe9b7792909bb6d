-- Codes of one process have one layout, and a state rests on nothing else of its code.
use Rattle.std.proofs.Common.{◌≡◌, ℕ, List, [], ◌∷◌, map, refl, sym, ap, ◌∙◌, subst}
use Rattle.four_value.specs.Values.{LogicValue}
use Rattle.v_design.specs.Plain.{statement_of, process_of, due_of, update_of}
use Rattle.v_design.specs.Trees.{Statement}
use Rattle.v_design.specs.Designs.{FlatProcess}
use Rattle.v_design.specs.Processes.{Task, Activity, process_step}
use Rattle.v_design.specs.Processes as activities
use Rattle.v_design.specs.States.{next_activity}
use Rattle.process_code.specs.Rests.{Part}
use Rattle.process_code.specs.Layouts.{Layout, layout_of_body}
use Rattle.process_code.specs.Codes.{rests_in_code, layout_in_code}
use Rattle.process_code.specs.Points.{Point, IsStep, point_of, activity_at, activity_by, activity_of, tasks_at, said_of, said_by}
use Rattle.process_code.specs.SamenessLaws.{activity-same}
use Rattle.process_code.specs.StatesOf.{IsStateOf, IsRestAt, StepsAsDefined}
use Rattle.process_code.specs.Reached.{IsReached}
use Rattle.process_code.specs.RunEnds.{StepTold, act_by, step_told_by}
use Rattle.process_code.specs.OneCode.{AreCodesOfOne, CodesReadAlike, CodesCompareAlike, CodesStepAlike}
use Rattle.process_code.proofs.Apart.{same-activity}
use Rattle.process_code.specs.declared.code.Code.{Code}
use Rattle.process_code.specs.declared.state.Did.{Did}
use Rattle.process_code.specs.declared.state.Stage.{Stage}
use Rattle.process_code.specs.declared.state.Stage.TheVariants.{Ready, Waiting, Asleep, Postponed, Done}
use Rattle.process_code.specs.declared.state.ProcState.{ProcState}
use Rattle.process_code.specs.declared.state.StepTaken.{StepTaken}

-- Codes

layout-alike : (one other : Code) → AreCodesOfOne one other → layout_in_code one ≡ layout_in_code other
layout-alike one other c = c.first.layout ∙ ap (λ (p : FlatProcess). layout_of_body p.body) c.same ∙ sym c.second.layout

rests-alike : (one other : Code) → AreCodesOfOne one other → rests_in_code one ≡ rests_in_code other
rests-alike one other c = ap (λ (l : Layout). l.rests) (layout-alike one other c)

turned-codes : (one other : Code) → AreCodesOfOne one other → AreCodesOfOne other one
turned-codes one other c = record { same = sym c.same; first = c.second; second = c.first }

states-alike : (one other : Code) (state : ProcState) → AreCodesOfOne one other → IsStateOf one state → IsStateOf other state
states-alike one other state c h =
    let rests = rests-alike one other c in
    let body : statement_of one.process.now.body ≡ statement_of other.process.now.body = ap (λ (p : FlatProcess). p.body) c.same in
    let R : List (List Part) → Type 0 = λ xs. IsRestAt (statement_of one.process.now.body) xs state.position in
    let B : Statement → Type 0 = λ s. IsRestAt s (rests_in_code other) state.position in
    record {
      rest = subst B body (subst R rests h.rest);
      counts = h.counts ∙ ap (λ (l : Layout). l.repeats) (layout-alike one other c);
      reached = subst (λ (xs : List (List Part)). IsReached xs (point_of state)) rests h.reached;
    }

activity-alike : (one other : Code) (state : ProcState) → AreCodesOfOne one other → activity_of one state ≡ activity_of other state
activity-alike one other state c = ap (λ rests. activity_at rests (point_of state)) (rests-alike one other c)

steps-alike : (one other : Code) (now : ℕ) (values : List LogicValue) (old new : ProcState) (did : Did) → AreCodesOfOne one other →
    StepsAsDefined now values one old new did → StepsAsDefined now values other old new did
steps-alike one other now values old new did c h =
    let P : FlatProcess → List (List Part) → Type 0 = λ p rests. IsStep now values rests (process_step p now (tasks_at rests (point_of old)) old.operands.items) (point_of new) (said_by did) in
    let R : List (List Part) → Type 0 = λ rests. P (process_of one.process.now) rests in
    let Q : FlatProcess → Type 0 = λ p. P p (rests_in_code other) in
    subst Q c.same (subst R (rests-alike one other c) h)

told-alike : (one other : Code) (steps : List StepTaken) → AreCodesOfOne one other → map (step_told_by one) steps ≡ map (step_told_by other) steps
told-alike one other [] c = refl
told-alike one other (step ∷ steps) c =
    λ i. record { stands = activity-alike one other step.state c i; line = step.line; act = act_by step.act; read = step.read } ∷ told-alike one other steps c i

pub codes_read_alike : CodesReadAlike
codes_read_alike one other c =
    record {
      rests = rests-alike one other c;
      repeats = ap (λ (l : Layout). l.repeats) (layout-alike one other c);
      activity = λ state. activity-alike one other state c;
      states = λ state. states-alike one other state c;
      steps = λ now values old new did. steps-alike one other now values old new did c;
      told = λ run. λ i. record {
        activity = activity-alike one other run.state c i;
        later = map due_of run.later;
        writes = map update_of run.writes;
        steps = told-alike one other run.steps c i;
      };
    }

-- States

pub codes_compare_alike : CodesCompareAlike
codes_compare_alike one other first second c differ h k =
    let here = activity-alike one other second c in (
      λ same. same-activity one first second differ c.first h (states-alike other one second (turned-codes one other c) k) (same ∙ sym here),
      λ same. activity-same (rests_in_code one) (point_of first) (point_of second) same ∙ here,
    )

-- Steps

ready_tasks : Activity → List Task
ready_tasks (activities.Ready tasks operands) = tasks
ready_tasks other = []

ready_operands : Activity → List LogicValue
ready_operands (activities.Ready tasks operands) = operands
ready_operands other = []

-- the tasks and operands of a process that is ready
ready-parts : (rests : List (List Part)) (p : Point) (stage : Stage) (tasks : List Task) (operands : List LogicValue) → activities.Ready tasks operands ≡ activity_by rests p stage →
    (tasks ≡ tasks_at rests p) × (operands ≡ p.operands)
unfolding ready_tasks ready_operands
ready-parts rests p Ready tasks operands e = (ap ready_tasks e, ap ready_operands e)
ready-parts rests p (Waiting at) tasks operands e = absurd (cc)
ready-parts rests p (Asleep time) tasks operands e = absurd (cc)
ready-parts rests p Postponed tasks operands e = absurd (cc)
ready-parts rests p Done tasks operands e = absurd (cc)

pub codes_step_alike : CodesStepAlike
codes_step_alike one other now values first first_after second second_after did also c ready same h k =
    let here = steps-alike one other now values first first_after did c h in
    let rests = rests_in_code other in
    let process = process_of other.process.now in
    let begins : activities.Ready (tasks_at rests (point_of first)) first.operands.items ≡ activity_at rests (point_of second) =
    sym (ap (activity_by rests (point_of first)) ready) ∙ sym (activity-alike one other first c) ∙ same in
    let parts = ready-parts rests (point_of second) second.stage _ _ begins in
    let step : process_step process now (tasks_at rests (point_of first)) first.operands.items ≡ process_step process now (tasks_at rests (point_of second)) second.operands.items =
    ap (λ tasks. process_step process now tasks first.operands.items) parts.0 ∙ ap (process_step process now (tasks_at rests (point_of second))) parts.1 in (
      activity-alike one other first_after c ∙ here.activity ∙ ap (λ s. next_activity values s.action s.next) step ∙ sym k.activity,
      here.says ∙ ap (λ s. said_of now s.action s.next) step ∙ sym k.says,
    )
