-- A process whose last run goes on does what the run's steps left it doing.
use Rattle.std.proofs.Common.{◌≡◌, ℕ, List, [], ◌∷◌, ◌++◌, Bool, true, false, refl, sym, ap, subst, ◌∙◌}
use Rattle.v_design.specs.Designs.{Machine}
use Rattle.v_design.specs.Processes.{Activity}
use Rattle.v_design.specs.States.{State, Event, after, process_at, step_of, is_ready}
use Rattle.v_design.specs.Runs.{happened}
use Rattle.v_design.specs.PhaseLogs.{is_step_of}
use Rattle.v_design.specs.OwnSteps.{StepSeen, ProcessRun, value_read, seen_step, seen_if, steps_in, run_before, runs_of}
use Rattle.copy_laws.specs.OwnRuns.{is_going, last_goes_on}
use Rattle.copy_laws.specs.SharedRuns.{activity_after, activity_at_end}
use Rattle.present_runs.specs.PresentRuns.{PresentRunsLead}
use Rattle.present_runs.proofs.Ready.{stays-ready, operand-ready, after-own, is-the-step}

-- Steps

-- what a process does after some steps, and whether they leave it ready
abbrev after_steps : Activity → List (Activity × StepSeen) → Activity
after_steps activity [] = activity
after_steps activity (step ∷ steps) = after_steps (activity_after step.1) steps

abbrev ready_after : Bool → List (Activity × StepSeen) → Bool
ready_after ready [] = ready
ready_after ready (step ∷ steps) = ready_after (is_ready step.1.step.next) steps

-- the same from what another step left, where it is what is done there if that is ready
from-ready : (a b final : Activity) (ready : Bool) (steps : List (Activity × StepSeen)) → (ready_after (is_ready a) steps ≡ true → final ≡ after_steps a steps) →
    (ready ≡ true → a ≡ b) → (ready ≡ true → is_ready b ≡ true) → ready_after ready steps ≡ true → final ≡ after_steps b steps
from-ready a b final ready [] leads still stays r = leads (ap is_ready (still r) ∙ stays r) ∙ still r
from-ready a b final ready (step ∷ steps) leads still stays r = leads r

-- a process that its steps leave ready does what they left it doing
steps-lead : (machine : Machine) (p : ℕ) (state : State) (events : List Event) → ready_after (is_ready (process_at state p).activity) (steps_in machine p state events) ≡ true →
    (process_at (happened machine state events) p).activity ≡ after_steps (process_at state p).activity (steps_in machine p state events)
steps-lead machine p state [] r = refl
steps-lead machine p state (event ∷ events) r = go (is_step_of p event) refl (steps-lead machine p (after machine state event) events) r
  where
    next : State
    next = after machine state event

    seen : StepSeen
    seen = seen_step machine state p

    go : (b : Bool) → is_step_of p event ≡ b →
        (ready_after (is_ready (process_at next p).activity) (steps_in machine p next events) ≡ true →
        (process_at (happened machine next events) p).activity ≡ after_steps (process_at next p).activity (steps_in machine p next events)) →
        ready_after (is_ready (process_at state p).activity) (seen_if b ((process_at state p).activity, seen) (steps_in machine p next events)) ≡ true →
        (process_at (happened machine next events) p).activity ≡ after_steps (process_at state p).activity (seen_if b ((process_at state p).activity, seen) (steps_in machine p next events))
    go false h leads r =
        from-ready (process_at next p).activity (process_at state p).activity (process_at (happened machine next events) p).activity (is_ready (process_at state p).activity)
        (steps_in machine p next events) leads (λ ready. stays-ready machine state p event h ready) (λ ready. ready) r
    go true h leads r =
        from-ready (process_at next p).activity (activity_after seen) (process_at (happened machine next events) p).activity (is_ready seen.step.next) (steps_in machine p next events)
        leads (λ ready. ap (λ x. (process_at (after machine state x) p).activity) (is-the-step p event h) ∙ after-own machine state p ready)
        (λ ready. operand-ready (value_read state (step_of machine state p).action) (step_of machine state p).next ready) r

-- Runs

abbrev after_runs : Activity → List ProcessRun → Activity
after_runs activity [] = activity
after_runs activity (run ∷ runs) = after_runs (activity_at_end run.begins run.steps) runs

-- a run in front of others: it goes on with the first of them, where that begins with a step
before-leaves : (a : Activity) (first next : Activity × StepSeen) (other : List ProcessRun) (c d : Bool) →
    after_runs a (run_before c first (run_before d next other)) ≡ after_runs (activity_after first.1) (run_before d next other)
before-leaves a first next other false d = refl
before-leaves a first next other true false = refl
before-leaves a first next [] true true = refl
before-leaves a first next (run ∷ other) true true = refl

runs-leave : (a : Activity) (steps : List (Activity × StepSeen)) → after_runs a (runs_of steps) ≡ after_steps a steps
runs-leave a [] = refl
runs-leave a (first ∷ []) = go (is_ready first.1.step.next)
  where
    go : (b : Bool) → after_runs a (run_before b first []) ≡ activity_after first.1
    go true = refl
    go false = refl
runs-leave a (first ∷ next ∷ steps) =
    before-leaves a first next (runs_of steps) (is_ready first.1.step.next) (is_ready next.1.step.next) ∙ runs-leave (activity_after first.1) (next ∷ steps)

-- the last of them leaves what it leaves
last-leaves : (a : Activity) (before : List ProcessRun) (run : ProcessRun) → after_runs a (before ++ run ∷ []) ≡ activity_at_end run.begins run.steps
last-leaves a [] run = refl
last-leaves a (first ∷ before) run = last-leaves (activity_at_end first.begins first.steps) before run

-- and goes on where it goes on
last-going : (before : List ProcessRun) (run : ProcessRun) → last_goes_on (before ++ run ∷ []) ≡ is_going run.steps
last-going [] run = refl
last-going (first ∷ []) run = refl
last-going (first ∷ next ∷ before) run = last-going (next ∷ before) run

before-going : (first next : Activity × StepSeen) (other : List ProcessRun) (c d : Bool) →
    last_goes_on (run_before c first (run_before d next other)) ≡ last_goes_on (run_before d next other)
before-going first next other false false = refl
before-going first next [] false true = refl
before-going first next (run ∷ other) false true = refl
before-going first next [] true false = refl
before-going first next (run ∷ other) true false = refl
before-going first next [] true true = refl
before-going first next (run ∷ []) true true = refl
before-going first next (run ∷ more ∷ other) true true = refl

going-after : (steps : List (Activity × StepSeen)) → last_goes_on (runs_of steps) ≡ ready_after false steps
going-after [] = refl
going-after (first ∷ []) = go (is_ready first.1.step.next) refl
  where
    go : (b : Bool) → is_ready first.1.step.next ≡ b → last_goes_on (run_before b first []) ≡ is_ready first.1.step.next
    go true e = refl
    go false e = refl
going-after (first ∷ next ∷ steps) =
    before-going first next (runs_of steps) (is_ready first.1.step.next) (is_ready next.1.step.next) ∙ going-after (next ∷ steps)

-- with steps, it doesn't matter whether the process was ready before them
ready-first : (b : Bool) (steps : List (Activity × StepSeen)) → ready_after false steps ≡ true → ready_after b steps ≡ true
ready-first b [] r = cc
ready-first b (step ∷ steps) r = r

pub present_runs_lead : PresentRunsLead
present_runs_lead machine p state events before run are goes =
    let steps = steps_in machine p state events in
    let activity = (process_at state p).activity in
    let ready : ready_after false steps ≡ true = sym (going-after steps) ∙ ap last_goes_on are ∙ last-going before run ∙ goes in
    steps-lead machine p state events (ready-first (is_ready activity) steps ready) ∙ sym (runs-leave activity steps) ∙ ap (after_runs activity) are ∙ last-leaves activity before run
