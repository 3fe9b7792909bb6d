-- Whether a run goes on, event by event.
use Rattle.std.proofs.Common.{◌≡◌, ℕ, ◌≤◌, List, [], ◌∷◌, ◌++◌, Bool, true, false, refl, ap, ◌∙◌, arith}
use Rattle.std.proofs.lemmas.Bool.{eq-eqb, eqb-true, le-leb}
use Rattle.std.proofs.lemmas.List.{append-nil}
use Rattle.v_design.specs.Designs.{Machine}
use Rattle.v_design.specs.Processes.{Activity}
use Rattle.v_design.specs.States.{State, Event, Step, LaneStep, Evaluation, NetUpdate, after, process_at, step_of, is_ready, is_any, some_in}
use Rattle.v_design.specs.Runs.{happened}
use Rattle.v_design.specs.PhaseLogs.{is_step_of}
use Rattle.v_design.specs.OwnSteps.{StepSeen, ProcessRun, seen_step, seen_if, steps_in, runs_of}
use Rattle.copy_laws.specs.OwnRuns.{is_going, last_goes_on, grown, grow, StepsGrow, StepsJoin, RunsGrow, RunsGoOnReady}
use Rattle.phase_blocks.specs.Blocks.{run_goes_on, is_step_from}
use Rattle.phase_blocks.proofs.Lists.{true-false, or-neither, some-weaker}

-- the laws on which this stands
pub record RunLaws : Type 0 where
  pub grow : StepsGrow
  pub join : StepsJoin
  pub runs : RunsGrow
  pub ready : RunsGoOnReady

-- The last step of some runs

going-push : (steps : List StepSeen) (seen : StepSeen) → is_going (steps ++ seen ∷ []) ≡ is_ready seen.step.next
going-push [] seen = refl
going-push (first ∷ []) seen = refl
going-push (first ∷ next ∷ rest) seen = going-push (next ∷ rest) seen

behind : (run : ProcessRun) (runs : List ProcessRun) → is_any runs ≡ true → last_goes_on (run ∷ runs) ≡ last_goes_on runs
behind run [] e = cc
behind run (next ∷ rest) e = refl

grown-any : (b : Bool) (run : ProcessRun) (step : Activity × StepSeen) → is_any (grown b run step) ≡ true
grown-any true run step = refl
grown-any false run step = refl

grow-any : (run : ProcessRun) (runs : List ProcessRun) (step : Activity × StepSeen) → is_any (grow (run ∷ runs) step) ≡ true
grow-any run [] step = grown-any (is_going run.steps) run step
grow-any run (next ∷ rest) step = refl

last-grown : (runs : List ProcessRun) (step : Activity × StepSeen) → last_goes_on (grow runs step) ≡ is_ready step.1.step.next
last-grown [] step = refl
last-grown (run ∷ []) step = go (is_going run.steps)
  where
    go : (b : Bool) → last_goes_on (grown b run step) ≡ is_ready step.1.step.next
    go true = going-push run.steps step.1
    go false = refl
last-grown (run ∷ next ∷ rest) step = behind run (grow (next ∷ rest) step) (grow-any next rest step) ∙ last-grown (next ∷ rest) step

pub last-step : RunsGrow → (steps : List (Activity × StepSeen)) (step : Activity × StepSeen) → last_goes_on (runs_of (steps ++ step ∷ [])) ≡ is_ready step.1.step.next
last-step law steps step = ap last_goes_on (law steps step) ∙ last-grown (runs_of steps) step

-- One event more

-- the process's own step
pub goes-own : RunLaws → (machine : Machine) (begins : State) (events : List Event) (p : ℕ) →
    run_goes_on machine begins (events ++ Step p ∷ []) p ≡ is_ready (step_of machine (happened machine begins events) p).next
goes-own laws machine begins events p =
    ap (λ s. last_goes_on (runs_of s)) (laws.grow machine p begins events (Step p))
    ∙ ap (λ b. last_goes_on (runs_of (steps_in machine p begins events ++ seen_if b own []))) (eq-eqb p p refl) ∙ last-step laws.runs (steps_in machine p begins events) own
  where
    own : Activity × StepSeen
    own = ((process_at (happened machine begins events) p).activity, seen_step machine (happened machine begins events) p)

-- another event
pub goes-other : RunLaws → (machine : Machine) (begins : State) (events : List Event) (event : Event) (p : ℕ) → is_step_of p event ≡ false →
    run_goes_on machine begins (events ++ event ∷ []) p ≡ run_goes_on machine begins events p
goes-other laws machine begins events event p other =
    ap (λ s. last_goes_on (runs_of s)) (laws.grow machine p begins events event)
    ∙ ap (λ b. last_goes_on (runs_of (steps_in machine p begins events ++ seen_if b own []))) other ∙ ap (λ s. last_goes_on (runs_of s)) (append-nil (steps_in machine p begins events))
  where
    own : Activity × StepSeen
    own = ((process_at (happened machine begins events) p).activity, seen_step machine (happened machine begins events) p)

-- Steps that a process took

-- a process without a step is in no run
none-seen : (machine : Machine) (p : ℕ) (state : State) (events : List Event) → some_in (is_step_of p) events ≡ false → steps_in machine p state events ≡ []
none-seen machine p state [] e = refl
none-seen machine p state (event ∷ events) e =
    let parts = or-neither (is_step_of p event) (some_in (is_step_of p) events) e in
    ap (λ b. seen_if b ((process_at state p).activity, seen_step machine state p) (steps_in machine p (after machine state event) events)) parts.0
    ∙ none-seen machine p (after machine state event) events parts.1

pub none-goes : (machine : Machine) (begins : State) (events : List Event) (p : ℕ) → some_in (is_step_of p) events ≡ false → run_goes_on machine begins events p ≡ false
none-goes machine begins events p none = ap (λ s. last_goes_on (runs_of s)) (none-seen machine p begins events none)

-- a step of a process is one of a process of at least any lesser number
of-from : (p least : ℕ) (event : Event) → least ≤ p → is_step_of p event ≡ true → is_step_from least event ≡ true
of-from p least (Step q) low e = let same : p ≡ q = eqb-true p q e in le-leb least q (omega (arith, low, same))
of-from p least (LaneStep q) low e = cc
of-from p least (Evaluation number) low e = cc
of-from p least (NetUpdate number) low e = cc

-- a process in the midst of a run took a step, so some process of at least any lesser number did
pub goes-from : (machine : Machine) (begins : State) (events : List Event) (p least : ℕ) → least ≤ p → run_goes_on machine begins events p ≡ true →
    some_in (is_step_from least) events ≡ true
goes-from machine begins events p least low goes = go (some_in (is_step_of p) events) refl
  where
    go : (b : Bool) → some_in (is_step_of p) events ≡ b → some_in (is_step_from least) events ≡ true
    go true e = some-weaker (is_step_of p) (is_step_from least) events (λ event. of-from p least event low) e
    go false e = true-false (run_goes_on machine begins events p) goes (none-goes machine begins events p e)
