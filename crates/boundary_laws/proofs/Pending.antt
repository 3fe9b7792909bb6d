-- The nonblocking updates of a process after some events of a phase, and its lane.
use Rattle.std.proofs.Common.{◌≡◌, ℕ, zero, suc, ◌+◌, List, [], ◌∷◌, ◌++◌, map, Bool, true, false, cond, drop, refl, sym, ap, ◌∙◌, arith, append_assoc, append-nil}
use Rattle.std.specs.Prelude.{count_by}
use Rattle.std.proofs.lemmas.Bool.{eqb-true}
use Rattle.std.proofs.lemmas.List.Sums.{sum_by-cons}
use Rattle.vf_base.specs.Lists.{joined}
use Rattle.v_design.specs.Assignments.{ValueUpdate}
use Rattle.v_design.specs.Processes.{Activity}
use Rattle.v_design.specs.States.{Event, Step, LaneStep, Evaluation, NetUpdate, after, process_at, is_ready, appended, rest_of}
use Rattle.v_design.specs.PhaseLogs.{is_lane_of}
use Rattle.v_design.specs.OwnSteps.{StepSeen, ProcessRun, steps_in, run_before, runs_of}
use Rattle.copy_laws.specs.SharedRuns.{appended_by, PhaseAppendsAreOfSteps}
use Rattle.boundary_laws.specs.Pending.{RunsAppend, LanesShorten}
use Rattle.boundary_laws.proofs.Parts.{other-lane, own-lane}

-- Updates

-- what runs append is what their steps append
before-appended : (time : ℕ) (first : Activity × StepSeen) (runs : List ProcessRun) (goes_on : Bool) →
    joined (map (λ (run : ProcessRun). appended_by time run.steps) (run_before goes_on first runs))
    ≡ appended time first.1.step.action ++ joined (map (λ (run : ProcessRun). appended_by time run.steps) runs)
before-appended time first runs false =
    ap (λ l. l ++ joined (map (λ (run : ProcessRun). appended_by time run.steps) runs)) (append-nil (appended time first.1.step.action))
before-appended time first [] true = ap (λ l. l ++ []) (append-nil (appended time first.1.step.action))
before-appended time first (run ∷ runs) true =
    append_assoc (appended time first.1.step.action) (appended_by time run.steps) (joined (map (λ (other : ProcessRun). appended_by time other.steps) runs))

runs-appended : (time : ℕ) (steps : List (Activity × StepSeen)) →
    joined (map (λ (run : ProcessRun). appended_by time run.steps) (runs_of steps)) ≡ appended_by time (map (λ (step : Activity × StepSeen). step.1) steps)
runs-appended time [] = refl
runs-appended time (first ∷ rest) =
    before-appended time first (runs_of rest) (is_ready first.1.step.next) ∙ ap (λ l. appended time first.1.step.action ++ l) (runs-appended time rest)

pub runs_append : PhaseAppendsAreOfSteps → RunsAppend
runs_append appends machine phase p there =
    appends machine p phase.begins phase.events there
    ∙ ap (λ l. (process_at phase.begins p).later ++ l) (sym (runs-appended phase.begins.time (steps_in machine p phase.begins phase.events)))

-- Lanes

drop-rest : (n : ℕ) (lane : List ValueUpdate) → drop n (rest_of lane) ≡ drop (suc n) lane
drop-rest zero [] = refl
drop-rest (suc n) [] = refl
drop-rest n (update ∷ lane) = refl

-- what an event counts
abbrev counted_if : Bool → ℕ
counted_if counts = cond counts 1 0

pub count-first : (test : Event → Bool) (event : Event) (events : List Event) (b : Bool) → test event ≡ b →
    count_by test (event ∷ events) ≡ cond b (suc (count_by test events)) (count_by test events)
count-first test event events true e =
    let f : count_by test (event ∷ events) ≡ counted_if (test event) + count_by test events = sum_by-cons (λ x. counted_if (test x)) event events in
    let g : counted_if (test event) ≡ 1 = ap counted_if e in
    omega (arith, f, g)
count-first test event events false e =
    let f : count_by test (event ∷ events) ≡ counted_if (test event) + count_by test events = sum_by-cons (λ x. counted_if (test x)) event events in
    let g : counted_if (test event) ≡ 0 = ap counted_if e in
    omega (arith, f, g)

pub is-the-lane : (p : ℕ) (event : Event) → is_lane_of p event ≡ true → event ≡ LaneStep p
is-the-lane p (Step q) h = cc
is-the-lane p (LaneStep q) h = ap LaneStep (sym (eqb-true p q h))
is-the-lane p (Evaluation number) h = cc
is-the-lane p (NetUpdate number) h = cc

pub lanes_shorten : LanesShorten
lanes_shorten machine state [] p = refl
lanes_shorten machine state (event ∷ events) p = lanes_shorten machine (after machine state event) events p ∙ go (is_lane_of p event) refl
  where
    rest : ℕ
    rest = count_by (is_lane_of p) events

    go : (b : Bool) → is_lane_of p event ≡ b → drop rest (process_at (after machine state event) p).lane ≡ drop (count_by (is_lane_of p) (event ∷ events)) (process_at state p).lane
    go true h =
        ap (λ (e : Event). drop rest (process_at (after machine state e) p).lane) (is-the-lane p event h) ∙ ap (drop rest) (own-lane machine state p)
        ∙ drop-rest rest (process_at state p).lane ∙ sym (ap (λ n. drop n (process_at state p).lane) (count-first (is_lane_of p) event events true h))
    go false h =
        ap (drop rest) (other-lane machine state p event h) ∙ sym (ap (λ n. drop n (process_at state p).lane) (count-first (is_lane_of p) event events false h))
