-- The runs of a phase at a moment between runs: how many have ended, whose they are, and where they leave their processes (processes by IEEE 1364-2001, clause 9).
use Rattle.std.proofs.Common.{◌≡◌, ℕ, suc, ◌+◌, ◌-◌, ◌<◌, ◌≤◌, Bool, true, false, cond, ◌||◌, List, [], ◌∷◌, ◌++◌, map, length, take, drop, refl, sym, ap, subst, ◌∙◌, arith, append_assoc}
use Rattle.std.specs.Prelude.{Some, nat_eq, slice_get, sum_by}
use Rattle.std.proofs.Math.Seq.{take-append_seam, drop-append_seam}
use Rattle.std.proofs.lemmas.List.Sums.{length-filter, sum_by-cons}
use Rattle.vf_base.specs.Lists.{has, joined}
use Rattle.v_design.specs.Designs.{FlatDesign, Machine, good_machine}
use Rattle.v_design.specs.Processes.{Activity}
use Rattle.v_design.specs.States.{State, Event, Step, LaneStep, Evaluation, NetUpdate, after, process_at, is_ready}
use Rattle.v_design.specs.Grades.{Phase}
use Rattle.v_design.specs.PhaseLogs.{is_step_of}
use Rattle.v_design.specs.OwnSteps.{StepSeen, ProcessRun, seen_step, seen_if, steps_in, run_before, runs_of, process_runs}
use Rattle.machine_laws.specs.SlotLoop.{steps_of}
use Rattle.copy_laws.specs.SharedRuns.{activity_at_end, appended_by}
use Rattle.run_ends.specs.RunEnds.{enders_in}
use Rattle.between_slots.specs.Between.{activity_after_runs}
use Rattle.phase_blocks.specs.Blocks.{IsBetweenRuns}
use Rattle.boundary_ends.proofs.Counts.{own_enders, enders-run}
use Rattle.block_changes.specs.Changes.{steps_process}
use Rattle.moment_laws.specs.moment_runs.Taken.{count_of, appended_behind}

-- Whose runs end

-- those of a process are as many as they are counted
pub count-is : (p : ℕ) (enders : List ℕ) → count_of p enders ≡ length (own_enders p enders)
count-is p enders = sym (length-filter (λ q. nat_eq q p) enders)

none-own : (p : ℕ) (enders : List ℕ) → has enders p ≡ false → own_enders p enders ≡ []
none-own p [] e = refl
none-own p (q ∷ enders) e = go (nat_eq q p) refl e (none-own p enders)
  where
    go : (b : Bool) → nat_eq q p ≡ b → (b || has enders p) ≡ false → (has enders p ≡ false → own_enders p enders ≡ []) → own_enders p (q ∷ enders) ≡ []
    go true f h rest = cc
    go false f h rest = ap (λ b. cond b (q ∷ own_enders p enders) (own_enders p enders)) f ∙ rest h

some-own : (p : ℕ) (enders : List ℕ) → has enders p ≡ true → 0 < length (own_enders p enders)
some-own p [] e = cc
some-own p (q ∷ enders) e = go (nat_eq q p) refl e (some-own p enders)
  where
    go : (b : Bool) → nat_eq q p ≡ b → (b || has enders p) ≡ true → (has enders p ≡ true → 0 < length (own_enders p enders)) → 0 < length (own_enders p (q ∷ enders))
    go true f h rest =
        let e : length (own_enders p (q ∷ enders)) ≡ length (q ∷ own_enders p enders) = ap (λ b. length (cond b (q ∷ own_enders p enders) (own_enders p enders))) f in
        let l : length (q ∷ own_enders p enders) ≡ suc (length (own_enders p enders)) = refl in
        omega (arith, e, l)
    go false f h rest =
        let e : length (own_enders p (q ∷ enders)) ≡ length (own_enders p enders) = ap (λ b. length (cond b (q ∷ own_enders p enders) (own_enders p enders))) f in
        let r : 0 < length (own_enders p enders) = rest h in
        omega (arith, e, r)

some-run : (first : Activity × StepSeen) (rest : List (Activity × StepSeen)) → 0 < length (runs_of (first ∷ rest))
some-run first rest = go (is_ready first.1.step.next) (runs_of rest)
  where
    go : (b : Bool) (runs : List ProcessRun) → 0 < length (run_before b first runs)
    go true [] = omega arith
    go true (run ∷ runs) = let l : length (run_before true first (run ∷ runs)) ≡ suc (length runs) = refl in omega (arith, l)
    go false runs = let l : length (run_before false first runs) ≡ suc (length runs) = refl in omega (arith, l)

pub no-steps : (machine : Machine) (state : State) (events : List Event) (p : ℕ) → steps_process events p ≡ false → steps_in machine p state events ≡ []
no-steps machine state [] p e = refl
no-steps machine state (event ∷ events) p e = go (is_step_of p event) refl e (no-steps machine (after machine state event) events p)
  where
    go : (b : Bool) → is_step_of p event ≡ b → (b || steps_process events p) ≡ false → (steps_process events p ≡ false → steps_in machine p (after machine state event) events ≡ []) →
        steps_in machine p state (event ∷ events) ≡ []
    go true f h rest = cc
    go false f h rest =
        ap (λ b. seen_if b ((process_at state p).activity, seen_step machine state p) (steps_in machine p (after machine state event) events)) f ∙ rest h

pub some-steps : (machine : Machine) (state : State) (events : List Event) (p : ℕ) → steps_process events p ≡ true → 0 < length (runs_of (steps_in machine p state events))
some-steps machine state [] p e = cc
some-steps machine state (event ∷ events) p e = go (is_step_of p event) refl e (some-steps machine (after machine state event) events p)
  where
    own : Activity × StepSeen
    own = ((process_at state p).activity, seen_step machine state p)

    go : (b : Bool) → is_step_of p event ≡ b → (b || steps_process events p) ≡ true →
        (steps_process events p ≡ true → 0 < length (runs_of (steps_in machine p (after machine state event) events))) → 0 < length (runs_of (steps_in machine p state (event ∷ events)))
    go true f h rest =
        subst (λ b. 0 < length (runs_of (seen_if b own (steps_in machine p (after machine state event) events)))) (sym f) (some-run own (steps_in machine p (after machine state event) events))
    go false f h rest = subst (λ b. 0 < length (runs_of (seen_if b own (steps_in machine p (after machine state event) events)))) (sym f) (rest h)

-- between runs just those processes have ended runs that took steps
pub enders-stepped : (machine : Machine) (begins : State) (events : List Event) (p : ℕ) → IsBetweenRuns machine begins events →
    has (enders_in machine begins events) p ≡ steps_process events p
enders-stepped machine begins events p between = go (has (enders_in machine begins events) p) refl (steps_process events p) refl
  where
    same : length (own_enders p (enders_in machine begins events)) ≡ length (runs_of (steps_in machine p begins events))
    same = enders-run machine begins p events (between.runs p)

    go : (b : Bool) → has (enders_in machine begins events) p ≡ b → (c : Bool) → steps_process events p ≡ c → b ≡ c
    go true e true f = refl
    go false e false f = refl
    go true e false f =
        let some : 0 < length (own_enders p (enders_in machine begins events)) = some-own p (enders_in machine begins events) e in
        let none : length (runs_of (steps_in machine p begins events)) ≡ 0 = ap (λ l. length (runs_of l)) (no-steps machine begins events p f) in
        absurd (omega (arith, some, none, same))
    go false e true f =
        let none : length (own_enders p (enders_in machine begins events)) ≡ 0 = ap length (none-own p (enders_in machine begins events) e) in
        let some : 0 < length (runs_of (steps_in machine p begins events)) = some-steps machine begins events p f in
        absurd (omega (arith, some, none, same))

-- How many

-- so many of a process in some events between runs
pub ended-count : (machine : Machine) (begins : State) (events : List Event) (p : ℕ) → IsBetweenRuns machine begins events →
    count_of p (enders_in machine begins events) ≡ length (runs_of (steps_in machine p begins events))
ended-count machine begins events p between = count-is p (enders_in machine begins events) ∙ enders-run machine begins p events (between.runs p)

-- no more than its steps
runs-few : (machine : Machine) (state : State) (events : List Event) (p : ℕ) → length (runs_of (steps_in machine p state events)) ≤ sum_by steps_of events
runs-few machine state [] p = omega arith
runs-few machine state (event ∷ events) p =
    let sum : sum_by steps_of (event ∷ events) ≡ steps_of event + sum_by steps_of events = sum_by-cons steps_of event events in
    let rest : length (runs_of (steps_in machine p (after machine state event) events)) ≤ sum_by steps_of events = runs-few machine (after machine state event) events p in
    let one : length (runs_of (steps_in machine p state (event ∷ events))) ≤ steps_of event + length (runs_of (steps_in machine p (after machine state event) events)) =
    own event (runs_of (steps_in machine p (after machine state event) events)) (steps_in machine p (after machine state event) events) refl in
    omega (arith, sum, rest, one)
  where
    front : (b : Bool) (first : Activity × StepSeen) (runs : List ProcessRun) → length (run_before b first runs) ≤ 1 + length runs
    front true first [] = omega arith
    front true first (run ∷ runs) = let l : length (run_before true first (run ∷ runs)) ≡ suc (length runs) = refl in let m : length (run ∷ runs) ≡ suc (length runs) = refl in omega (arith, l, m)
    front false first runs = let l : length (run_before false first runs) ≡ suc (length runs) = refl in omega (arith, l)

    if-one : (b : Bool) (first : Activity × StepSeen) (steps : List (Activity × StepSeen)) → length (runs_of (seen_if b first steps)) ≤ 1 + length (runs_of steps)
    if-one true first steps = front (is_ready first.1.step.next) first (runs_of steps)
    if-one false first steps = let l : length (runs_of (seen_if false first steps)) ≡ length (runs_of steps) = refl in omega (arith, l)

    own : (e : Event) (runs : List ProcessRun) (steps : List (Activity × StepSeen)) → runs_of steps ≡ runs →
        length (runs_of (seen_if (is_step_of p e) ((process_at state p).activity, seen_step machine state p) steps)) ≤ steps_of e + length runs
    own (Step q) runs steps is =
        let l : length (runs_of steps) ≡ length runs = ap length is in
        let o : length (runs_of (seen_if (nat_eq p q) ((process_at state p).activity, seen_step machine state p) steps)) ≤ 1 + length (runs_of steps) =
        if-one (nat_eq p q) ((process_at state p).activity, seen_step machine state p) steps in
        omega (arith, l, o)
    own (LaneStep q) runs steps is = let l : length (runs_of steps) ≡ length runs = ap length is in omega (arith, l)
    own (Evaluation n) runs steps is = let l : length (runs_of steps) ≡ length runs = ap length is in omega (arith, l)
    own (NetUpdate n) runs steps is = let l : length (runs_of steps) ≡ length runs = ap length is in omega (arith, l)

pub process-runs-few : (machine : Machine) (phase : Phase) (p : ℕ) → length (process_runs machine p phase) ≤ sum_by steps_of phase.events
process-runs-few machine phase p = runs-few machine phase.begins phase.events p

-- Where they leave their process

-- the last run of some, among more behind them
pub last-run : (activity : Activity) (runs more : List ProcessRun) (run : ProcessRun) → 0 < length runs → slice_get (runs ++ more) (length runs - 1) ≡ Some run →
    activity_after_runs activity runs ≡ activity_at_end run.begins run.steps
last-run activity [] more run some here = absurd (omega (arith, some))
last-run activity (own ∷ []) more run some here = let same : own ≡ run = cc in ap (λ (r : ProcessRun). activity_at_end r.begins r.steps) same
last-run activity (own ∷ next ∷ runs) more run some here =
    let at : length (own ∷ next ∷ runs) - 1 ≡ suc (length runs) = (let l : length (own ∷ next ∷ runs) ≡ suc (suc (length runs)) = refl in omega (arith, l)) in
    let back : length runs ≡ length (next ∷ runs) - 1 = (let l : length (next ∷ runs) ≡ suc (length runs) = refl in omega (arith, l)) in
    let there : slice_get ((next ∷ runs) ++ more) (length runs) ≡ Some run = ap (λ n. slice_get (own ∷ ((next ∷ runs) ++ more)) n) (sym at) ∙ here in
    last-run (activity_at_end own.begins own.steps) (next ∷ runs) more run (let l : length (next ∷ runs) ≡ suc (length runs) = refl in omega (arith, l))
    (ap (λ n. slice_get ((next ∷ runs) ++ more) n) (sym back) ∙ there)

-- what the runs of a block append, among those of its phase
pub appended-is : (design : FlatDesign) (phase : Phase) (p : ℕ) (before block behind : List ProcessRun) → process_runs (good_machine design) p phase ≡ before ++ (block ++ behind) →
    appended_behind design phase p (length before) (length block) ≡ joined (map (λ (run : ProcessRun). appended_by phase.begins.time run.steps) block)
appended-is design phase p before block behind are =
    ap (λ l. joined (map (λ (run : ProcessRun). appended_by phase.begins.time run.steps) (take (length block) (drop (length before) l)))) are
    ∙ ap (λ l. joined (map (λ (run : ProcessRun). appended_by phase.begins.time run.steps) (take (length block) l))) (drop-append_seam before (block ++ behind))
    ∙ ap (λ l. joined (map (λ (run : ProcessRun). appended_by phase.begins.time run.steps) l)) (take-append_seam block behind)

pub joined-append : {A B : Type 0} (f : A → List B) (xs ys : List A) → joined (map f (xs ++ ys)) ≡ joined (map f xs) ++ joined (map f ys)
joined-append f [] ys = refl
joined-append f (x ∷ xs) ys = ap (λ l. f x ++ l) (joined-append f xs ys) ∙ sym (append_assoc (f x) (joined (map f xs)) (joined (map f ys)))
