-- A run of a process and the runs nested in it, step by step (IEEE 1364-2001, clause 5).
use Rattle.std.proofs.Common.{◌≡◌, ◌≢◌, ◌⊎◌, inl, inr, ℕ, zero, suc, ◌+◌, ◌-◌, ◌<◌, ◌≤◌, List, [], ◌∷◌, ◌++◌, length, map, take, Bool, true}
use Rattle.std.proofs.Common.{false, ◌||◌, cond, refl, sym, ap, subst, ◌∙◌, arith, nat_eq, append-nil}
use Rattle.std.specs.Prelude.{Option, Some, None, nat_lt, sum_by}
use Rattle.std.proofs.lemmas.Bool.{ltb-true, ltb-false, eqb-true, eqb-false, eq-eqb}
use Rattle.vf_base.specs.Base.{process_number}
use Rattle.vf_base.specs.Lists.{AllHold, has}
use Rattle.v_design.specs.Designs.{Machine}
use Rattle.v_design.specs.States.{State, ProcessState, Event, Step, LaneStep, Evaluation, NetUpdate, after, found_or, idle_process, is_any, is_process_event, process_at, is_ready}
use Rattle.v_design.specs.Runs.{happened}
use Rattle.v_design.specs.WellFormed.{KeepsRules}
use Rattle.race_laws.specs.Writes.{WritesAreOf, WritesStay}
use Rattle.machine_laws.specs.SlotLoop.{NoNodeWorks, first_lane, first_ready, steps_of}
use Rattle.machine_laws.proofs.Places.{placed}
use Rattle.copy_laws.specs.Beside.{AreFirst}
use Rattle.block_causes.specs.Caused.{IsFollowing}
use Rattle.event_queue.specs.Arranged.{Ascends}
use Rattle.order_laws.proofs.ToFront.{happened-append}
use Rattle.order_laws.proofs.Woken.{lane_after_other}
use Rattle.block_runner.specs.declared.blocks.BlockEnd.{BlockEnd}
use Rattle.block_runner.specs.declared.blocks.BlockEnd.TheVariants.{Ran, GivenUp}
use Rattle.block_events.specs.declared.runner.Runner.{Runner}
use Rattle.block_told.specs.declared.told.BlockTold.{BlockTold}
use Rattle.block_events.specs.Runners.{machine_of, state_of, IsWhole}
use Rattle.block_told.specs.Running.{running_of, is_innermost, runs_after}
use Rattle.block_told.specs.Tells.{TellsBlock, IsUntold}
use Rattle.block_told.specs.Blocks.{in_run, in_run_after, in_run_from, IsBetweenRuns, AreBlock}
use Rattle.block_runner.specs.Ends.{EndsSo, GoesOn, LaneRan}
use Rattle.block_events.specs.Going.{TakesEvents, WorksOn, Settles, StepsOn, LaneStepsOn}
use Rattle.block_told.specs.Stays.{ready-stays}
use Rattle.block_told.specs.Places.{first-least, first-there, first-none, none-passes}
use Rattle.block_told.specs.Prefixes.{first-append, all-append, take-left, take-right, length-append, in-run-append, in-run-more}
use Rattle.block_told.specs.RunsAfter.{running-empty, own-after, others-after, after-ascends, after-hold, held-at, each-held}
use Rattle.block_told.specs.TellsMore.{tells-nothing}
use Rattle.block_runner.proofs.Growing.{nodes-none}

-- some events of a block that a process begins are taken and told
pub record IsGoing (machine : Machine) (begins : State) (first : ℕ) (events : List Event) (runner : Runner) (told : BlockTold) : Type 0 where
  pub in_order : AreFirst machine begins events
  pub whole : IsWhole runner
  pub machine_is : machine_of runner ≡ machine
  pub state_is : state_of runner ≡ happened machine begins events
  pub tells : TellsBlock machine begins events told
  pub lanes : first_lane (happened machine begins events) ≡ None
  pub runs : (process : ℕ) → in_run machine begins events process ≡ has (running_of runner.running.items) process
  pub ascend : Ascends (running_of runner.running.items)
  pub ready : AllHold (λ process. is_ready (process_at (happened machine begins events) process).activity ≡ true) (running_of runner.running.items)
  pub low : AllHold (λ process. process ≤ first) (running_of runner.running.items)
  pub stepped : (process : ℕ) → has (running_of runner.running.items) process ≡ true → has (map process_number told.stepped.items) process ≡ true
  pub follows : AllHold (IsFollowing begins (Step first)) events
  pub begun : (events ≡ []) ⊎ ((rest : List Event) × (events ≡ Step first ∷ rest))
  pub no_sooner : (count : ℕ) → 0 < count → count < length events → IsBetweenRuns machine begins (take count events) → ⊥

-- and a further step comes next: no node has work, a process is ready that is no greater than the first, and the block isn't at its end
pub record GoesOnNext (machine : Machine) (begins : State) (first : ℕ) (events : List Event) : Type 0 where
  pub quiet : NoNodeWorks (happened machine begins events)
  pub process : ℕ
  pub low : process ≤ first
  pub ready : is_ready (process_at (happened machine begins events) process).activity ≡ true
  pub busy : 0 < length events → IsBetweenRuns machine begins events → ⊥

-- The beginning

pub begin-going : (machine : Machine) (begins : State) (runner : Runner) (first : ℕ) (told : BlockTold) → IsWhole runner → machine_of runner ≡ machine → state_of runner ≡ begins →
    first_lane begins ≡ None → runner.running.items ≡ [] → IsUntold told → IsGoing machine begins first [] runner told
begin-going machine begins runner first told whole one same lanes none untold = record {
  in_order = tt;
  whole = whole;
  machine_is = one;
  state_is = same;
  tells = tells-nothing machine begins told untold;
  lanes = lanes;
  runs = λ process. sym (ap (λ l. has (running_of l) process) none);
  ascend = subst (λ l. Ascends (running_of l)) (sym none) tt;
  ready = subst (λ l. AllHold (λ process. is_ready (process_at begins process).activity ≡ true) (running_of l)) (sym none) tt;
  low = subst (λ l. AllHold (λ process. process ≤ first) (running_of l)) (sym none) tt;
  stepped = λ process there. let z : false ≡ true = sym (ap (λ l. has (running_of l) process) none) ∙ there in cc;
  follows = tt;
  begun = inl refl;
  no_sooner = λ count some few. absurd (omega (arith, few));
}

-- No lane fills

pub lanes-stay : (machine : Machine) (state : State) (event : Event) → ((process : ℕ) → LaneStep process ≡ event → ⊥) → first_lane state ≡ None → first_lane (after machine state event) ≡ None
lanes-stay machine state event fails none =
    first-none (λ (p : ProcessState). is_any p.lane) idle_process (after machine state event).processes
    (λ process. ap (λ l. is_any l) (lane_after_other machine state event process (fails process))
    ∙ none-passes (λ (p : ProcessState). is_any p.lane) idle_process state.processes process refl none)

-- Moments within a block

-- no shorter stretch is at its end, where more events come that begin with the stretch at no end
sooner : (machine : Machine) (begins : State) (us ws : List Event) → ((count : ℕ) → 0 < count → count < length us → IsBetweenRuns machine begins (take count us) → ⊥) →
    ((count : ℕ) → count < length ws → 0 < length us + count → IsBetweenRuns machine begins (us ++ take count ws) → ⊥) → (count : ℕ) → 0 < count → count < length (us ++ ws) →
    IsBetweenRuns machine begins (take count (us ++ ws)) → ⊥
sooner machine begins us ws early late count some few between = go (nat_lt count (length us)) refl
  where
    go : (b : Bool) → nat_lt count (length us) ≡ b → ⊥
    go true e =
        let low : count < length us = ltb-true _ _ e in
        early count some low (subst (IsBetweenRuns machine begins) (take-left count us ws (omega (arith, low))) between)
    go false e =
        let past : length us ≤ count = ltb-false _ _ e in
        let split : count ≡ length us + (count - length us) = omega (arith, past) in
        let less : count - length us < length ws = omega (arith, past, few, length-append us ws) in
        let more : 0 < length us + (count - length us) = omega (arith, split, some) in
        late (count - length us) less more (subst (IsBetweenRuns machine begins) (ap (λ n. take n (us ++ ws)) split ∙ take-right (count - length us) us ws) between)

-- what is told of a state is told of the one that it is
takes-at : (machine : Machine) (state : State) (events : List Event) (old new : Runner) → machine_of old ≡ machine → state_of old ≡ state → TakesEvents events old new →
    (AreFirst machine state events) × (machine_of new ≡ machine) × (state_of new ≡ happened machine state events)
takes-at machine state events old new one here takes = (
  subst (λ s. AreFirst machine s events) here (subst (λ m. AreFirst m (state_of old) events) one takes.in_order),
  takes.machine_is ∙ one,
  takes.state_is ∙ (λ i. happened (one i) (here i) events),
)

-- A step

begun-more : (first : ℕ) (us ws : List Event) → (us ≡ []) ⊎ ((rest : List Event) × (us ≡ Step first ∷ rest)) → (us ≡ [] → (rest : List Event) × (ws ≡ Step first ∷ rest)) →
    (us ++ ws ≡ []) ⊎ ((rest : List Event) × (us ++ ws ≡ Step first ∷ rest))
begun-more first us ws (inl none) next = let n = next none in inr (n.0, ap (λ l. l ++ ws) none ∙ n.1)
begun-more first us ws (inr some) next = inr (some.0 ++ ws, ap (λ l. l ++ ws) some.1)

-- the process that steps is the first, or one that wasn't ready at the beginning
step-follows : (begins : State) (first process : ℕ) → first_ready begins ≡ Some first → process ≤ first → IsFollowing begins (Step first) (Step process)
step-follows begins first process least low = go (nat_eq process first) refl
  where
    none-below : (b : Bool) → is_ready (process_at begins process).activity ≡ b → process ≢ first → is_ready (process_at begins process).activity ≡ false
    none-below true ready other =
        let above : first ≤ process = first-least (λ (p : ProcessState). is_ready p.activity) idle_process begins.processes first process least refl ready in
        absurd (other (omega (arith, above, low)))
    none-below false ready other = ready

    go : (b : Bool) → nat_eq process first ≡ b → IsFollowing begins (Step first) (Step process)
    go true e = inl (ap Step (sym (eqb-true process first e)))
    go false e = inr (none-below (is_ready (process_at begins process).activity) refl (eqb-false process first e))

pub step-going : (machine : Machine) (begins : State) (first : ℕ) (events : List Event) (process : ℕ) (old new : Runner) (told_old told_new : BlockTold) → first_ready begins ≡ Some first →
    IsGoing machine begins first events old told_old → GoesOnNext machine begins first events → first_ready (state_of old) ≡ Some process → StepsOn process old new told_old told_new →
    IsGoing machine begins first (events ++ Step process ∷ []) new told_new
step-going machine begins first events process old new told_old told_new least going next chosen steps = record {
  in_order = first-append machine begins events (Step process ∷ []) going.in_order at.0;
  whole = steps.takes.whole;
  machine_is = at.1;
  state_is = at.2 ∙ sym behind;
  tells = subst (λ m. TellsBlock m begins (events ++ Step process ∷ []) told_new) going.machine_is
      (steps.tells (λ inner. going.stepped process (innermost-there (running_of old.running.items) inner)) begins events
      ((λ i. happened (going.machine_is i) begins events) ∙ sym going.state_is) (subst (λ m. TellsBlock m begins events told_old) (sym going.machine_is) going.tells));
  lanes = subst (λ s. first_lane s ≡ None) (sym behind) (lanes-stay machine state (Step process) (λ other e. cc) going.lanes);
  runs = λ other. in-run-more machine begins events (Step process) other ∙ ap (in_run_after machine state (Step process) other) (going.runs other) ∙ stepped other
      ∙ ap (λ l. has l other) (sym running);
  ascend = subst Ascends (sym running) (after-ascends process ready (running_of old.running.items) going.ascend above);
  ready = subst (AllHold (λ other. is_ready (process_at (happened machine begins (events ++ Step process ∷ [])) other).activity ≡ true)) (sym running)
      (subst (λ s. AllHold (λ other. is_ready (process_at s other).activity ≡ true) (runs_after process ready (running_of old.running.items))) (sym behind)
      (each-held (λ other. is_ready (process_at (after machine state (Step process)) other).activity ≡ true) (runs_after process ready (running_of old.running.items)) still-ready));
  low = subst (AllHold (λ other. other ≤ first)) (sym running) (after-hold (λ other. other ≤ first) process ready (running_of old.running.items) going.low (λ is. low));
  stepped = λ other there. already other (sym (ap (λ l. has l other) running) ∙ there);
  follows = all-append (IsFollowing begins (Step first)) events (Step process ∷ []) going.follows (step-follows begins first process least low, tt);
  begun = begun-more first events (Step process ∷ []) going.begun (λ none. ([], ap (λ p. Step p ∷ []) (only none)));
  no_sooner = sooner machine begins events (Step process ∷ []) going.no_sooner at-once;
}
  where
    state : State
    state = happened machine begins events

    at : (AreFirst machine state (Step process ∷ [])) × (machine_of new ≡ machine) × (state_of new ≡ after machine state (Step process))
    at = takes-at machine state (Step process ∷ []) old new going.machine_is going.state_is steps.takes

    behind : happened machine begins (events ++ Step process ∷ []) ≡ after machine state (Step process)
    behind = happened-append machine begins events (Step process ∷ [])

    ready : Bool
    ready = is_ready (process_at (after machine state (Step process)) process).activity

    running : running_of new.running.items ≡ runs_after process ready (running_of old.running.items)
    running = steps.running ∙ ap (λ s. runs_after process (is_ready (process_at s process).activity) (running_of old.running.items)) at.2

    here : first_ready state ≡ Some process
    here = ap first_ready (sym going.state_is) ∙ chosen

    -- the process is the least of those that are ready
    least-ready : (other : ℕ) → is_ready (process_at state other).activity ≡ true → process ≤ other
    least-ready other is = first-least (λ (p : ProcessState). is_ready p.activity) idle_process state.processes process other here refl is

    low : process ≤ first
    low = (let le : process ≤ next.process = least-ready next.process next.ready in omega (arith, le, next.low))

    weaker : (runs : List ℕ) → AllHold (λ other. is_ready (process_at state other).activity ≡ true) runs → AllHold (λ other. process ≤ other) runs
    weaker [] h = tt
    weaker (x ∷ runs) h = (least-ready x h.0, weaker runs h.1)

    above : AllHold (λ other. process ≤ other) (running_of old.running.items)
    above = weaker (running_of old.running.items) going.ready

    innermost-there : (runs : List ℕ) → is_innermost runs process ≡ true → has runs process ≡ true
    innermost-there [] inner = cc
    innermost-there (x ∷ runs) inner = ap (λ b. b || has runs process) inner

    -- who is in the midst of a run
    stepped : (other : ℕ) → in_run_after machine state (Step process) other (has (running_of old.running.items) other) ≡ has (runs_after process ready (running_of old.running.items)) other
    stepped other = go (nat_eq other process) refl
      where
        go : (b : Bool) → nat_eq other process ≡ b →
            cond b (is_ready (process_at (after machine state (Step process)) other).activity) (has (running_of old.running.items) other)
            ≡ has (runs_after process ready (running_of old.running.items)) other
        go true e =
            let same : other ≡ process = eqb-true other process e in
            ap (λ q. is_ready (process_at (after machine state (Step process)) q).activity) same
            ∙ sym (ap (has (runs_after process ready (running_of old.running.items))) same ∙ own-after process ready (running_of old.running.items) going.ascend above)
        go false e = sym (others-after process ready (running_of old.running.items) other (eqb-false other process e))

    -- each of them is ready
    still-ready : (other : ℕ) → has (runs_after process ready (running_of old.running.items)) other ≡ true → is_ready (process_at (after machine state (Step process)) other).activity ≡ true
    still-ready other there = go (nat_eq other process) refl
      where
        go : (b : Bool) → nat_eq other process ≡ b → is_ready (process_at (after machine state (Step process)) other).activity ≡ true
        go true e =
            let same : other ≡ process = eqb-true other process e in
            ap (λ q. is_ready (process_at (after machine state (Step process)) q).activity) same
            ∙ sym (own-after process ready (running_of old.running.items) going.ascend above) ∙ ap (has (runs_after process ready (running_of old.running.items))) (sym same) ∙ there
        go false e =
            let fails : other ≢ process = eqb-false other process e in
            ready-stays machine state (Step process) other (λ is. fails (let z : other ≡ process = cc in z))
            (held-at (λ q. is_ready (process_at state q).activity ≡ true) (running_of old.running.items) other going.ready
            (sym (others-after process ready (running_of old.running.items) other fails) ∙ there))

    -- and is told
    already : (other : ℕ) → has (runs_after process ready (running_of old.running.items)) other ≡ true → has (map process_number told_new.stepped.items) other ≡ true
    already other there = go (nat_eq other process) refl
      where
        go : (b : Bool) → nat_eq other process ≡ b → has (map process_number told_new.stepped.items) other ≡ true
        go true e = ap (has (map process_number told_new.stepped.items)) (eqb-true other process e) ∙ own (is_innermost (running_of old.running.items) process) refl
          where
            own : (b : Bool) → is_innermost (running_of old.running.items) process ≡ b → has (map process_number told_new.stepped.items) process ≡ true
            own true inner = steps.stepped process (going.stepped process (innermost-there (running_of old.running.items) inner))
            own false outer = steps.begun outer
        go false e = steps.stepped other (going.stepped other (sym (others-after process ready (running_of old.running.items) other (eqb-false other process e)) ∙ there))

    -- where it is the first event it is one of the first process
    some-is : (x y : ℕ) → Some x ≡ Some y → x ≡ y
    some-is x y e = ap (found_or x) e

    only : events ≡ [] → process ≡ first
    only none = some-is process first (sym here ∙ ap (λ es. first_ready (happened machine begins es)) none ∙ least)

    at-once : (count : ℕ) → count < 1 → 0 < length events + count → IsBetweenRuns machine begins (events ++ take count (Step process ∷ [])) → ⊥
    at-once zero few some between =
        next.busy (omega (arith, some)) (subst (IsBetweenRuns machine begins) (append-nil events) between)
    at-once (suc count) few some between = absurd (omega (arith, few))

-- Work on nodes

pub nodes-quiet : (machine : Machine) (state : State) (events : List Event) → AllHold (λ event. is_process_event event ≡ false) events → (process : ℕ) (before : Bool) →
    in_run_from machine state events process before ≡ before
nodes-quiet machine state [] of process before = refl
nodes-quiet machine state (Step number ∷ events) of process before = let z : true ≡ false = of.0 in cc
nodes-quiet machine state (LaneStep number ∷ events) of process before = let z : true ≡ false = of.0 in cc
nodes-quiet machine state (Evaluation node ∷ events) of process before = nodes-quiet machine (after machine state (Evaluation node)) events of.1 process before
nodes-quiet machine state (NetUpdate node ∷ events) of process before = nodes-quiet machine (after machine state (NetUpdate node)) events of.1 process before

no-step : (process : ℕ) (event : Event) → is_process_event event ≡ false → Step process ≡ event → ⊥
no-step process (Step number) of e = let z : true ≡ false = of in cc
no-step process (LaneStep number) of e = cc
no-step process (Evaluation node) of e = cc
no-step process (NetUpdate node) of e = cc

no-lane : (process : ℕ) (event : Event) → is_process_event event ≡ false → LaneStep process ≡ event → ⊥
no-lane process (Step number) of e = cc
no-lane process (LaneStep number) of e = let z : true ≡ false = of in cc
no-lane process (Evaluation node) of e = cc
no-lane process (NetUpdate node) of e = cc

nodes-ready : (machine : Machine) (state : State) (events : List Event) → AllHold (λ event. is_process_event event ≡ false) events → (process : ℕ) →
    is_ready (process_at state process).activity ≡ true → is_ready (process_at (happened machine state events) process).activity ≡ true
nodes-ready machine state [] of process is = is
nodes-ready machine state (event ∷ events) of process is =
    nodes-ready machine (after machine state event) events of.1 process (ready-stays machine state event process (no-step process event of.0) is)

nodes-lanes : (machine : Machine) (state : State) (events : List Event) → AllHold (λ event. is_process_event event ≡ false) events → first_lane state ≡ None →
    first_lane (happened machine state events) ≡ None
nodes-lanes machine state [] of none = none
nodes-lanes machine state (event ∷ events) of none = nodes-lanes machine (after machine state event) events of.1 (lanes-stay machine state event (λ process. no-lane process event of.0) none)

pub nodes-follow : (begins : State) (first : Event) (events : List Event) → AllHold (λ event. is_process_event event ≡ false) events → AllHold (IsFollowing begins first) events
nodes-follow begins first [] of = tt
nodes-follow begins first (Step number ∷ events) of = let z : true ≡ false = of.0 in absurd (cc)
nodes-follow begins first (LaneStep number ∷ events) of = let z : true ≡ false = of.0 in absurd (cc)
nodes-follow begins first (Evaluation node ∷ events) of = (tt, nodes-follow begins first events of.1)
nodes-follow begins first (NetUpdate node ∷ events) of = (tt, nodes-follow begins first events of.1)

pub settle-going : (machine : Machine) (begins : State) (first : ℕ) (events more : List Event) (old new : Runner) (told_old told_new : BlockTold) →
    IsGoing machine begins first events old told_old → ((events ≡ []) → ⊥) → WorksOn more old new told_old told_new → IsGoing machine begins first (events ++ more) new told_new
settle-going machine begins first events more old new told_old told_new going some works = record {
  in_order = first-append machine begins events more going.in_order at.0;
  whole = works.takes.whole;
  machine_is = at.1;
  state_is = at.2 ∙ sym behind;
  tells = subst (λ m. TellsBlock m begins (events ++ more) told_new) going.machine_is
      (works.tells begins events ((λ i. happened (going.machine_is i) begins events) ∙ sym going.state_is) (subst (λ m. TellsBlock m begins events told_old) (sym going.machine_is) going.tells));
  lanes = subst (λ s. first_lane s ≡ None) (sym behind) (nodes-lanes machine state more works.of_nodes going.lanes);
  runs = λ process. in-run-append machine begins events more process false ∙ nodes-quiet machine state more works.of_nodes process (in_run machine begins events process) ∙ going.runs process
      ∙ ap (λ l. has l process) (sym works.running);
  ascend = subst Ascends (sym works.running) going.ascend;
  ready = subst (AllHold (λ process. is_ready (process_at (happened machine begins (events ++ more)) process).activity ≡ true)) (sym works.running)
      (each-held (λ process. is_ready (process_at (happened machine begins (events ++ more)) process).activity ≡ true) (running_of old.running.items)
      (λ process there. subst (λ s. is_ready (process_at s process).activity ≡ true) (sym behind)
      (nodes-ready machine state more works.of_nodes process
      (held-at (λ q. is_ready (process_at state q).activity ≡ true) (running_of old.running.items) process going.ready there))));
  low = subst (AllHold (λ process. process ≤ first)) (sym works.running) going.low;
  stepped = λ process there. ap (λ l. has (map process_number l) process) works.stepped ∙ going.stepped process (sym (ap (λ l. has l process) works.running) ∙ there);
  follows = all-append (IsFollowing begins (Step first)) events more going.follows (nodes-follow begins (Step first) more works.of_nodes);
  begun = begun-more first events more going.begun (λ none. absurd (some none));
  no_sooner = sooner machine begins events more going.no_sooner at-work;
}
  where
    state : State
    state = happened machine begins events

    at : (AreFirst machine state more) × (machine_of new ≡ machine) × (state_of new ≡ happened machine state more)
    at = takes-at machine state more old new going.machine_is going.state_is works.takes

    behind : happened machine begins (events ++ more) ≡ happened machine state more
    behind = happened-append machine begins events more

    at-work : (count : ℕ) → count < length more → 0 < length events + count → IsBetweenRuns machine begins (events ++ take count more) → ⊥
    at-work count few any between =
        works.busy count few
        (subst NoNodeWorks (happened-append machine begins events (take count more) ∙ sym (λ i. happened (going.machine_is i) (going.state_is i) (take count more)))
        between.nodes)

-- The end

-- no process is in the midst of a run, and no node has work: the block is at its end
pub going-ends : (machine : Machine) (begins : State) (first : ℕ) (events : List Event) (runner : Runner) (told : BlockTold) → IsGoing machine begins first events runner told →
    ((events ≡ []) → ⊥) → NoNodeWorks (state_of runner) → runner.running.items ≡ [] → AreBlock machine begins events
going-ends machine begins first events runner told going some quiet none = go going.begun
  where
    between : IsBetweenRuns machine begins events
    between = record {
      nodes = subst NoNodeWorks going.state_is quiet;
      runs = λ process. going.runs process ∙ ap (λ l. has (running_of l) process) none;
    }

    go : (events ≡ []) ⊎ ((rest : List Event) × (events ≡ Step first ∷ rest)) → AreBlock machine begins events
    go (inl fails) = absurd (some fails)
    go (inr are) = record {
      first = Step first;
      rest = are.0;
      are = are.1;
      block = record {
        in_order = subst (AreFirst machine begins) are.1 going.in_order;
        begins = refl;
        follows = (subst (AllHold (IsFollowing begins (Step first))) are.1 going.follows).1;
        ends = subst (IsBetweenRuns machine begins) are.1 between;
        no_sooner = subst (λ es. (count : ℕ) → 0 < count → count < length es → IsBetweenRuns machine begins (take count es) → ⊥) are.1 going.no_sooner;
      };
    }

-- or a run goes on
pub going-on : (machine : Machine) (begins : State) (first : ℕ) (events : List Event) (runner : Runner) (told : BlockTold) → IsGoing machine begins first events runner told →
    NoNodeWorks (state_of runner) → (runner.running.items ≡ [] → ⊥) → GoesOnNext machine begins first events
going-on machine begins first events runner told going quiet some = go (running_of runner.running.items) refl
  where
    go : (runs : List ℕ) → running_of runner.running.items ≡ runs → GoesOnNext machine begins first events
    go [] e = absurd (some (running-empty runner.running.items e))
    go (top ∷ runs) e =
        let there : has (running_of runner.running.items) top ≡ true = ap (λ l. has l top) e ∙ ap (λ b. b || has runs top) (eq-eqb top top refl) in
        record {
          quiet = subst NoNodeWorks going.state_is quiet;
          process = top;
          low = held-at (λ process. process ≤ first) (running_of runner.running.items) top going.low there;
          ready = held-at (λ process. is_ready (process_at (happened machine begins events) process).activity ≡ true) (running_of runner.running.items) top going.ready there;
          busy = λ more between. (let z : true ≡ false = sym there ∙ sym (going.runs top) ∙ between.runs top in cc);
        }

-- The loop

-- what was taken and told so far leads from the state at the beginning, where the process that begins the block was the least ready one
pub record RunsSoFar (machine : Machine) (begins : State) (now : Runner) (told : BlockTold) (taken : ℕ) : Type 0 where
  pub first : ℕ
  pub least : first_ready begins ≡ Some first
  pub events : List Event
  pub going : IsGoing machine begins first events now told
  pub next : GoesOnNext machine begins first events
  pub counted : told.steps ≡ taken

abbrev pub runs-begin : (machine : Machine) (begins : State) (runner : Runner) (told : BlockTold) (first : ℕ) → IsWhole runner → machine_of runner ≡ machine → state_of runner ≡ begins →
    NoNodeWorks begins → first_lane begins ≡ None → first_ready begins ≡ Some first → runner.running.items ≡ [] → IsUntold told → RunsSoFar machine begins runner told 0
runs-begin machine begins runner told first whole one same quiet lanes least none untold = record {
  first = first;
  least = least;
  events = [];
  going = begin-going machine begins runner first told whole one same lanes none untold;
  next = record {
    quiet = quiet;
    process = first;
    low = omega arith;
    ready = placed (λ (p : ProcessState). is_ready p.activity) idle_process begins.processes first least;
    busy = λ few between. absurd (omega (arith, few));
  };
  counted = untold.steps;
}

-- the next step is possible
module _ (machine : Machine) (begins : State) (now : Runner) (told : BlockTold) (taken : ℕ) (so_far : RunsSoFar machine begins now told taken) where
  pub runs-ready : first_ready (state_of now) ≡ None → ⊥
  runs-ready none =
      first-there (λ (p : ProcessState). is_ready p.activity) idle_process (happened machine begins so_far.events).processes so_far.next.process refl so_far.next.ready
      (ap first_ready (sym so_far.going.state_is) ∙ none)

  -- so many steps were more than it may take
  abbrev pub runs-over : (most : ℕ) → most + 1 ≤ taken → GoesOn machine begins most GivenUp now told
  runs-over most past =
      let count : told.steps ≡ sum_by steps_of so_far.events = so_far.going.tells.count in
      let all : told.steps ≡ taken = so_far.counted in
      record {
        events = so_far.events;
        in_order = so_far.going.in_order;
        whole = so_far.going.whole;
        machine_is = so_far.going.machine_is;
        state_is = so_far.going.state_is;
        tells = so_far.going.tells;
        ends = inl (omega (arith, past, count, all));
      }

  -- each process is still to write objects of the design alone, which keeps its rules
  pub runs-rules : KeepsRules machine.design → KeepsRules (machine_of now).design
  runs-rules rules = subst (λ (m : Machine). KeepsRules m.design) (sym so_far.going.machine_is) rules

  pub runs-write : WritesStay → KeepsRules machine.design → WritesAreOf machine.design begins → WritesAreOf (machine_of now).design (state_of now)
  runs-write law rules writes =
      subst (λ (m : Machine). WritesAreOf m.design (state_of now)) (sym so_far.going.machine_is)
      (subst (WritesAreOf machine.design) (sym so_far.going.state_is) (law.after_events machine begins so_far.events rules writes))

  -- a step and the work on nodes behind it
  module _ (process : ℕ) (stepped settled : Runner) (told_stepped told_settled : BlockTold) (chosen : first_ready (state_of now) ≡ Some process)
      (steps : StepsOn process now stepped told told_stepped) (quiet : Bool) (settles : Settles quiet stepped settled told_stepped told_settled)
    where
      -- the events with these
      abbrev pub all_events : List Event
      all_events = (so_far.events ++ Step process ∷ []) ++ settles.events

      some : (us : List Event) → (us ++ Step process ∷ [] ≡ []) → ⊥
      some [] e = cc
      some (u ∷ us) e = cc

      some-more : (us ws : List Event) → ((us ≡ []) → ⊥) → (us ++ ws ≡ []) → ⊥
      some-more [] ws fails e = fails refl
      some-more (u ∷ us) ws fails e = cc

      pub settled-going : IsGoing machine begins so_far.first all_events settled told_settled
      settled-going =
          settle-going machine begins so_far.first (so_far.events ++ Step process ∷ []) settles.events stepped settled told_stepped told_settled
          (step-going machine begins so_far.first so_far.events process now stepped told told_stepped so_far.least so_far.going so_far.next chosen steps)
          (some so_far.events) settles.works

      pub not-none : (all_events ≡ []) → ⊥
      not-none = some-more (so_far.events ++ Step process ∷ []) settles.events (some so_far.events)

      abbrev goes : (most : ℕ) (end : BlockEnd) → EndsSo machine begins most all_events end → GoesOn machine begins most end settled told_settled
      goes most end ends = record {
        events = all_events;
        in_order = settled-going.in_order;
        whole = settled-going.whole;
        machine_is = settled-going.machine_is;
        state_is = settled-going.state_is;
        tells = settled-going.tells;
        ends = ends;
      }

      -- it took one step more
      pub one-more : told_settled.steps ≡ taken + 1
      one-more = settles.works.steps ∙ steps.count ∙ ap (λ n. n + 1) so_far.counted

      -- it is given up
      abbrev pub runs-given_up : (most : ℕ) → quiet ≡ false → GoesOn machine begins most GivenUp settled told_settled
      runs-given_up most fails = goes most GivenUp (inr (omega (arith, settles.many fails, length-append (so_far.events ++ Step process ∷ []) settles.events)))

      -- or at its end
      abbrev pub runs-ran : (most : ℕ) → quiet ≡ true → settled.running.items ≡ [] → GoesOn machine begins most Ran settled told_settled
      runs-ran most holds none =
          goes most Ran (going-ends machine begins so_far.first all_events settled told_settled settled-going not-none (settles.rests holds) none)

      -- or goes on
      abbrev pub runs-more : quiet ≡ true → (settled.running.items ≡ [] → ⊥) → RunsSoFar machine begins settled told_settled (taken + 1)
      runs-more holds running = record {
        first = so_far.first;
        least = so_far.least;
        events = all_events;
        going = settled-going;
        next = going-on machine begins so_far.first all_events settled told_settled settled-going (settles.rests holds) running;
        counted = one-more;
      }

-- A lane's block

-- the step of a lane and the work on nodes behind it
module _ (old stepped settled : Runner) (process : ℕ) (told_stepped told_settled : BlockTold) (steps : LaneStepsOn process old stepped told_stepped) (quiet : Bool)
    (settles : Settles quiet stepped settled told_stepped told_settled)
  where
    abbrev pub machine : Machine
    machine = machine_of old

    abbrev pub begins : State
    begins = state_of old

    abbrev pub lane_events : List Event
    lane_events = LaneStep process ∷ settles.events

    pub at : (AreFirst machine (after machine begins (LaneStep process)) settles.events) × (machine_of settled ≡ machine)
        × (state_of settled ≡ happened machine (after machine begins (LaneStep process)) settles.events)
    at = takes-at machine (after machine begins (LaneStep process)) settles.events stepped settled steps.takes.machine_is steps.takes.state_is settles.works.takes

    pub told : TellsBlock machine begins lane_events told_settled
    told =
        subst (λ m. TellsBlock m begins (LaneStep process ∷ settles.events) told_settled) steps.takes.machine_is
        (settles.works.tells begins (LaneStep process ∷ []) ((λ i. after (steps.takes.machine_is i) begins (LaneStep process)) ∙ sym steps.takes.state_is)
        (subst (λ m. TellsBlock m begins (LaneStep process ∷ []) told_stepped) (sym steps.takes.machine_is) steps.tells))

    abbrev goes_so : (most : ℕ) (end : BlockEnd) → EndsSo machine begins most lane_events end → GoesOn machine begins most end settled told_settled
    goes_so most end ends = record {
      events = LaneStep process ∷ settles.events;
      in_order = (steps.takes.in_order.0, at.0);
      whole = settles.works.takes.whole;
      machine_is = at.1;
      state_is = at.2;
      tells = told;
      ends = ends;
    }

    -- its step is the only one
    pub lane-one : told_settled.steps ≡ 1
    lane-one = settles.works.steps ∙ steps.tells.count

    abbrev pub lane-given_up : (most : ℕ) → quiet ≡ false → GoesOn machine begins most GivenUp settled told_settled
    lane-given_up most fails = goes_so most GivenUp (inr (omega (arith, settles.many fails)))

    -- no moment before the work on nodes ends is one between runs
    pub sooner-lane : (count : ℕ) → 0 < count → count < length (LaneStep process ∷ settles.events) → IsBetweenRuns machine begins (take count (LaneStep process ∷ settles.events)) → ⊥
    sooner-lane zero some few between = absurd (omega (arith, some))
    sooner-lane (suc count) some few between =
        settles.works.busy count (omega (arith, few))
        (subst NoNodeWorks (sym (λ i. happened (steps.takes.machine_is i) (steps.takes.state_is i) (take count settles.events))) between.nodes)

    abbrev pub lane-ran : (most : ℕ) → quiet ≡ true → GoesOn machine begins most Ran settled told_settled
    lane-ran most holds = goes_so most Ran (record {
      first = LaneStep process;
      rest = settles.events;
      are = refl;
      block = record {
        in_order = (steps.takes.in_order.0, at.0);
        begins = refl;
        follows = nodes-follow begins (LaneStep process) settles.events settles.works.of_nodes;
        ends = record {
          nodes = subst NoNodeWorks at.2 (settles.rests holds);
          runs = λ other. nodes-quiet machine (after machine begins (LaneStep process)) settles.events settles.works.of_nodes other false;
        };
        no_sooner = sooner-lane;
      };
    })

    -- no process takes a step
    pub lane-given_up-so : (most : ℕ) → quiet ≡ false → LaneRan machine begins process most GivenUp settled told_settled
    lane-given_up-so most fails = record {
      goes = lane-given_up most fails;
      no_steps = λ other. nodes-none machine other (after machine begins (LaneStep process)) settles.events settles.works.of_nodes;
    }

    pub lane-ran-so : (most : ℕ) → quiet ≡ true → LaneRan machine begins process most Ran settled told_settled
    lane-ran-so most holds = record {
      goes = lane-ran most holds;
      no_steps = λ other. nodes-none machine other (after machine begins (LaneStep process)) settles.events settles.works.of_nodes;
    }
