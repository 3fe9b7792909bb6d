-- Events, work and turns, as the parts of a replay tell them (IEEE 1364-2001, clause 5).
use Rattle.std.proofs.Common.{◌≡◌, ℕ, zero, suc, ◌+◌, List, [], ◌∷◌, ◌++◌, Bool, true, false, not, ◌&&◌, ◌||◌, refl, sym, ap, ◌∙◌, arith}
use Rattle.std.specs.Prelude.{Option, Some, None, slice_get, is_some}
use Rattle.four_value.specs.Values.{LogicValue}
use Rattle.vf_base.specs.Lists.{change_at, first_place, earlier_place}
use Rattle.v_design.specs.Designs.{FlatNode, Machine}
use Rattle.v_design.specs.Assignments.{ValueUpdate, node_outputs}
use Rattle.v_design.specs.States.{State, NodeState, ProcessState, Event, Step, LaneStep, Evaluation, NetUpdate, after, evaluated, nets_updated, with_value, with_values, with_process, written_if}
use Rattle.v_design.specs.States.{process_at, step_of, write_of, first_update, is_ready, is_any, has_event, has_work, some_in, is_quiescent}
use Rattle.v_design.specs.Runs.{happened, work_of, least_work}
use Rattle.machine_laws.specs.SlotLoop.{first_lane, first_ready}
use Rattle.order_laws.specs.Settling.{node_events}

-- Time

time-written : (machine : Machine) (write : Option ValueUpdate) (s : State) → (written_if machine write s).time ≡ s.time
time-written machine None s = refl
time-written machine (Some u) s = refl

time-values : (machine : Machine) (objects : List ℕ) (values : List LogicValue) (s : State) → (with_values machine objects values s).time ≡ s.time
time-values machine [] values s = refl
time-values machine (object ∷ objects) [] s = refl
time-values machine (object ∷ objects) (value ∷ values) s = time-values machine objects values (with_value machine object value s)

time-nets : (machine : Machine) (number : ℕ) (found : Option FlatNode) (pending : Option (List LogicValue)) (s : State) → (nets_updated machine number found pending s).time ≡ s.time
time-nets machine number None pending s = refl
time-nets machine number (Some node) None s = refl
time-nets machine number (Some node) (Some values) s = time-values machine node.outputs values _

time-evaluated : (machine : Machine) (number : ℕ) (found : Option FlatNode) (s : State) → (evaluated machine number found s).time ≡ s.time
time-evaluated machine number None s = refl
time-evaluated machine number (Some node) s = refl

-- no event moves time
time-after : (machine : Machine) (s : State) (event : Event) → (after machine s event).time ≡ s.time
time-after machine s (Step p) = time-written machine (write_of (step_of machine s p).action) (with_process p _ s)
time-after machine s (LaneStep p) = time-written machine (first_update (process_at s p).lane) (with_process p _ s)
time-after machine s (Evaluation n) = time-evaluated machine n (slice_get machine.design.nodes n) s
time-after machine s (NetUpdate n) = time-nets machine n (slice_get machine.design.nodes n) _ s

pub time-happened : (machine : Machine) (s : State) (events : List Event) → (happened machine s events).time ≡ s.time
time-happened machine s [] = refl
time-happened machine s (event ∷ events) = time-happened machine (after machine s event) events ∙ time-after machine s event

-- Some events, and then others
pub happened-append : (machine : Machine) (state : State) (us ws : List Event) → happened machine state (us ++ ws) ≡ happened machine (happened machine state us) ws
happened-append machine state [] ws = refl
happened-append machine state (u ∷ us) ws = happened-append machine (after machine state u) us ws

-- Where no event is possible

work-is : (start : ℕ) (xs : List NodeState) → some_in has_work xs ≡ is_some (work_of start xs)
work-is start [] = refl
work-is start (x ∷ xs) = go x.marked (is_some x.pending) (work-is (start + 1) xs)
  where
    go : (a b : Bool) → some_in has_work xs ≡ is_some (work_of (start + 1) xs) → ((a || b) || some_in has_work xs) ≡ is_some (least_work start a b (work_of (start + 1) xs))
    go true b e = refl
    go false true e = refl
    go false false e = e

place-is : {A : Type 0} (test : A → Bool) (xs : List A) → some_in test xs ≡ is_some (first_place test xs)
place-is test [] = refl
place-is test (x ∷ xs) = go (test x) (first_place test xs) (place-is test xs)
  where
    go : (b : Bool) (o : Option ℕ) → some_in test xs ≡ is_some o → (b || some_in test xs) ≡ is_some (earlier_place b o)
    go true o e = refl
    go false None e = e
    go false (Some m) e = e

events-are : (xs : List ProcessState) → some_in has_event xs ≡ (some_in (λ (p : ProcessState). is_ready p.activity) xs || some_in (λ (p : ProcessState). is_any p.lane) xs)
events-are [] = refl
events-are (x ∷ xs) =
    go (is_ready x.activity) (is_any x.lane) (some_in (λ (p : ProcessState). is_ready p.activity) xs) (some_in (λ (p : ProcessState). is_any p.lane) xs) (some_in has_event xs) (events-are xs)
  where
    go : (r l rs ls es : Bool) → es ≡ (rs || ls) → ((r || l) || es) ≡ ((r || rs) || (l || ls))
    go true l rs ls es e = refl
    go false true true ls es e = refl
    go false true false ls es e = refl
    go false false rs ls es e = e

-- no event is possible exactly where there is no ready process, no lane with an update and no work
pub quiet-is : (state : State) → is_quiescent state ≡ (not (is_some (first_ready state) || is_some (first_lane state)) && not (is_some (work_of 0 state.nodes)))
quiet-is state =
    (λ i. not (events-are state.processes i) && not (work-is 0 state.nodes i))
    ∙ (λ i. not (place-is (λ (p : ProcessState). is_ready p.activity) state.processes i || place-is (λ (p : ProcessState). is_any p.lane) state.processes i) && not (is_some (work_of 0 state.nodes)))

pub quiet-processes : (state : State) → is_quiescent state ≡ true → some_in has_event state.processes ≡ false
quiet-processes state e = go (some_in has_event state.processes) (some_in has_work state.nodes) e
  where
    go : (a b : Bool) → (not a && not b) ≡ true → a ≡ false
    go true b e = cc
    go false b e = refl

-- Node events

abbrev pub Evaluates : ℕ → List NodeState → ℕ → Type 0
Evaluates start xs n = work_of start xs ≡ Some (Evaluation (start + n))

later-works : (start : ℕ) (x : NodeState) (xs : List NodeState) (n : ℕ) → Evaluates start (x ∷ xs) (suc n) → (x.marked ≡ false) × (is_some x.pending ≡ false) × Evaluates (start + 1) xs n
later-works start x xs n e = go x.marked (is_some x.pending) refl refl e
  where
    go : (a b : Bool) → x.marked ≡ a → is_some x.pending ≡ b → least_work start a b (work_of (start + 1) xs) ≡ Some (Evaluation (start + suc n)) →
        (x.marked ≡ false) × (is_some x.pending ≡ false) × Evaluates (start + 1) xs n
    go true b m p f = let z : start ≡ start + suc n = cc in absurd (omega (arith, z))
    go false true m p f = cc
    go false false m p f = (m, p, f ∙ ap (λ k. Some (Evaluation k)) (let z : start + suc n ≡ start + 1 + n = omega arith in z))

updates : (start : ℕ) (xs : List NodeState) (n : ℕ) (values : List LogicValue) → Evaluates start xs n →
    work_of start (change_at xs n (λ old. record { marked = false; pending = Some values })) ≡ Some (NetUpdate (start + n))
updates start [] n values e = cc
updates start (x ∷ xs) zero values e = let z : start ≡ start + 0 = omega arith in ap (λ k. Some (NetUpdate k)) z
updates start (x ∷ xs) (suc n) values e =
    let l = later-works start x xs n e in
    (λ i. least_work start (l.0 i) (l.1 i) (work_of (start + 1) (change_at xs n (λ old. record { marked = false; pending = Some values }))))
    ∙ updates (start + 1) xs n values l.2 ∙ ap (λ k. Some (NetUpdate k)) (let z : start + 1 + n ≡ start + suc n = omega arith in z)

abbrev on_work : ℕ → Machine → State → Option Event → List Event
on_work more machine state found = elim found [ None ↦ [] | Some event ↦ event ∷ node_events more machine (after machine state event) ]

-- without work there are no node events
pub events-none : (most : ℕ) (machine : Machine) (state : State) → work_of 0 state.nodes ≡ None → node_events most machine state ≡ []
events-none zero machine state none = refl
events-none (suc most) machine state none = ap (on_work most machine state) none

-- the least node is evaluated, and then its nets are updated
pub events-two : (most : ℕ) (machine : Machine) (state : State) (node : ℕ) (text : FlatNode) → work_of 0 state.nodes ≡ Some (Evaluation node) → slice_get machine.design.nodes node ≡ Some text →
    node_events (suc (suc most)) machine state ≡ Evaluation node ∷ NetUpdate node ∷ node_events most machine (after machine (after machine state (Evaluation node)) (NetUpdate node))
events-two most machine state node text work here =
    ap (on_work (suc most) machine state) work
    ∙ ap (λ o. Evaluation node ∷ on_work most machine (after machine state (Evaluation node)) o) update
  where
    same : 0 + node ≡ node
    same = omega arith

    update : work_of 0 (after machine state (Evaluation node)).nodes ≡ Some (NetUpdate node)
    update =
        ap (λ f. work_of 0 (evaluated machine node f state).nodes) here
        ∙ updates 0 state.nodes node (node_outputs machine node text state.values) (work ∙ ap (λ k. Some (Evaluation k)) (sym same))
        ∙ ap (λ k. Some (NetUpdate k)) same
