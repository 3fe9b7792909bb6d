-- What the first order takes in a state: the event of a node, else of the least lane, else of the least ready process.
use Rattle.std.proofs.Common.{◌≡◌, ℕ, zero, suc, ◌+◌, ◌<◌, ◌≤◌, List, [], ◌∷◌, Bool, true, false, refl, sym, ap, subst, ◌∙◌, inl, inr, arith}
use Rattle.std.specs.Prelude.{Option, Some, None, slice_get, is_some}
use Rattle.std.proofs.lemmas.Bool.{cases_lt}
use Rattle.vf_base.specs.Lists.{first_place, earlier_place}
use Rattle.v_design.specs.States.{State, ProcessState, NodeState, Event, Step, LaneStep, Evaluation, NetUpdate, process_at, found_or, idle_process, is_process_event, is_ready, is_any}
use Rattle.v_design.specs.Runs.{named_event, or_event, least_work, work_of, first_event}
use Rattle.machine_laws.specs.SlotLoop.{NoNodeWorks, first_lane, first_ready}
use Rattle.phase_blocks.proofs.Lists.{true-false}

some-is : {A : Type 0} (default x y : A) → Some x ≡ Some y → x ≡ y
some-is default x y e = ap (found_or default) e

-- the work of a node is one of its events
pub work-of-node : (start : ℕ) (nodes : List NodeState) (event : Event) → work_of start nodes ≡ Some event → is_process_event event ≡ false
work-of-node start [] event e = cc
work-of-node start (x ∷ nodes) event e = go x.marked (is_some x.pending) e (work-of-node (start + 1) nodes event)
  where
    go : (a b : Bool) → least_work start a b (work_of (start + 1) nodes) ≡ Some event → (work_of (start + 1) nodes ≡ Some event → is_process_event event ≡ false) → is_process_event event ≡ false
    go true b f rest = ap is_process_event (sym (some-is event (Evaluation start) event f))
    go false true f rest = ap is_process_event (sym (some-is event (NetUpdate start) event f))
    go false false f rest = rest f

abbrev Takes : Option Event → Option ℕ → Option ℕ → Option Event
Takes work lane ready = or_event work (or_event (named_event LaneStep lane) (named_event Step ready))

-- a step of a process
step-of : (work : Option Event) (lane ready : Option ℕ) (p : ℕ) → ((event : Event) → work ≡ Some event → is_process_event event ≡ false) → Takes work lane ready ≡ Some (Step p) →
    (work ≡ None) × (lane ≡ None) × (ready ≡ Some p)
step-of (Some event) lane ready p nodes e =
    true-false (is_process_event event) (ap is_process_event (some-is event event (Step p) e)) (nodes event refl)
step-of None (Some l) ready p nodes e = cc
step-of None None None p nodes e = cc
step-of None None (Some r) p nodes e = (refl, refl, let z : r ≡ p = cc in ap Some z)

pub takes-step : (state : State) (p : ℕ) → first_event state ≡ Some (Step p) → NoNodeWorks state × (first_lane state ≡ None) × (first_ready state ≡ Some p)
takes-step state p e = step-of (work_of 0 state.nodes) (first_lane state) (first_ready state) p (work-of-node 0 state.nodes) e

-- a step of a lane
lane-of : (work : Option Event) (lane ready : Option ℕ) (p : ℕ) → ((event : Event) → work ≡ Some event → is_process_event event ≡ false) → Takes work lane ready ≡ Some (LaneStep p) →
    (work ≡ None) × (lane ≡ Some p)
lane-of (Some event) lane ready p nodes e =
    true-false (is_process_event event) (ap is_process_event (some-is event event (LaneStep p) e)) (nodes event refl)
lane-of None (Some l) ready p nodes e = (refl, let z : l ≡ p = cc in ap Some z)
lane-of None None None p nodes e = cc
lane-of None None (Some r) p nodes e = cc

pub takes-lane : (state : State) (p : ℕ) → first_event state ≡ Some (LaneStep p) → NoNodeWorks state × (first_lane state ≡ Some p)
takes-lane state p e = lane-of (work_of 0 state.nodes) (first_lane state) (first_ready state) p (work-of-node 0 state.nodes) e

-- an event of a node: then a node has work
node-of : (work : Option Event) (lane ready : Option ℕ) (event : Event) → is_process_event event ≡ false → Takes work lane ready ≡ Some event → work ≡ None → ⊥
node-of (Some other) lane ready event node e none = cc
node-of None (Some l) ready event node e none = true-false (is_process_event event) (ap is_process_event (sym (some-is event (LaneStep l) event e))) node
node-of None None None event node e none = cc
node-of None None (Some r) event node e none = true-false (is_process_event event) (ap is_process_event (sym (some-is event (Step r) event e))) node

pub takes-node : (state : State) (event : Event) → is_process_event event ≡ false → first_event state ≡ Some event → NoNodeWorks state → ⊥
takes-node state event node e none = node-of (work_of 0 state.nodes) (first_lane state) (first_ready state) event node e none

-- Places

-- what stands at the first place that passes a test passes it
placed : {A : Type 0} (test : A → Bool) (default : A) (xs : List A) (n : ℕ) → first_place test xs ≡ Some n → test (found_or default (slice_get xs n)) ≡ true
placed test default [] n e = cc
placed test default (x ∷ xs) n e = go (test x) (first_place test xs) refl e (placed test default xs)
  where
    go : (b : Bool) (o : Option ℕ) → test x ≡ b → earlier_place b o ≡ Some n → ((m : ℕ) → o ≡ Some m → test (found_or default (slice_get xs m)) ≡ true) →
        test (found_or default (slice_get (x ∷ xs) n)) ≡ true
    go true o t h rest = subst (λ k. test (found_or default (slice_get (x ∷ xs) k)) ≡ true) (some-is 0 0 n h) t
    go false None t h rest = cc
    go false (Some m) t h rest =
        subst (λ k. test (found_or default (slice_get (x ∷ xs) k)) ≡ true) (let z : suc m ≡ m + 1 = omega arith in z ∙ some-is 0 (m + 1) n h) (rest m refl)

-- and nothing before it does
unplaced : {A : Type 0} (test : A → Bool) (default : A) (xs : List A) (n q : ℕ) → first_place test xs ≡ Some n → q < n → test (found_or default (slice_get xs q)) ≡ false
unplaced test default [] n q e low = cc
unplaced test default (x ∷ xs) n zero e low = go (test x) (first_place test xs) refl e
  where
    go : (b : Bool) (o : Option ℕ) → test x ≡ b → earlier_place b o ≡ Some n → test x ≡ false
    go true o t h = let z : 0 ≡ n = some-is 0 0 n h in absurd (omega (arith, z, low))
    go false o t h = t
unplaced test default (x ∷ xs) n (suc q) e low = go (test x) (first_place test xs) e (λ m f below. unplaced test default xs m q f below)
  where
    go : (b : Bool) (o : Option ℕ) → earlier_place b o ≡ Some n → ((m : ℕ) → o ≡ Some m → q < m → test (found_or default (slice_get xs q)) ≡ false) →
        test (found_or default (slice_get xs q)) ≡ false
    go true o h rest = let z : 0 ≡ n = some-is 0 0 n h in absurd (omega (arith, z, low))
    go false None h rest = cc
    go false (Some m) h rest = let z : m + 1 ≡ n = some-is 0 (m + 1) n h in rest m refl (omega (arith, z, low))

none-placed : {A : Type 0} (test : A → Bool) (default : A) (xs : List A) (q : ℕ) → test default ≡ false → first_place test xs ≡ None → test (found_or default (slice_get xs q)) ≡ false
none-placed test default [] q idle e = idle
none-placed test default (x ∷ xs) zero idle e = go (test x) (first_place test xs) refl e
  where
    go : (b : Bool) (o : Option ℕ) → test x ≡ b → earlier_place b o ≡ None → test x ≡ false
    go true o t h = cc
    go false o t h = t
none-placed test default (x ∷ xs) (suc q) idle e = none-placed test default xs q idle (go (test x) (first_place test xs) e)
  where
    go : (b : Bool) (o : Option ℕ) → earlier_place b o ≡ None → o ≡ None
    go true o h = cc
    go false None h = refl
    go false (Some m) h = cc

-- Processes

pub ready-first : (state : State) (p : ℕ) → first_ready state ≡ Some p → is_ready (process_at state p).activity ≡ true
ready-first state p e = placed (λ (s : ProcessState). is_ready s.activity) idle_process state.processes p e

pub ready-none-below : (state : State) (p q : ℕ) → first_ready state ≡ Some p → q < p → is_ready (process_at state q).activity ≡ false
ready-none-below state p q e low = unplaced (λ (s : ProcessState). is_ready s.activity) idle_process state.processes p q e low

pub ready-none : (state : State) (q : ℕ) → first_ready state ≡ None → is_ready (process_at state q).activity ≡ false
ready-none state q e = none-placed (λ (s : ProcessState). is_ready s.activity) idle_process state.processes q refl e

pub lane-first : (state : State) (p : ℕ) → first_lane state ≡ Some p → is_any (process_at state p).lane ≡ true
lane-first state p e = placed (λ (s : ProcessState). is_any s.lane) idle_process state.processes p e

pub lane-none : (state : State) (q : ℕ) → first_lane state ≡ None → is_any (process_at state q).lane ≡ false
lane-none state q e = none-placed (λ (s : ProcessState). is_any s.lane) idle_process state.processes q refl e

-- a ready process isn't less than the least one
pub least-ready : (state : State) (p q : ℕ) → first_ready state ≡ Some p → is_ready (process_at state q).activity ≡ true → p ≤ q
least-ready state p q e r = elim (cases_lt q p) [
  | inl low ↦ true-false (is_ready (process_at state q).activity) r (ready-none-below state p q e low)
  | inr high ↦ omega (arith, high)
]
