-- A slot of the first order that isn't hyperactive goes to its end: the bound on its moves is never met.
use Rattle.std.proofs.Common.{◌≡◌, ℕ, zero, suc, ◌+◌, ◌*◌, ◌<◌, ◌≤◌, List, [], ◌∷◌, ◌++◌, map, length, Bool, true, false, not, ◌&&◌, ◌||◌, refl, sym, ap, subst, ◌∙◌, ◌⊎◌, inl, inr, arith, filter}
use Rattle.std.specs.Prelude.{Option, Some, None, slice_get, is_some, cond}
use Rattle.std.proofs.lemmas.List.Sums.{sum_by-cons}
use Rattle.vf_base.specs.Lists.{first_place, earlier_place}
use Rattle.four_value.specs.Values.{LogicValue}
use Rattle.v_design.specs.Designs.{FlatNode, Machine}
use Rattle.v_design.specs.Assignments.{ValueUpdate, node_outputs}
use Rattle.v_design.specs.Processes.{Activity, Ready, Waiting, Asleep, Postponed, Done}
use Rattle.v_design.specs.States.{State, ProcessState, NodeState, LaterUpdate, Event, Step, LaneStep, Evaluation, NetUpdate, TurnKind, PostponedTurn, UpdatesTurn, TimeTurn, is_process_event, after}
use Rattle.v_design.specs.States.{found_or, idle_node, node_at, is_ready, is_any, is_quiescent, is_postponed, resumed, is_due, has_event, has_work, some_in, turn_by, with_node, with_values}
use Rattle.v_design.specs.States.{evaluated, nets_updated, turn_of, turned}
use Rattle.v_design.specs.Runs.{Move, Happens, Turns, happened, named_event, or_event, least_work, work_of, first_event, turn_in_slot, event_or_turn, made, turned_by, all_made, is_counted}
use Rattle.v_design.specs.Runs.{counted_steps, less_one_if, slot_moves, most_steps, most_moves}
use Rattle.v_design.specs.WellFormed.{KeepsRules}
use Rattle.v_design.specs.Laws.{IsStateOf, SlotsEnd}
use Rattle.order_laws.specs.Settling.{node_events, SettlingEnds}
use Rattle.order_laws.proofs.PathLaws.{true-false, or-neither}
use Rattle.order_laws.proofs.NetStates.{node-other, node-values-untouched}
use Rattle.order_laws.proofs.SettledNets.{node-here, not-both}
use Rattle.order_laws.proofs.RunStates.{some_below}
use Rattle.order_laws.proofs.PhasesGoOn.{state-after, state-turned}
use Rattle.order_laws.proofs.TurnsKeep.{nodes-turned}

-- The work of nodes in the first order: the least node with work, and all after it twice

pick_work : Bool → Bool → ℕ → ℕ → ℕ
pick_work true pending n rest = 2 * n + 2
pick_work false true n rest = 2 * n + 1
pick_work false false n rest = rest

work : List NodeState → ℕ
unfolding pick_work
work [] = 0
work (x ∷ xs) = pick_work x.marked (is_some x.pending) (length xs) (work xs)

at : List NodeState → ℕ → NodeState
at xs k = found_or idle_node (slice_get xs k)

work-most : (xs : List NodeState) → work xs ≤ 2 * length xs
unfolding work pick_work
work-most [] = omega arith
work-most (x ∷ xs) = go x.marked (is_some x.pending) (work-most xs)
  where
    go : (a b : Bool) → work xs ≤ 2 * length xs → pick_work a b (length xs) (work xs) ≤ 2 * suc (length xs)
    go true b h = omega arith
    go false true h = omega arith
    go false false h = omega (arith, h)

-- no node before a number has work
IdleBefore : List NodeState → ℕ → Type 0
unfolding at
IdleBefore xs k = (j : ℕ) → j < k → has_work (at xs j) ≡ false

parts : (a b : Bool) → (a || b) ≡ false → (a ≡ false) × (b ≡ false)
parts true b e = cc
parts false b e = (refl, e)

work-idle : (xs : List NodeState) (k : ℕ) → IdleBefore xs k → has_work (at xs k) ≡ false → k < length xs → work xs + 2 * k + 2 ≤ 2 * length xs
unfolding work pick_work IdleBefore at
work-idle [] k h i l = absurd (omega (arith, l))
work-idle (x ∷ xs) zero h i l =
    let p = parts x.marked (is_some x.pending) i in
    let e : pick_work x.marked (is_some x.pending) (length xs) (work xs) ≡ work xs = (λ j. pick_work (p.0 j) (p.1 j) (length xs) (work xs)) in
    let m : work xs ≤ 2 * length xs = work-most xs in
    omega (arith, e, m)
work-idle (x ∷ xs) (suc k) h i l =
    let p = parts x.marked (is_some x.pending) (h 0 (omega arith)) in
    let e : pick_work x.marked (is_some x.pending) (length xs) (work xs) ≡ work xs = (λ j. pick_work (p.0 j) (p.1 j) (length xs) (work xs)) in
    let m : work xs + 2 * k + 2 ≤ 2 * length xs = work-idle xs k (λ j b. h (suc j) (omega (arith, b))) i (omega (arith, l)) in
    omega (arith, e, m)

work-unmarked : (xs : List NodeState) (k : ℕ) → IdleBefore xs k → (at xs k).marked ≡ false → k < length xs → work xs + 2 * k + 1 ≤ 2 * length xs
unfolding work pick_work IdleBefore at
work-unmarked [] k h i l = absurd (omega (arith, l))
work-unmarked (x ∷ xs) zero h i l =
    go (is_some x.pending) (ap (λ a. pick_work a (is_some x.pending) (length xs) (work xs)) i) (work-most xs)
  where
    go : (b : Bool) → pick_work x.marked b (length xs) (work xs) ≡ pick_work false b (length xs) (work xs) → work xs ≤ 2 * length xs →
        pick_work x.marked b (length xs) (work xs) + 2 * 0 + 1 ≤ 2 * suc (length xs)
    go true e m = omega (arith, e)
    go false e m = omega (arith, e, m)
work-unmarked (x ∷ xs) (suc k) h i l =
    let p = parts x.marked (is_some x.pending) (h 0 (omega arith)) in
    let e : pick_work x.marked (is_some x.pending) (length xs) (work xs) ≡ work xs = (λ j. pick_work (p.0 j) (p.1 j) (length xs) (work xs)) in
    let m : work xs + 2 * k + 1 ≤ 2 * length xs = work-unmarked xs k (λ j b. h (suc j) (omega (arith, b))) i (omega (arith, l)) in
    omega (arith, e, m)

-- the event of the least node with work
record LeastWork (start : ℕ) (xs : List NodeState) (event : Event) : Type 0 where
  number : ℕ
  there : number < length xs
  idle : IdleBefore xs number
  which : ((event ≡ Evaluation (start + number)) × ((at xs number).marked ≡ true) × (2 * length xs ≤ work xs + 2 * number))
      ⊎ ((event ≡ NetUpdate (start + number)) × ((at xs number).marked ≡ false) × (is_some (at xs number).pending ≡ true) × (2 * length xs ≤ work xs + 2 * number + 1))

some_eq : {A : Type 0} (x y : A) → Some x ≡ Some y → x ≡ y
some_eq x y e = ap (found_or x) e

least-step : (start : ℕ) (x : NodeState) (xs : List NodeState) (event : Event) (a b : Bool) → x.marked ≡ a → is_some x.pending ≡ b → least_work start a b (work_of (start + 1) xs) ≡ Some event →
    (work_of (start + 1) xs ≡ Some event → LeastWork (start + 1) xs event) → LeastWork start (x ∷ xs) event
unfolding work pick_work IdleBefore at
least-step start x xs event true b m p e rest = record {
  number = 0;
  there = omega arith;
  idle = λ j h. absurd (omega (arith, h));
  which = inl (
    sym (some_eq (Evaluation start) event e) ∙ ap Evaluation (let z : start ≡ start + 0 = omega arith in z),
    m,
    (let w : pick_work x.marked (is_some x.pending) (length xs) (work xs) ≡ 2 * length xs + 2 = ap (λ c. pick_work c (is_some x.pending) (length xs) (work xs)) m in omega (arith, w)),
  );
}
least-step start x xs event false true m p e rest = record {
  number = 0;
  there = omega arith;
  idle = λ j h. absurd (omega (arith, h));
  which = inr (
    sym (some_eq (NetUpdate start) event e) ∙ ap NetUpdate (let z : start ≡ start + 0 = omega arith in z),
    m,
    p,
    (let w : pick_work x.marked (is_some x.pending) (length xs) (work xs) ≡ 2 * length xs + 1 = (λ i. pick_work (m i) (p i) (length xs) (work xs)) in omega (arith, w)),
  );
}
least-step start x xs event false false m p e rest =
    let r = rest e in
    let w : pick_work x.marked (is_some x.pending) (length xs) (work xs) ≡ work xs = (λ i. pick_work (m i) (p i) (length xs) (work xs)) in
    record {
      number = suc r.number;
      there = (let t : r.number < length xs = r.there in omega (arith, t));
      idle = λ j h. before j h r.idle;
      which = elim r.which [
        | inl q ↦ inl (
          q.0 ∙ ap Evaluation (let z : start + 1 + r.number ≡ start + suc r.number = omega arith in z),
          q.1,
          (let k : 2 * length xs ≤ work xs + 2 * r.number = q.2 in omega (arith, w, k)),
        )
        | inr q ↦ inr (
          q.0 ∙ ap NetUpdate (let z : start + 1 + r.number ≡ start + suc r.number = omega arith in z),
          q.1,
          q.2,
          (let k : 2 * length xs ≤ work xs + 2 * r.number + 1 = q.3 in omega (arith, w, k)),
        )
      ];
    }
  where
    before : (j : ℕ) → j < suc (rest e).number → ((l : ℕ) → l < (rest e).number → has_work (found_or idle_node (slice_get xs l)) ≡ false) → has_work (found_or idle_node (slice_get (x ∷ xs) j)) ≡ false
    before zero h i = (λ k. m k || p k)
    before (suc j) h i = i j (omega (arith, h))

least : (start : ℕ) (xs : List NodeState) (event : Event) → work_of start xs ≡ Some event → LeastWork start xs event
least start [] event e = cc
least start (x ∷ xs) event e = least-step start x xs event x.marked (is_some x.pending) refl refl e (λ f. least (start + 1) xs event f)

no-work : (start : ℕ) (xs : List NodeState) → work_of start xs ≡ None → some_in has_work xs ≡ false
no-work start [] e = refl
no-work start (x ∷ xs) e = go x.marked (is_some x.pending) e (no-work (start + 1) xs)
  where
    go : (a b : Bool) → least_work start a b (work_of (start + 1) xs) ≡ None → (work_of (start + 1) xs ≡ None → some_in has_work xs ≡ false) → ((a || b) || some_in has_work xs) ≡ false
    go true b f rest = cc
    go false true f rest = cc
    go false false f rest = rest f

idle-none : (start : ℕ) (xs : List NodeState) → some_in has_work xs ≡ false → work_of start xs ≡ None
idle-none start [] h = refl
idle-none start (x ∷ xs) h =
    let a = or-neither (has_work x) (some_in has_work xs) h in
    let p = parts x.marked (is_some x.pending) a.0 in
    (λ i. least_work start (p.0 i) (p.1 i) (work_of (start + 1) xs)) ∙ idle-none (start + 1) xs a.1

-- a node's event leaves less work
node_less : (machine : Machine) (state : State) (event : Event) → KeepsRules machine.design → IsStateOf machine state → work_of 0 state.nodes ≡ Some event →
    work (after machine state event).nodes < work state.nodes
unfolding IdleBefore at
node_less machine state event rules fits e = go (least 0 state.nodes event e)
  where
    long : (ev : Event) → length (after machine state ev).nodes ≡ length state.nodes
    long ev = (state-after machine state ev fits).nodes ∙ sym fits.nodes

    node : (k : ℕ) → k < length state.nodes → (nd : FlatNode) × (slice_get machine.design.nodes k ≡ Some nd)
    node k h = some_below machine.design.nodes k (let l : length state.nodes ≡ length machine.design.nodes = fits.nodes in omega (arith, h, l))

    there : (k : ℕ) → k < length state.nodes → is_some (slice_get state.nodes k) ≡ true
    there k h = let s = some_below state.nodes k h in ap is_some s.1

    evaluation : (k : ℕ) → k < length state.nodes → IdleBefore state.nodes k → 2 * length state.nodes ≤ work state.nodes + 2 * k → work (after machine state (Evaluation k)).nodes < work state.nodes
    evaluation k low idle most =
        let nd = node k low in
        let at_k : (node_at (after machine state (Evaluation k)) k).marked ≡ false =
        ap (λ f. (node_at (evaluated machine k f state) k).marked) nd.1 ∙ ap (λ (x : NodeState). x.marked)
        (node-here state k (λ old. record { marked = false; pending = Some (node_outputs machine k nd.0 state.values) }) (there k low)) in
        let l : length (after machine state (Evaluation k)).nodes ≡ length state.nodes = long (Evaluation k) in
        let w : work (after machine state (Evaluation k)).nodes + 2 * k + 1 ≤ 2 * length (after machine state (Evaluation k)).nodes =
        work-unmarked (after machine state (Evaluation k)).nodes k
        (λ j b. ap has_work (ap (λ f. node_at (evaluated machine k f state) j) nd.1
        ∙ node-other state j k (λ old. record { marked = false; pending = Some (node_outputs machine k nd.0 state.values) }) (λ z. let y : k ≡ j = z in omega (arith, y, b))) ∙ idle j b)
        at_k (omega (arith, low, l)) in
        omega (arith, w, l, most)

    untouched : (k j : ℕ) (nd reader : FlatNode) (values : List LogicValue) → slice_get machine.design.nodes k ≡ Some nd → slice_get machine.design.nodes j ≡ Some reader → j ≤ k →
        node_at (with_values machine nd.outputs values (with_node k (λ old. record old { pending = None }) state)) j ≡ node_at (with_node k (λ old. record old { pending = None }) state) j
    untouched k j nd reader values f g le = node-values-untouched machine nd.outputs values (with_node k (λ old. record old { pending = None }) state) j reader g
        (λ x h. rules.ranked j k reader nd g f le x h)

    updated : (k : ℕ) → k < length state.nodes → IdleBefore state.nodes k → (node_at state k).marked ≡ false → (pending : Option (List LogicValue)) → (node_at state k).pending ≡ pending →
        is_some pending ≡ true →
        2 * length state.nodes ≤ work state.nodes + 2 * k + 1 → work (nets_updated machine k (slice_get machine.design.nodes k) pending state).nodes < work state.nodes
    updated k low idle free None p some most = cc
    updated k low idle free (Some values) p some most =
        let nd = node k low in
        let next : State = with_values machine nd.0.outputs values (with_node k (λ old. record old { pending = None }) state) in
        let same : nets_updated machine k (slice_get machine.design.nodes k) (Some values) state ≡ with_values machine nd.0.outputs values (with_node k (λ old. record old { pending = None }) state) =
        ap (λ f. nets_updated machine k f (Some values) state) nd.1 in
        let l : length (with_values machine nd.0.outputs values (with_node k (λ old. record old { pending = None }) state)).nodes ≡ length state.nodes =
        ap (λ s. length s.nodes) (sym same) ∙ ap (λ o. length (nets_updated machine k (slice_get machine.design.nodes k) o state).nodes) (sym p) ∙ long (NetUpdate k) in
        let here : has_work (node_at (with_values machine nd.0.outputs values (with_node k (λ old. record old { pending = None }) state)) k) ≡ false =
        ap has_work (untouched k k nd.0 nd.0 values nd.1 nd.1 (omega arith) ∙ node-here state k (λ old. record old { pending = None }) (there k low)) ∙ ap (λ b. b || false) free in
        let w : work (with_values machine nd.0.outputs values (with_node k (λ old. record old { pending = None }) state)).nodes + 2 * k + 2
        ≤ 2 * length (with_values machine nd.0.outputs values (with_node k (λ old. record old { pending = None }) state)).nodes =
        work-idle (with_values machine nd.0.outputs values (with_node k (λ old. record old { pending = None }) state)).nodes k
        (λ j b. let rd = node j (omega (arith, b, low)) in
        ap has_work (untouched k j nd.0 rd.0 values nd.1 rd.1 (omega (arith, b)) ∙ node-other state j k (λ old. record old { pending = None }) (λ z. let y : k ≡ j = z in omega (arith, y, b)))
        ∙ idle j b)
        here (omega (arith, low, l)) in
        subst (λ s. work s.nodes < work state.nodes) (sym same) (omega (arith, w, l, most))

    go : LeastWork 0 state.nodes event → work (after machine state event).nodes < work state.nodes
    go r = elim r.which [
      | inl q ↦
          subst (λ ev. work (after machine state ev).nodes < work state.nodes) (sym (q.0 ∙ ap Evaluation (let z : 0 + r.number ≡ r.number = omega arith in z)))
          (evaluation r.number r.there r.idle q.2)
      | inr q ↦
          subst (λ ev. work (after machine state ev).nodes < work state.nodes) (sym (q.0 ∙ ap NetUpdate (let z : 0 + r.number ≡ r.number = omega arith in z)))
          (updated r.number r.there r.idle q.1 (node_at state r.number).pending refl q.2 q.3)
    ]

-- Events of processes

found-earlier : (b : Bool) (o : Option ℕ) → earlier_place b o ≡ None → (b ≡ false) × (o ≡ None)
found-earlier true o e = cc
found-earlier false None e = (refl, refl)
found-earlier false (Some n) e = cc

none-place : {A : Type 0} (test : A → Bool) (xs : List A) → first_place test xs ≡ None → some_in test xs ≡ false
none-place test [] e = refl
none-place test (x ∷ xs) e =
    let p = found-earlier (test x) (first_place test xs) e in
    λ i. p.0 i || none-place test xs p.1 i

named-none : (event : ℕ → Event) (found : Option ℕ) → named_event event found ≡ None → found ≡ None
named-none event None e = refl
named-none event (Some n) e = cc

or-none : (one other : Option Event) → or_event one other ≡ None → (one ≡ None) × (other ≡ None)
or-none None other e = (refl, e)
or-none (Some x) other e = cc

both-none : (xs : List ProcessState) → some_in (λ (p : ProcessState). is_any p.lane) xs ≡ false → some_in (λ (p : ProcessState). is_ready p.activity) xs ≡ false → some_in has_event xs ≡ false
both-none [] a b = refl
both-none (x ∷ xs) a b =
    let l = or-neither (is_any x.lane) (some_in (λ (p : ProcessState). is_any p.lane) xs) a in
    let r = or-neither (is_ready x.activity) (some_in (λ (p : ProcessState). is_ready p.activity) xs) b in
    λ i. (r.0 i || l.0 i) || both-none xs l.1 r.1 i

-- where the first order finds no event none is possible
pub none_possible : (state : State) → first_event state ≡ None → is_quiescent state ≡ true
none_possible state e =
    let a = or-none (work_of 0 state.nodes) _ e in
    let b = or-none (named_event LaneStep (first_place (λ (p : ProcessState). is_any p.lane) state.processes)) _ a.1 in
    let l = none-place (λ (p : ProcessState). is_any p.lane) state.processes (named-none LaneStep _ b.0) in
    let s = none-place (λ (p : ProcessState). is_ready p.activity) state.processes (named-none Step _ b.1) in
    λ i. not (both-none state.processes l s i) && not (no-work 0 state.nodes a.0 i)

named-process : (event : ℕ → Event) → ((n : ℕ) → is_process_event (event n) ≡ true) → (found : Option ℕ) (x : Event) → named_event event found ≡ Some x → is_process_event x ≡ true
named-process event h None x e = cc
named-process event h (Some n) x e = subst (λ y. is_process_event y ≡ true) (some_eq (event n) x e) (h n)

-- the event that it takes is the work of a node, or one of a process
node_or_process : (state : State) (event : Event) → first_event state ≡ Some event → (work_of 0 state.nodes ≡ Some event) ⊎ (is_process_event event ≡ true)
node_or_process state event e = go (work_of 0 state.nodes) e
  where
    lanes : (lane step : Option Event) → ((x : Event) → lane ≡ Some x → is_process_event x ≡ true) → ((x : Event) → step ≡ Some x → is_process_event x ≡ true) → or_event lane step ≡ Some event →
        is_process_event event ≡ true
    lanes None step h k f = k event f
    lanes (Some x) step h k f = h event f

    go : (found : Option Event) →
        or_event found (or_event (named_event LaneStep (first_place (λ (p : ProcessState). is_any p.lane) state.processes))
        (named_event Step (first_place (λ (p : ProcessState). is_ready p.activity) state.processes))) ≡ Some event →
        (found ≡ Some event) ⊎ (is_process_event event ≡ true)
    go None f = inr (lanes (named_event LaneStep (first_place (λ (p : ProcessState). is_any p.lane) state.processes))
        (named_event Step (first_place (λ (p : ProcessState). is_ready p.activity) state.processes))
        (λ x g. named-process LaneStep (λ n. refl) (first_place (λ (p : ProcessState). is_any p.lane) state.processes) x g)
        (λ x g. named-process Step (λ n. refl) (first_place (λ (p : ProcessState). is_ready p.activity) state.processes) x g) f)
    go (Some x) f = inl f

-- Turns

turn-postponed : (a b : Bool) (next : Option ℕ) → turn_by a b next ≡ Some PostponedTurn → a ≡ true
turn-postponed true b next e = refl
turn-postponed false true next e = cc
turn-postponed false false None e = cc
turn-postponed false false (Some t) e = cc

turn-updates : (a b : Bool) (next : Option ℕ) → turn_by a b next ≡ Some UpdatesTurn → b ≡ true
turn-updates true b next e = cc
turn-updates false true next e = refl
turn-updates false false None e = cc
turn-updates false false (Some t) e = cc

or-right : (a b : Bool) → b ≡ true → (a || b) ≡ true
or-right true b e = refl
or-right false b e = e

resumed-ready : (act : Activity) → is_postponed act ≡ true → is_ready (resumed act) ≡ true
resumed-ready (Ready tasks operands) e = cc
resumed-ready (Waiting place entries tasks) e = cc
resumed-ready (Asleep time tasks) e = cc
resumed-ready (Postponed tasks) e = refl
resumed-ready Done e = cc

some-resumed : (xs : List ProcessState) → some_in (λ (p : ProcessState). is_postponed p.activity) xs ≡ true →
    some_in has_event (map (λ (p : ProcessState). record p { activity = resumed p.activity }) xs) ≡ true
some-resumed [] h = cc
some-resumed (x ∷ xs) h = go (is_postponed x.activity) refl h (some-resumed xs)
  where
    go : (b : Bool) → is_postponed x.activity ≡ b → (b || some_in (λ (p : ProcessState). is_postponed p.activity) xs) ≡ true →
        (some_in (λ (p : ProcessState). is_postponed p.activity) xs ≡ true → some_in has_event (map (λ (p : ProcessState). record p { activity = resumed p.activity }) xs) ≡ true) →
        ((is_ready (resumed x.activity) || is_any x.lane) || some_in has_event (map (λ (p : ProcessState). record p { activity = resumed p.activity }) xs)) ≡ true
    go true e f rest = λ i. (resumed-ready x.activity e i || is_any x.lane) || some_in has_event (map (λ (p : ProcessState). record p { activity = resumed p.activity }) xs)
    go false e f rest = or-right (is_ready (resumed x.activity) || is_any x.lane) _ (rest f)

due-any : (now : ℕ) (lane : List ValueUpdate) (later : List LaterUpdate) → some_in (is_due now) later ≡ true → is_any (lane ++ map (λ (u : LaterUpdate). u.update) (filter (is_due now) later)) ≡ true
due-any now (u ∷ lane) later h = refl
due-any now [] [] h = cc
due-any now [] (u ∷ later) h = go (is_due now u) h (due-any now [] later)
  where
    go : (b : Bool) → (b || some_in (is_due now) later) ≡ true → (some_in (is_due now) later ≡ true → is_any ([] ++ map (λ (w : LaterUpdate). w.update) (filter (is_due now) later)) ≡ true) →
        is_any (map (λ (w : LaterUpdate). w.update) (cond b (u ∷ filter (is_due now) later) (filter (is_due now) later))) ≡ true
    go true f rest = refl
    go false f rest = rest f

abbrev activated : ℕ → ProcessState → ProcessState
activated now process = record process {
  later = filter (λ later. not (is_due now later)) process.later;
  lane = process.lane ++ map (λ (later : LaterUpdate). later.update) (filter (is_due now) process.later);
}

some-activated : (now : ℕ) (xs : List ProcessState) → some_in (λ (p : ProcessState). some_in (is_due now) p.later) xs ≡ true → some_in has_event (map (activated now) xs) ≡ true
some-activated now [] h = cc
some-activated now (x ∷ xs) h = go (some_in (is_due now) x.later) refl h (some-activated now xs)
  where
    go : (b : Bool) → some_in (is_due now) x.later ≡ b → (b || some_in (λ (p : ProcessState). some_in (is_due now) p.later) xs) ≡ true →
        (some_in (λ (p : ProcessState). some_in (is_due now) p.later) xs ≡ true → some_in has_event (map (activated now) xs) ≡ true) →
        ((is_ready x.activity || is_any (activated now x).lane) || some_in has_event (map (activated now) xs)) ≡ true
    go true e f rest = ap (λ b. b || some_in has_event (map (activated now) xs)) (or-right (is_ready x.activity) _ (due-any now x.lane x.later e))
    go false e f rest = or-right (is_ready x.activity || is_any (activated now x).lane) _ (rest f)

-- after a turn within the slot the first order takes a step
after-turn : (state : State) → is_quiescent state ≡ true → (turn : TurnKind) → some_in has_event (turned turn state).processes ≡ true →
    (event : Event) × (first_event (turned turn state) ≡ Some event) × (is_process_event event ≡ true)
after-turn state quiet turn busy = go (first_event (turned turn state)) refl
  where
    none_some : {A B : Type 0} (x : A) → None ≡ Some x → B
    none_some x e = cc

    idle : some_in has_work (turned turn state).nodes ≡ false
    idle = ap (some_in has_work) (nodes-turned turn state) ∙ (not-both (some_in has_event state.processes) (some_in has_work state.nodes) quiet).1

    go : (found : Option Event) → first_event (turned turn state) ≡ found → (event : Event) × (first_event (turned turn state) ≡ Some event) × (is_process_event event ≡ true)
    go None e = true-false (some_in has_event (turned turn state).processes) busy (not-both (some_in has_event (turned turn state).processes) (some_in has_work (turned turn state).nodes)
        (none_possible (turned turn state) e)).0
    go (Some event) e = elim (node_or_process (turned turn state) event e) [
      | inl work ↦ none_some event (sym (idle-none 0 (turned turn state).nodes idle) ∙ work)
      | inr h ↦ (event, e, h)
    ]

-- The moves of a slot

abbrev pub on_move : ℕ → ℕ → Machine → State → Option Move → List Move
on_move fuel steps machine state found = elim found [ None ↦ [] | Some move ↦ move ∷ slot_moves fuel (less_one_if (is_counted move) steps) machine (made machine state move) ]

-- the moves lead to the slot's end, or hold so many steps
abbrev Ended : Machine → State → ℕ → List Move → Type 0
Ended machine state k moves =
    ((is_quiescent (all_made machine state moves) ≡ true) × (turn_in_slot (turn_of (all_made machine state moves)) ≡ None)) ⊎ (k ≤ counted_steps moves)

counted-cons : (move : Move) (moves : List Move) → counted_steps (move ∷ moves) ≡ cond (is_counted move) 1 0 + counted_steps moves
counted-cons move moves = sum_by-cons (λ m. cond (is_counted m) 1 0) move moves

no-steps : (fuel : ℕ) (machine : Machine) (state : State) → slot_moves fuel 0 machine state ≡ []
no-steps zero machine state = refl
no-steps (suc fuel) machine state = refl

one-move : (machine : Machine) (state : State) (k : ℕ) (move : Move) (moves : List Move) → Ended machine (made machine state move) k moves → Ended machine state k (move ∷ moves)
one-move machine state k move moves (inl e) = inl e
one-move machine state k move moves (inr h) = let c : counted_steps (move ∷ moves) ≡ cond (is_counted move) 1 0 + counted_steps moves = counted-cons move moves in inr (omega (arith, c, h))

one-step : (machine : Machine) (state : State) (k : ℕ) (event : Event) (moves : List Move) → is_process_event event ≡ true → Ended machine (after machine state event) k moves →
    Ended machine state (suc k) (Happens event ∷ moves)
one-step machine state k event moves p (inl e) = inl e
one-step machine state k event moves p (inr h) =
    let c : counted_steps (Happens event ∷ moves) ≡ cond (is_counted (Happens event)) 1 0 + counted_steps moves = counted-cons (Happens event) moves in
    let d : ◌≡◌ {A = ℕ} (cond (is_counted (Happens event)) 1 0) 1 = ap (λ b. cond b 1 0) (counts event p) in
    inr (omega (arith, c, d, h))
  where
    counts : (event : Event) → is_process_event event ≡ true → is_counted (Happens event) ≡ true
    counts (Step q) h = refl
    counts (LaneStep q) h = refl
    counts (Evaluation n) h = cc
    counts (NetUpdate n) h = cc

counts-step : (event : Event) → is_process_event event ≡ true → is_counted (Happens event) ≡ true
counts-step (Step q) h = refl
counts-step (LaneStep q) h = refl
counts-step (Evaluation n) h = cc
counts-step (NetUpdate n) h = cc

node-event : (start : ℕ) (xs : List NodeState) (event : Event) → LeastWork start xs event → is_counted (Happens event) ≡ false
node-event start xs event r = elim r.which [
  | inl q ↦ ap (λ e. is_counted (Happens e)) q.0
  | inr q ↦ ap (λ e. is_counted (Happens e)) q.0
]

-- the moves that may still come
abbrev room : Machine → ℕ
room machine = 2 * length machine.design.nodes + 2

-- after a step
step-on : (machine : Machine) (state : State) (event : Event) (fuel k : ℕ) → is_process_event event ≡ true → first_event state ≡ Some event →
    ((j : ℕ) → k ≡ suc j → Ended machine (after machine state event) (suc j) (slot_moves fuel (suc j) machine (after machine state event))) →
    Ended machine state (suc k) (slot_moves (suc fuel) (suc k) machine state)
step-on machine state event fuel k p e rest =
    subst (λ moves. Ended machine state (suc k) moves)
    (sym (ap (on_move fuel (suc k) machine state) (ap (λ f. event_or_turn f (turn_of state)) e)
    ∙ ap (λ b. Happens event ∷ slot_moves fuel (less_one_if b (suc k)) machine (after machine state event)) (counts-step event p)))
    (one-step machine state k event (slot_moves fuel k machine (after machine state event)) p (go k rest))
  where
    go : (k : ℕ) → ((j : ℕ) → k ≡ suc j → Ended machine (after machine state event) (suc j) (slot_moves fuel (suc j) machine (after machine state event))) →
        Ended machine (after machine state event) k (slot_moves fuel k machine (after machine state event))
    go zero rest = inr (omega arith)
    go (suc j) rest = rest j refl

slot_ends : (machine : Machine) (fuel k : ℕ) (state : State) → KeepsRules machine.design → IsStateOf machine state → work state.nodes + 2 + k * room machine ≤ fuel →
    Ended machine state (suc k) (slot_moves fuel (suc k) machine state)
slot_ends machine zero k state rules fits h = absurd (omega (arith, h))
slot_ends machine (suc zero) k state rules fits h = absurd (omega (arith, h))
slot_ends machine (suc (suc fuel)) k state rules fits h =
    go (first_event state) refl (λ s g b. slot_ends machine (suc fuel) k s rules g b) (λ j s g b. slot_ends machine (suc fuel) j s rules g b) (λ j s g b. slot_ends machine fuel j s rules g b)
  where
    full : (s : State) → IsStateOf machine s → work s.nodes + 2 ≤ room machine
    full s g = let w : work s.nodes ≤ 2 * length s.nodes = work-most s.nodes in let l : length s.nodes ≡ length machine.design.nodes = g.nodes in omega (arith, w, l)

    turn : (kind : TurnKind) → turn_of state ≡ Some kind → turn_in_slot (Some kind) ≡ Some Turns → first_event state ≡ None → some_in has_event (turned kind state).processes ≡ true →
        ((j : ℕ) (s : State) → IsStateOf machine s → work s.nodes + 2 + j * room machine ≤ fuel → Ended machine s (suc j) (slot_moves fuel (suc j) machine s)) →
        Ended machine state (suc k) (slot_moves (suc (suc fuel)) (suc k) machine state)
    turn kind t in_slot e busy later =
        let next = after-turn state (none_possible state e) kind busy in
        let made-it : made machine state Turns ≡ turned kind state = ap (λ o. turned_by o state) t in
        let fits' : IsStateOf machine (turned kind state) = state-turned machine kind state fits in
        subst (λ moves. Ended machine state (suc k) moves)
        (sym (ap (on_move (suc fuel) (suc k) machine state) ((λ i. event_or_turn (e i) (t i)) ∙ in_slot)))
        (one-move machine state (suc k) Turns (slot_moves (suc fuel) (suc k) machine (made machine state Turns))
        (subst (λ s. Ended machine s (suc k) (slot_moves (suc fuel) (suc k) machine s)) (sym made-it)
        (step-on machine (turned kind state) next.0 fuel k next.2 next.1
        (λ j z. later j (after machine (turned kind state) next.0) (state-after machine (turned kind state) next.0 fits')
        (let f : work (after machine (turned kind state) next.0).nodes + 2 ≤ room machine = full (after machine (turned kind state) next.0) (state-after machine (turned kind state) next.0 fits') in
        let m : k * room machine ≡ room machine + j * room machine = ap (λ x. x * room machine) z ∙ suc-times j (room machine) in
        omega (arith, f, m, h))))))
      where
        suc-times : (j w : ℕ) → suc j * w ≡ w + j * w
        suc-times j w = omega arith

    quiet : turn_in_slot (turn_of state) ≡ None → first_event state ≡ None → Ended machine state (suc k) (slot_moves (suc (suc fuel)) (suc k) machine state)
    quiet t e =
        subst (λ moves. Ended machine state (suc k) moves) (sym (ap (on_move (suc fuel) (suc k) machine state) (ap (λ f. event_or_turn f (turn_of state)) e ∙ t)))
        (inl (none_possible state e, t))

    go : (found : Option Event) → first_event state ≡ found →
        ((s : State) → IsStateOf machine s → work s.nodes + 2 + k * room machine ≤ suc fuel → Ended machine s (suc k) (slot_moves (suc fuel) (suc k) machine s)) →
        ((j : ℕ) (s : State) → IsStateOf machine s → work s.nodes + 2 + j * room machine ≤ suc fuel → Ended machine s (suc j) (slot_moves (suc fuel) (suc j) machine s)) →
        ((j : ℕ) (s : State) → IsStateOf machine s → work s.nodes + 2 + j * room machine ≤ fuel → Ended machine s (suc j) (slot_moves fuel (suc j) machine s)) →
        Ended machine state (suc k) (slot_moves (suc (suc fuel)) (suc k) machine state)
    go None e same less later = turns (turn_of state) refl
      where
        turns : (kind : Option TurnKind) → turn_of state ≡ kind → Ended machine state (suc k) (slot_moves (suc (suc fuel)) (suc k) machine state)
        turns None t = quiet (ap turn_in_slot t) e
        turns (Some PostponedTurn) t = turn PostponedTurn t refl e (some-resumed state.processes (turn-postponed _ _ _ t)) later
        turns (Some UpdatesTurn) t = turn UpdatesTurn t refl e (some-activated state.time state.processes (turn-updates _ _ _ t)) later
        turns (Some (TimeTurn time)) t = quiet (ap turn_in_slot t) e
    go (Some event) e same less later = elim (node_or_process state event e) [
      | inl node ↦
          subst (λ moves. Ended machine state (suc k) moves)
          (sym (ap (on_move (suc fuel) (suc k) machine state) (ap (λ f. event_or_turn f (turn_of state)) e)
          ∙ ap (λ b. Happens event ∷ slot_moves (suc fuel) (less_one_if b (suc k)) machine (after machine state event)) (node-event 0 state.nodes event (least 0 state.nodes event node))))
          (one-move machine state (suc k) (Happens event) (slot_moves (suc fuel) (suc k) machine (after machine state event))
          (same (after machine state event) (state-after machine state event fits)
          (let d : work (after machine state event).nodes < work state.nodes = node_less machine state event rules fits node in omega (arith, d, h))))
      | inr p ↦
          step-on machine state event (suc fuel) k p e
          (λ j z. less j (after machine state event) (state-after machine state event fits)
          (let f : work (after machine state event).nodes + 2 ≤ room machine = full (after machine state event) (state-after machine state event fits) in
          let m : k * room machine ≡ room machine + j * room machine = ap (λ x. x * room machine) z ∙ suc-times j (room machine) in
          omega (arith, f, m, h)))
    ]
      where
        suc-times : (j w : ℕ) → suc j * w ≡ w + j * w
        suc-times j w = omega arith

-- a slot that isn't hyperactive goes to its end
pub slots_end : SlotsEnd
slots_end machine begins rules b few = elim (slot_ends machine (most_moves machine) most_steps begins rules b.fits bound) [ inl e ↦ e | inr many ↦ absurd (omega (arith, few, many)) ]
  where
    bound : work begins.nodes + 2 + most_steps * room machine ≤ most_moves machine
    bound =
        let w : work begins.nodes ≤ 2 * length begins.nodes = work-most begins.nodes in
        let l : length begins.nodes ≡ length machine.design.nodes = b.fits.nodes in
        omega (arith, w, l)

-- The node events that a state leads to

has-some-work : (state : State) (event : Event) → work_of 0 state.nodes ≡ Some event → 0 < work state.nodes
has-some-work state event e = go (least 0 state.nodes event e)
  where
    go : LeastWork 0 state.nodes event → 0 < work state.nodes
    go r = let t : r.number < length state.nodes = r.there in elim r.which [
      | inl q ↦ (let m : 2 * length state.nodes ≤ work state.nodes + 2 * r.number = q.2 in omega (arith, t, m))
      | inr q ↦ (let m : 2 * length state.nodes ≤ work state.nodes + 2 * r.number + 1 = q.3 in omega (arith, t, m))
    ]

worked_off : (machine : Machine) (more : ℕ) (state : State) → KeepsRules machine.design → IsStateOf machine state → work state.nodes ≤ more →
    work_of 0 (happened machine state (node_events more machine state)).nodes ≡ None
worked_off machine zero state rules fits h = go (work_of 0 state.nodes) refl
  where
    go : (found : Option Event) → work_of 0 state.nodes ≡ found → work_of 0 state.nodes ≡ None
    go None e = e
    go (Some event) e = let l : 0 < work state.nodes = has-some-work state event e in absurd (omega (arith, l, h))
worked_off machine (suc more) state rules fits h = go (work_of 0 state.nodes) refl (λ event l. worked_off machine more (after machine state event) rules (state-after machine state event fits) l)
  where
    go : (found : Option Event) → work_of 0 state.nodes ≡ found →
        ((event : Event) → work (after machine state event).nodes ≤ more → work_of 0 (happened machine (after machine state event) (node_events more machine (after machine state event))).nodes ≡
        None) →
        work_of 0 (happened machine state (elim found [ None ↦ [] | Some event ↦ event ∷ node_events more machine (after machine state event) ])).nodes ≡ None
    go None e rest = e
    go (Some event) e rest = rest event (let d : work (after machine state event).nodes < work state.nodes = node_less machine state event rules fits e in omega (arith, d, h))

state-happened : (machine : Machine) (state : State) (events : List Event) → IsStateOf machine state → IsStateOf machine (happened machine state events)
state-happened machine state [] fits = fits
state-happened machine state (event ∷ events) fits = state-happened machine (after machine state event) events (state-after machine state event fits)

pub settling_ends : SettlingEnds
settling_ends machine begins events rules b =
    let state = happened machine begins events in
    let fits : IsStateOf machine (happened machine begins events) = state-happened machine begins events b.fits in
    worked_off machine (2 * length machine.design.nodes) (happened machine begins events) rules fits
    (let w : work (happened machine begins events).nodes ≤ 2 * length (happened machine begins events).nodes = work-most (happened machine begins events).nodes in
    let l : length (happened machine begins events).nodes ≡ length machine.design.nodes = fits.nodes in
    omega (arith, w, l))

pub idle_nodes : (state : State) → is_quiescent state ≡ true → work_of 0 state.nodes ≡ None
idle_nodes state q = idle-none 0 state.nodes (not-both (some_in has_event state.processes) (some_in has_work state.nodes) q).1

pub node_work : (state : State) (event : Event) → work_of 0 state.nodes ≡ Some event → is_process_event event ≡ false
node_work state event e = go (least 0 state.nodes event e)
  where
    go : LeastWork 0 state.nodes event → is_process_event event ≡ false
    go r = elim r.which [ inl q ↦ ap is_process_event q.0 | inr q ↦ ap is_process_event q.0 ]

pub process_next : (state : State) (event : Event) → work_of 0 state.nodes ≡ None → first_event state ≡ Some event → is_process_event event ≡ true
process_next state event n e = elim (node_or_process state event e) [ inl node ↦ none-some (sym n ∙ node) | inr p ↦ p ]
  where
    none-some : {A : Type 0} → None ≡ Some event → A
    none-some f = cc
