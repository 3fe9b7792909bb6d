-- An update that changes a clean net: its node's outputs have their first values before it and their last ones after it, and one input alone has changed.
use Rattle.std.proofs.Common.{◌≡◌, ℕ, zero, suc, ◌+◌, ◌*◌, ◌≤◌, List, [], ◌∷◌, ◌++◌, map, length, Bool, true, false, not, ◌||◌, refl, sym, ap, subst, ◌∙◌, ◌⊎◌, inl, inr, arith, sum_by, le_trans}
use Rattle.std.specs.Prelude.{◌≢◌, Option, Some, None, slice_get, nat_eq, is_some}
use Rattle.std.proofs.lemmas.Bool.{eqb-true}
use Rattle.std.proofs.lemmas.List.Sums.{sum_by-cons}
use Rattle.vf_base.specs.Lists.{has, without_repeats}
use Rattle.four_value.specs.Values.{LogicValue, same_value}
use Rattle.v_design.specs.Designs.{FlatDesign, FlatNode, Machine}
use Rattle.v_design.specs.Assignments.{value_at, node_outputs}
use Rattle.v_design.specs.States.{State, Event, NetUpdate, after, possible, found_or, node_at, with_node, nets_updated, is_quiescent}
use Rattle.v_design.specs.Runs.{happened, all_possible}
use Rattle.v_design.specs.Paths.{one_if, path_weight, paths_through, paths, net_pieces}
use Rattle.v_design.specs.Accesses.{AccessAct, Reading, Writing, Awaiting, Ending, Holding, Settling, ObjectAccess, accesses_of}
use Rattle.v_design.specs.Logs.{change_of}
use Rattle.v_design.specs.WellFormed.{KeepsRules}
use Rattle.order_laws.proofs.Rules.{node_rules, outputs_are_nets}
use Rattle.order_laws.proofs.Conflicts.{In}
use Rattle.order_laws.proofs.FreeLogs.{In-append}
use Rattle.order_laws.proofs.FreeRuns.{in_joined_back}
use Rattle.order_laws.proofs.PathLaws.{decided, true-false, or-either, or-second, has-self, sums-same, sum-in, in-repeats, all_below, paths-step, reached, chosen}
use Rattle.order_laws.proofs.WritersStay.{NotNet, bodies_clear, writers_clear, AreClear}
use Rattle.order_laws.proofs.NetStates.{same_value-true, same_value-self, other_number, all_idle}
use Rattle.order_laws.proofs.QuietNets.{event_changes, run_changes, append_assoc', and-first}
use Rattle.order_laws.proofs.SettledNets.{Follows, Everywhere, distinct, values-put, values-in, follows-begins, fit-from, Fit, phase_ends_settled}
use Rattle.order_laws.proofs.NodeRests.{rest_on_inputs}
use Rattle.order_laws.proofs.CountedChanges.{Counts, work_left, changed_in, next_count, counts-after, count-below, reached-inputs, sum-below-in, changes_bounded}
use Rattle.order_laws.proofs.WorkedNodes.{below_other}
use Rattle.order_laws.proofs.WritersStay.{after-clear}
use Rattle.order_laws.proofs.SettledNets.{follows-after}
use Rattle.order_laws.proofs.RunStates.{first_of, state_at, at_next, at_past, at_first, none_past, first-state, possible_at}
use Rattle.order_laws.proofs.Touches.{unchanged_in}
use Rattle.order_laws.proofs.Runs.{IsRun, run_first, follows_at, quiet_at, changes_there, change_count, count-step, unchanged-value}

-- Counts at a place

abbrev CountsTo : Machine → State → List ℕ → (ℕ → ℕ) → List Event → Type 0
CountsTo machine state changes count events =
    (later : ℕ → ℕ) × Counts machine (happened machine state events) (changes ++ run_changes machine state events) later × ((x : ℕ) → later x ≡ count x + change_count machine state events x)

append-nothing : (xs : List ℕ) → xs ≡ xs ++ []
append-nothing [] = refl
append-nothing (x ∷ xs) = ap (λ ys. x ∷ ys) (append-nothing xs)

counts_to : (machine : Machine) (state : State) (changes : List ℕ) (count : ℕ → ℕ) (events : List Event) → KeepsRules machine.design → AreClear (NotNet machine) state →
    Follows machine Everywhere state →
    all_possible machine state events ≡ true → Counts machine state changes count → CountsTo machine state changes count events
counts_to machine state changes count [] rules clear f p c = (count, subst (λ cs. Counts machine state cs count) (append-nothing changes) c, λ x. omega arith)
counts_to machine state changes count (event ∷ events) rules clear f p c =
    let may : (possible state event ≡ true) × (all_possible machine (after machine state event) events ≡ true) =
    and-first (possible state event) (all_possible machine (after machine state event) events) p in
    let rest = counts_to machine (after machine state event) (changes ++ event_changes machine state event) (next_count state (after machine state event) count) events rules
    (after-clear (NotNet machine) machine state event (bodies_clear machine rules) clear) (follows-after machine state event rules (rest_on_inputs machine rules) clear f) may.1
    (counts-after machine state changes count event rules clear f may.0 c) in (
      rest.0,
      subst (λ cs. Counts machine (happened machine (after machine state event) events) cs rest.0)
          (append_assoc' changes (event_changes machine state event) (run_changes machine (after machine state event) events)) rest.1,
      λ x. (let a : rest.0 x ≡ next_count state (after machine state event) count x + change_count machine (after machine state event) events x = rest.2 x in
          let b : change_count machine state (event ∷ events) x ≡ one_if (changed_in state (after machine state event) x) + change_count machine (after machine state event) events x =
          count-step machine state event events x in
          omega (arith, a, b)),
    )

counts_at : (machine : Machine) (state : State) (events : List Event) → IsRun machine state events → CountsTo machine state [] (λ x. 0) events
counts_at machine state events r =
    counts_to machine state [] (λ x. 0) events r.rules (writers_clear machine state r.begins.writers) (follows-begins machine state r.begins) r.possible
    (record {
      nodes = λ number node e x h.
          (let idle : work_left (node_at state number) ≡ 0 = at_rest (node_at state number).marked (node_at state number).pending (all_idle state.nodes r.begins.idle number) in
          omega (arith, idle));
      others = λ x none. omega arith;
    })
  where
    at_rest : (marked : Bool) (pending : Option (List LogicValue)) → (marked || is_some pending) ≡ false → one_if marked + one_if (is_some pending) ≡ 0
    at_rest true pending h = cc
    at_rest false None h = omega arith
    at_rest false (Some values) h = cc

-- The outputs of one node are reached alike

pub undriven : (design : FlatDesign) → KeepsRules design → (m k : ℕ) (node other : FlatNode) (object : ℕ) → slice_get design.nodes m ≡ Some node → slice_get design.nodes k ≡ Some other → k ≢ m →
    has node.outputs object ≡ true →
    has other.outputs object ≡ false
undriven design rules m k node other object e f d h = elim (below_other k m d) [
  | inl low ↦ elim (decided (has other.outputs object)) [
    | inl i ↦ true-false (has node.outputs object) h (rules.one_driver k m other node f e low object i)
    | inr i ↦ i
  ]
  | inr high ↦ rules.one_driver m k node other e f high object h
]

paths-alike : (design : FlatDesign) → KeepsRules design → (m : ℕ) (node : FlatNode) (source object other : ℕ) → slice_get design.nodes m ≡ Some node → has node.outputs object ≡ true →
    has node.outputs other ≡ true →
    nat_eq source object ≡ false → nat_eq source other ≡ false → paths design source object ≡ paths design source other
paths-alike design rules m node source object other e h h' d d' =
    paths-step design rules.ranked source object
    ∙ (λ i. one_if ((d ∙ sym d') i) + sums-same (paths_through (paths design source) object) (paths_through (paths design source) other) design.nodes
    (λ k nd f. ap (λ b. chosen b (path_weight nd.kind * sum_by (paths design source) (without_repeats [] nd.inputs))) (writes k nd f)) i)
    ∙ sym (paths-step design rules.ranked source other)
  where
    writes : (k : ℕ) (nd : FlatNode) → slice_get design.nodes k ≡ Some nd → has nd.outputs object ≡ has nd.outputs other
    writes k nd f = elim (decided (nat_eq k m)) [
      | inl same ↦
          (let is : node ≡ nd = ap (found_or node) (sym e ∙ ap (slice_get design.nodes) (sym (eqb-true k m same)) ∙ f) in
          subst (λ (x : FlatNode). has x.outputs object ≡ has x.outputs other) is (h ∙ sym h'))
      | inr apart ↦ undriven design rules m k node nd object e f (other_number k m apart) h ∙ sym (undriven design rules m k node nd other e f (other_number k m apart) h')
    ]

reached-alike : (design : FlatDesign) → KeepsRules design → (m : ℕ) (node : FlatNode) (object other : ℕ) (changes : List ℕ) → slice_get design.nodes m ≡ Some node → has node.outputs object ≡ true →
    has node.outputs other ≡ true →
    ((c : ℕ) → In c changes → has (net_pieces design) c ≡ false) → reached design changes object ≡ reached design changes other
reached-alike design rules m node object other [] e h h' vars = refl
reached-alike design rules m node object other (c ∷ changes) e h h' vars =
    sum_by-cons (λ source. paths design source object) c changes
    ∙ (λ i. paths-alike design rules m node c object other e h h' (apart object h) (apart other h') i + reached-alike design rules m node object other changes e h h' (λ x j. vars x (inr j)) i)
    ∙ sym (sum_by-cons (λ source. paths design source other) c changes)
  where
    apart : (x : ℕ) → has node.outputs x ≡ true → nat_eq c x ≡ false
    apart x i = elim (decided (nat_eq c x)) [
      | inl same ↦ true-false (has (net_pieces design) x) (outputs_are_nets rules m node e x i) (subst (λ y. has (net_pieces design) y ≡ false) (eqb-true c x same) (vars c (inl refl)))
      | inr other ↦ other
    ]

-- changes are of variables and memory words
event-variables : (machine : Machine) (state : State) (event : Event) (c : ℕ) → In c (event_changes machine state event) → has (net_pieces machine.design) c ≡ false
event-variables machine state event c i =
    let x = in_joined_back (λ (access : ObjectAccess). change_of machine.design access.act access.object) (accesses_of machine 0 0 state event) c i in one x.0.act x.0.object x.2
  where
    or-right : (a b : Bool) → (a || b) ≡ false → b ≡ false
    or-right true b e = cc
    or-right false b e = e

    step : (object : ℕ) (b : Bool) → (b ≡ false → has (net_pieces machine.design) object ≡ false) → In c (elim b [ true ↦ [] | false ↦ object ∷ [] ]) → has (net_pieces machine.design) c ≡ false
    step object true h j = absurd j
    step object false h (inl e) = subst (λ y. has (net_pieces machine.design) y ≡ false) (sym e) (h refl)
    step object false h (inr j) = absurd j

    one : (act : AccessAct) (object : ℕ) → In c (change_of machine.design act object) → has (net_pieces machine.design) c ≡ false
    one Reading object j = absurd j
    one (Writing old new) object j = step object (same_value old new || has (net_pieces machine.design) object) (or-right (same_value old new) (has (net_pieces machine.design) object)) j
    one (Awaiting entry) object j = absurd j
    one (Ending entry) object j = absurd j
    one (Holding entry) object j = absurd j
    one Settling object j = absurd j

pub run-variables : (machine : Machine) (state : State) (events : List Event) (c : ℕ) → In c (run_changes machine state events) → has (net_pieces machine.design) c ≡ false
run-variables machine state [] c i = absurd i
run-variables machine state (event ∷ events) c i = elim (In-append c (event_changes machine state event) (run_changes machine (after machine state event) events) i) [
  | inl j ↦ event-variables machine state event c j
  | inr j ↦ run-variables machine (after machine state event) events c j
]

-- Searching

pub find_in : (test : ℕ → Bool) (xs : List ℕ) → ((x : ℕ) × (has xs x ≡ true) × (test x ≡ true)) ⊎ ((x : ℕ) → has xs x ≡ true → test x ≡ false)
find_in test [] = inr (λ x h. cc)
find_in test (y ∷ xs) = elim (decided (test y)) [
  | inl t ↦ inl (y, has-self y xs, t)
  | inr f ↦ elim (find_in test xs) [
    | inl s ↦ inl (s.0, or-second (nat_eq y s.0) (has xs s.0) s.1, s.2)
    | inr none ↦ inr (λ x h. elim (or-either (nat_eq y x) (has xs x) h) [ inl same ↦ subst (λ z. test z ≡ false) (eqb-true y x same) f | inr there ↦ none x there ])
  ]
]

sum-two : (f : ℕ → ℕ) (xs : List ℕ) (x y : ℕ) → x ≢ y → has xs x ≡ true → has xs y ≡ true → f x + f y ≤ sum_by f xs
sum-two f [] x y d h i = cc
sum-two f (z ∷ xs) x y d h i =
    let s : sum_by f (z ∷ xs) ≡ f z + sum_by f xs = sum_by-cons f z xs in
    elim (or-either (nat_eq z x) (has xs x) h) [
      | inl hx ↦ elim (or-either (nat_eq z y) (has xs y) i) [
        | inl hy ↦ absurd (d (sym (eqb-true z x hx) ∙ eqb-true z y hy))
        | inr iy ↦ (let a : f y ≤ sum_by f xs = sum-in f xs y iy in let e : f z ≡ f x = ap f (eqb-true z x hx) in omega (arith, s, a, e))
      ]
      | inr ix ↦ elim (or-either (nat_eq z y) (has xs y) i) [
        | inl hy ↦ (let a : f x ≤ sum_by f xs = sum-in f xs x ix in let e : f z ≡ f y = ap f (eqb-true z y hy) in omega (arith, s, a, e))
        | inr iy ↦ (let a : f x + f y ≤ sum_by f xs = sum-two f xs x y d ix iy in omega (arith, s, a))
      ]
    ]

-- The update

values-after : (machine : Machine) (s : State) (m : ℕ) (node : FlatNode) → KeepsRules machine.design → Follows machine Everywhere s → slice_get machine.design.nodes m ≡ Some node →
    (node_at s m).marked ≡ false →
    (pending : Option (List LogicValue)) → (node_at s m).pending ≡ pending → is_some pending ≡ true →
    map (value_at (nets_updated machine m (Some node) pending s).values) node.outputs ≡ node_outputs machine m node s.values
values-after machine s m node rules f e free None p h = cc
values-after machine s m node rules f e free (Some values) p h =
    values-put machine node.outputs values (with_node m (λ old. record old { pending = None }) s) (distinct [] node.outputs (node_rules rules m node e).outputs_once).0
    (f.pending_widths m node values e p)
    (λ x i. f.nets_there x (outputs_are_nets rules m node e x i))
    ∙ f.pending m node values tt e free p

pub at_end : (machine : Machine) (state : State) (events : List Event) → state_at machine state events (length events) ≡ happened machine state events
at_end machine state events = at_past machine state events (length events) (none_past events (length events) (omega arith))

module _ (machine : Machine) (state : State) (first events : List Event) (n m : ℕ) (node : FlatNode) (object : ℕ)
    (main : IsRun machine state first) (ends : is_quiescent (happened machine state first) ≡ true) (run : IsRun machine state events)
    (stands : slice_get events n ≡ Some (NetUpdate m)) (found : slice_get machine.design.nodes m ≡ Some node) (out : has node.outputs object ≡ true)
    (few : reached machine.design (run_changes machine state first) object ≤ 1)
    (below : (x : ℕ) → reached machine.design (run_changes machine state (first_of n events)) x ≤ reached machine.design (run_changes machine state first) x)
    (near : (x : ℕ) → reached machine.design (run_changes machine state first) x ≤ 1 →
    (value_at (state_at machine state events n).values x ≡ value_at state.values x) ⊎ (value_at (happened machine state first).values x ≡ value_at (state_at machine state events n).values x))
    (changed : changes_there machine state events object n ≡ true) where
  pub few_each : (x : ℕ) → has node.outputs x ≡ true → reached machine.design (run_changes machine state first) x ≤ 1
  few_each x h = subst (λ k. k ≤ 1) (reached-alike machine.design main.rules m node object x (run_changes machine state first) found out h (run-variables machine state first)) few

  work : is_some (node_at (state_at machine state events n) m).pending ≡ true
  work = possible_at machine state events n (NetUpdate m) run.possible stands

  bound : (x : ℕ) → has node.outputs x ≡ true → change_count machine state (first_of n events) x + work_left (node_at (state_at machine state events n) m) ≤ 1
  bound x h =
      let k = counts_at machine state (first_of n events) (run_first machine state events n run) in
      let a : k.0 x + work_left (node_at (happened machine state (first_of n events)) m) ≤ sum_by k.0 (without_repeats [] node.inputs) = k.1.nodes m node found x h in
      let b : sum_by k.0 (without_repeats [] node.inputs) ≤ sum_by (reached machine.design (run_changes machine state (first_of n events))) (without_repeats [] node.inputs) =
      sum-below-in k.0 (reached machine.design (run_changes machine state (first_of n events))) (without_repeats [] node.inputs)
      (λ y i. count-below machine (happened machine state (first_of n events)) (run_changes machine state (first_of n events)) k.0 main.rules k.1 (length machine.design.nodes)
      (length machine.design.nodes) (omega arith) y (all_below machine.design.nodes y)) in
      let d : sum_by (reached machine.design (run_changes machine state (first_of n events))) (without_repeats [] node.inputs) ≤ reached machine.design
      (run_changes machine state (first_of n events)) x =
      reached-inputs machine.design main.rules (run_changes machine state (first_of n events)) x m node found h in
      let l : reached machine.design (run_changes machine state (first_of n events)) x ≤ reached machine.design (run_changes machine state first) x = below x in
      let o : reached machine.design (run_changes machine state first) x ≤ 1 = few_each x h in
      let e : k.0 x ≡ 0 + change_count machine state (first_of n events) x = k.2 x in
      let w : work_left (node_at (state_at machine state events n) m) ≡ work_left (node_at (happened machine state (first_of n events)) m) =
      ap (λ s. work_left (node_at s m)) (at_first machine state events n) in
      omega (arith, a, b, d, l, o, e, w)

  one-work : one_if (is_some (node_at (state_at machine state events n) m).pending) ≡ 1
  one-work = ap one_if work

  pub before : (x : ℕ) → has node.outputs x ≡ true → value_at (state_at machine state events n).values x ≡ value_at state.values x
  before x h =
      let b : change_count machine state (first_of n events) x + work_left (node_at (state_at machine state events n) m) ≤ 1 = bound x h in
      let w : one_if (is_some (node_at (state_at machine state events n) m).pending) ≡ 1 = one-work in
      ap (λ s. value_at s.values x) (sym (first-state machine state events n n (omega arith)))
      ∙ unchanged-value machine state (first_of n events) x n (omega (arith, b, w))

  unmarked : (node_at (state_at machine state events n) m).marked ≡ false
  unmarked = go (node_at (state_at machine state events n) m).marked
      (let b : change_count machine state (first_of n events) object + work_left (node_at (state_at machine state events n) m) ≤ 1 = bound object out in
      let w : one_if (is_some (node_at (state_at machine state events n) m).pending) ≡ 1 = one-work in
      let z : one_if (node_at (state_at machine state events n) m).marked ≤ 0 = omega (arith, b, w) in z)
    where
      go : (b : Bool) → one_if b ≤ 0 → b ≡ false
      go true h = absurd (omega (arith, h))
      go false h = refl

  pub given : map (value_at (state_at machine state events (suc n)).values) node.outputs ≡ node_outputs machine m node (state_at machine state events n).values
  given =
      ap (λ s. map (value_at s.values) node.outputs) (at_next machine state events n (NetUpdate m) stands)
      ∙ ap (λ f. map (value_at (nets_updated machine m f (node_at (state_at machine state events n) m).pending (state_at machine state events n)).values) node.outputs) found
      ∙ values-after machine (state_at machine state events n) m node main.rules (follows_at machine state events n run) found unmarked (node_at (state_at machine state events n) m).pending refl work

  differs : ℕ → Bool
  differs x = not (same_value (value_at state.values x) (value_at (state_at machine state events n).values x))

  not-false : (b : Bool) → not b ≡ false → b ≡ true
  not-false true e = refl
  not-false false e = cc

  not-true : (b : Bool) → not b ≡ true → b ≡ false
  not-true true e = cc
  not-true false e = refl

  -- an input has changed
  pub input : (x : ℕ) × (has node.inputs x ≡ true) × (same_value (value_at state.values x) (value_at (state_at machine state events n).values x) ≡ false)
  input = go (find_in (λ x. not (same_value (value_at state.values x) (value_at (state_at machine state events n).values x))) node.inputs)
    where
      go : ((x : ℕ) × (has node.inputs x ≡ true) × (not (same_value (value_at state.values x) (value_at (state_at machine state events n).values x)) ≡ true))
          ⊎ ((x : ℕ) → has node.inputs x ≡ true → not (same_value (value_at state.values x) (value_at (state_at machine state events n).values x)) ≡ false) →
          (x : ℕ) × (has node.inputs x ≡ true) × (same_value (value_at state.values x) (value_at (state_at machine state events n).values x) ≡ false)
      go (inl s) = (s.0, s.1, not-true (same_value (value_at state.values s.0) (value_at (state_at machine state events n).values s.0)) s.2)
      go (inr none) =
          true-false (changes_there machine state events object n) changed
          (unchanged_in (state_at machine state events n) (state_at machine state events (suc n)) object
          (values-in (state_at machine state events (suc n)).values state.values node.outputs
          (given
          ∙ (rest_on_inputs machine main.rules).rests m node (state_at machine state events n).values state.values found (follows_at machine state events n run).fit
          (fit-from machine state.values main.begins.widths)
          (λ x i. sym (same_value-true (value_at state.values x) (value_at (state_at machine state events n).values x)
          (not-false (same_value (value_at state.values x) (value_at (state_at machine state events n).values x)) (none x i))))
          ∙ sym (main.begins.settled m node found)) object out
          ∙ sym (before object out)))

  inputs-few : sum_by (reached machine.design (run_changes machine state first)) (without_repeats [] node.inputs) ≤ 1
  inputs-few = le_trans (reached-inputs machine.design main.rules (run_changes machine state first) object m node found out) few

  in-distinct : (x : ℕ) → has node.inputs x ≡ true → has (without_repeats [] node.inputs) x ≡ true
  in-distinct x h = in-repeats [] node.inputs x refl h

  pub input_few : (x : ℕ) → has node.inputs x ≡ true → reached machine.design (run_changes machine state first) x ≤ 1
  input_few x h = le_trans (sum-in (reached machine.design (run_changes machine state first)) (without_repeats [] node.inputs) x (in-distinct x h)) inputs-few

  -- and that is reached
  pub input_reached : 1 ≤ reached machine.design (run_changes machine state first) input.0
  input_reached = go (reached machine.design (run_changes machine state (first_of n events)) input.0) refl
    where
      go : (k : ℕ) → reached machine.design (run_changes machine state (first_of n events)) input.0 ≡ k → 1 ≤ reached machine.design (run_changes machine state first) input.0
      go zero z =
          true-false (same_value (value_at state.values input.0) (value_at (state_at machine state events n).values input.0))
          (ap (same_value (value_at state.values input.0)) ((quiet_at machine state events n run).values input.0 z) ∙ same_value-self (value_at state.values input.0)) input.2
      go (suc k) z = let b : reached machine.design (run_changes machine state (first_of n events)) input.0 ≤ reached machine.design (run_changes machine state first) input.0 = below input.0 in
          omega (arith, b, z)

  -- alone
  pub others_quiet : (y : ℕ) → has node.inputs y ≡ true → input.0 ≢ y → reached machine.design (run_changes machine state first) y ≡ 0
  others_quiet y h d =
      let a : reached machine.design (run_changes machine state first) input.0 + reached machine.design (run_changes machine state first) y ≤ sum_by
      (reached machine.design (run_changes machine state first)) (without_repeats [] node.inputs) =
      sum-two (reached machine.design (run_changes machine state first)) (without_repeats [] node.inputs) input.0 y d (in-distinct input.0 input.1) (in-distinct y h) in
      let b : sum_by (reached machine.design (run_changes machine state first)) (without_repeats [] node.inputs) ≤ 1 = inputs-few in
      let c : 1 ≤ reached machine.design (run_changes machine state first) input.0 = input_reached in
      omega (arith, a, b, c)

  -- the inputs are as at the end of the other run
  inputs-last : (y : ℕ) → has node.inputs y ≡ true → value_at (state_at machine state events n).values y ≡ value_at (happened machine state first).values y
  inputs-last y h = elim (decided (nat_eq input.0 y)) [
    | inl same ↦ subst (λ z. value_at (state_at machine state events n).values z ≡ value_at (happened machine state first).values z) (eqb-true input.0 y same) its
    | inr apart ↦
        (let z : reached machine.design (run_changes machine state first) y ≡ 0 = others_quiet y h (other_number input.0 y apart) in
        let b : reached machine.design (run_changes machine state (first_of n events)) y ≤ reached machine.design (run_changes machine state first) y = below y in
        let c : change_count machine state first y ≤ reached machine.design (run_changes machine state first) y = changes_bounded machine state first y main.rules main.begins main.possible in
        (quiet_at machine state events n run).values y (omega (arith, z, b))
        ∙ sym (unchanged-value machine state first y (length first) (omega (arith, z, c))) ∙ ap (λ s. value_at s.values y) (at_end machine state first))
  ]
    where
      its : value_at (state_at machine state events n).values input.0 ≡ value_at (happened machine state first).values input.0
      its = elim (near input.0 (input_few input.0 input.1)) [
        | inl as_first ↦
            true-false (same_value (value_at state.values input.0) (value_at (state_at machine state events n).values input.0))
            (ap (same_value (value_at state.values input.0)) as_first ∙ same_value-self (value_at state.values input.0)) input.2
        | inr as_last ↦ sym as_last
      ]

  pub after_it : (x : ℕ) → has node.outputs x ≡ true → value_at (state_at machine state events (suc n)).values x ≡ value_at (happened machine state first).values x
  after_it x h =
      values-in (state_at machine state events (suc n)).values (happened machine state first).values node.outputs
      (given
      ∙ (rest_on_inputs machine main.rules).rests m node (state_at machine state events n).values (happened machine state first).values found (follows_at machine state events n run).fit
      (subst (λ s. Fit machine s.values) (at_end machine state first) (follows_at machine state first (length first) main).fit) inputs-last
      ∙ sym (phase_ends_settled machine state first main.rules (rest_on_inputs machine main.rules) main.begins (record { each_possible = main.possible; ends = ends }) m node found)) x h
