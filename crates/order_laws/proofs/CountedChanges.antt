-- In any run an object changes at most as often as there are paths to it from the changes of the run.
use Rattle.std.proofs.Common.{◌≡◌, ℕ, zero, suc, ◌+◌, ◌<◌, ◌≤◌, List, [], ◌∷◌, ◌++◌, map, length, Bool, true, false, not, ◌&&◌, ◌||◌, refl, sym, ap, subst, ◌∙◌, ◌⊎◌, inl, inr, arith, sum_by, le_trans}
use Rattle.std.specs.Prelude.{◌≢◌, Option, Some, None, slice_get, IsTrue, nat_eq, is_some}
use Rattle.std.proofs.lemmas.Bool.{eqb-true}
use Rattle.std.proofs.lemmas.List.Sums.{sum_by-cons}
use Rattle.vf_base.specs.Lists.{has, change_at, without_repeats}
use Rattle.four_value.specs.Values.{LogicValue, same_value, with_part}
use Rattle.v_design.specs.Designs.{FlatNode, FlatDesign, Machine}
use Rattle.v_design.specs.Assignments.{ValueUpdate, value_at, node_outputs, object_width}
use Rattle.v_design.specs.States.{State, ProcessState, NodeState, Event, Step, LaneStep, Evaluation, NetUpdate, possible, after, node_at, process_at, found_or, idle_node, marked_by, with_value}
use Rattle.v_design.specs.States.{with_values, with_node, with_process, written_if, value_written, write_of, first_update, after_lane_step, after_step, step_of, evaluated, nets_updated}
use Rattle.v_design.specs.Runs.{all_possible}
use Rattle.v_design.specs.Paths.{one_if, paths, net_pieces}
use Rattle.v_design.specs.Accesses.{await_accesses}
use Rattle.v_design.specs.WellFormed.{KeepsRules}
use Rattle.v_design.specs.Laws.{BeginsPhase, change_if, changes_at}
use Rattle.order_laws.proofs.Rules.{node_rules, outputs_are_nets}
use Rattle.order_laws.proofs.PathLaws.{decided, true-false, or-either, or-second, has-self, in-repeats, repeats-in, IsBelow, input_below, all_below, paths-node, weighty, reached, reached-self}
use Rattle.order_laws.proofs.PathLaws.{reached-append}
use Rattle.order_laws.proofs.WritersStay.{AreClear, NotNet, after-clear, write-clear-of, bodies_clear, writers_clear}
use Rattle.order_laws.proofs.NetStates.{same_value-self, other_number, value-unchanged, value-other, values-other, zip-slice, node-untouched, node-values-untouched, node-other, all_idle}
use Rattle.order_laws.proofs.QuietNets.{event_changes, run_changes, action-listed, lane-listed, and-first, append_assoc'}
use Rattle.order_laws.proofs.SettledNets.{Fit, Follows, Everywhere, Distinct, distinct, put-width, pending-stays, node-here, first_or, rest_list, length-with_part, length-forced, follows-after}
use Rattle.order_laws.proofs.SettledNets.{follows-begins, driver_of}
use Rattle.order_laws.proofs.NodeRests.{rest_on_inputs}

-- Sums

sum-plus : (f g : ℕ → ℕ) (xs : List ℕ) → sum_by (λ x. f x + g x) xs ≡ sum_by f xs + sum_by g xs
sum-plus f g [] = omega arith
sum-plus f g (x ∷ xs) =
    let a : sum_by (λ y. f y + g y) (x ∷ xs) ≡ (f x + g x) + sum_by (λ y. f y + g y) xs = sum_by-cons (λ y. f y + g y) x xs in
    let b : sum_by f (x ∷ xs) ≡ f x + sum_by f xs = sum_by-cons f x xs in
    let c : sum_by g (x ∷ xs) ≡ g x + sum_by g xs = sum_by-cons g x xs in
    let h : sum_by (λ y. f y + g y) xs ≡ sum_by f xs + sum_by g xs = sum-plus f g xs in
    omega (arith, a, b, c, h)

pub sum-none : (f : ℕ → ℕ) (xs : List ℕ) → ((x : ℕ) → f x ≡ 0) → sum_by f xs ≡ 0
sum-none f [] h = refl
sum-none f (x ∷ xs) h =
    let a : sum_by f (x ∷ xs) ≡ f x + sum_by f xs = sum_by-cons f x xs in
    let b : f x ≡ 0 = h x in
    let c : sum_by f xs ≡ 0 = sum-none f xs h in
    omega (arith, a, b, c)

pub sum-below-in : (f g : ℕ → ℕ) (xs : List ℕ) → ((x : ℕ) → has xs x ≡ true → f x ≤ g x) → sum_by f xs ≤ sum_by g xs
sum-below-in f g [] h = omega arith
sum-below-in f g (x ∷ xs) h =
    let a : sum_by f (x ∷ xs) ≡ f x + sum_by f xs = sum_by-cons f x xs in
    let b : sum_by g (x ∷ xs) ≡ g x + sum_by g xs = sum_by-cons g x xs in
    let c : f x ≤ g x = h x (has-self x xs) in
    let d : sum_by f xs ≤ sum_by g xs = sum-below-in f g xs (λ y i. h y (or-second (nat_eq x y) (has xs y) i)) in
    omega (arith, a, b, c, d)

sum-more : (f g : ℕ → ℕ) (xs : List ℕ) (x : ℕ) → ((y : ℕ) → f y ≤ g y) → has xs x ≡ true → f x + 1 ≤ g x → sum_by f xs + 1 ≤ sum_by g xs
sum-more f g [] x h i m = cc
sum-more f g (y ∷ xs) x h i m =
    let a : sum_by f (y ∷ xs) ≡ f y + sum_by f xs = sum_by-cons f y xs in
    let b : sum_by g (y ∷ xs) ≡ g y + sum_by g xs = sum_by-cons g y xs in
    elim (or-either (nat_eq y x) (has xs x) i) [
      | inl same ↦
          (let c : f y + 1 ≤ g y = subst (λ z. f z + 1 ≤ g z) (sym (eqb-true y x same)) m in
          let d : sum_by f xs ≤ sum_by g xs = sum-below-in f g xs (λ z j. h z) in
          omega (arith, a, b, c, d))
      | inr there ↦
          (let c : f y ≤ g y = h y in
          let d : sum_by f xs + 1 ≤ sum_by g xs = sum-more f g xs x h there m in
          omega (arith, a, b, c, d))
    ]

-- the paths to a node's inputs are no more than those to its output
pub reached-inputs : (design : FlatDesign) → KeepsRules design → (changes : List ℕ) (object number : ℕ) (node : FlatNode) → slice_get design.nodes number ≡ Some node → has node.outputs object ≡ true →
    sum_by (reached design changes) (without_repeats [] node.inputs) ≤ reached design changes object
reached-inputs design rules [] object number node e h =
    let z : sum_by (reached design []) (without_repeats [] node.inputs) ≡ 0 = sum-none (reached design []) (without_repeats [] node.inputs) (λ x. refl) in
    omega (arith, z)
reached-inputs design rules (c ∷ changes) object number node e h =
    let a : sum_by (reached design (c ∷ changes)) (without_repeats [] node.inputs) ≤ sum_by (λ i. paths design c i + reached design changes i) (without_repeats [] node.inputs) =
    sum-below-in (reached design (c ∷ changes)) (λ i. paths design c i + reached design changes i) (without_repeats [] node.inputs)
    (λ i k. (let s : reached design (c ∷ changes) i ≡ paths design c i + reached design changes i = sum_by-cons (λ source. paths design source i) c changes in omega (arith, s))) in
    let b : sum_by (λ i. paths design c i + reached design changes i) (without_repeats [] node.inputs) ≡ sum_by (paths design c) (without_repeats [] node.inputs) + sum_by (reached design changes)
    (without_repeats [] node.inputs) =
    sum-plus (paths design c) (reached design changes) (without_repeats [] node.inputs) in
    let p : sum_by (paths design c) (without_repeats [] node.inputs) ≤ paths design c object =
    le_trans (weighty node.kind (sum_by (paths design c) (without_repeats [] node.inputs))) (paths-node design rules.ranked c object number node e h) in
    let r : sum_by (reached design changes) (without_repeats [] node.inputs) ≤ reached design changes object = reached-inputs design rules changes object number node e h in
    let t : reached design (c ∷ changes) object ≡ paths design c object + reached design changes object = sum_by-cons (λ source. paths design source object) c changes in
    omega (arith, a, b, p, r, t)

-- Marks

-- the steps of a node that are still to come
abbrev pub work_left : NodeState → ℕ
work_left node = one_if node.marked + one_if (is_some node.pending)

at_most_one : (b : Bool) → one_if b ≤ 1
at_most_one true = omega arith
at_most_one false = omega arith

abbrev pub changed_in : State → State → ℕ → Bool
changed_in state next object = not (same_value (value_at state.values object) (value_at next.values object))

unchanged-in : (state next : State) (object : ℕ) → value_at next.values object ≡ value_at state.values object → changed_in state next object ≡ false
unchanged-in state next object e = ap not (ap (same_value (value_at state.values object)) e ∙ same_value-self (value_at state.values object))

pending-values : (machine : Machine) (objects : List ℕ) (values : List LogicValue) (state : State) (number : ℕ) (node : FlatNode) → slice_get machine.design.nodes number ≡ Some node →
    (node_at (with_values machine objects values state) number).pending ≡ (node_at state number).pending
pending-values machine [] values state number node e = refl
pending-values machine (object ∷ objects) [] state number node e = refl
pending-values machine (object ∷ objects) (value ∷ values) state number node e =
    pending-values machine objects values (with_value machine object value state) number node e
    ∙ ap (λ o. (found_or idle_node o).pending) (zip-slice (marked_by object (not (same_value (value_at state.values object) value))) machine.design.nodes state.nodes number node e)
    ∙ pending-stays object (not (same_value (value_at state.values object) value)) node (slice_get state.nodes number)

put-changed : (values : List LogicValue) (object : ℕ) (new : LogicValue) → length new ≡ length (value_at values object) → same_value (value_at values object) new ≡ false →
    value_at (change_at values object (λ old. new)) object ≡ new
put-changed [] object [] e d = cc
put-changed [] object (b ∷ new) e d = absurd (omega (arith, e))
put-changed (v ∷ values) zero new e d = refl
put-changed (v ∷ values) (suc object) new e d = put-changed values object new e d

and-parts : (b c : Bool) → (not b && c) ≡ true → (b ≡ false) × (c ≡ true)
and-parts true c e = cc
and-parts false c e = (refl, e)

-- a node is as before, or one of the objects that it reads has changed
marks : (machine : Machine) (objects : List ℕ) (values : List LogicValue) (state : State) (number : ℕ) (node : FlatNode) → slice_get machine.design.nodes number ≡ Some node →
    Distinct objects → Fit machine state.values → map (λ (v : LogicValue). length v) values ≡ map (object_width machine) objects →
    ((x : ℕ) × (has objects x ≡ true) × (has node.inputs x ≡ true) × (changed_in state (with_values machine objects values state) x ≡ true))
    ⊎ (node_at (with_values machine objects values state) number ≡ node_at state number)
marks machine [] values state number node e d f w = inr refl
marks machine (object ∷ objects) [] state number node e d f w = inr refl
marks machine (object ∷ objects) (value ∷ values) state number node e d f w =
    elim (marks machine objects values (with_value machine object value state) number node e d.1 (λ x. put-width state.values object value long x ∙ f x) (ap rest_list w)) [
      | inl found ↦
          inl (
            found.0,
            or-second (nat_eq object found.0) (has objects found.0) found.1,
            found.2,
            ap (λ v. not (same_value v (value_at (with_values machine objects values (with_value machine object value state)).values found.0)))
                (sym (value-other machine object value state found.0 (λ same. true-false (has objects object) (subst (λ y. has objects y ≡ true) (sym same) found.1) d.0))) ∙ found.3,
          )
      | inr same ↦ elim (decided (not (same_value (value_at state.values object) value) && has node.inputs object)) [
        | inl h ↦ inl (
          object,
          has-self object objects,
          (and-parts (same_value (value_at state.values object) value) (has node.inputs object) h).1,
          ap (λ v. not (same_value (value_at state.values object) v))
              (values-other machine objects values (with_value machine object value state) object d.0
              ∙ put-changed state.values object value long (and-parts (same_value (value_at state.values object) value) (has node.inputs object) h).0)
              ∙ ap not (and-parts (same_value (value_at state.values object) value) (has node.inputs object) h).0,
        )
        | inr h ↦ inr (same ∙ node-untouched machine object value state number node e h)
      ]
    ]
  where
    long : length value ≡ length (value_at state.values object)
    long = ap (first_or 0) w ∙ sym (f object)

-- Counts

-- a count of each object's changes so far: a node's outputs have changed no more often than its inputs, its work counted in, and what no node writes no more often than it is named
pub record Counts (machine : Machine) (state : State) (changes : List ℕ) (count : ℕ → ℕ) : Type 0 where
  pub nodes : (number : ℕ) (node : FlatNode) → slice_get machine.design.nodes number ≡ Some node → (object : ℕ) → has node.outputs object ≡ true →
      count object + work_left (node_at state number) ≤ sum_by count (without_repeats [] node.inputs)
  pub others : (object : ℕ) → ((number : ℕ) (node : FlatNode) → slice_get machine.design.nodes number ≡ Some node → has node.outputs object ≡ false) →
      count object ≤ reached machine.design changes object

abbrev pub next_count : State → State → (ℕ → ℕ) → ℕ → ℕ
next_count state next count object = count object + one_if (changed_in state next object)

count-grows : (state next : State) (count : ℕ → ℕ) (object : ℕ) → count object ≤ next_count state next count object
count-grows state next count object = omega arith

count-same : (state next : State) (count : ℕ → ℕ) (object : ℕ) → value_at next.values object ≡ value_at state.values object → next_count state next count object ≡ count object
count-same state next count object e = let z : one_if (changed_in state next object) ≡ 0 = ap one_if (unchanged-in state next object e) in omega (arith, z)

count-one : (state next : State) (count : ℕ → ℕ) (object : ℕ) → changed_in state next object ≡ true → count object + 1 ≤ next_count state next count object
count-one state next count object e = let z : one_if (changed_in state next object) ≡ 1 = ap one_if e in omega (arith, z)

-- a write of some objects keeps the count of a node that writes none of them
counts-reader : (machine : Machine) (objects : List ℕ) (values : List LogicValue) (state : State) (count : ℕ → ℕ) (number : ℕ) (node : FlatNode) → slice_get machine.design.nodes number ≡ Some node →
    Distinct objects → Fit machine state.values → map (λ (v : LogicValue). length v) values ≡ map (object_width machine) objects → (object : ℕ) → has objects object ≡ false →
    count object + work_left (node_at state number) ≤ sum_by count (without_repeats [] node.inputs) →
    next_count state (with_values machine objects values state) count object + work_left (node_at (with_values machine objects values state) number)
    ≤ sum_by (next_count state (with_values machine objects values state) count) (without_repeats [] node.inputs)
counts-reader machine objects values state count number node e d f w object out h =
    let next : State = with_values machine objects values state in
    let same : next_count state next count object ≡ count object = count-same state next count object (values-other machine objects values state object out) in
    elim (marks machine objects values state number node e d f w) [
      | inl found ↦
          (let more : sum_by count (without_repeats [] node.inputs) + 1 ≤ sum_by (next_count state next count) (without_repeats [] node.inputs) =
          sum-more count (next_count state next count) (without_repeats [] node.inputs) found.0 (count-grows state next count) (in-repeats [] node.inputs found.0 refl found.2)
          (count-one state next count found.0 found.3) in
          let pending : one_if (is_some (node_at next number).pending) ≡ one_if (is_some (node_at state number).pending) =
          ap (λ o. one_if (is_some o)) (pending-values machine objects values state number node e) in
          let bit : one_if (node_at next number).marked ≤ 1 = at_most_one (node_at next number).marked in
          omega (arith, same, more, pending, bit, h))
      | inr as_before ↦
          (let grows : sum_by count (without_repeats [] node.inputs) ≤ sum_by (next_count state next count) (without_repeats [] node.inputs) =
          sum-below-in count (next_count state next count) (without_repeats [] node.inputs) (λ x i. count-grows state next count x) in
          let work : work_left (node_at next number) ≡ work_left (node_at state number) = ap work_left as_before in
          omega (arith, same, grows, work, h))
    ]

reached-more : (machine : Machine) (changes more : List ℕ) (object n : ℕ) → n ≤ reached machine.design changes object → n ≤ reached machine.design (changes ++ more) object
reached-more machine changes more object n h =
    let s : reached machine.design (changes ++ more) object ≡ reached machine.design changes object + reached machine.design more object = reached-append machine.design changes more object in
    omega (arith, s, h)

-- what leaves all values and the nodes' work keeps the counts
counts-still : (machine : Machine) (state next : State) (changes more : List ℕ) (count : ℕ → ℕ) → Counts machine state changes count →
    ((object : ℕ) → value_at next.values object ≡ value_at state.values object) →
    ((number : ℕ) (node : FlatNode) → slice_get machine.design.nodes number ≡ Some node → work_left (node_at next number) ≤ work_left (node_at state number)) →
    Counts machine next (changes ++ more) (next_count state next count)
counts-still machine state next changes more count c values work = record {
  nodes = λ number node e object h.
      (let a : next_count state next count object ≡ count object = count-same state next count object (values object) in
      let b : count object + work_left (node_at state number) ≤ sum_by count (without_repeats [] node.inputs) = c.nodes number node e object h in
      let d : work_left (node_at next number) ≤ work_left (node_at state number) = work number node e in
      let g : sum_by count (without_repeats [] node.inputs) ≤ sum_by (next_count state next count) (without_repeats [] node.inputs) =
      sum-below-in count (next_count state next count) (without_repeats [] node.inputs) (λ x i. count-grows state next count x) in
      omega (arith, a, b, d, g));
  others = λ object none.
      (let a : next_count state next count object ≡ count object = count-same state next count object (values object) in
      let b : count object ≤ reached machine.design (changes ++ more) object = reached-more machine changes more object (count object) (c.others object none) in
      omega (arith, a, b));
}

counts-write : (machine : Machine) (object : ℕ) (new : LogicValue) (state : State) (changes more : List ℕ) (count : ℕ → ℕ) → KeepsRules machine.design → Counts machine state changes count →
    Fit machine state.values →
    length new ≡ object_width machine object → NotNet machine object → (same_value (value_at state.values object) new ≡ false → has more object ≡ true) →
    Counts machine (with_value machine object new state) (changes ++ more) (next_count state (with_value machine object new state) count)
counts-write machine object new state changes more count rules c f width net told = record {
  nodes = λ number node e x h.
      counts-reader machine (object ∷ []) (new ∷ []) state count number node e (refl, tt) f (ap (λ w. w ∷ []) width) x (apart number node e x h) (c.nodes number node e x h);
  others = λ x none. elim (decided (same_value (value_at state.values object) new)) [
    | inl same ↦
        (let a : next_count state (with_value machine object new state) count x ≡ count x =
        count-same state (with_value machine object new state) count x (value-unchanged machine object new state same x) in
        let b : count x ≤ reached machine.design (changes ++ more) x = reached-more machine changes more x (count x) (c.others x none) in
        omega (arith, a, b))
    | inr other ↦ elim (decided (nat_eq object x)) [
      | inl here ↦
          (let a : count x ≤ reached machine.design changes x = c.others x none in
          let b : 1 ≤ reached machine.design more x = reached-self machine.design rules.ranked more x (subst (λ y. has more y ≡ true) (eqb-true object x here) (told other)) in
          let s : reached machine.design (changes ++ more) x ≡ reached machine.design changes x + reached machine.design more x = reached-append machine.design changes more x in
          let bit : one_if (changed_in state (with_value machine object new state) x) ≤ 1 = at_most_one (changed_in state (with_value machine object new state) x) in
          omega (arith, a, b, s, bit))
      | inr there ↦
          (let a : next_count state (with_value machine object new state) count x ≡ count x =
          count-same state (with_value machine object new state) count x (value-other machine object new state x (other_number object x there)) in
          let b : count x ≤ reached machine.design (changes ++ more) x = reached-more machine changes more x (count x) (c.others x none) in
          omega (arith, a, b))
    ]
  ];
}
  where
    apart : (number : ℕ) (node : FlatNode) → slice_get machine.design.nodes number ≡ Some node → (x : ℕ) → has node.outputs x ≡ true → has (object ∷ []) x ≡ false
    apart number node e x h = elim (decided (nat_eq object x)) [
      | inl same ↦ true-false (has (net_pieces machine.design) object) (subst (λ y. has (net_pieces machine.design) y ≡ true) (sym (eqb-true object x same))
          (outputs_are_nets rules number node e x h)) net
      | inr other ↦ ap (λ b. b || false) other
    ]

counts-written : (machine : Machine) (write : Option ValueUpdate) (state : State) (changes more : List ℕ) (count : ℕ → ℕ) → KeepsRules machine.design → Counts machine state changes count →
    Fit machine state.values →
    ((u : ValueUpdate) → write ≡ Some u → NotNet machine u.object) →
    ((u : ValueUpdate) → write ≡ Some u → same_value (value_at state.values u.object) (value_written machine state u) ≡ false → has more u.object ≡ true) →
    Counts machine (written_if machine write state) (changes ++ more) (next_count state (written_if machine write state) count)
counts-written machine None state changes more count rules c f net told = counts-still machine state state changes more count c (λ object. refl) (λ number node e. omega arith)
counts-written machine (Some u) state changes more count rules c f net told =
    counts-write machine u.object (value_written machine state u) state changes more count rules c f
    (length-forced machine.fault u.object (with_part (value_at state.values u.object) u.low u.value) ∙ length-with_part (value_at state.values u.object) u.value u.low ∙ f u.object)
    (net u refl) (told u refl)

counts-process : (machine : Machine) (number : ℕ) (own : ProcessState → ProcessState) (state : State) (changes : List ℕ) (count : ℕ → ℕ) → Counts machine state changes count →
    Counts machine (with_process number own state) changes count
counts-process machine number own state changes count c = record { nodes = c.nodes; others = c.others }

counts-evaluated : (machine : Machine) (number : ℕ) (found : Option FlatNode) (state : State) (changes more : List ℕ) (count : ℕ → ℕ) → slice_get machine.design.nodes number ≡ found →
    Follows machine Everywhere state →
    (node_at state number).marked ≡ true → Counts machine state changes count →
    Counts machine (evaluated machine number found state) (changes ++ more) (next_count state (evaluated machine number found state) count)
counts-evaluated machine number None state changes more count found f marked c = counts-still machine state state changes more count c (λ object. refl) (λ n node e. omega arith)
counts-evaluated machine number (Some node) state changes more count found f marked c =
    counts-still machine state (evaluated machine number (Some node) state) changes more count c (λ object. refl)
    (λ other n e. elim (decided (nat_eq number other)) [
      | inl same ↦
          subst (λ k. work_left (node_at (evaluated machine number (Some node) state) k) ≤ work_left (node_at state k)) (eqb-true number other same)
          (let a : work_left (node_at (evaluated machine number (Some node) state) number) ≡ 1 =
          ap work_left (node-here state number (λ old. record { marked = false; pending = Some (node_outputs machine number node state.values) }) (f.nodes_there number node found)) in
          let b : one_if (node_at state number).marked ≡ 1 = ap one_if marked in
          omega (arith, a, b))
      | inr apart ↦
          (let a : work_left (node_at (evaluated machine number (Some node) state) other) ≡ work_left (node_at state other) =
          ap work_left (node-other state other number (λ old. record { marked = false; pending = Some (node_outputs machine number node state.values) }) (other_number number other apart)) in
          omega (arith, a))
    ])

counts-nets : (machine : Machine) (number : ℕ) (found : Option FlatNode) (pending : Option (List LogicValue)) (state : State) (changes more : List ℕ) (count : ℕ → ℕ) → KeepsRules machine.design →
    slice_get machine.design.nodes number ≡ found → (node_at state number).pending ≡ pending → Follows machine Everywhere state → Counts machine state changes count →
    Counts machine (nets_updated machine number found pending state) (changes ++ more) (next_count state (nets_updated machine number found pending state) count)
counts-nets machine number None pending state changes more count rules found p f c = counts-still machine state state changes more count c (λ object. refl) (λ n node e. omega arith)
counts-nets machine number (Some node) None state changes more count rules found p f c = counts-still machine state state changes more count c (λ object. refl) (λ n node e. omega arith)
counts-nets machine number (Some node) (Some values) state changes more count rules found p f c = record {
  nodes = λ other n e object h. elim (decided (nat_eq number other)) [
    | inl same ↦
        (let at : slice_get machine.design.nodes number ≡ Some n = ap (slice_get machine.design.nodes) (eqb-true number other same) ∙ e in
        subst (λ k. next_count state ended count object + work_left (node_at ended k) ≤ sum_by (next_count state ended count) (without_repeats [] n.inputs)) (eqb-true number other same)
        (let a : work_left (node_at ended number) ≡ one_if (node_at state number).marked + 0 =
        ap work_left
        (node-values-untouched machine node.outputs values cleared number node found (λ x k. rules.ranked number number node node found found (omega arith) x k)
        ∙ node-here state number (λ old. record old { pending = None }) (f.nodes_there number node found)) in
        let b : count object + work_left (node_at state number) ≤ sum_by count (without_repeats [] n.inputs) = c.nodes number n at object h in
        let d : one_if (is_some (node_at state number).pending) ≡ 1 = ap (λ o. one_if (is_some o)) p in
        let bit : one_if (changed_in state ended object) ≤ 1 = at_most_one (changed_in state ended object) in
        let g : sum_by count (without_repeats [] n.inputs) ≤ sum_by (next_count state ended count) (without_repeats [] n.inputs) =
        sum-below-in count (next_count state ended count) (without_repeats [] n.inputs) (λ x i. count-grows state ended count x) in
        omega (arith, a, b, d, bit, g)))
    | inr apart ↦
        counts-reader machine node.outputs values cleared count other n e (distinct [] node.outputs ((node_rules rules number node found).outputs_once)).0 f.fit
        (f.pending_widths number node values found p) object
        (not_mine other n e object h (other_number number other apart))
        (let same : work_left (node_at cleared other) ≡ work_left (node_at state other) = ap work_left
        (node-other state other number (λ old. record old { pending = None }) (other_number number other apart)) in
        let b : count object + work_left (node_at state other) ≤ sum_by count (without_repeats [] n.inputs) = c.nodes other n e object h in
        omega (arith, same, b))
  ];
  others = λ object none.
      (let a : next_count state ended count object ≡ count object = count-same state ended count object (values-other machine node.outputs values cleared object (none number node found)) in
      let b : count object ≤ reached machine.design (changes ++ more) object = reached-more machine changes more object (count object) (c.others object none) in
      omega (arith, a, b));
}
  where
    cleared : State
    cleared = with_node number (λ old. record old { pending = None }) state

    ended : State
    ended = with_values machine node.outputs values (with_node number (λ old. record old { pending = None }) state)

    below-or : (n m : ℕ) → n ≢ m → (n < m) ⊎ (m < n)
    below-or zero zero d = absurd (d refl)
    below-or zero (suc m) d = inl (omega arith)
    below-or (suc n) zero d = inr (omega arith)
    below-or (suc n) (suc m) d = elim (below-or n m (λ e. d (ap suc e))) [ inl a ↦ inl (omega (arith, a)) | inr b ↦ inr (omega (arith, b)) ]

    not_mine : (other : ℕ) (n : FlatNode) → slice_get machine.design.nodes other ≡ Some n → (x : ℕ) → has n.outputs x ≡ true → number ≢ other → has node.outputs x ≡ false
    not_mine other n e x h d = elim (below-or number other d) [
      | inl low ↦ elim (decided (has node.outputs x)) [
        | inl i ↦ true-false (has n.outputs x) h (rules.one_driver number other node n found e low x i)
        | inr i ↦ i
      ]
      | inr high ↦ rules.one_driver other number n node e found high x h
    ]

-- each event keeps the counts
pub counts-after : (machine : Machine) (state : State) (changes : List ℕ) (count : ℕ → ℕ) (event : Event) → KeepsRules machine.design → AreClear (NotNet machine) state →
    Follows machine Everywhere state →
    IsTrue (possible state event) → Counts machine state changes count →
    Counts machine (after machine state event) (changes ++ event_changes machine state event) (next_count state (after machine state event) count)
counts-after machine state changes count (Step number) rules clear f p c =
    counts-written machine (write_of (step_of machine state number).action) (with_process number (after_step state (step_of machine state number)) state) changes
    (event_changes machine state (Step number)) count rules
    (counts-process machine number (after_step state (step_of machine state number)) state changes count c) f.fit
    (λ u e. write-clear-of (NotNet machine) machine state (Step number) u (bodies_clear machine rules) clear e)
    (λ u e other. action-listed machine state number (step_of machine state number).line (step_of machine state number).action
    (await_accesses number (step_of machine state number).line (step_of machine state number).next) u e other
    (write-clear-of (NotNet machine) machine state (Step number) u (bodies_clear machine rules) clear e))
counts-after machine state changes count (LaneStep number) rules clear f p c =
    counts-written machine (first_update (process_at state number).lane) (with_process number after_lane_step state) changes (event_changes machine state (LaneStep number)) count rules
    (counts-process machine number after_lane_step state changes count c) f.fit
    (λ u e. write-clear-of (NotNet machine) machine state (LaneStep number) u (bodies_clear machine rules) clear e)
    (λ u e other. lane-listed machine state number (process_at state number).lane u e other
    (write-clear-of (NotNet machine) machine state (LaneStep number) u (bodies_clear machine rules) clear e))
counts-after machine state changes count (Evaluation number) rules clear f p c =
    counts-evaluated machine number (slice_get machine.design.nodes number) state changes (event_changes machine state (Evaluation number)) count refl f p c
counts-after machine state changes count (NetUpdate number) rules clear f p c =
    counts-nets machine number (slice_get machine.design.nodes number) (node_at state number).pending state changes (event_changes machine state (NetUpdate number)) count rules refl refl f c

-- What a count says

pub count-below : (machine : Machine) (state : State) (changes : List ℕ) (count : ℕ → ℕ) → KeepsRules machine.design → Counts machine state changes count → (level bound : ℕ) → level ≤ bound →
    (object : ℕ) →
    IsBelow machine.design.nodes level object → count object ≤ reached machine.design changes object
count-below machine state changes count rules c level zero l object below =
    c.others object (λ number node e. elim (decided (has node.outputs object)) [
      | inl h ↦ (let b : number < level = below number node e h in absurd (omega (arith, b, l)))
      | inr h ↦ h
    ])
count-below machine state changes count rules c level (suc bound) l object below = elim (driver_of machine.design.nodes object) [
  | inl d ↦
      (let b : d.0 < level = below d.0 d.1 d.2 d.3 in
      let one : count object + work_left (node_at state d.0) ≤ sum_by count (without_repeats [] d.1.inputs) = c.nodes d.0 d.1 d.2 object d.3 in
      let two : sum_by count (without_repeats [] d.1.inputs) ≤ sum_by (reached machine.design changes) (without_repeats [] d.1.inputs) =
      sum-below-in count (reached machine.design changes) (without_repeats [] d.1.inputs)
      (λ input i. count-below machine state changes count rules c d.0 bound (omega (arith, b, l)) input
      (input_below machine.design.nodes rules.ranked d.0 d.1 d.2 input (repeats-in [] d.1.inputs input i))) in
      let three : sum_by (reached machine.design changes) (without_repeats [] d.1.inputs) ≤ reached machine.design changes object =
      reached-inputs machine.design rules changes object d.0 d.1 d.2 d.3 in
      omega (arith, one, two, three))
  | inr none ↦ c.others object none
]

length-change_if : (b : Bool) (old new : LogicValue) (rest : List (LogicValue × LogicValue)) → length (change_if b old new rest) ≡ one_if b + length rest
length-change_if true old new rest = omega arith
length-change_if false old new rest = omega arith

counts-run : (machine : Machine) (state : State) (changes : List ℕ) (count : ℕ → ℕ) (events : List Event) (object : ℕ) → KeepsRules machine.design → AreClear (NotNet machine) state →
    Follows machine Everywhere state →
    IsTrue (all_possible machine state events) → Counts machine state changes count →
    count object + length (changes_at machine state events object) ≤ reached machine.design (changes ++ run_changes machine state events) object
counts-run machine state changes count [] object rules clear f p c =
    let a : count object ≤ reached machine.design (changes ++ []) object =
    reached-more machine changes [] object (count object)
    (count-below machine state changes count rules c (length machine.design.nodes) (length machine.design.nodes) (omega arith) object (all_below machine.design.nodes object)) in
    omega (arith, a)
counts-run machine state changes count (event ∷ events) object rules clear f p c =
    let may : (possible state event ≡ true) × (all_possible machine (after machine state event) events ≡ true) =
    and-first (possible state event) (all_possible machine (after machine state event) events) p in
    let rest : next_count state (after machine state event) count object + length (changes_at machine (after machine state event) events object)
    ≤ reached machine.design ((changes ++ event_changes machine state event) ++ run_changes machine (after machine state event) events) object =
    counts-run machine (after machine state event) (changes ++ event_changes machine state event) (next_count state (after machine state event) count) events object rules
    (after-clear (NotNet machine) machine state event (bodies_clear machine rules) clear) (follows-after machine state event rules (rest_on_inputs machine rules) clear f) may.1
    (counts-after machine state changes count event rules clear f may.0 c) in
    let all : reached machine.design ((changes ++ event_changes machine state event) ++ run_changes machine (after machine state event) events) object
    ≡ reached machine.design (changes ++ (event_changes machine state event ++ run_changes machine (after machine state event) events)) object =
    ap (λ cs. reached machine.design cs object) (append_assoc' changes (event_changes machine state event) (run_changes machine (after machine state event) events)) in
    let one : length (changes_at machine state (event ∷ events) object) ≡ one_if (changed_in state (after machine state event) object) + length
    (changes_at machine (after machine state event) events object) =
    length-change_if (changed_in state (after machine state event) object) (value_at state.values object) (value_at (after machine state event).values object)
    (changes_at machine (after machine state event) events object) in
    omega (arith, rest, all, one)

-- in a run from a phase's beginning: a quiet net never changes, a clean one once at most
pub changes_bounded : (machine : Machine) (state : State) (events : List Event) (object : ℕ) → KeepsRules machine.design → BeginsPhase machine state → IsTrue (all_possible machine state events) →
    length (changes_at machine state events object) ≤ reached machine.design (run_changes machine state events) object
changes_bounded machine state events object rules begins p =
    let all : 0 + length (changes_at machine state events object) ≤ reached machine.design ([] ++ run_changes machine state events) object =
    counts-run machine state [] (λ x. 0) events object rules (writers_clear machine state begins.writers) (follows-begins machine state begins) p
    (record {
      nodes = λ number node e x h.
          (let idle : work_left (node_at state number) ≡ 0 = at_rest (node_at state number).marked (node_at state number).pending (all_idle state.nodes begins.idle number) in
          omega (arith, idle));
      others = λ x none. omega arith;
    }) in
    omega (arith, all)
  where
    at_rest : (marked : Bool) (pending : Option (List LogicValue)) → (marked || is_some pending) ≡ false → one_if marked + one_if (is_some pending) ≡ 0
    at_rest true pending h = cc
    at_rest false None h = omega arith
    at_rest false (Some values) h = cc
