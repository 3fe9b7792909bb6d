-- At every moment of a run a node without work has its function's outputs, and a pending update of an unmarked node is its function: so a phase ends with its nets settled.
use Rattle.std.proofs.Common.{◌≡◌, ℕ, zero, suc, ◌+◌, ◌<◌, ◌≤◌, List, [], ◌∷◌, map, length, Bool, true, false, not, ◌&&◌, ◌||◌, refl, sym, ap, subst, ◌∙◌, ◌⊎◌, inl, inr, arith, get_or}
use Rattle.std.specs.Prelude.{◌≢◌, Option, Some, None, slice_get, nat_eq, is_some}
use Rattle.std.proofs.lemmas.Bool.{eqb-true}
use Rattle.vf_base.specs.Lists.{has, change_at, without_repeats, fresh_only}
use Rattle.four_value.specs.Values.{LogicValue, same_value, with_part}
use Rattle.four_value.specs.Bits.{bit_of}
use Rattle.v_design.specs.Designs.{FlatObject, FlatNode, FlatDesign, Machine, StuckAt, FaultSite, VariableBit, OutputBit, GateTerminal, forced_if, forced_at_variable, forced_variable}
use Rattle.v_design.specs.Assignments.{ValueUpdate, value_at, node_outputs, object_width, AreSettled}
use Rattle.v_design.specs.States.{State, ProcessState, NodeState, Event, Step, LaneStep, Evaluation, NetUpdate, after, node_at, process_at, found_or, idle_node, has_work, some_in, has_event}
use Rattle.v_design.specs.States.{marked_by, with_value, with_values, with_node, with_process, written_if, value_written, write_of, first_update, after_lane_step, after_step, step_of, evaluated}
use Rattle.v_design.specs.States.{nets_updated}
use Rattle.v_design.specs.Runs.{happened, IsPhase}
use Rattle.v_design.specs.Paths.{is_net, numbers_of, net_pieces}
use Rattle.v_design.specs.WellFormed.{KeepsRules}
use Rattle.v_design.specs.Laws.{BeginsPhase}
use Rattle.order_laws.proofs.Rules.{node_rules, outputs_are_nets}
use Rattle.order_laws.proofs.PathLaws.{decided, true-false, or-either, or-neither, or-second, has-self, IsBelow, input_below, all_below}
use Rattle.order_laws.proofs.WritersStay.{AreClear, NotNet, after-clear, write-clear-of, bodies_clear, writers_clear}
use Rattle.order_laws.proofs.NetStates.{other_number, value-unchanged, value-other, values-other, mapped, zip-slice, node-untouched, node-values-untouched, node-other, all_idle}

-- each object's value has the object's width
abbrev pub Fit : Machine → List LogicValue → Type 0
Fit machine values = (object : ℕ) → length (value_at values object) ≡ object_width machine object

-- what a node gives rests on its inputs alone, and has the widths of its outputs
pub record RestOnInputs (machine : Machine) : Type 0 where
  pub rests : (number : ℕ) (node : FlatNode) (one other : List LogicValue) → slice_get machine.design.nodes number ≡ Some node → Fit machine one → Fit machine other →
      ((input : ℕ) → has node.inputs input ≡ true → value_at one input ≡ value_at other input) → node_outputs machine number node one ≡ node_outputs machine number node other
  pub widths : (number : ℕ) (node : FlatNode) (values : List LogicValue) → slice_get machine.design.nodes number ≡ Some node → Fit machine values →
      map (λ (v : LogicValue). length v) (node_outputs machine number node values) ≡ map (object_width machine) node.outputs

-- the state follows its values, at the nodes of which something holds
pub record Follows (machine : Machine) (Holds : ℕ → Type 0) (state : State) : Type 0 where
  pub fit : Fit machine state.values
  pub nets_there : (object : ℕ) → has (net_pieces machine.design) object ≡ true → is_some (slice_get state.values object) ≡ true
  pub nodes_there : (number : ℕ) (node : FlatNode) → slice_get machine.design.nodes number ≡ Some node → is_some (slice_get state.nodes number) ≡ true
  pub pending_widths : (number : ℕ) (node : FlatNode) (values : List LogicValue) → slice_get machine.design.nodes number ≡ Some node →
      (node_at state number).pending ≡ Some values → map (λ (v : LogicValue). length v) values ≡ map (object_width machine) node.outputs
  pub pending : (number : ℕ) (node : FlatNode) (values : List LogicValue) → Holds number → slice_get machine.design.nodes number ≡ Some node →
      (node_at state number).marked ≡ false → (node_at state number).pending ≡ Some values → values ≡ node_outputs machine number node state.values
  pub idle : (number : ℕ) (node : FlatNode) → Holds number → slice_get machine.design.nodes number ≡ Some node →
      (node_at state number).marked ≡ false → (node_at state number).pending ≡ None → map (value_at state.values) node.outputs ≡ node_outputs machine number node state.values

-- Places

pub there-change_at : {A : Type 0} (xs : List A) (place other : ℕ) (change : A → A) → is_some (slice_get (change_at xs place change) other) ≡ is_some (slice_get xs other)
there-change_at [] place other change = refl
there-change_at (x ∷ xs) zero zero change = refl
there-change_at (x ∷ xs) zero (suc other) change = refl
there-change_at (x ∷ xs) (suc place) zero change = refl
there-change_at (x ∷ xs) (suc place) (suc other) change = there-change_at xs place other change

pub put-width : (values : List LogicValue) (object : ℕ) (new : LogicValue) → length new ≡ length (value_at values object) → (x : ℕ) →
    length (value_at (change_at values object (λ old. new)) x) ≡ length (value_at values x)
put-width [] object new e x = refl
put-width (v ∷ values) zero new e zero = e
put-width (v ∷ values) zero new e (suc x) = refl
put-width (v ∷ values) (suc object) new e zero = refl
put-width (v ∷ values) (suc object) new e (suc x) = put-width values object new e x

pub put-there : (values : List LogicValue) (object : ℕ) (new : LogicValue) → is_some (slice_get values object) ≡ true → value_at (change_at values object (λ old. new)) object ≡ new
put-there [] object new h = cc
put-there (v ∷ values) zero new h = refl
put-there (v ∷ values) (suc object) new h = put-there values object new h

pub there-mapped : {A B : Type 0} (f : A → B) (found : Option A) → is_some (mapped f found) ≡ is_some found
there-mapped f None = refl
there-mapped f (Some x) = refl

-- the same number there, else what was there
change-here : {A : Type 0} (xs : List A) (place : ℕ) (change : A → A) → slice_get (change_at xs place change) place ≡ mapped change (slice_get xs place)
change-here [] place change = refl
change-here (x ∷ xs) zero change = refl
change-here (x ∷ xs) (suc place) change = change-here xs place change

found-mapped : {A B : Type 0} (f : A → B) (a : A) (b : B) (found : Option A) → is_some found ≡ true → found_or b (mapped f found) ≡ f (found_or a found)
found-mapped f a b None h = cc
found-mapped f a b (Some x) h = refl

-- A write of one object

and-true : (b c : Bool) → b ≡ true → c ≡ true → (b && c) ≡ true
and-true true c e f = f
and-true false c e f = cc

and-false-left : (b c : Bool) → (not b && c) ≡ false → c ≡ true → b ≡ true
and-false-left true c e f = refl
and-false-left false c e f = true-false c f e

marked-now : (object : ℕ) (changed : Bool) (node : FlatNode) → (changed && has node.inputs object) ≡ true → (found : Option NodeState) → is_some found ≡ true →
    (found_or idle_node (mapped (marked_by object changed node) found)).marked ≡ true
marked-now object changed node h None t = cc
marked-now object changed node h (Some state) t = ap (λ b. state.marked || b) h ∙ or-true state.marked
  where
    or-true : (b : Bool) → (b || true) ≡ true
    or-true true = refl
    or-true false = refl

pub pending-stays : (object : ℕ) (changed : Bool) (node : FlatNode) (found : Option NodeState) →
    (found_or idle_node (mapped (marked_by object changed node) found)).pending ≡ (found_or idle_node found).pending
pending-stays object changed node None = refl
pending-stays object changed node (Some state) = refl

-- objects that aren't written are as before
outputs-other : (machine : Machine) (object : ℕ) (new : LogicValue) (state : State) (objects : List ℕ) → has objects object ≡ false →
    map (value_at (with_value machine object new state).values) objects ≡ map (value_at state.values) objects
outputs-other machine object new state [] h = refl
outputs-other machine object new state (x ∷ objects) h =
    let apart : (nat_eq x object ≡ false) × (has objects object ≡ false) = or-neither (nat_eq x object) (has objects object) h in
    λ i. value-other machine object new state x (λ e. other_number x object apart.0 (sym e)) i ∷ outputs-other machine object new state objects apart.1 i

pub follows-write : (machine : Machine) (Holds : ℕ → Type 0) (object : ℕ) (new : LogicValue) (state : State) → RestOnInputs machine →
    Follows machine Holds state → length new ≡ length (value_at state.values object) →
    ((number : ℕ) (node : FlatNode) → Holds number → slice_get machine.design.nodes number ≡ Some node → has node.outputs object ≡ false) →
    Follows machine Holds (with_value machine object new state)
follows-write machine Holds object new state rest f width apart = record {
  fit = new_fit;
  nets_there = λ x h. there-change_at state.values object x (λ old. new) ∙ f.nets_there x h;
  nodes_there = λ number node e. ap is_some (place number node e) ∙ there-mapped (marked_by object changed node) (slice_get state.nodes number) ∙ f.nodes_there number node e;
  pending_widths = λ number node values e p. f.pending_widths number node values e (sym (still_pending number node e) ∙ p);
  pending = λ number node values holds e m p.
      let same : (changed && has node.inputs object) ≡ false = unread number node e m in
      f.pending number node values holds e (sym (ap (λ (n : NodeState). n.marked) (node-untouched machine object new state number node e same)) ∙ m) (sym (still_pending number node e) ∙ p)
      ∙ sym (given number node e same);
  idle = λ number node holds e m p.
      let same : (changed && has node.inputs object) ≡ false = unread number node e m in
      outputs-other machine object new state node.outputs (apart number node holds e)
      ∙ f.idle number node holds e (sym (ap (λ (n : NodeState). n.marked) (node-untouched machine object new state number node e same)) ∙ m) (sym (still_pending number node e) ∙ p)
      ∙ sym (given number node e same);
}
  where
    changed : Bool
    changed = not (same_value (value_at state.values object) new)

    new_fit : Fit machine (with_value machine object new state).values
    new_fit x = put-width state.values object new width x ∙ f.fit x

    place : (number : ℕ) (node : FlatNode) → slice_get machine.design.nodes number ≡ Some node →
        slice_get (with_value machine object new state).nodes number ≡ mapped (marked_by object (not (same_value (value_at state.values object) new)) node) (slice_get state.nodes number)
    place number node e = zip-slice (marked_by object (not (same_value (value_at state.values object) new))) machine.design.nodes state.nodes number node e

    still_pending : (number : ℕ) (node : FlatNode) → slice_get machine.design.nodes number ≡ Some node → (node_at (with_value machine object new state) number).pending ≡ (node_at state number).pending
    still_pending number node e =
        ap (λ o. (found_or idle_node o).pending) (zip-slice (marked_by object (not (same_value (value_at state.values object) new))) machine.design.nodes state.nodes number node e)
        ∙ pending-stays object (not (same_value (value_at state.values object) new)) node (slice_get state.nodes number)

    -- a node that isn't marked afterwards reads nothing that changed
    unread : (number : ℕ) (node : FlatNode) → slice_get machine.design.nodes number ≡ Some node → (node_at (with_value machine object new state) number).marked ≡ false →
        (not (same_value (value_at state.values object) new) && has node.inputs object) ≡ false
    unread number node e m = elim (decided (not (same_value (value_at state.values object) new) && has node.inputs object)) [
      | inl h ↦
          true-false (node_at (with_value machine object new state) number).marked
          (ap (λ o. (found_or idle_node o).marked) (zip-slice (marked_by object (not (same_value (value_at state.values object) new))) machine.design.nodes state.nodes number node e)
          ∙ marked-now object (not (same_value (value_at state.values object) new)) node h (slice_get state.nodes number) (f.nodes_there number node e)) m
      | inr h ↦ h
    ]

    given : (number : ℕ) (node : FlatNode) → slice_get machine.design.nodes number ≡ Some node → (not (same_value (value_at state.values object) new) && has node.inputs object) ≡ false →
        node_outputs machine number node (with_value machine object new state).values ≡ node_outputs machine number node state.values
    given number node e same =
        rest.rests number node (with_value machine object new state).values state.values e
        (λ x. put-width state.values object new width x ∙ f.fit x) f.fit
        (λ input i. elim (decided (nat_eq object input)) [
          | inl here ↦
              value-unchanged machine object new state
              (and-false-left (same_value (value_at state.values object) new) (has node.inputs object) same (subst (λ x. has node.inputs x ≡ true) (sym (eqb-true object input here)) i)) input
          | inr there ↦ value-other machine object new state input (other_number object input there)
        ])

-- Writes of several objects

abbrev pub first_or : {A : Type 0} → A → List A → A
first_or a [] = a
first_or a (x ∷ xs) = x

abbrev pub rest_list : {A : Type 0} → List A → List A
rest_list [] = []
rest_list (x ∷ xs) = xs

-- no number stands twice in the list
abbrev pub Distinct : List ℕ → Type 0
Distinct [] = Unit {0}
Distinct (x ∷ xs) = (has xs x ≡ false) × Distinct xs

no-longer : (seen xs : List ℕ) → length (without_repeats seen xs) ≤ length xs
no-longer seen [] = omega arith
no-longer seen (x ∷ xs) = go (has seen x) (no-longer (x ∷ seen) xs)
  where
    go : (b : Bool) → length (without_repeats (x ∷ seen) xs) ≤ length xs → length (fresh_only b x (without_repeats (x ∷ seen) xs)) ≤ suc (length xs)
    go true h = omega (arith, h)
    go false h = omega (arith, h)

pub distinct : (seen xs : List ℕ) → without_repeats seen xs ≡ xs → Distinct xs × ((y : ℕ) → has xs y ≡ true → has seen y ≡ false)
distinct seen [] e = (tt, λ y h. true-false false h refl)
distinct seen (x ∷ xs) e = go (has seen x) refl e (distinct (x ∷ seen) xs)
  where
    too_long : (n m : ℕ) → n ≤ m → n ≡ suc m → ⊥
    too_long n m a b = omega (arith, a, b)

    new : has seen x ≡ false → (Distinct xs × ((y : ℕ) → has xs y ≡ true → has (x ∷ seen) y ≡ false)) → Distinct (x ∷ xs) × ((y : ℕ) → has (x ∷ xs) y ≡ true → has seen y ≡ false)
    new h d = (
      (elim (decided (has xs x)) [ inl i ↦ true-false (has (x ∷ seen) x) (has-self x seen) (d.1 x i) | inr i ↦ i ], d.0),
      λ y i. elim (or-either (nat_eq x y) (has xs y) i) [
        | inl same ↦ subst (λ z. has seen z ≡ false) (eqb-true x y same) h
        | inr there ↦ (or-neither (nat_eq x y) (has seen y) (d.1 y there)).1
      ],
    )

    go : (b : Bool) → has seen x ≡ b → fresh_only b x (without_repeats (x ∷ seen) xs) ≡ x ∷ xs →
        (without_repeats (x ∷ seen) xs ≡ xs → Distinct xs × ((y : ℕ) → has xs y ≡ true → has (x ∷ seen) y ≡ false)) →
        Distinct (x ∷ xs) × ((y : ℕ) → has (x ∷ xs) y ≡ true → has seen y ≡ false)
    go true s f deeper = absurd (too_long (length (without_repeats (x ∷ seen) xs)) (length xs) (no-longer (x ∷ seen) xs) (ap length f))
    go false s f deeper = new s (deeper (ap rest_list f))

-- the objects get the values, each its own
pub values-put : (machine : Machine) (objects : List ℕ) (values : List LogicValue) (state : State) → Distinct objects →
    map (λ (v : LogicValue). length v) values ≡ map (object_width machine) objects → ((x : ℕ) → has objects x ≡ true → is_some (slice_get state.values x) ≡ true) →
    map (value_at (with_values machine objects values state).values) objects ≡ values
values-put machine [] [] state d w t = refl
values-put machine [] (value ∷ values) state d w t = cc
values-put machine (object ∷ objects) [] state d w t = cc
values-put machine (object ∷ objects) (value ∷ values) state d w t =
    λ i. (values-other machine objects values (with_value machine object value state) object d.0 ∙ put-there state.values object value (t object (has-self object objects))) i
    ∷ values-put machine objects values (with_value machine object value state) d.1 (ap rest_list w)
    (λ x h. there-change_at state.values object x (λ old. value) ∙ t x (or-second (nat_eq object x) (has objects x) h)) i

pub follows-values : (machine : Machine) (Holds : ℕ → Type 0) (objects : List ℕ) (values : List LogicValue) (state : State) → RestOnInputs machine →
    Follows machine Holds state → map (λ (v : LogicValue). length v) values ≡ map (object_width machine) objects →
    ((number : ℕ) (node : FlatNode) → Holds number → slice_get machine.design.nodes number ≡ Some node → (x : ℕ) → has objects x ≡ true → has node.outputs x ≡ false) →
    Follows machine Holds (with_values machine objects values state)
follows-values machine Holds [] values state rest f w apart = f
follows-values machine Holds (object ∷ objects) [] state rest f w apart = f
follows-values machine Holds (object ∷ objects) (value ∷ values) state rest f w apart =
    follows-values machine Holds objects values (with_value machine object value state) rest
    (follows-write machine Holds object value state rest f (ap (first_or 0) w ∙ sym (f.fit object)) (λ number node holds e. apart number node holds e object (has-self object objects)))
    (ap rest_list w) (λ number node holds e x h. apart number node holds e x (or-second (nat_eq object x) (has objects x) h))

-- Node events

abbrev pub Everywhere : ℕ → Type 0
Everywhere number = Unit {0}

pub node-here : (state : State) (number : ℕ) (change : NodeState → NodeState) → is_some (slice_get state.nodes number) ≡ true →
    node_at (with_node number change state) number ≡ change (node_at state number)
node-here state number change t = ap (found_or idle_node) (change-here state.nodes number change) ∙ found-mapped change idle_node idle_node (slice_get state.nodes number) t

some_is : {A : Type 0} (x y : A) → Some x ≡ Some y → x ≡ y
some_is x y e = ap (found_or x) e

pub follows-evaluation : (machine : Machine) (number : ℕ) (node : FlatNode) (state : State) → RestOnInputs machine → slice_get machine.design.nodes number ≡ Some node →
    Follows machine Everywhere state → Follows machine Everywhere (with_node number (λ old. record { marked = false; pending = Some (node_outputs machine number node state.values) }) state)
follows-evaluation machine number node state rest found f = record {
  fit = f.fit;
  nets_there = f.nets_there;
  nodes_there = λ other n e. there-change_at state.nodes number other _ ∙ f.nodes_there other n e;
  pending_widths = λ other n values e p. elim (decided (nat_eq number other)) [
    | inl same ↦
        (let at : other ≡ number = sym (eqb-true number other same) in
        let same_node : node ≡ n = some_is node n (sym found ∙ ap (slice_get machine.design.nodes) (eqb-true number other same) ∙ e) in
        let is : node_outputs machine number node state.values ≡ values =
        some_is (node_outputs machine number node state.values) values
        (sym (ap (λ (s : NodeState). s.pending) (node-here state number evaluate (f.nodes_there number node found)))
        ∙ ap (λ k. (node_at (with_node number evaluate state) k).pending) (eqb-true number other same) ∙ p) in
        subst (λ (m : FlatNode). map (λ (v : LogicValue). length v) values ≡ map (object_width machine) m.outputs) same_node
        (subst (λ vs. map (λ (v : LogicValue). length v) vs ≡ map (object_width machine) node.outputs) is (rest.widths number node state.values found f.fit)))
    | inr apart ↦ f.pending_widths other n values e (sym (ap (λ (s : NodeState). s.pending) (node-other state other number evaluate (other_number number other apart))) ∙ p)
  ];
  pending = λ other n values holds e m p. elim (decided (nat_eq number other)) [
    | inl same ↦
        (let same_node : node ≡ n = some_is node n (sym found ∙ ap (slice_get machine.design.nodes) (eqb-true number other same) ∙ e) in
        let is : node_outputs machine number node state.values ≡ values =
        some_is (node_outputs machine number node state.values) values
        (sym (ap (λ (s : NodeState). s.pending) (node-here state number evaluate (f.nodes_there number node found)))
        ∙ ap (λ k. (node_at (with_node number evaluate state) k).pending) (eqb-true number other same) ∙ p) in
        sym is ∙ (λ i. node_outputs machine (eqb-true number other same i) (same_node i) state.values))
    | inr apart ↦
        f.pending other n values tt e
        (sym (ap (λ (s : NodeState). s.marked) (node-other state other number evaluate (other_number number other apart))) ∙ m)
        (sym (ap (λ (s : NodeState). s.pending) (node-other state other number evaluate (other_number number other apart))) ∙ p)
  ];
  idle = λ other n holds e m p. elim (decided (nat_eq number other)) [
    | inl same ↦
        some_none (node_outputs machine number node state.values)
        (sym (ap (λ (s : NodeState). s.pending) (node-here state number evaluate (f.nodes_there number node found)))
        ∙ ap (λ k. (node_at (with_node number evaluate state) k).pending) (eqb-true number other same) ∙ p)
    | inr apart ↦
        f.idle other n tt e
        (sym (ap (λ (s : NodeState). s.marked) (node-other state other number evaluate (other_number number other apart))) ∙ m)
        (sym (ap (λ (s : NodeState). s.pending) (node-other state other number evaluate (other_number number other apart))) ∙ p)
  ];
}
  where
    evaluate : NodeState → NodeState
    evaluate old = record { marked = false; pending = Some (node_outputs machine number node state.values) }

    some_none : {A B : Type 0} (x : A) → Some x ≡ None → B
    some_none x e = cc

-- the node of the update is looked at apart from the others
pub follows-update : (machine : Machine) (number : ℕ) (node : FlatNode) (values : List LogicValue) (state : State) → KeepsRules machine.design → RestOnInputs machine →
    slice_get machine.design.nodes number ≡ Some node → (node_at state number).pending ≡ Some values → Follows machine Everywhere state →
    Follows machine Everywhere (with_values machine node.outputs values (with_node number (λ old. record old { pending = None }) state))
follows-update machine number node values state rules rest found given f = record {
  fit = others.fit;
  nets_there = others.nets_there;
  nodes_there = others.nodes_there;
  pending_widths = others.pending_widths;
  pending = λ other n vs holds e m p. elim (decided (nat_eq number other)) [
    | inl same ↦ some_none vs (sym p ∙ sym (ap (λ k. (node_at ended k).pending) (eqb-true number other same)) ∙ ap (λ (s : NodeState). s.pending) node_ended)
    | inr apart ↦ others.pending other n vs (λ q. other_number number other apart (sym q)) e m p
  ];
  idle = λ other n holds e m p. elim (decided (nat_eq number other)) [
    | inl same ↦
        (let same_node : node ≡ n = some_is node n (sym found ∙ ap (slice_get machine.design.nodes) (eqb-true number other same) ∙ e) in
        let unmarked : (node_at state number).marked ≡ false =
        sym (ap (λ (s : NodeState). s.marked) node_ended) ∙ ap (λ k. (node_at ended k).marked) (eqb-true number other same) ∙ m in
        subst (λ (x : FlatNode). map (value_at ended.values) x.outputs ≡ node_outputs machine other x ended.values) same_node
        (values-put machine node.outputs values cleared (distinct [] node.outputs ((node_rules rules number node found).outputs_once)).0 (f.pending_widths number node values found given)
        (λ x h. f.nets_there x (outputs_are_nets rules number node found x h))
        ∙ f.pending number node values tt found unmarked given
        ∙ rest.rests number node state.values ended.values found f.fit others.fit (λ input i. sym (values-other machine node.outputs values cleared input (own_output input i)))
        ∙ ap (λ k. node_outputs machine k node ended.values) (eqb-true number other same)))
    | inr apart ↦ others.idle other n (λ q. other_number number other apart (sym q)) e m p
  ];
}
  where
    clear : NodeState → NodeState
    clear old = record old { pending = None }

    cleared : State
    cleared = with_node number (λ old. record old { pending = None }) state

    ended : State
    ended = with_values machine node.outputs values (with_node number (λ old. record old { pending = None }) state)

    some_none : {A B : Type 0} (x : A) → Some x ≡ None → B
    some_none x e = cc

    own_output : (input : ℕ) → has node.inputs input ≡ true → has node.outputs input ≡ false
    own_output input i = elim (decided (has node.outputs input)) [
      | inl h ↦ true-false (has node.inputs input) i (rules.ranked number number node node found found (omega arith) input h)
      | inr h ↦ h
    ]

    node_ended : node_at (with_values machine node.outputs values (with_node number (λ old. record old { pending = None }) state)) number ≡
        record { marked = (node_at state number).marked; pending = None }
    node_ended =
        node-values-untouched machine node.outputs values (with_node number (λ old. record old { pending = None }) state) number node found
        (λ x h. rules.ranked number number node node found found (omega arith) x h)
        ∙ node-here state number (λ old. record old { pending = None }) (f.nodes_there number node found)

    below-or : (n m : ℕ) → n ≢ m → (n < m) ⊎ (m < n)
    below-or zero zero d = absurd (d refl)
    below-or zero (suc m) d = inl (omega arith)
    below-or (suc n) zero d = inr (omega arith)
    below-or (suc n) (suc m) d = elim (below-or n m (λ e. d (ap suc e))) [ inl a ↦ inl (omega (arith, a)) | inr b ↦ inr (omega (arith, b)) ]

    first_step : Follows machine (λ other. other ≢ number) (with_node number (λ old. record old { pending = None }) state)
    first_step = record {
      fit = f.fit;
      nets_there = f.nets_there;
      nodes_there = λ other n e. there-change_at state.nodes number other _ ∙ f.nodes_there other n e;
      pending_widths = λ other n vs e p. elim (decided (nat_eq number other)) [
        | inl same ↦
            some_none vs
            (sym p ∙ sym (ap (λ k. (node_at (with_node number (λ old. record old { pending = None }) state) k).pending) (eqb-true number other same))
            ∙ ap (λ (s : NodeState). s.pending) (node-here state number (λ old. record old { pending = None }) (f.nodes_there number node found)))
        | inr apart ↦
            f.pending_widths other n vs e
            (sym (ap (λ (s : NodeState). s.pending) (node-other state other number (λ old. record old { pending = None }) (other_number number other apart))) ∙ p)
      ];
      pending = λ other n vs holds e m p.
          f.pending other n vs tt e
          (sym (ap (λ (s : NodeState). s.marked) (node-other state other number (λ old. record old { pending = None }) (λ q. holds (sym q)))) ∙ m)
          (sym (ap (λ (s : NodeState). s.pending) (node-other state other number (λ old. record old { pending = None }) (λ q. holds (sym q)))) ∙ p);
      idle = λ other n holds e m p.
          f.idle other n tt e
          (sym (ap (λ (s : NodeState). s.marked) (node-other state other number (λ old. record old { pending = None }) (λ q. holds (sym q)))) ∙ m)
          (sym (ap (λ (s : NodeState). s.pending) (node-other state other number (λ old. record old { pending = None }) (λ q. holds (sym q)))) ∙ p);
    }

    others : Follows machine (λ other. other ≢ number) (with_values machine node.outputs values (with_node number (λ old. record old { pending = None }) state))
    others =
        follows-values machine (λ other. other ≢ number) node.outputs values (with_node number (λ old. record old { pending = None }) state) rest first_step
        (f.pending_widths number node values found given)
        (λ other n holds e x h. elim (below-or other number holds) [
          | inl low ↦ elim (decided (has n.outputs x)) [
            | inl i ↦ true-false (has node.outputs x) h (rules.one_driver other number n node e found low x i)
            | inr i ↦ i
          ]
          | inr high ↦ rules.one_driver number other node n found e high x h
        ])

-- Process and lane steps

pub length-with_part : (old part : LogicValue) (low : ℕ) → length (with_part old low part) ≡ length old
length-with_part [] part low = refl
length-with_part (b ∷ old) part (suc low) = ap suc (length-with_part old part low)
length-with_part (b ∷ old) [] zero = refl
length-with_part (b ∷ old) (p ∷ part) zero = ap suc (length-with_part old part zero)

length-forced_if : (here : Bool) (bit : ℕ) (stuck : Bool) (value : LogicValue) → length (forced_if here bit stuck value) ≡ length value
length-forced_if true bit stuck value = length-with_part value (bit_of stuck ∷ []) bit
length-forced_if false bit stuck value = refl

length-forced_at : (site : FaultSite) (stuck : Bool) (object : ℕ) (value : LogicValue) → length (forced_at_variable site stuck object value) ≡ length value
length-forced_at (VariableBit forced bit) stuck object value = length-forced_if (nat_eq forced object) bit stuck value
length-forced_at (OutputBit node forced bit) stuck object value = refl
length-forced_at (GateTerminal node terminal) stuck object value = refl

pub length-forced : (fault : Option StuckAt) (object : ℕ) (value : LogicValue) → length (forced_variable fault object value) ≡ length value
length-forced None object value = refl
length-forced (Some fault) object value = length-forced_at fault.site fault.value object value

follows-written : (machine : Machine) (write : Option ValueUpdate) (state : State) → KeepsRules machine.design → RestOnInputs machine → Follows machine Everywhere state →
    ((u : ValueUpdate) → write ≡ Some u → NotNet machine u.object) → Follows machine Everywhere (written_if machine write state)
follows-written machine None state rules rest f net = f
follows-written machine (Some u) state rules rest f net =
    follows-write machine Everywhere u.object (value_written machine state u) state rest f
    (length-forced machine.fault u.object (with_part (value_at state.values u.object) u.low u.value) ∙ length-with_part (value_at state.values u.object) u.value u.low)
    (λ number node holds e. elim (decided (has node.outputs u.object)) [
      | inl h ↦ true-false (has (net_pieces machine.design) u.object) (outputs_are_nets rules number node e u.object h) (net u refl)
      | inr h ↦ h
    ])

follows-process : (machine : Machine) (number : ℕ) (own : ProcessState → ProcessState) (state : State) → Follows machine Everywhere state → Follows machine Everywhere (with_process number own state)
follows-process machine number own state f = record {
  fit = f.fit;
  nets_there = f.nets_there;
  nodes_there = f.nodes_there;
  pending_widths = f.pending_widths;
  pending = f.pending;
  idle = f.idle;
}

follows-evaluated : (machine : Machine) (number : ℕ) (found : Option FlatNode) (state : State) → RestOnInputs machine → slice_get machine.design.nodes number ≡ found →
    Follows machine Everywhere state → Follows machine Everywhere (evaluated machine number found state)
follows-evaluated machine number None state rest e f = f
follows-evaluated machine number (Some node) state rest e f = follows-evaluation machine number node state rest e f

follows-nets : (machine : Machine) (number : ℕ) (found : Option FlatNode) (pending : Option (List LogicValue)) (state : State) → KeepsRules machine.design → RestOnInputs machine →
    slice_get machine.design.nodes number ≡ found → (node_at state number).pending ≡ pending → Follows machine Everywhere state →
    Follows machine Everywhere (nets_updated machine number found pending state)
follows-nets machine number None pending state rules rest e p f = f
follows-nets machine number (Some node) None state rules rest e p f = f
follows-nets machine number (Some node) (Some values) state rules rest e p f = follows-update machine number node values state rules rest e p f

-- each event keeps it
pub follows-after : (machine : Machine) (state : State) (event : Event) → KeepsRules machine.design → RestOnInputs machine → AreClear (NotNet machine) state →
    Follows machine Everywhere state → Follows machine Everywhere (after machine state event)
follows-after machine state (Step number) rules rest clear f =
    follows-written machine (write_of (step_of machine state number).action) (with_process number (after_step state (step_of machine state number)) state) rules rest
    (follows-process machine number (after_step state (step_of machine state number)) state f)
    (λ u e. write-clear-of (NotNet machine) machine state (Step number) u (bodies_clear machine rules) clear e)
follows-after machine state (LaneStep number) rules rest clear f =
    follows-written machine (first_update (process_at state number).lane) (with_process number after_lane_step state) rules rest
    (follows-process machine number after_lane_step state f)
    (λ u e. write-clear-of (NotNet machine) machine state (LaneStep number) u (bodies_clear machine rules) clear e)
follows-after machine state (Evaluation number) rules rest clear f = follows-evaluated machine number (slice_get machine.design.nodes number) state rest refl f
follows-after machine state (NetUpdate number) rules rest clear f =
    follows-nets machine number (slice_get machine.design.nodes number) (node_at state number).pending state rules rest refl refl f

-- and so does a run, whether or not its events are possible
pub follows-run : (machine : Machine) (state : State) (events : List Event) → KeepsRules machine.design → RestOnInputs machine → AreClear (NotNet machine) state →
    Follows machine Everywhere state → Follows machine Everywhere (happened machine state events)
follows-run machine state [] rules rest clear f = f
follows-run machine state (event ∷ events) rules rest clear f =
    follows-run machine (after machine state event) events rules rest (after-clear (NotNet machine) machine state event (bodies_clear machine rules) clear)
    (follows-after machine state event rules rest clear f)

-- A phase's beginning and its end

get_or-map : {A B : Type 0} (f : A → B) (xs : List A) (n : ℕ) (a : A) → get_or (map f xs) n (f a) ≡ f (get_or xs n a)
get_or-map f [] n a = refl
get_or-map f (x ∷ xs) zero a = refl
get_or-map f (x ∷ xs) (suc n) a = get_or-map f xs n a

pub there-below : {A : Type 0} (xs : List A) (n : ℕ) → n < length xs → is_some (slice_get xs n) ≡ true
there-below [] n h = absurd (omega (arith, h))
there-below (x ∷ xs) zero h = refl
there-below (x ∷ xs) (suc n) h = there-below xs n (omega (arith, h))

below-there : {A : Type 0} (xs : List A) (n : ℕ) (x : A) → slice_get xs n ≡ Some x → n < length xs
below-there [] n x e = cc
below-there (y ∷ xs) zero x e = omega arith
below-there (y ∷ xs) (suc n) x e = let h : n < length xs = below-there xs n x e in omega (arith, h)

numbers-below : (test : FlatObject → Bool) (start : ℕ) (objects : List FlatObject) (x : ℕ) → has (numbers_of test start objects) x ≡ true → x < start + length objects
numbers-below test start [] x h = cc
numbers-below test start (object ∷ objects) x h = go (test object) h (numbers-below test (start + 1) objects x)
  where
    go : (b : Bool) → has (elim b [ true ↦ start ∷ numbers_of test (start + 1) objects | false ↦ numbers_of test (start + 1) objects ]) x ≡ true →
        (has (numbers_of test (start + 1) objects) x ≡ true → x < (start + 1) + length objects) → x < start + suc (length objects)
    go true i deeper = elim (or-either (nat_eq start x) (has (numbers_of test (start + 1) objects) x) i) [
      | inl same ↦ (let e : start ≡ x = eqb-true start x same in omega (arith, e))
      | inr there ↦ (let d : x < (start + 1) + length objects = deeper there in omega (arith, d))
    ]
    go false i deeper = let d : x < (start + 1) + length objects = deeper i in omega (arith, d)

pub net-below : (design : FlatDesign) (x : ℕ) → has (net_pieces design) x ≡ true → x < length design.objects
net-below design x h = let d : x < 0 + length design.objects = numbers-below (λ object. is_net object.kind) 0 design.objects x h in omega (arith, d)

no-work : (marked : Bool) (pending : Option (List LogicValue)) → (marked || is_some pending) ≡ false → (marked ≡ false) × (pending ≡ None)
no-work true pending h = cc
no-work false None h = (refl, refl)
no-work false (Some values) h = cc

pub fit-from : (machine : Machine) (values : List LogicValue) → map (λ (value : LogicValue). length value) values ≡ map (λ (object : FlatObject). object.width) machine.design.objects →
    Fit machine values
fit-from machine values e object =
    sym (get_or-map (λ (value : LogicValue). length value) values object []) ∙ ap (λ ns. get_or ns object 0) e

-- a phase begins so
pub follows-begins : (machine : Machine) (state : State) → BeginsPhase machine state → Follows machine Everywhere state
follows-begins machine state begins = record {
  fit = fit-from machine state.values begins.widths;
  nets_there = λ object h.
      there-below state.values object
      (let a : object < length machine.design.objects = net-below machine.design object h in
      let b : length state.values ≡ length machine.design.objects = begins.fits.values in
      omega (arith, a, b));
  nodes_there = λ number node e.
      there-below state.nodes number
      (let a : number < length machine.design.nodes = below-there machine.design.nodes number node e in
      let b : length state.nodes ≡ length machine.design.nodes = begins.fits.nodes in
      omega (arith, a, b));
  pending_widths = λ number node values e p. some_none values (sym p ∙ (at_rest number).1);
  pending = λ number node values holds e m p. some_none values (sym p ∙ (at_rest number).1);
  idle = λ number node holds e m p. begins.settled number node e;
}
  where
    some_none : {A B : Type 0} (x : A) → Some x ≡ None → B
    some_none x e = cc

    at_rest : (number : ℕ) → ((node_at state number).marked ≡ false) × ((node_at state number).pending ≡ None)
    at_rest number = no-work (node_at state number).marked (node_at state number).pending (all_idle state.nodes begins.idle number)

-- where no node has work the nets are settled
pub settled-at-rest : (machine : Machine) (state : State) → Follows machine Everywhere state → some_in has_work state.nodes ≡ false → AreSettled machine state.values
settled-at-rest machine state f h number node e =
    let rest : ((node_at state number).marked ≡ false) × ((node_at state number).pending ≡ None) =
    no-work (node_at state number).marked (node_at state number).pending (all_idle state.nodes h number) in
    f.idle number node tt e rest.0 rest.1

pub not-both : (b c : Bool) → (not b && not c) ≡ true → (b ≡ false) × (c ≡ false)
not-both true c e = cc
not-both false true e = cc
not-both false false e = (refl, refl)

-- a legal order of a phase ends with its nets settled
pub phase_ends_settled : (machine : Machine) (state : State) (events : List Event) → KeepsRules machine.design → RestOnInputs machine → BeginsPhase machine state → IsPhase machine state events →
    AreSettled machine (happened machine state events).values
phase_ends_settled machine state events rules rest begins phase =
    settled-at-rest machine (happened machine state events)
    (follows-run machine state events rules rest (writers_clear machine state begins.writers) (follows-begins machine state begins))
    (not-both (some_in has_event (happened machine state events).processes) (some_in has_work (happened machine state events).nodes) phase.ends).1

-- Settled values are determined by the objects that no node writes

-- a node that writes the object, or none does
pub driver_of : (nodes : List FlatNode) (object : ℕ) →
    ((number : ℕ) × (node : FlatNode) × (slice_get nodes number ≡ Some node) × (has node.outputs object ≡ true))
    ⊎ ((number : ℕ) (node : FlatNode) → slice_get nodes number ≡ Some node → has node.outputs object ≡ false)
driver_of [] object = inr (λ number node e. cc)
driver_of (first ∷ nodes) object = elim (decided (has first.outputs object)) [
  | inl h ↦ inl (0, first, refl, h)
  | inr h ↦ elim (driver_of nodes object) [
    | inl d ↦ inl (suc d.0, d.1, d.2, d.3)
    | inr none ↦ inr (later h none)
  ]
]
  where
    later : has first.outputs object ≡ false → ((number : ℕ) (node : FlatNode) → slice_get nodes number ≡ Some node → has node.outputs object ≡ false) →
        (number : ℕ) (node : FlatNode) → slice_get (first ∷ nodes) number ≡ Some node → has node.outputs object ≡ false
    later h none zero node e = subst (λ (n : FlatNode). has n.outputs object ≡ false) (ap (found_or first) e) h
    later h none (suc number) node e = none number node e

pub values-in : (one other : List LogicValue) (objects : List ℕ) → map (value_at one) objects ≡ map (value_at other) objects → (x : ℕ) → has objects x ≡ true → value_at one x ≡ value_at other x
values-in one other [] e x h = cc
values-in one other (y ∷ objects) e x h = elim (or-either (nat_eq y x) (has objects x) h) [
  | inl same ↦ subst (λ z. value_at one z ≡ value_at other z) (eqb-true y x same) (ap (first_or []) e)
  | inr there ↦ values-in one other objects (ap rest_list e) x there
]

settled-below : (machine : Machine) (one other : List LogicValue) → KeepsRules machine.design → RestOnInputs machine → Fit machine one → Fit machine other → AreSettled machine one →
    AreSettled machine other →
    ((object : ℕ) → ((number : ℕ) (node : FlatNode) → slice_get machine.design.nodes number ≡ Some node → has node.outputs object ≡ false) → value_at one object ≡ value_at other object) →
    (level bound : ℕ) → level ≤ bound → (object : ℕ) → IsBelow machine.design.nodes level object → value_at one object ≡ value_at other object
settled-below machine one other rules rest fit fit' settled settled' alike level zero l object below =
    alike object (λ number node e. elim (decided (has node.outputs object)) [
      | inl h ↦ (let b : number < level = below number node e h in absurd (omega (arith, b, l)))
      | inr h ↦ h
    ])
settled-below machine one other rules rest fit fit' settled settled' alike level (suc bound) l object below = elim (driver_of machine.design.nodes object) [
  | inl d ↦
      (let b : d.0 < level = below d.0 d.1 d.2 d.3 in
      values-in one other d.1.outputs
      (settled d.0 d.1 d.2
      ∙ rest.rests d.0 d.1 one other d.2 fit fit'
      (λ input i. settled-below machine one other rules rest fit fit' settled settled' alike d.0 bound (omega (arith, b, l)) input (input_below machine.design.nodes rules.ranked d.0 d.1 d.2 input i))
      ∙ sym (settled' d.0 d.1 d.2)) object d.3)
  | inr none ↦ alike object none
]

-- so settled values that agree there agree everywhere
pub settled_determined : (machine : Machine) (one other : List LogicValue) → KeepsRules machine.design → RestOnInputs machine → Fit machine one → Fit machine other → AreSettled machine one →
    AreSettled machine other →
    ((object : ℕ) → ((number : ℕ) (node : FlatNode) → slice_get machine.design.nodes number ≡ Some node → has node.outputs object ≡ false) → value_at one object ≡ value_at other object) →
    (object : ℕ) → value_at one object ≡ value_at other object
settled_determined machine one other rules rest fit fit' settled settled' alike object =
    settled-below machine one other rules rest fit fit' settled settled' alike (length machine.design.nodes) (length machine.design.nodes) (omega arith) object (all_below machine.design.nodes object)
