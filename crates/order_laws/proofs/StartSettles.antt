-- At the start of a machine its first phase begins, as the laws ask it: the nets are settled.
use Rattle.std.proofs.Common.{◌≡◌, ℕ, zero, suc, ◌+◌, ◌<◌, ◌≤◌, List, [], ◌∷◌, map, length, true, false, refl, sym, ap, subst, ◌∙◌, ◌⊎◌, inl, inr, arith, get_or}
use Rattle.std.specs.Prelude.{Option, Some, None, slice_get, nat_eq, is_some}
use Rattle.vf_base.specs.Lists.{has, change_at, map_numbered}
use Rattle.four_value.specs.Values.{LogicValue}
use Rattle.v_design.specs.Designs.{FlatObject, FlatNode, Machine, StuckAt, forced_variable}
use Rattle.v_design.specs.Assignments.{value_at, node_outputs, object_width, with_outputs, settled_from, first_contents, first_values}
use Rattle.v_design.specs.States.{found_or, start, some_in, has_work}
use Rattle.v_design.specs.WellFormed.{KeepsRules}
use Rattle.v_design.specs.Laws.{BeginsPhase}
use Rattle.order_laws.proofs.Rules.{node_rules, outputs_are_nets, contents_sized}
use Rattle.order_laws.proofs.ListLaws.{get_or-change_at}
use Rattle.order_laws.proofs.PathLaws.{decided, true-false, or-neither, or-second, has-self, slice_get-below}
use Rattle.order_laws.proofs.NetStates.{other_number}
use Rattle.order_laws.proofs.SettledNets.{Fit, Distinct, distinct, put-width, put-there, there-change_at, there-below, net-below, length-forced, first_or, rest_list}
use Rattle.order_laws.proofs.NodeRests.{rest_on_inputs}
use Rattle.order_laws.proofs.PhasesGoOn.{length-change_at, length-mapped, widths-list}
use Rattle.order_laws.proofs.TurnsKeep.{start_writers}

-- Outputs put in

pub outputs-elsewhere : (objects : List ℕ) (outputs values : List LogicValue) (x : ℕ) → has objects x ≡ false → value_at (with_outputs objects outputs values) x ≡ value_at values x
outputs-elsewhere [] outputs values x h = refl
outputs-elsewhere (object ∷ objects) [] values x h = refl
outputs-elsewhere (object ∷ objects) (value ∷ outputs) values x h =
    let apart : (nat_eq object x ≡ false) × (has objects x ≡ false) = or-neither (nat_eq object x) (has objects x) h in
    outputs-elsewhere objects outputs (change_at values object (λ old. value)) x apart.1 ∙ get_or-change_at values object x (λ old. value) [] (other_number object x apart.0)

outputs-length : (objects : List ℕ) (outputs values : List LogicValue) → length (with_outputs objects outputs values) ≡ length values
outputs-length [] outputs values = refl
outputs-length (object ∷ objects) [] values = refl
outputs-length (object ∷ objects) (value ∷ outputs) values = outputs-length objects outputs (change_at values object (λ old. value)) ∙ length-change_at values object (λ old. value)

pub outputs-fit : (machine : Machine) (objects : List ℕ) (outputs values : List LogicValue) → map (λ (v : LogicValue). length v) outputs ≡ map (object_width machine) objects → Fit machine values →
    Fit machine (with_outputs objects outputs values)
outputs-fit machine [] outputs values w f x = f x
outputs-fit machine (object ∷ objects) [] values w f x = f x
outputs-fit machine (object ∷ objects) (value ∷ outputs) values w f x =
    outputs-fit machine objects outputs (change_at values object (λ old. value)) (ap rest_list w)
    (λ y. put-width values object value (ap (first_or 0) w ∙ sym (f object)) y ∙ f y) x

pub outputs-put : (machine : Machine) (objects : List ℕ) (outputs values : List LogicValue) → Distinct objects → map (λ (v : LogicValue). length v) outputs ≡ map (object_width machine) objects →
    ((x : ℕ) → has objects x ≡ true → is_some (slice_get values x) ≡ true) → map (value_at (with_outputs objects outputs values)) objects ≡ outputs
outputs-put machine [] [] values d w t = refl
outputs-put machine [] (value ∷ outputs) values d w t = cc
outputs-put machine (object ∷ objects) [] values d w t = cc
outputs-put machine (object ∷ objects) (value ∷ outputs) values d w t =
    λ i. (outputs-elsewhere objects outputs (change_at values object (λ old. value)) object d.0 ∙ put-there values object value (t object (has-self object objects))) i
    ∷ outputs-put machine objects outputs (change_at values object (λ old. value)) d.1 (ap rest_list w)
    (λ x h. there-change_at values object x (λ old. value) ∙ t x (or-second (nat_eq object x) (has objects x) h)) i

pub map-elsewhere : (objects : List ℕ) (outputs values : List LogicValue) (xs : List ℕ) → ((x : ℕ) → has xs x ≡ true → has objects x ≡ false) →
    map (value_at (with_outputs objects outputs values)) xs ≡ map (value_at values) xs
map-elsewhere objects outputs values [] h = refl
map-elsewhere objects outputs values (x ∷ xs) h =
    λ i. outputs-elsewhere objects outputs values x (h x (has-self x xs)) i ∷ map-elsewhere objects outputs values xs (λ y k. h y (or-second (nat_eq x y) (has xs y) k)) i

-- Node by node

-- the nodes below a number are settled
abbrev SettledBelow : Machine → ℕ → List LogicValue → Type 0
SettledBelow machine bound values =
    (number : ℕ) (node : FlatNode) → number < bound → slice_get machine.design.nodes number ≡ Some node → map (value_at values) node.outputs ≡ node_outputs machine number node values

record Settling (machine : Machine) (bound : ℕ) (values : List LogicValue) : Type 0 where
  fit : Fit machine values
  long : length values ≡ length machine.design.objects
  settled : SettledBelow machine bound values

below-or-same : (n m : ℕ) → n < m + 1 → (n < m) ⊎ (n ≡ m)
below-or-same zero zero h = inr refl
below-or-same zero (suc m) h = inl (omega arith)
below-or-same (suc n) zero h = absurd (omega (arith, h))
below-or-same (suc n) (suc m) h = elim (below-or-same n m (omega (arith, h))) [ inl a ↦ inl (omega (arith, a)) | inr e ↦ inr (ap suc e) ]

one-settled : (machine : Machine) (number : ℕ) (node : FlatNode) (values : List LogicValue) → KeepsRules machine.design → slice_get machine.design.nodes number ≡ Some node →
    Settling machine number values →
    Settling machine (number + 1) (with_outputs node.outputs (node_outputs machine number node values) values)
one-settled machine number node values rules e s = record {
  fit = outputs-fit machine node.outputs (node_outputs machine number node values) values ((rest_on_inputs machine rules).widths number node values e s.fit) s.fit;
  long = outputs-length node.outputs (node_outputs machine number node values) values ∙ s.long;
  settled = λ other n below f. elim (below-or-same other number below) [
    | inl low ↦
        map-elsewhere node.outputs (node_outputs machine number node values) values n.outputs (λ x h. rules.one_driver other number n node f e low x h)
        ∙ s.settled other n low f
        ∙ (rest_on_inputs machine rules).rests other n values _ f s.fit new_fit
        (λ input i. sym (outputs-elsewhere node.outputs (node_outputs machine number node values) values input (unread other n f (omega (arith, low)) input i)))
    | inr same ↦
        (let same_node : node ≡ n = ap (found_or node) (sym e ∙ ap (slice_get machine.design.nodes) (sym same) ∙ f) in
        subst (λ (m : FlatNode). map (value_at (with_outputs node.outputs (node_outputs machine number node values) values)) m.outputs ≡ node_outputs machine other m
        (with_outputs node.outputs (node_outputs machine number node values) values)) same_node
        (outputs-put machine node.outputs (node_outputs machine number node values) values (distinct [] node.outputs ((node_rules rules number node e).outputs_once)).0
        ((rest_on_inputs machine rules).widths number node values e s.fit)
        (λ x h. there-below values x (let a : x < length machine.design.objects = net-below machine.design x (outputs_are_nets rules number node e x h) in
        let l : length values ≡ length machine.design.objects = s.long in omega (arith, a, l)))
        ∙ (rest_on_inputs machine rules).rests number node values _ e s.fit new_fit
        (λ input i. sym (outputs-elsewhere node.outputs (node_outputs machine number node values) values input (unread number node e (omega arith) input i)))
        ∙ ap (λ k. node_outputs machine k node (with_outputs node.outputs (node_outputs machine number node values) values)) (sym same)))
  ];
}
  where
    new_fit : Fit machine (with_outputs node.outputs (node_outputs machine number node values) values)
    new_fit = outputs-fit machine node.outputs (node_outputs machine number node values) values ((rest_on_inputs machine rules).widths number node values e s.fit) s.fit

    unread : (other : ℕ) (n : FlatNode) → slice_get machine.design.nodes other ≡ Some n → other ≤ number → (input : ℕ) → has n.inputs input ≡ true → has node.outputs input ≡ false
    unread other n f low input i = elim (decided (has node.outputs input)) [
      | inl h ↦ true-false (has n.inputs input) i (rules.ranked other number n node f e low input h)
      | inr h ↦ h
    ]

all-settled : (machine : Machine) (number : ℕ) (nodes : List FlatNode) (values : List LogicValue) → KeepsRules machine.design →
    ((i : ℕ) (node : FlatNode) → slice_get nodes i ≡ Some node → slice_get machine.design.nodes (number + i) ≡ Some node) → Settling machine number values →
    Settling machine (number + length nodes) (settled_from machine number nodes values)
all-settled machine number [] values rules at s = subst (λ k. Settling machine k values) (plus-none number) s
  where
    plus-none : (n : ℕ) → n ≡ n + 0
    plus-none n = omega arith
all-settled machine number (node ∷ nodes) values rules at s =
    subst (λ k. Settling machine k (settled_from machine (number + 1) nodes (with_outputs node.outputs (node_outputs machine number node values) values))) (moved number (length nodes))
    (all-settled machine (number + 1) nodes (with_outputs node.outputs (node_outputs machine number node values) values) rules
    (λ i n e. ap (slice_get machine.design.nodes) (moved number i) ∙ at (suc i) n e)
    (one-settled machine number node values rules (ap (slice_get machine.design.nodes) (plus-none number) ∙ at 0 node refl) s))
  where
    moved : (n m : ℕ) → (n + 1) + m ≡ n + suc m
    moved n m = omega arith

    plus-none : (n : ℕ) → n ≡ n + 0
    plus-none n = omega arith

-- The first contents

contents-fit : (fault : Option StuckAt) (n : ℕ) (objects : List FlatObject) → ((number : ℕ) (object : FlatObject) → slice_get objects number ≡ Some object → length object.first ≡ object.width) →
    (x : ℕ) →
    length (value_at (map_numbered (λ number object. forced_variable fault number object.first) n objects) x) ≡ get_or (map (λ (o : FlatObject). o.width) objects) x 0
contents-fit fault n [] h x = refl
contents-fit fault n (object ∷ objects) h zero = length-forced fault n object.first ∙ h 0 object refl
contents-fit fault n (object ∷ objects) h (suc x) = contents-fit fault (n + 1) objects (λ k. h (suc k)) x

contents-length : (fault : Option StuckAt) (n : ℕ) (objects : List FlatObject) → length (map_numbered (λ number (object : FlatObject). forced_variable fault number object.first) n objects) ≡ length
    objects
contents-length fault n [] = refl
contents-length fault n (object ∷ objects) = ap suc (contents-length fault (n + 1) objects)

none-works : (nodes : List FlatNode) → some_in has_work (map (λ (node : FlatNode). record { marked = false; pending = None }) nodes) ≡ false
none-works [] = refl
none-works (node ∷ nodes) = none-works nodes

start-settled : (machine : Machine) → KeepsRules machine.design → Settling machine (0 + length machine.design.nodes) (first_values machine)
start-settled machine rules =
    all-settled machine 0 machine.design.nodes (first_contents machine) rules (λ i node e. ap (slice_get machine.design.nodes) (none-plus i) ∙ e)
    (record {
      fit = contents-fit machine.fault 0 machine.design.objects (contents_sized rules);
      long = contents-length machine.fault 0 machine.design.objects;
      settled = λ number node below e. absurd (omega (arith, below));
    })
  where
    none-plus : (n : ℕ) → 0 + n ≡ n
    none-plus n = omega arith

-- so the first phase begins
pub start_begins : (machine : Machine) → KeepsRules machine.design → BeginsPhase machine (start machine)
start_begins machine rules =
    let s : Settling machine (0 + length machine.design.nodes) (first_values machine) = start-settled machine rules in
    record {
      fits = record { values = s.long; nodes = length-mapped _ machine.design.nodes; processes = length-mapped _ machine.design.processes };
      widths = widths-list (first_values machine) machine.design.objects s.long s.fit;
      settled = λ number node e. s.settled number node (let b : number < length machine.design.nodes = slice_get-below machine.design.nodes number node e in omega (arith, b)) e;
      idle = none-works machine.design.nodes;
      writers = start_writers machine rules;
    }
