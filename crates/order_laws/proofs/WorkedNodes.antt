-- Working on nodes one at a time settles the nets, and settled values are one where they agree on all that no node drives.
use Rattle.std.proofs.Common.{◌≡◌, ℕ, zero, suc, ◌<◌, List, [], ◌∷◌, map, length, Bool, true, false, not, ◌&&◌, ◌||◌, refl, sym, ap, subst, ◌∙◌, ◌⊎◌, inl, inr, arith}
use Rattle.std.specs.Prelude.{◌≢◌, Some, slice_get, nat_eq, is_some}
use Rattle.std.specs.List.{list_any}
use Rattle.std.proofs.lemmas.Bool.{eqb-true}
use Rattle.vf_base.specs.Lists.{has}
use Rattle.four_value.specs.Values.{LogicValue, same_value}
use Rattle.v_design.specs.Designs.{FlatObject, FlatNode, Machine}
use Rattle.v_design.specs.Assignments.{value_at, node_outputs, with_outputs}
use Rattle.v_design.specs.States.{found_or}
use Rattle.v_design.specs.WellFormed.{KeepsRules}
use Rattle.v_design.specs.Laws.{HaveWidths, AreSettledBut, input_differs, marks_after, worked_on, NetsSettle, SettledValuesAreOne}
use Rattle.order_laws.proofs.Rules.{node_rules, outputs_are_nets}
use Rattle.order_laws.proofs.PathLaws.{decided, true-false, or-either, or-neither}
use Rattle.order_laws.proofs.NetStates.{same_value-true, other_number}
use Rattle.order_laws.proofs.SettledNets.{Fit, distinct, fit-from, there-below, net-below, settled_determined}
use Rattle.order_laws.proofs.NodeRests.{rest_on_inputs}
use Rattle.order_laws.proofs.PhasesGoOn.{length-mapped}
use Rattle.order_laws.proofs.StartSettles.{outputs-elsewhere, outputs-fit, outputs-put, map-elsewhere}

-- an object that is looked for among those that differ
none-differs : (one other : List LogicValue) (objects : List ℕ) → list_any (λ object. not (same_value (value_at one object) (value_at other object))) objects ≡ false →
    (x : ℕ) → has objects x ≡ true → value_at one x ≡ value_at other x
none-differs one other [] e x h = cc
none-differs one other (object ∷ objects) e x h =
    let parts : (not (same_value (value_at one object) (value_at other object)) ≡ false) × (list_any (λ o. not (same_value (value_at one o) (value_at other o))) objects ≡ false) =
    or-neither (not (same_value (value_at one object) (value_at other object))) (list_any (λ o. not (same_value (value_at one o) (value_at other o))) objects) e in
    elim (or-either (nat_eq object x) (has objects x) h) [
      | inl same ↦ subst (λ y. value_at one y ≡ value_at other y) (eqb-true object x same)
          (same_value-true (value_at one object) (value_at other object) (not-false (same_value (value_at one object) (value_at other object)) parts.0))
      | inr there ↦ none-differs one other objects parts.1 x there
    ]
  where
    not-false : (b : Bool) → not b ≡ false → b ≡ true
    not-false true e = refl
    not-false false e = cc

and-not : (b c : Bool) → (b && not c) ≡ false → c ≡ false → b ≡ false
and-not true true e f = cc
and-not true false e f = e
and-not false c e f = refl

pub below_other : (n m : ℕ) → n ≢ m → (n < m) ⊎ (m < n)
below_other zero zero d = absurd (d refl)
below_other zero (suc m) d = inl (omega arith)
below_other (suc n) zero d = inr (omega arith)
below_other (suc n) (suc m) d = elim (below_other n m (λ e. d (ap suc e))) [ inl a ↦ inl (omega (arith, a)) | inr b ↦ inr (omega (arith, b)) ]

goes-on : (machine : Machine) (marked : ℕ → Bool) (values : List LogicValue) (number : ℕ) (node : FlatNode) →
    KeepsRules machine.design → HaveWidths machine values → slice_get machine.design.nodes number ≡ Some node → AreSettledBut machine marked values →
    AreSettledBut machine (marks_after machine number marked values (worked_on machine number node values)) (worked_on machine number node values)
goes-on machine marked values number node rules widths e settled other n f m =
    let parts : ((marked other && not (nat_eq other number)) ≡ false) × (input_differs values (worked_on machine number node values) (slice_get machine.design.nodes other) ≡ false) =
    or-neither (marked other && not (nat_eq other number)) (input_differs values (worked_on machine number node values) (slice_get machine.design.nodes other)) m in
    elim (decided (nat_eq other number)) [
      | inl same ↦
          (let at : other ≡ number = eqb-true other number same in
          let same_node : node ≡ n = ap (found_or node) (sym e ∙ ap (slice_get machine.design.nodes) (sym at) ∙ f) in
          subst (λ (m : FlatNode). map (value_at (worked_on machine number node values)) m.outputs ≡ node_outputs machine other m (worked_on machine number node values)) same_node
          (outputs-put machine node.outputs (node_outputs machine number node values) values (distinct [] node.outputs (node_rules rules number node e).outputs_once).0
          ((rest_on_inputs machine rules).widths number node values e fit) there
          ∙ (rest_on_inputs machine rules).rests number node values (worked_on machine number node values) e fit new_fit
          (λ input i. sym (outputs-elsewhere node.outputs (node_outputs machine number node values) values input (unread input i)))
          ∙ ap (λ k. node_outputs machine k node (worked_on machine number node values)) (sym at)))
      | inr apart ↦
          map-elsewhere node.outputs (node_outputs machine number node values) values n.outputs
          (λ x h. elim (below_other other number (other_number other number apart)) [
            | inl low ↦ rules.one_driver other number n node f e low x h
            | inr high ↦ elim (decided (has node.outputs x)) [
              | inl i ↦ true-false (has n.outputs x) h (rules.one_driver number other node n e f high x i)
              | inr i ↦ i
            ]
          ])
          ∙ settled other n f (and-not (marked other) (nat_eq other number) parts.0 apart)
          ∙ (rest_on_inputs machine rules).rests other n values (worked_on machine number node values) f fit new_fit
          (none-differs values (worked_on machine number node values) n.inputs (sym (ap (input_differs values (worked_on machine number node values)) f) ∙ parts.1))
    ]
  where
    fit : Fit machine values
    fit = fit-from machine values widths

    new_fit : Fit machine (with_outputs node.outputs (node_outputs machine number node values) values)
    new_fit = outputs-fit machine node.outputs (node_outputs machine number node values) values ((rest_on_inputs machine rules).widths number node values e (fit-from machine values widths))
        (fit-from machine values widths)

    there : (x : ℕ) → has node.outputs x ≡ true → is_some (slice_get values x) ≡ true
    there x h = there-below values x
        (let a : x < length machine.design.objects = net-below machine.design x (outputs_are_nets rules number node e x h) in
        let l : length values ≡ length machine.design.objects =
        sym (length-mapped (λ (v : LogicValue). length v) values) ∙ ap length widths ∙ length-mapped (λ (o : FlatObject). o.width) machine.design.objects in
        omega (arith, a, l))

    unread : (input : ℕ) → has node.inputs input ≡ true → has node.outputs input ≡ false
    unread input i = elim (decided (has node.outputs input)) [
      | inl h ↦ true-false (has node.inputs input) i (rules.ranked number number node node e e (omega arith) input h)
      | inr h ↦ h
    ]

pub nets_settle : NetsSettle
nets_settle = record {
  goes_on = goes-on;
  ends = λ machine marked values none settled number node e. settled number node e (none number);
}

-- no node of a list writes the object
not-driven : (nodes : List FlatNode) (object : ℕ) → ((number : ℕ) (node : FlatNode) → slice_get nodes number ≡ Some node → has node.outputs object ≡ false) →
    list_any (λ (node : FlatNode). has node.outputs object) nodes ≡ false
not-driven [] object h = refl
not-driven (node ∷ nodes) object h = both (has node.outputs object) (list_any (λ (n : FlatNode). has n.outputs object) nodes) (h 0 node refl) (not-driven nodes object (λ k. h (suc k)))
  where
    both : (b c : Bool) → b ≡ false → c ≡ false → (b || c) ≡ false
    both true c e f = cc
    both false c e f = f

-- lists of one length that agree at each place are equal
pub values_equal : (one other : List LogicValue) → length one ≡ length other → ((x : ℕ) → value_at one x ≡ value_at other x) → one ≡ other
values_equal [] [] e h = refl
values_equal [] (y ∷ other) e h = absurd (omega (arith, e))
values_equal (x ∷ one) [] e h = absurd (omega (arith, e))
values_equal (x ∷ one) (y ∷ other) e h = λ i. h 0 i ∷ values_equal one other (omega (arith, e)) (λ k. h (suc k)) i

pub settled_values_are_one : SettledValuesAreOne
settled_values_are_one machine one other rules widths widths' alike settled settled' =
    values_equal one other
    (sym (length-mapped (λ (v : LogicValue). length v) one) ∙ ap length (widths ∙ sym widths') ∙ length-mapped (λ (v : LogicValue). length v) other)
    (settled_determined machine one other rules (rest_on_inputs machine rules) (fit-from machine one widths) (fit-from machine other widths') settled settled'
    (λ object none. alike object (not-driven machine.design.nodes object none)))
