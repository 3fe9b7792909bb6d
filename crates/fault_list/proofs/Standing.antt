-- Two faults are of one class exactly where one fault stands for both.
use Rattle.std.proofs.Common.{◌≡◌, ℕ, ◌≤◌, Bool, true, false, ◌&&◌, List, [], ◌∷◌, length, Option, Some, None, refl, ap, sym, ◌∙◌, subst, inl, inr}
use Rattle.std.specs.Prelude.{slice_get, nat_eq, nat_le}
use Rattle.std.proofs.lemmas.Bool.{and_parts, and_from, or_cases, or_left, or_right, eqb-true, eq-eqb, false≢true}
use Rattle.four_value.specs.declared.operator.GateKind.{GateKind}
use Rattle.four_value.specs.declared.operator.GateKind.TheVariants.{And, Nand, Or, Nor, Xor, Xnor, Buf, Not}
use Rattle.vf_base.specs.Lists.{has}
use Rattle.v_design.specs.Designs.{FlatNode, FlatNodeKind, AssignNode, GateNode, BlockNode, FlatDesign, StuckAt, FaultSite, VariableBit, OutputBit, GateTerminal}
use Rattle.v_design.specs.CombinationalForm.{WritesOutputs}
use Rattle.v_design.specs.WellFormed.{KeepsRules, IsNodeOf}
use Rattle.v_design.specs.Sites.{terminal_count, forces, kind_forces, node_forces, gate_forces, is_gate_pair, are_gate_pair, AreOneClass, same_fault, joined_by}
use Rattle.fault_list.specs.Classes.{output_of, output_of_kind, held_fault, held_at, standing_site, standing}
use Rattle.fault_list.proofs.Outputs.{AllHold-slice_get}
use Rattle.fault_list.proofs.OneClass.{one-output}

forces-output : (kind : GateKind) (input output : Bool) → forces kind input output ≡ true → output_of kind input ≡ Some output
forces-output And true true e = absurd (false≢true e)
forces-output And true false e = absurd (false≢true e)
forces-output And false true e = absurd (false≢true e)
forces-output And false false e = refl
forces-output Nand true true e = absurd (false≢true e)
forces-output Nand true false e = absurd (false≢true e)
forces-output Nand false true e = refl
forces-output Nand false false e = absurd (false≢true e)
forces-output Or true true e = refl
forces-output Or true false e = absurd (false≢true e)
forces-output Or false true e = absurd (false≢true e)
forces-output Or false false e = absurd (false≢true e)
forces-output Nor true true e = absurd (false≢true e)
forces-output Nor true false e = refl
forces-output Nor false true e = absurd (false≢true e)
forces-output Nor false false e = absurd (false≢true e)
forces-output Xor input output e = absurd (false≢true e)
forces-output Xnor input output e = absurd (false≢true e)
forces-output Buf true true e = refl
forces-output Buf true false e = absurd (false≢true e)
forces-output Buf false true e = absurd (false≢true e)
forces-output Buf false false e = refl
forces-output Not true true e = absurd (false≢true e)
forces-output Not true false e = refl
forces-output Not false true e = refl
forces-output Not false false e = absurd (false≢true e)

output-forces : (kind : GateKind) (input output : Bool) → output_of kind input ≡ Some output → forces kind input output ≡ true
output-forces And true output e = absurd (cc)
output-forces And false true e = absurd (cc)
output-forces And false false e = refl
output-forces Nand true output e = absurd (cc)
output-forces Nand false true e = refl
output-forces Nand false false e = absurd (cc)
output-forces Or true true e = refl
output-forces Or true false e = absurd (cc)
output-forces Or false output e = absurd (cc)
output-forces Nor true true e = absurd (cc)
output-forces Nor true false e = refl
output-forces Nor false output e = absurd (cc)
output-forces Xor input output e = absurd (cc)
output-forces Xnor input output e = absurd (cc)
output-forces Buf true true e = refl
output-forces Buf true false e = absurd (cc)
output-forces Buf false true e = absurd (cc)
output-forces Buf false false e = refl
output-forces Not true true e = absurd (cc)
output-forces Not true false e = refl
output-forces Not false true e = refl
output-forces Not false false e = absurd (cc)

kind-output : (kind : FlatNodeKind) (input output : Bool) → kind_forces kind input output ≡ true → output_of_kind kind input ≡ Some output
kind-output (AssignNode value places) input output e = absurd (false≢true e)
kind-output (GateNode kind terminals) input output e = forces-output kind input output e
kind-output (BlockNode statement) input output e = absurd (false≢true e)

output-kind : (kind : FlatNodeKind) (input output : Bool) → output_of_kind kind input ≡ Some output → kind_forces kind input output ≡ true
output-kind (AssignNode value places) input output e = absurd (cc)
output-kind (GateNode kind terminals) input output e = output-forces kind input output e
output-kind (BlockNode statement) input output e = absurd (cc)

-- a node that forces has one output at most
forces-single : (kind : FlatNodeKind) (outputs : List ℕ) (input output : Bool) → WritesOutputs kind outputs → kind_forces kind input output ≡ true → length outputs ≤ 1
forces-single (AssignNode value places) outputs input output writes e = absurd (false≢true e)
forces-single (GateNode kind terminals) outputs input output writes e = writes
forces-single (BlockNode statement) outputs input output writes e = absurd (false≢true e)

-- the output's fault stands for the terminal's
pair-stands : (node : FlatNode) (number terminal object bit : ℕ) (input output : Bool) → WritesOutputs node.kind node.outputs → gate_forces node terminal input object bit output ≡ true →
    held_at number terminal input (Some node) ≡ record { site = OutputBit number object bit; value = output }
pair-stands node number terminal object bit input output writes e =
    let p4 = and_parts (kind_forces node.kind input output && nat_le 1 terminal && nat_le terminal (terminal_count node.kind) && has node.outputs object) (nat_eq bit 0) e in
    let p3 = and_parts (kind_forces node.kind input output && nat_le 1 terminal && nat_le terminal (terminal_count node.kind)) (has node.outputs object) p4.0 in
    let p2 = and_parts (kind_forces node.kind input output && nat_le 1 terminal) (nat_le terminal (terminal_count node.kind)) p3.0 in
    let p1 = and_parts (kind_forces node.kind input output) (nat_le 1 terminal) p2.0 in
    let one : node.outputs ≡ object ∷ [] = one-output object node.outputs (forces-single node.kind node.outputs input output writes p1.0) p3.1 in
    let value : output_of_kind node.kind input ≡ Some output = kind-output node.kind input output p1.0 in
    let there : (nat_le 1 terminal && nat_le terminal (terminal_count node.kind)) ≡ true = and_from (nat_le 1 terminal) (nat_le terminal (terminal_count node.kind)) p1.1 p2.1 in
    let least : bit ≡ 0 = eqb-true bit 0 p4.1 in
    ap (λ l. held_fault number terminal input l (output_of_kind node.kind input) (nat_le 1 terminal && nat_le terminal (terminal_count node.kind))) one
    ∙ (ap (λ o. held_fault number terminal input (object ∷ []) o (nat_le 1 terminal && nat_le terminal (terminal_count node.kind))) value
    ∙ (ap (λ b. held_fault number terminal input (object ∷ []) (Some output) b) there
    ∙ ap (λ n. record { site = OutputBit number object n; value = output }) (sym least)))

module _ (design : FlatDesign) (rules : KeepsRules design) where
  writes-outputs : (k : ℕ) (node : FlatNode) → slice_get design.nodes k ≡ Some node → WritesOutputs node.kind node.outputs
  writes-outputs k node at = let kept : IsNodeOf design node = AllHold-slice_get (IsNodeOf design) design.nodes k node rules.nodes at in kept.outputs

  node-stands : (o : Option FlatNode) (number terminal object bit : ℕ) (input output : Bool) → slice_get design.nodes number ≡ o → node_forces o terminal input object bit output ≡ true →
      held_at number terminal input o ≡ record { site = OutputBit number object bit; value = output }
  node-stands None number terminal object bit input output at e = absurd (false≢true e)
  node-stands (Some node) number terminal object bit input output at e = pair-stands node number terminal object bit input output (writes-outputs number node at) e

  -- one fault stands for both of a pair
  pair-alike : (one : FaultSite) (input : Bool) (other : FaultSite) (output : Bool) → is_gate_pair design one input other output ≡ true →
      standing_site design one input ≡ standing_site design other output
  pair-alike (GateTerminal node terminal) input (OutputBit driver object bit) output e =
      let parts = and_parts (nat_eq node driver) (node_forces (slice_get design.nodes node) terminal input object bit output) e in
      node-stands (slice_get design.nodes node) node terminal object bit input output refl parts.1
      ∙ ap (λ n. record { site = OutputBit n object bit; value = output }) (eqb-true node driver parts.0)
  pair-alike (GateTerminal node terminal) input (VariableBit object bit) output e = absurd (false≢true e)
  pair-alike (GateTerminal node terminal) input (GateTerminal other number) output e = absurd (false≢true e)
  pair-alike (VariableBit object bit) input other output e = absurd (false≢true e)
  pair-alike (OutputBit node object bit) input other output e = absurd (false≢true e)

  -- one fault stands for all of a class
  pub class-stands : (one other : StuckAt) → AreOneClass design one other → standing design one ≡ standing design other
  class-stands one other (same_fault fault) = refl
  class-stands one other (joined_by first next last pair chain) =
      elim (or_cases (is_gate_pair design first.site first.value next.site next.value) (is_gate_pair design next.site next.value first.site first.value) pair) [
        | inl to ↦ pair-alike first.site first.value next.site next.value to ∙ class-stands next last chain
        | inr from ↦ sym (pair-alike next.site next.value first.site first.value from) ∙ class-stands next last chain
      ]

  class-trans : (one other last : StuckAt) → AreOneClass design one other → AreOneClass design other last → AreOneClass design one last
  class-trans one other last (same_fault fault) rest = rest
  class-trans one other last (joined_by first next end pair chain) rest = joined_by first next last pair (class-trans next end last chain rest)

  pair-sym : (one other : StuckAt) → are_gate_pair design one other ≡ true → are_gate_pair design other one ≡ true
  pair-sym one other e =
      elim (or_cases (is_gate_pair design one.site one.value other.site other.value) (is_gate_pair design other.site other.value one.site one.value) e) [
        | inl to ↦ or_right (is_gate_pair design other.site other.value one.site one.value) (is_gate_pair design one.site one.value other.site other.value) to
        | inr from ↦ or_left (is_gate_pair design other.site other.value one.site one.value) (is_gate_pair design one.site one.value other.site other.value) from
      ]

  class-sym : (one other : StuckAt) → AreOneClass design one other → AreOneClass design other one
  class-sym one other (same_fault fault) = same_fault fault
  class-sym one other (joined_by first next last pair chain) =
      class-trans last next first (class-sym next last chain) (joined_by next first first (pair-sym first next pair) (same_fault first))

  held-alike : (node : FlatNode) (number terminal : ℕ) (input : Bool) (outputs : List ℕ) (value : Option Bool) (there : Bool) → slice_get design.nodes number ≡ Some node →
      node.outputs ≡ outputs → output_of_kind node.kind input ≡ value → (nat_le 1 terminal && nat_le terminal (terminal_count node.kind)) ≡ there →
      AreOneClass design (record { site = GateTerminal number terminal; value = input }) (held_fault number terminal input outputs value there)
  held-alike node number terminal input [] value there at one two three = same_fault _
  held-alike node number terminal input (object ∷ objects) None there at one two three = same_fault _
  held-alike node number terminal input (object ∷ objects) (Some output) false at one two three = same_fault _
  held-alike node number terminal input (object ∷ objects) (Some output) true at one two three =
      let inside = and_parts (nat_le 1 terminal) (nat_le terminal (terminal_count node.kind)) three in
      let has_it : has node.outputs object ≡ true = subst (λ l. has l object ≡ true) (sym one) (or_left (nat_eq object object) (has objects object) (eq-eqb object object refl)) in
      let does : gate_forces node terminal input object 0 output ≡ true =
      and_from (kind_forces node.kind input output && nat_le 1 terminal && nat_le terminal (terminal_count node.kind) && has node.outputs object) (nat_eq 0 0)
      (and_from (kind_forces node.kind input output && nat_le 1 terminal && nat_le terminal (terminal_count node.kind)) (has node.outputs object)
      (and_from (kind_forces node.kind input output && nat_le 1 terminal) (nat_le terminal (terminal_count node.kind))
      (and_from (kind_forces node.kind input output) (nat_le 1 terminal) (output-kind node.kind input output two) inside.0) inside.1) has_it) refl in
      let forced : node_forces (slice_get design.nodes number) terminal input object 0 output ≡ true = subst (λ o. node_forces o terminal input object 0 output ≡ true) (sym at) does in
      let pair : (nat_eq number number && node_forces (slice_get design.nodes number) terminal input object 0 output) ≡ true =
      and_from (nat_eq number number) (node_forces (slice_get design.nodes number) terminal input object 0 output) (eq-eqb number number refl) forced in
      joined_by (record { site = GateTerminal number terminal; value = input }) (record { site = OutputBit number object 0; value = output })
      (record { site = OutputBit number object 0; value = output })
      (or_left (nat_eq number number && node_forces (slice_get design.nodes number) terminal input object 0 output) false pair) (same_fault _)

  at-alike : (o : Option FlatNode) (number terminal : ℕ) (input : Bool) → slice_get design.nodes number ≡ o →
      AreOneClass design (record { site = GateTerminal number terminal; value = input }) (held_at number terminal input o)
  at-alike None number terminal input at = same_fault _
  at-alike (Some node) number terminal input at = held-alike node number terminal input node.outputs (output_of_kind node.kind input)
      (nat_le 1 terminal && nat_le terminal (terminal_count node.kind)) at refl refl refl

  site-alike : (site : FaultSite) (value : Bool) → AreOneClass design (record { site = site; value = value }) (standing_site design site value)
  site-alike (VariableBit object bit) value = same_fault _
  site-alike (OutputBit node object bit) value = same_fault _
  site-alike (GateTerminal node terminal) value = at-alike (slice_get design.nodes node) node terminal value refl

  -- faults for which one fault stands are of one class
  pub stands-class : (one other : StuckAt) → standing design one ≡ standing design other → AreOneClass design one other
  stands-class one other same =
      class-trans one (standing design one) other (site-alike one.site one.value)
      (class-sym other (standing design one) (subst (λ s. AreOneClass design other s) (sym same) (site-alike other.site other.value)))
