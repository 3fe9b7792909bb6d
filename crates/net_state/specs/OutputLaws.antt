-- What a node gives its outputs: one value for each, of its width (IEEE 1364-2001, clause 6 for assignments, clause 7 for gates, clause 9 for blocks).
use Rattle.std.proofs.Common.{◌≡◌, ℕ, zero, suc, ◌+◌, ◌<◌, ◌≤◌, List, [], ◌∷◌, length, map, get_or, Bool, true, false, refl, ap, sym, ◌∙◌, arith}
use Rattle.std.specs.Prelude.{Option, Some, None, slice_get, nat_eq, ◌&&◌}
use Rattle.std.specs.List.{AllZip}
use Rattle.std.proofs.lemmas.List.{length-map, get_or-map, get_or_default}
use Rattle.four_value.specs.Bits.{bit_of}
use Rattle.four_value.specs.Values.{LogicValue, part_of}
use Rattle.four_value.specs.ValueLaws.{length-part_of, length-with_part}
use Rattle.four_value.specs.declared.logic.Bit.{Bit}
use Rattle.vf_base.specs.declared.ids.ObjectId.{ObjectId}
use Rattle.vf_base.specs.Base.{object_number}
use Rattle.vf_base.specs.Lists.{zip_with, AllHold, has}
use Rattle.v_design.specs.Expressions.{value_of, width_of}
use Rattle.v_design.specs.Designs.{FlatNode, FlatDesign, FlatNodeKind, AssignNode, GateNode, BlockNode, Machine, StuckAt, FaultSite, VariableBit, OutputBit, GateTerminal, width_in, forced_if}
use Rattle.v_design.specs.Designs.{forced_output, forced_variable, forced_at_output, forced_at_variable}
use Rattle.v_design.specs.Paths.{net_pieces}
use Rattle.v_design.specs.Assignments.{value_at, run_statement, node_value, node_outputs, object_width}
use Rattle.v_design.specs.WellFormed.{KeepsRules, IsNodeOf, IsSizedNode}
use Rattle.v_design.specs.CombinationalForm.{WritesOutputs}
use Rattle.node_eval.specs.ValuesOf.{AreValuesOf}
use Rattle.node_eval.specs.Running.{alike-run}
use Rattle.net_graph.specs.RuleLaws.{rules_of_node, numbers_of-bound}
use Rattle.net_state.specs.Held.{AreNets, HaveWidths}
use Rattle.net_state.specs.OrderLaws.{held-at, AllHold-more}

-- Forcing keeps widths

length-forced_if : (b : Bool) (bit : ℕ) (stuck : Bool) (value : LogicValue) → length (forced_if b bit stuck value) ≡ length value
length-forced_if true bit stuck value = length-with_part value bit (bit_of stuck ∷ [])
length-forced_if false bit stuck value = refl

length-at_output : (site : FaultSite) (stuck : Bool) (node object : ℕ) (value : LogicValue) → length (forced_at_output site stuck node object value) ≡ length value
length-at_output (VariableBit o bit) stuck node object value = refl
length-at_output (OutputBit n o bit) stuck node object value = length-forced_if (nat_eq n node && nat_eq o object) bit stuck value
length-at_output (GateTerminal n t) stuck node object value = refl

length-forced_output : (fault : Option StuckAt) (node object : ℕ) (value : LogicValue) → length (forced_output fault node object value) ≡ length value
length-forced_output None node object value = refl
length-forced_output (Some fault) node object value = length-at_output fault.site fault.value node object value

length-at_variable : (site : FaultSite) (stuck : Bool) (object : ℕ) (value : LogicValue) → length (forced_at_variable site stuck object value) ≡ length value
length-at_variable (VariableBit o bit) stuck object value = length-forced_if (nat_eq o object) bit stuck value
length-at_variable (OutputBit n o bit) stuck object value = refl
length-at_variable (GateTerminal n t) stuck object value = refl

pub length-forced_variable : (fault : Option StuckAt) (object : ℕ) (value : LogicValue) → length (forced_variable fault object value) ≡ length value
length-forced_variable None object value = refl
length-forced_variable (Some fault) object value = length-at_variable fault.site fault.value object value

-- Values of outputs

forced-all : (design : FlatDesign) (f : ℕ → LogicValue → LogicValue) (outputs : List ℕ) (values : List LogicValue) → ((object : ℕ) (value : LogicValue) → length (f object value) ≡ length value) →
    HaveWidths design outputs values → HaveWidths design outputs (zip_with f outputs values)
forced-all design f [] [] same have = have
forced-all design f [] (v ∷ values) same have = absurd (omega (arith, have.count))
forced-all design f (o ∷ outputs) [] same have = absurd (omega (arith, have.count))
forced-all design f (o ∷ outputs) (v ∷ values) same have =
    let rest : HaveWidths design outputs (zip_with f outputs values) =
    forced-all design f outputs values same (record { count = omega (arith, have.count); widths = λ k low. have.widths (suc k) (omega (arith, low)) }) in
    record { count = omega (arith, rest.count); widths = each rest }
  where
    each : HaveWidths design outputs (zip_with f outputs values) → (k : ℕ) → k < length (o ∷ outputs) →
        length (get_or (zip_with f (o ∷ outputs) (v ∷ values)) k []) ≡ width_in design (get_or (o ∷ outputs) k 0)
    each rest zero low = same o v ∙ have.widths 0 (omega arith)
    each rest (suc k) low = rest.widths k (omega (arith, low))

parts-wide : (machine : Machine) (R : ℕ → ℕ → Type 0) (value : LogicValue) (outputs places : List ℕ) → AllZip R outputs places →
    HaveWidths machine.design outputs (zip_with (λ object place. part_of value place (object_width machine object)) outputs places)
parts-wide machine R value [] [] h = record { count = refl; widths = λ k low. absurd (omega (arith, low)) }
parts-wide machine R value [] (p ∷ places) h = absurd h
parts-wide machine R value (o ∷ outputs) [] h = absurd h
parts-wide machine R value (o ∷ outputs) (p ∷ places) h =
    let rest : HaveWidths machine.design outputs (zip_with (λ object place. part_of value place (object_width machine object)) outputs places) = parts-wide machine R value outputs places h.1 in
    record { count = omega (arith, rest.count); widths = each rest }
  where
    each : HaveWidths machine.design outputs (zip_with (λ object place. part_of value place (object_width machine object)) outputs places) → (k : ℕ) → k < length (o ∷ outputs) →
        length (get_or (zip_with (λ object place. part_of value place (object_width machine object)) (o ∷ outputs) (p ∷ places)) k []) ≡ width_in machine.design (get_or (o ∷ outputs) k 0)
    each rest zero low = length-part_of value p (object_width machine o)
    each rest (suc k) low = rest.widths k (omega (arith, low))

-- the values that a block leaves
left-wide : (design : FlatDesign) (values left : List LogicValue) (outputs : List ℕ) → AreValuesOf design values → ((object : ℕ) → length (value_at left object) ≡ length (value_at values object)) →
    AllHold (λ o. o < length values) outputs → HaveWidths design outputs (map (value_at left) outputs)
left-wide design values left [] are alike there = record { count = refl; widths = λ k low. absurd (omega (arith, low)) }
left-wide design values left (o ∷ outputs) are alike there =
    let rest : HaveWidths design outputs (map (value_at left) outputs) = left-wide design values left outputs are alike there.1 in
    record { count = omega (arith, rest.count); widths = each rest }
  where
    each : HaveWidths design outputs (map (value_at left) outputs) → (k : ℕ) → k < length (o ∷ outputs) →
        length (get_or (map (value_at left) (o ∷ outputs)) k []) ≡ width_in design (get_or (o ∷ outputs) k 0)
    each rest zero low = alike o ∙ are.widths o there.0
    each rest (suc k) low = rest.widths k (omega (arith, low))

-- a gate has one output at most, of one bit
gate-wide : (machine : Machine) (number : ℕ) (outputs : List ℕ) (bit : Bit) → length outputs ≤ 1 → AllHold (λ object. width_in machine.design object ≡ 1) outputs →
    HaveWidths machine.design outputs (zip_with (forced_output machine.fault number) outputs ((bit ∷ []) ∷ []))
gate-wide machine number [] bit few ones = record { count = refl; widths = λ k low. absurd (omega (arith, low)) }
gate-wide machine number (o ∷ []) bit few ones = record { count = refl; widths = each }
  where
    each : (k : ℕ) → k < 1 → length (get_or (forced_output machine.fault number o (bit ∷ []) ∷ []) k []) ≡ width_in machine.design (get_or (o ∷ []) k 0)
    each zero low = length-forced_output machine.fault number o (bit ∷ []) ∙ sym ones.0
    each (suc k) low = absurd (omega (arith, low))
gate-wide machine number (o ∷ p ∷ outputs) bit few ones = absurd (omega (arith, few))

by-kind : (machine : Machine) (number : ℕ) (kind : FlatNodeKind) (outputs : List ℕ) (values : List LogicValue) → IsSizedNode machine.design kind outputs → WritesOutputs kind outputs →
    AllHold (λ o. o < length values) outputs → AreValuesOf machine.design values →
    HaveWidths machine.design outputs (zip_with (forced_output machine.fault number) outputs (node_value machine number kind outputs values))
by-kind machine number (AssignNode value places) outputs values sized writes there are =
    forced-all machine.design (forced_output machine.fault number) outputs _ (length-forced_output machine.fault number)
    (parts-wide machine (λ object place. place + width_in machine.design object ≤ width_of value) (value_of (value_at values) value) outputs places sized.1)
by-kind machine number (GateNode kind terminals) outputs values sized writes there are = gate-wide machine number outputs _ writes sized.2
by-kind machine number (BlockNode statement) outputs values sized writes there are =
    forced-all machine.design (forced_output machine.fault number) outputs _ (length-forced_output machine.fault number)
    (left-wide machine.design values (run_statement statement values) outputs are (alike-run statement values).widths there)

-- net pieces are objects
pub nets-there : (design : FlatDesign) (outputs : List ℕ) (count : ℕ) → AreNets design outputs → count ≡ length design.objects → AllHold (λ o. o < count) outputs
nets-there design outputs count nets enough =
    AllHold-more (λ o. has (net_pieces design) o ≡ true) (λ o. o < count) outputs
    (λ o e. let low : o < 0 + length design.objects = numbers_of-bound _ 0 design.objects o e in omega (arith, low, enough)) nets

-- what a node gives its outputs has their widths
pub outputs-wide : (machine : Machine) (number : ℕ) (node : FlatNode) (values : List LogicValue) → KeepsRules machine.design → slice_get machine.design.nodes number ≡ Some node →
    AreValuesOf machine.design values →
    HaveWidths machine.design node.outputs (node_outputs machine number node values)
outputs-wide machine number node values rules at are =
    let own : IsNodeOf machine.design node = rules_of_node machine.design number node rules at in
    by-kind machine number node.kind node.outputs values own.sized own.outputs (nets-there machine.design node.outputs (length values) own.outputs_nets are.count) are

-- one of them, in code
pub output-there : (design : FlatDesign) (outputs : List ObjectId) (count i : ℕ) (d : ObjectId) → AreNets design (map object_number outputs) → count ≡ length design.objects → i < length outputs →
    object_number (get_or outputs i d) < count
output-there design outputs count i d nets enough low =
    let here : get_or (map object_number outputs) i 0 < count =
    held-at (λ o. o < count) (map object_number outputs) i 0 (nets-there design (map object_number outputs) count nets enough) (omega (arith, low, length-map outputs object_number)) in
    omega (arith, here, get_or-map object_number outputs i d 0 low)

pub output-width : (design : FlatDesign) (outputs : List ObjectId) (values : List LogicValue) (i : ℕ) (d : ObjectId) (value : LogicValue) → HaveWidths design (map object_number outputs) values →
    i < length outputs →
    value ≡ get_or values i value → length value ≡ width_in design (object_number (get_or outputs i d))
output-width design outputs values i d value have low is =
    let inside : i < length (map object_number outputs) = omega (arith, low, length-map outputs object_number) in
    ap length (is ∙ get_or_default values i value [] (omega (arith, inside, have.count))) ∙ have.widths i inside ∙ ap (width_in design) (get_or-map object_number outputs i d 0 low)
