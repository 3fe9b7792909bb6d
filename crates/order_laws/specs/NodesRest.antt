-- What a node gives rests on its inputs alone (IEEE 1364-2001, clause 6 for assignments, clause 7 for gates, clause 9 for blocks).
use Rattle.std.specs.Prelude.{◌≡◌, ℕ, true, List, length, Some, slice_get}
use Rattle.four_value.specs.Values.{LogicValue}
use Rattle.vf_base.specs.Lists.{has}
use Rattle.v_design.specs.Designs.{FlatNode, Machine}
use Rattle.v_design.specs.Assignments.{value_at, node_outputs, object_width}
use Rattle.v_design.specs.WellFormed.{KeepsRules}

-- each value has its object's width
abbrev pub HasWidths : Machine → List LogicValue → Type 0
HasWidths machine values = (object : ℕ) → length (value_at values object) ≡ object_width machine object

-- over values that agree in a node's inputs the node gives the same, good or under a fault
abbrev pub NodesRestOnInputs : Type 0
NodesRestOnInputs =
    (machine : Machine) (number : ℕ) (node : FlatNode) (one other : List LogicValue) → KeepsRules machine.design → slice_get machine.design.nodes number ≡ Some node →
    HasWidths machine one → HasWidths machine other → ((input : ℕ) → has node.inputs input ≡ true → value_at one input ≡ value_at other input) →
    node_outputs machine number node one ≡ node_outputs machine number node other
