-- How many levels stand below the outermost expressions and statements of the items of a unit.
use Rattle.std.specs.Prelude.{ℕ, max, List, [], ◌∷◌, Option, Some, None}
use Rattle.v_tree.specs.Trees.{SourceParameter, SourceParameters, SourcePorts, SourceWire, SourceContent, NoContent, FirstContent, MemoryBounds, SourceReg, SourceAssignment, SourceGate}
use Rattle.v_tree.specs.Trees.{SourceConnection, SourceInstance, SourceItem, ParameterItem, PortItem, WireItem, RegItem, IntegerItem, AssignItem, GateItem, InstanceItem, InitialItem, AlwaysItem}
use Rattle.v_tree.specs.Trees.{SourceHeads, PlainHeads, DeclaredHeads, SourceModule, SourceUnit}
use Rattle.v_expr.specs.Heights.{height_of, target_height, range_height}
use Rattle.v_stmt.specs.Heights.{statement_height}

-- the greatest height of some parts
abbrev pub greatest : {A : Type 0} → (A → ℕ) → List A → ℕ
greatest height [] = 0
greatest height (x ∷ xs) = max (height x) (greatest height xs)

-- of a part that may be there
abbrev pub height_if_there : {A : Type 0} → (A → ℕ) → Option A → ℕ
height_if_there height None = 0
height_if_there height (Some x) = height x

abbrev pub parameters_height : SourceParameters → ℕ
parameters_height group = max (height_if_there range_height group.range) (greatest (λ (parameter : SourceParameter). height_of parameter.value) group.parameters)

abbrev pub ports_height : SourcePorts → ℕ
ports_height group = height_if_there range_height group.range

abbrev pub wire_height : SourceWire → ℕ
wire_height wire = height_if_there height_of wire.value

abbrev pub content_height : SourceContent → ℕ
content_height NoContent = 0
content_height (FirstContent value) = height_of value
content_height (MemoryBounds bounds) = range_height bounds

abbrev pub reg_height : SourceReg → ℕ
reg_height reg = content_height reg.content

abbrev pub assignment_height : SourceAssignment → ℕ
assignment_height assignment = max (target_height assignment.target) (height_of assignment.value)

abbrev pub gate_height : SourceGate → ℕ
gate_height gate = max (target_height gate.output) (greatest height_of gate.inputs)

abbrev pub connection_height : SourceConnection → ℕ
connection_height connection = height_if_there height_of connection.actual

abbrev pub instance_height : SourceInstance → ℕ
instance_height inst = greatest connection_height inst.connections

abbrev pub item_height : SourceItem → ℕ
item_height (ParameterItem group) = parameters_height group
item_height (PortItem group) = ports_height group
item_height (WireItem place signed range wires) = max (height_if_there range_height range) (greatest wire_height wires)
item_height (RegItem place signed range regs) = max (height_if_there range_height range) (greatest reg_height regs)
item_height (IntegerItem place regs) = greatest reg_height regs
item_height (AssignItem place assignments) = greatest assignment_height assignments
item_height (GateItem place kind gates) = greatest gate_height gates
item_height (InstanceItem place module_name parameters instances) = max (greatest connection_height parameters) (greatest instance_height instances)
item_height (InitialItem place body) = statement_height body
item_height (AlwaysItem place body) = statement_height body

abbrev pub heads_height : SourceHeads → ℕ
heads_height (PlainHeads names) = 0
heads_height (DeclaredHeads groups) = greatest ports_height groups

abbrev pub module_height : SourceModule → ℕ
module_height declared = max (greatest parameters_height declared.parameters) (max (heads_height declared.heads) (greatest item_height declared.items))

abbrev pub unit_height : SourceUnit → ℕ
unit_height u = greatest module_height u.modules
