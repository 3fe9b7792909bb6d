-- The values of the assignments and gates of a walk keep their bounds and counts in 32 bits (IEEE 1364-2001, clauses 6 and 7, and clause 12.3 for connections).
use Rattle.std.proofs.Common.{◌≡◌, ℕ, ◌+◌, max, Bool, true, false, List, [], ◌∷◌, ◌++◌, Option, Some, None, Ok, refl}
use Rattle.std.specs.Prelude.{slice_get, filter, flat_map}
use Rattle.four_value.specs.declared.operator.GateKind.{GateKind}
use Rattle.vf_base.specs.Lists.{AllHold, map_numbered, joined}
use Rattle.v_tree.specs.declared.item.Direction.{Direction}
use Rattle.v_tree.specs.declared.item.Direction.TheVariants.{Input, Output}
use Rattle.v_tree.specs.Trees.{Identifier, SourceExpression, SourceTarget, SourceWire, SourceAssignment, SourceGate, SourceConnection, SourceInstance, SourceItem, ParameterItem, PortItem, WireItem}
use Rattle.v_tree.specs.Trees.{RegItem, IntegerItem, AssignItem, GateItem, InstanceItem, InitialItem, AlwaysItem, SourceModule, NoIndex, place_of_expression}
use Rattle.v_names.specs.Faults.{Fault, same_place}
use Rattle.v_names.specs.Scopes.{ScopeEntry, ParameterEntry, RefusedParameter, WaitingParameter, NetEntry, RegEntry, MemoryEntry, GateEntry, InstanceEntry, Scope, looked_up}
use Rattle.v_names.specs.Readings.{size_or_bit, tree_in, reading_of}
use Rattle.v_names.specs.Constants.{ParameterValue, constant_faults, optional_faults, name_faults, bound_faults, most_bound}
use Rattle.v_names.specs.Names.{Declaration, names_declared, of_name, item_declarations, GivenParameter, fixed_target_faults, gate_name_faults, actual_faults}
use Rattle.v_width.specs.Targets.{ByNode, target_width_in, target_of}
use Rattle.v_elab.specs.declared.Mode.{Mode}
use Rattle.v_elab.specs.ItemFaults.{wire_select}
use Rattle.v_elab.specs.Parts.{Signal, WalkedProcess, Part, SignalPart, MemoryPart, AssignPart, GatePart, ProcessPart, InstancePart}
use Rattle.v_elab.specs.Connections.{Child, Paths, joined_name, port_direction, actual_parts, output_parts, connection_parts, connections_parts, connected_name, head_names}
use Rattle.v_elab.specs.Walk.{Here, part_by_entry, parts_of_own, declared_parts, assign_part, wire_parts, terminals_of, gate_parts, item_parts, child_of, paths_of, walked_from}
use Rattle.v_elab.specs.Drivers.{signals_of, NodeFunction, AssignFunction, GateFunction, BlockFunction, WalkedNode, Behaviour, IsNode, IsProcess, block_or_process, process_behaviour, part_behaviour}
use Rattle.v_elab.specs.Drivers.{behaviours_of, nodes_of}
use Rattle.graph_order.specs.ListLaws.{AllHold-slice_get}
use Rattle.flat_laws.specs.Made.{nodes_in}
use Rattle.flat_laws.specs.Numbered.{AllHold-append, AllHold-flat_map, AllHold-map, AllHold-all}
use Rattle.flat_laws.specs.Sizes.Complete.{append-none}
use Rattle.flat_laws.specs.Hierarchy.Levelled.{IsModule, enters-module}
use Rattle.flat_laws.specs.Hierarchy.Processes.{items-named}
use Rattle.flat_laws.specs.Hierarchy.Walks.{IsOf, IsHere, IsInstance, flat-none, walk-holds}
use Rattle.object_expr.specs.Narrow.{IsNarrowTree, AreNarrowTrees}
use Rattle.sized_walks.specs.NarrowLaws.{expression-narrow, select-narrow}

abbrev pub IsNarrowPart : Part → Type 0
IsNarrowPart (AssignPart drives value) = IsNarrowTree value.value
IsNarrowPart (GatePart name kind drives path terminals) = AreNarrowTrees terminals
IsNarrowPart _ = Unit {0}

-- Items

-- a value in a context
value-narrow : (scope : Scope) (e : SourceExpression) (width : ℕ) → name_faults scope e ≡ [] → IsNarrowTree (tree_in width (reading_of scope e))
value-narrow scope e width none = let size = size_or_bit (reading_of scope e).size in expression-narrow scope e none (max width size.width) size.signed

terminals-narrow : (scope : Scope) (inputs : List SourceExpression) → flat_map (name_faults scope) inputs ≡ [] → AreNarrowTrees (terminals_of scope inputs)
terminals-narrow scope [] none = tt
terminals-narrow scope (e ∷ rest) none =
    let split = append-none (name_faults scope e) (flat_map (name_faults scope) rest) none in
    (value-narrow scope e 1 split.0, terminals-narrow scope rest split.1)

entry-narrow : (here : Here) (d : Declaration) (entry : Option ScopeEntry) → AllHold IsNarrowPart (part_by_entry here d entry)
entry-narrow here d None = tt
entry-narrow here d (Some (NetEntry range signed)) = (tt, tt)
entry-narrow here d (Some (RegEntry range signed)) = (tt, tt)
entry-narrow here d (Some (MemoryEntry range first last signed)) = (tt, tt)
entry-narrow here d (Some (ParameterEntry value signed)) = tt
entry-narrow here d (Some RefusedParameter) = tt
entry-narrow here d (Some WaitingParameter) = tt
entry-narrow here d (Some GateEntry) = tt
entry-narrow here d (Some InstanceEntry) = tt

declared-narrow : (here : Here) (item : SourceItem) → AllHold IsNarrowPart (declared_parts here item)
declared-narrow here item =
    AllHold-flat_map IsNarrowPart (parts_of_own here (names_declared here.instance.inner)) (item_declarations item)
    (AllHold-all (λ d. AllHold IsNarrowPart (parts_of_own here (names_declared here.instance.inner) d)) (item_declarations item)
    (λ d.
    AllHold-flat_map IsNarrowPart (λ (own : Declaration). part_by_entry here own (looked_up here.scope own.name))
    (filter (λ (own : Declaration). same_place own.place d.place) (of_name d.name (names_declared here.instance.inner)))
    (AllHold-all (λ (own : Declaration). AllHold IsNarrowPart (part_by_entry here own (looked_up here.scope own.name)))
    (filter (λ (own : Declaration). same_place own.place d.place) (of_name d.name (names_declared here.instance.inner)))
    (λ own. entry-narrow here own (looked_up here.scope own.name)))))

wire-narrow : (here : Here) (wire : SourceWire) (value : Option SourceExpression) → optional_faults (name_faults here.scope) value ≡ [] →
    AllHold IsNarrowPart (wire_parts here (record wire { value = value }))
wire-narrow here wire None none = tt
wire-narrow here wire (Some value) none = (value-narrow here.scope value (target_width_in ByNode here.scope (wire_select (record wire { value = Some value }))) none, tt)

wires-narrow : (here : Here) (wires : List SourceWire) → flat_map (λ (w : SourceWire). optional_faults (name_faults here.scope) w.value) wires ≡ [] →
    AllHold IsNarrowPart (flat_map (wire_parts here) wires)
wires-narrow here [] none = tt
wires-narrow here (wire ∷ rest) none =
    let split = append-none (optional_faults (name_faults here.scope) wire.value) (flat_map (λ (w : SourceWire). optional_faults (name_faults here.scope) w.value) rest) none in
    AllHold-append IsNarrowPart (wire_parts here wire) (flat_map (wire_parts here) rest) (wire-narrow here wire wire.value split.0) (wires-narrow here rest split.1)

assignments-narrow : (here : Here) (assignments : List SourceAssignment) →
    flat_map (λ (a : SourceAssignment). fixed_target_faults here.scope a.target ++ name_faults here.scope a.value) assignments ≡ [] →
    AllHold (λ (a : SourceAssignment). IsNarrowPart (assign_part here a.target a.value)) assignments
assignments-narrow here [] none = tt
assignments-narrow here (a ∷ rest) none =
    let split = append-none (fixed_target_faults here.scope a.target ++ name_faults here.scope a.value)
    (flat_map (λ (b : SourceAssignment). fixed_target_faults here.scope b.target ++ name_faults here.scope b.value) rest) none in
    let own = append-none (fixed_target_faults here.scope a.target) (name_faults here.scope a.value) split.0 in
    (value-narrow here.scope a.value (target_width_in ByNode here.scope a.target) own.1, assignments-narrow here rest split.1)

gates-narrow : (here : Here) (kind : GateKind) (number : ℕ) (gates : List SourceGate) → flat_map (gate_name_faults here.scope) gates ≡ [] → AllHold IsNarrowPart (gate_parts here kind number gates)
gates-narrow here kind number [] none = tt
gates-narrow here kind number (gate ∷ rest) none =
    let split = append-none (gate_name_faults here.scope gate) (flat_map (gate_name_faults here.scope) rest) none in
    let own = append-none (fixed_target_faults here.scope gate.output) (flat_map (name_faults here.scope) gate.inputs) split.0 in
    (terminals-narrow here.scope gate.inputs own.1, gates-narrow here kind (number + 1) rest split.1)

-- Connections

port-narrow : (child : Child) (paths : Paths) (port : Identifier) (e : SourceExpression) (target : Option SourceTarget) → AllHold IsNarrowPart (output_parts child paths port e target)
port-narrow child paths port e None = tt
port-narrow child paths port e (Some target) = (select-narrow child.inner_scope (place_of_expression e) port NoIndex refl _ _, tt)

actual-narrow : (child : Child) (paths : Paths) (port : Identifier) (e : SourceExpression) (joined : Option Identifier) (direction : Option Direction) → name_faults child.outer_scope e ≡ [] →
    AllHold IsNarrowPart (actual_parts child paths port e joined direction)
actual-narrow child paths port e (Some joined) direction none = tt
actual-narrow child paths port e None (Some Input) none = (value-narrow child.outer_scope e _ none, tt)
actual-narrow child paths port e None (Some Output) none = port-narrow child paths port e (target_of e)
actual-narrow child paths port e None None none = tt

connection-narrow : (child : Child) (paths : Paths) (port : Option Identifier) (actual : Option SourceExpression) → optional_faults (name_faults child.outer_scope) actual ≡ [] →
    AllHold IsNarrowPart (connection_parts child paths port actual)
connection-narrow child paths None actual none = tt
connection-narrow child paths (Some port) None none = tt
connection-narrow child paths (Some port) (Some e) none = actual-narrow child paths port e (joined_name child port e) (port_direction child.inner port) none

connections-narrow : (child : Child) (paths : Paths) (position : ℕ) (connections : List SourceConnection) → flat_map (actual_faults child.outer_scope) connections ≡ [] →
    AllHold IsNarrowPart (connections_parts child paths position connections)
connections-narrow child paths position [] none = tt
connections-narrow child paths position (connection ∷ rest) none =
    let split = append-none (actual_faults child.outer_scope connection) (flat_map (actual_faults child.outer_scope) rest) none in
    AllHold-append IsNarrowPart (connection_parts child paths (connected_name (head_names child.inner.heads) position connection.name) connection.actual)
    (connections_parts child paths (position + 1) rest)
    (connection-narrow child paths (connected_name (head_names child.inner.heads) position connection.name) connection.actual split.0) (connections-narrow child paths (position + 1) rest split.1)

-- The walk

item-narrow : (modules : List SourceModule) (mode : Mode) (here : Here) → IsHere (IsModule modules) modules mode here → (gates : ℕ) (item : SourceItem) → IsOf here.instance.inner item →
    AllHold IsNarrowPart (item_parts here gates item)
item-narrow modules mode here is gates (ParameterItem group) of = tt
item-narrow modules mode here is gates (PortItem group) of = declared-narrow here (PortItem group)
item-narrow modules mode here is gates (WireItem place signed range wires) of =
    let names = items-named here.instance.inner here.instance.given here.scope is.scope (WireItem place signed range wires) of in
    let own = append-none (optional_faults (bound_faults here.scope most_bound) range) (flat_map (λ (w : SourceWire). optional_faults (name_faults here.scope) w.value) wires) names in
    AllHold-append IsNarrowPart (declared_parts here (WireItem place signed range wires)) (flat_map (wire_parts here) wires) (declared-narrow here (WireItem place signed range wires))
    (wires-narrow here wires own.1)
item-narrow modules mode here is gates (RegItem place signed range regs) of = declared-narrow here (RegItem place signed range regs)
item-narrow modules mode here is gates (IntegerItem place regs) of = declared-narrow here (IntegerItem place regs)
item-narrow modules mode here is gates (AssignItem place assignments) of =
    AllHold-map IsNarrowPart (λ (a : SourceAssignment). assign_part here a.target a.value) assignments
    (assignments-narrow here assignments (items-named here.instance.inner here.instance.given here.scope is.scope (AssignItem place assignments) of))
item-narrow modules mode here is gates (GateItem place kind all) of =
    gates-narrow here kind (gates + 1) all (items-named here.instance.inner here.instance.given here.scope is.scope (GateItem place kind all) of)
item-narrow modules mode here is gates (InstanceItem place module_name parameters instances) of = tt
item-narrow modules mode here is gates (InitialItem place body) of = (tt, tt)
item-narrow modules mode here is gates (AlwaysItem place body) of = (tt, tt)

instance-narrow : (modules : List SourceModule) (mode : Mode) (here : Here) → IsHere (IsModule modules) modules mode here → (inner : SourceModule) (given : List GivenParameter) (i : SourceInstance) →
    IsInstance here inner given i → AllHold IsNarrowPart (connections_parts (child_of here inner given) (paths_of here i) 0 i.connections)
instance-narrow modules mode here is inner given i of =
    let names = items-named here.instance.inner here.instance.given here.scope is.scope (InstanceItem of.place of.module_name of.parameters of.instances) of.is in
    let each = append-none (flat_map (λ (c : SourceConnection). optional_faults (constant_faults here.scope ParameterValue) c.actual) of.parameters)
    (flat_map (λ (one : SourceInstance). flat_map (actual_faults here.scope) one.connections) of.instances) names in
    let own = flat-none (λ (one : SourceInstance). flat_map (actual_faults here.scope) one.connections) of.instances each.1 of.number i of.at in
    connections-narrow (child_of here inner given) (paths_of here i) 0 i.connections own

parts-narrow : (modules : List SourceModule) (mode : Mode) (top : SourceModule) (k : ℕ) → slice_get modules k ≡ Some top → (parts : List Part) → walked_from modules mode top ≡ Ok parts →
    AllHold IsNarrowPart parts
parts-narrow modules mode top k at parts e =
    walk-holds IsNarrowPart (IsModule modules) modules mode
    (record {
      of_item = λ here is gates item of none. item-narrow modules mode here is gates item of;
      of_connections = instance-narrow modules mode;
      of_instance = tt;
      enters = enters-module modules mode;
    }) top (k, at) parts e

-- Nodes

abbrev pub IsNarrowFunction : NodeFunction → Type 0
IsNarrowFunction (AssignFunction value) = IsNarrowTree value.value
IsNarrowFunction (GateFunction kind path terminals) = AreNarrowTrees terminals
IsNarrowFunction (BlockFunction process) = Unit {0}

abbrev IsNarrowBehaviour : Behaviour → Type 0
IsNarrowBehaviour (IsNode node) = IsNarrowFunction node.function
IsNarrowBehaviour (IsProcess process) = Unit {0}

block-narrow : (signals : List Signal) (process : WalkedProcess) (test : Bool) (targets : List Identifier) → IsNarrowBehaviour (block_or_process signals process test targets)
block-narrow signals process true targets = tt
block-narrow signals process false targets = tt

process-narrow : (parts : List Part) (number : ℕ) (process : WalkedProcess) (targets : Option (List Identifier)) → IsNarrowBehaviour (process_behaviour parts number process targets)
process-narrow parts number process None = tt
process-narrow parts number process (Some targets) = block-narrow (signals_of parts) process _ targets

part-narrow : (parts : List Part) (number : ℕ) (part : Part) → IsNarrowPart part → AllHold IsNarrowBehaviour (part_behaviour parts number part)
part-narrow parts number (AssignPart drives value) narrow = (narrow, tt)
part-narrow parts number (GatePart name kind drives path terminals) narrow = (narrow, tt)
part-narrow parts number (ProcessPart process) narrow = (process-narrow parts number process process.targets, tt)
part-narrow parts number (SignalPart signal) narrow = tt
part-narrow parts number (MemoryPart memory) narrow = tt
part-narrow parts number InstancePart narrow = tt

behaviours-narrow : (parts : List Part) (number : ℕ) (some : List Part) → AllHold IsNarrowPart some → AllHold IsNarrowBehaviour (joined (map_numbered (part_behaviour parts) number some))
behaviours-narrow parts number [] narrow = tt
behaviours-narrow parts number (part ∷ rest) narrow =
    AllHold-append IsNarrowBehaviour (part_behaviour parts number part) (joined (map_numbered (part_behaviour parts) (number + 1) rest)) (part-narrow parts number part narrow.0)
    (behaviours-narrow parts (number + 1) rest narrow.1)

nodes-narrow : (behaviours : List Behaviour) → AllHold IsNarrowBehaviour behaviours → AllHold (λ (node : WalkedNode). IsNarrowFunction node.function) (nodes_of behaviours)
nodes-narrow [] narrow = tt
nodes-narrow (IsNode node ∷ rest) narrow = (narrow.0, nodes-narrow rest narrow.1)
nodes-narrow (IsProcess process ∷ rest) narrow = nodes-narrow rest narrow.1

-- what the nodes of a walk compute
pub walk-narrow : (modules : List SourceModule) (mode : Mode) (top : SourceModule) (k : ℕ) → slice_get modules k ≡ Some top → (parts : List Part) → walked_from modules mode top ≡ Ok parts →
    (i : ℕ) (node : WalkedNode) → slice_get (nodes_in parts) i ≡ Some node → IsNarrowFunction node.function
walk-narrow modules mode top k at parts e i node there =
    AllHold-slice_get (λ (n : WalkedNode). IsNarrowFunction n.function) (nodes_in parts) i node
    (nodes-narrow (behaviours_of parts) (behaviours-narrow parts 0 parts (parts-narrow modules mode top k at parts e))) there
