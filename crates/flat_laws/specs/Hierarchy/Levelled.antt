-- The nodes and processes of a flat design have no more levels than a text may have (own).
use Rattle.std.proofs.Common.{◌≡◌, ℕ, suc, ◌+◌, ◌≤◌, max, Bool, true, false, List, [], ◌∷◌, Option, Some, None, Ok, refl, sym, ap, ◌∙◌, subst, arith}
use Rattle.std.specs.Prelude.{slice_get, filter, flat_map}
use Rattle.four_value.specs.declared.operator.GateKind.{GateKind}
use Rattle.vf_base.specs.Lists.{AllHold, map_numbered, joined}
use Rattle.v_design.specs.Sized.{levels_of, levels_of_parts, levels_of_statement}
use Rattle.v_design.specs.Designs.{FlatNode, FlatProcess, FlatDesign}
use Rattle.v_design.specs.WellFormed.{most_levels, levels_of_node}
use Rattle.v_tree.specs.declared.item.Direction.{Direction}
use Rattle.v_tree.specs.declared.item.Direction.TheVariants.{Input, Output}
use Rattle.v_tree.specs.Trees.{Identifier, SourceExpression, Selected, NoIndex, SourceTarget, SourceStatement, NullStatement, BlockStatement, IfStatement, IfElseStatement, CaseStatement}
use Rattle.v_tree.specs.Trees.{ForStatement, WhileStatement, RepeatStatement, ForeverStatement, WaitStatement, EventStatement, DelayStatement, BlockingStatement, NonblockingStatement, IgnoredTask}
use Rattle.v_tree.specs.Trees.{FinishTask, SourceWire, SourceAssignment, SourceGate, SourceConnection, SourceInstance, SourceItem, ParameterItem, PortItem, WireItem, RegItem, IntegerItem}
use Rattle.v_tree.specs.Trees.{AssignItem, GateItem, InstanceItem, InitialItem, AlwaysItem, SourceModule, same_name, place_of_expression}
use Rattle.v_names.specs.Scopes.{ScopeEntry, ParameterEntry, RefusedParameter, WaitingParameter, NetEntry, RegEntry, MemoryEntry, GateEntry, InstanceEntry, Scope, looked_up}
use Rattle.v_names.specs.SizedTrees.{Holders, over_objects, all_over_objects}
use Rattle.v_names.specs.Readings.{size_or_bit, tree_in, reading_of}
use Rattle.v_names.specs.Names.{Declaration, names_declared, of_name, item_declarations, GivenParameter}
use Rattle.v_names.specs.Faults.{same_place}
use Rattle.v_width.specs.Targets.{ByNode, target_width_in, target_of}
use Rattle.v_elab.specs.declared.Mode.{Mode}
use Rattle.v_elab.specs.ItemFaults.{wire_select}
use Rattle.v_elab.specs.Parts.{Signal, Drive, WalkedProcess, Part, SignalPart, MemoryPart, AssignPart, GatePart, ProcessPart, InstancePart}
use Rattle.v_elab.specs.Connections.{Child, Paths, joined_name, port_direction, actual_parts, output_parts, connection_parts, connections_parts, connected_name, head_names}
use Rattle.v_elab.specs.Walk.{Entered, Here, part_by_entry, parts_of_own, declared_parts, assign_part, wire_parts, terminals_of, gate_parts, item_parts, child_of, paths_of, entered, module_if}
use Rattle.v_elab.specs.Walk.{module_named, walked_from}
use Rattle.v_elab.specs.Drivers.{signals_of, NodeFunction, AssignFunction, GateFunction, BlockFunction, WalkedNode, Behaviour, IsNode, IsProcess, block_or_process, process_behaviour, part_behaviour}
use Rattle.v_elab.specs.Drivers.{behaviours_of, nodes_of, processes_of}
use Rattle.v_elab.specs.Objects.{HeldObject, holders_at}
use Rattle.v_elab.specs.Statements.{block_body}
use Rattle.v_elab.specs.Flat.{meaning_in, flat_process, flat_node}
use Rattle.v_expr.specs.Heights.{height_of}
use Rattle.v_stmt.specs.Heights.{statement_height}
use Rattle.graph_order.specs.ListLaws.{AllHold-slice_get}
use Rattle.flat_laws.specs.Made.{nodes_in, processes_in, objects_in, flat_nodes_in, IsMadeOf}
use Rattle.flat_laws.specs.Lists.{AllHold-from}
use Rattle.flat_laws.specs.Numbered.{at-numbered, AllHold-each, AllHold-append, AllHold-flat_map, AllHold-map, AllHold-all}
use Rattle.flat_laws.specs.Limits.{each-node, design-processes}
use Rattle.flat_laws.specs.Hierarchy.Levels.{tree-within, statement-levels}
use Rattle.flat_laws.specs.Hierarchy.Walks.{IsOf, IsHere, IsInstance, walk-holds}
use Rattle.flat_laws.specs.Source.{most_height, IsLowIfThere, IsSourceUnit}

-- a part has few levels, over whatever objects
abbrev pub IsLevelled : Part → Type 0
IsLevelled (AssignPart drives value) = (holders : Holders) → levels_of (over_objects holders value.value) ≤ most_levels
IsLevelled (GatePart name kind drives path terminals) = (holders : Holders) → levels_of_parts (all_over_objects holders terminals) ≤ most_levels
IsLevelled (ProcessPart process) = statement_height process.body ≤ most_height
IsLevelled _ = Unit {0}

-- a value in a context
value-levels : (holders : Holders) (scope : Scope) (e : SourceExpression) (width : ℕ) → height_of e ≤ most_height → levels_of (over_objects holders (tree_in width (reading_of scope e))) ≤ most_levels
value-levels holders scope e width low =
    let size = size_or_bit (reading_of scope e).size in let here = tree-within holders scope e (max width size.width) size.signed in omega (arith, here, low)

terminals-levels : (holders : Holders) (scope : Scope) (inputs : List SourceExpression) → AllHold (λ (e : SourceExpression). height_of e ≤ most_height) inputs →
    levels_of_parts (all_over_objects holders (terminals_of scope inputs)) ≤ most_levels
terminals-levels holders scope [] low = omega arith
terminals-levels holders scope (e ∷ rest) low = let one = value-levels holders scope e 1 low.0 in let later = terminals-levels holders scope rest low.1 in omega (arith, one, later)

entry-levelled : (here : Here) (d : Declaration) (entry : Option ScopeEntry) → AllHold IsLevelled (part_by_entry here d entry)
entry-levelled here d None = tt
entry-levelled here d (Some (NetEntry range signed)) = (tt, tt)
entry-levelled here d (Some (RegEntry range signed)) = (tt, tt)
entry-levelled here d (Some (MemoryEntry range first last signed)) = (tt, tt)
entry-levelled here d (Some (ParameterEntry value signed)) = tt
entry-levelled here d (Some RefusedParameter) = tt
entry-levelled here d (Some WaitingParameter) = tt
entry-levelled here d (Some GateEntry) = tt
entry-levelled here d (Some InstanceEntry) = tt

declared-levelled : (here : Here) (item : SourceItem) → AllHold IsLevelled (declared_parts here item)
declared-levelled here item =
    AllHold-flat_map IsLevelled (parts_of_own here (names_declared here.instance.inner)) (item_declarations item)
    (AllHold-all (λ d. AllHold IsLevelled (parts_of_own here (names_declared here.instance.inner) d)) (item_declarations item)
    (λ d.
    AllHold-flat_map IsLevelled (λ (own : Declaration). part_by_entry here own (looked_up here.scope own.name))
    (filter (λ (own : Declaration). same_place own.place d.place) (of_name d.name (names_declared here.instance.inner)))
    (AllHold-all (λ (own : Declaration). AllHold IsLevelled (part_by_entry here own (looked_up here.scope own.name)))
    (filter (λ (own : Declaration). same_place own.place d.place) (of_name d.name (names_declared here.instance.inner)))
    (λ own. entry-levelled here own (looked_up here.scope own.name)))))

wire-levelled : (here : Here) (wire : SourceWire) → IsLowIfThere wire.value → AllHold IsLevelled (wire_parts here wire)
wire-levelled here wire low = by_value wire.value refl low
  where
    by_value : (value : Option SourceExpression) → wire.value ≡ value → IsLowIfThere value → AllHold IsLevelled (wire_parts here (record wire { value = value }))
    by_value None e h = tt
    by_value (Some value) e h = (λ holders. value-levels holders here.scope value (target_width_in ByNode here.scope (wire_select (record wire { value = Some value }))) h, tt)

gates-levelled : (here : Here) (kind : GateKind) (number : ℕ) (gates : List SourceGate) → AllHold (λ (g : SourceGate). AllHold (λ (e : SourceExpression). height_of e ≤ most_height) g.inputs) gates →
    AllHold IsLevelled (gate_parts here kind number gates)
gates-levelled here kind number [] low = tt
gates-levelled here kind number (gate ∷ rest) low = (λ holders. terminals-levels holders here.scope gate.inputs low.0, gates-levelled here kind (number + 1) rest low.1)

-- Connections

port-levelled : (child : Child) (paths : Paths) (port : Identifier) (e : SourceExpression) (target : Option SourceTarget) → AllHold IsLevelled (output_parts child paths port e target)
port-levelled child paths port e None = tt
port-levelled child paths port e (Some target) =
    (λ holders. value-levels holders child.inner_scope (Selected (place_of_expression e) port NoIndex) (target_width_in ByNode child.outer_scope target) (omega arith), tt)

actual-levelled : (child : Child) (paths : Paths) (port : Identifier) (e : SourceExpression) (joined : Option Identifier) (direction : Option Direction) → height_of e ≤ most_height →
    AllHold IsLevelled (actual_parts child paths port e joined direction)
actual-levelled child paths port e (Some joined) direction low = tt
actual-levelled child paths port e None (Some Input) low = (λ holders. value-levels holders child.outer_scope e _ low, tt)
actual-levelled child paths port e None (Some Output) low = port-levelled child paths port e (target_of e)
actual-levelled child paths port e None None low = tt

connection-levelled : (child : Child) (paths : Paths) (port : Option Identifier) (actual : Option SourceExpression) → IsLowIfThere actual →
    AllHold IsLevelled (connection_parts child paths port actual)
connection-levelled child paths None actual low = tt
connection-levelled child paths (Some port) None low = tt
connection-levelled child paths (Some port) (Some e) low = actual-levelled child paths port e (joined_name child port e) (port_direction child.inner port) low

connections-levelled : (child : Child) (paths : Paths) (position : ℕ) (connections : List SourceConnection) → AllHold (λ (c : SourceConnection). IsLowIfThere c.actual) connections →
    AllHold IsLevelled (connections_parts child paths position connections)
connections-levelled child paths position [] low = tt
connections-levelled child paths position (connection ∷ rest) low =
    AllHold-append IsLevelled (connection_parts child paths (connected_name (head_names child.inner.heads) position connection.name) connection.actual)
    (connections_parts child paths (position + 1) rest)
    (connection-levelled child paths (connected_name (head_names child.inner.heads) position connection.name) connection.actual low.0) (connections-levelled child paths (position + 1) rest low.1)

-- The walk

-- the module of an instance is one of the unit
abbrev pub IsModule : List SourceModule → Entered → Type 0
IsModule modules instance = (i : ℕ) × (slice_get modules i ≡ Some instance.inner)

-- the module that a name finds is one of the unit
pub named-module : (modules : List SourceModule) (name : Identifier) (m : SourceModule) → module_named modules name ≡ Some m → (i : ℕ) × (slice_get modules i ≡ Some m)
named-module [] name m e = absurd (cc)
named-module (first ∷ modules) name m e = by_test (same_name first.name name) e (λ d. named-module modules name m d)
  where
    by_test : (test : Bool) → module_if test first (module_named modules name) ≡ Some m → (module_named modules name ≡ Some m → (i : ℕ) × (slice_get modules i ≡ Some m)) →
        (i : ℕ) × (slice_get (first ∷ modules) i ≡ Some m)
    by_test true d rest = (0, d)
    by_test false d rest = let r = rest d in (suc r.0, r.1)

item-levelled : (modules : List SourceModule) → IsSourceUnit modules → (mode : Mode) (here : Here) → IsHere (IsModule modules) modules mode here → (gates : ℕ) (item : SourceItem) →
    IsOf here.instance.inner item →
    AllHold IsLevelled (item_parts here gates item)
item-levelled modules source mode here is gates (ParameterItem group) of = tt
item-levelled modules source mode here is gates (PortItem group) of = declared-levelled here (PortItem group)
item-levelled modules source mode here is gates (WireItem place signed range wires) of =
    let low = source.items is.entered.0 here.instance.inner is.entered.1 (WireItem place signed range wires) of in
    AllHold-append IsLevelled (declared_parts here (WireItem place signed range wires)) (flat_map (wire_parts here) wires) (declared-levelled here (WireItem place signed range wires))
    (AllHold-flat_map IsLevelled (wire_parts here) wires (AllHold-each (λ (w : SourceWire). IsLowIfThere w.value) (λ w. AllHold IsLevelled (wire_parts here w)) wires (wire-levelled here) low))
item-levelled modules source mode here is gates (RegItem place signed range regs) of = declared-levelled here (RegItem place signed range regs)
item-levelled modules source mode here is gates (IntegerItem place regs) of = declared-levelled here (IntegerItem place regs)
item-levelled modules source mode here is gates (AssignItem place assignments) of =
    let low = source.items is.entered.0 here.instance.inner is.entered.1 (AssignItem place assignments) of in
    AllHold-map IsLevelled (λ (a : SourceAssignment). assign_part here a.target a.value) assignments
    (AllHold-each _ (λ (a : SourceAssignment). IsLevelled (assign_part here a.target a.value)) assignments
    (λ a h holders. value-levels holders here.scope a.value (target_width_in ByNode here.scope a.target) h.1) low)
item-levelled modules source mode here is gates (GateItem place kind all) of =
    let low = source.items is.entered.0 here.instance.inner is.entered.1 (GateItem place kind all) of in
    gates-levelled here kind (gates + 1) all (AllHold-each _ (λ (g : SourceGate). AllHold (λ (e : SourceExpression). height_of e ≤ most_height) g.inputs) all (λ g h. h.2) low)
item-levelled modules source mode here is gates (InstanceItem place module_name parameters instances) of = tt
item-levelled modules source mode here is gates (InitialItem place body) of = let low = source.items is.entered.0 here.instance.inner is.entered.1 (InitialItem place body) of in (low.1, tt)
item-levelled modules source mode here is gates (AlwaysItem place body) of = let low = source.items is.entered.0 here.instance.inner is.entered.1 (AlwaysItem place body) of in (low.1, tt)

instance-levelled : (modules : List SourceModule) → IsSourceUnit modules → (mode : Mode) (here : Here) → IsHere (IsModule modules) modules mode here →
    (inner : SourceModule) (given : List GivenParameter) (i : SourceInstance) →
    IsInstance here inner given i → AllHold IsLevelled (connections_parts (child_of here inner given) (paths_of here i) 0 i.connections)
instance-levelled modules source mode here is inner given i of =
    let low = source.items is.entered.0 here.instance.inner is.entered.1 (InstanceItem of.place of.module_name of.parameters of.instances) of.is in
    let own = AllHold-slice_get _ of.instances of.number i low of.at in
    connections-levelled (child_of here inner given) (paths_of here i) 0 i.connections (AllHold-each _ (λ (c : SourceConnection). IsLowIfThere c.actual) i.connections (λ c h. h.0) own)

pub enters-module : (modules : List SourceModule) (mode : Mode) (here : Here) → IsHere (IsModule modules) modules mode here →
    (inner : SourceModule) (given : List GivenParameter) (i : SourceInstance) → IsInstance here inner given i →
    IsModule modules (entered here inner given i)
enters-module modules mode here is inner given i of = named-module modules of.module_name inner (ap (λ all. module_named all of.module_name) (sym is.same_modules) ∙ of.named)

-- the parts of a walk have few levels
pub parts-levelled : (modules : List SourceModule) → IsSourceUnit modules → (mode : Mode) (top : SourceModule) → (i : ℕ) → slice_get modules i ≡ Some top → (parts : List Part) →
    walked_from modules mode top ≡ Ok parts → AllHold IsLevelled parts
parts-levelled modules source mode top i at parts e =
    walk-holds IsLevelled (IsModule modules) modules mode
    (record {
      of_item = λ here is gates item of none. item-levelled modules source mode here is gates item of;
      of_connections = instance-levelled modules source mode;
      of_instance = tt;
      enters = enters-module modules mode;
    }) top (i, at) parts e

-- Nodes and processes

-- what holds of parts holds of the nodes and the processes that they are
abbrev IsFew : NodeFunction → Type 0
IsFew (AssignFunction value) = (holders : Holders) → levels_of (over_objects holders value.value) ≤ most_levels
IsFew (GateFunction kind path terminals) = (holders : Holders) → levels_of_parts (all_over_objects holders terminals) ≤ most_levels
IsFew (BlockFunction process) = statement_height process.body ≤ most_height

abbrev IsFewBehaviour : Behaviour → Type 0
IsFewBehaviour (IsNode node) = IsFew node.function
IsFewBehaviour (IsProcess process) = statement_height process.body ≤ most_height

block-few : (signals : List Signal) (process : WalkedProcess) (test : Bool) (targets : List Identifier) → statement_height process.body ≤ most_height →
    IsFewBehaviour (block_or_process signals process test targets)
block-few signals process true targets low = low
block-few signals process false targets low = low

process-few : (parts : List Part) (number : ℕ) (process : WalkedProcess) (targets : Option (List Identifier)) → statement_height process.body ≤ most_height →
    IsFewBehaviour (process_behaviour parts number process targets)
process-few parts number process None low = low
process-few parts number process (Some targets) low = block-few (signals_of parts) process _ targets low

part-few : (parts : List Part) (number : ℕ) (part : Part) → IsLevelled part → AllHold IsFewBehaviour (part_behaviour parts number part)
part-few parts number (AssignPart drives value) low = (low, tt)
part-few parts number (GatePart name kind drives path terminals) low = (low, tt)
part-few parts number (ProcessPart process) low = (process-few parts number process process.targets low, tt)
part-few parts number (SignalPart signal) low = tt
part-few parts number (MemoryPart memory) low = tt
part-few parts number InstancePart low = tt

behaviours-few : (parts : List Part) (number : ℕ) (some : List Part) → AllHold IsLevelled some → AllHold IsFewBehaviour (joined (map_numbered (part_behaviour parts) number some))
behaviours-few parts number [] low = tt
behaviours-few parts number (part ∷ rest) low =
    AllHold-append IsFewBehaviour (part_behaviour parts number part) (joined (map_numbered (part_behaviour parts) (number + 1) rest)) (part-few parts number part low.0)
    (behaviours-few parts (number + 1) rest low.1)

nodes-few : (behaviours : List Behaviour) → AllHold IsFewBehaviour behaviours → AllHold (λ (node : WalkedNode). IsFew node.function) (nodes_of behaviours)
nodes-few [] low = tt
nodes-few (IsNode node ∷ rest) low = (low.0, nodes-few rest low.1)
nodes-few (IsProcess process ∷ rest) low = nodes-few rest low.1

processes-low : (behaviours : List Behaviour) → AllHold IsFewBehaviour behaviours → AllHold (λ (process : WalkedProcess). statement_height process.body ≤ most_height) (processes_of behaviours)
processes-low [] low = tt
processes-low (IsNode node ∷ rest) low = processes-low rest low.1
processes-low (IsProcess process ∷ rest) low = (low.0, processes-low rest low.1)

body-lower : (s : SourceStatement) → statement_height (block_body s) ≤ statement_height s
body-lower (EventStatement place waits body) = omega arith
body-lower (NullStatement place) = omega arith
body-lower (BlockStatement place statements) = omega arith
body-lower (IfStatement place condition first) = omega arith
body-lower (IfElseStatement place condition first second) = omega arith
body-lower (CaseStatement place kind value items) = omega arith
body-lower (ForStatement place first_target first condition next_target next body) = omega arith
body-lower (WhileStatement place condition body) = omega arith
body-lower (RepeatStatement place count body) = omega arith
body-lower (ForeverStatement place body) = omega arith
body-lower (WaitStatement place condition body) = omega arith
body-lower (DelayStatement place delay body) = omega arith
body-lower (BlockingStatement place target delay value) = omega arith
body-lower (NonblockingStatement place target delay value) = omega arith
body-lower (IgnoredTask place) = omega arith
body-lower (FinishTask place) = omega arith

function-levels : (parts : List Part) (objects : List HeldObject) (number : ℕ) (name : Identifier) (drives : List Drive) (function : NodeFunction) → IsFew function →
    levels_of_node (flat_node parts objects number (record { name = name; drives = drives; function = function })).kind ≤ most_levels
function-levels parts objects number name drives (AssignFunction value) low = low (holders_at parts objects value.path)
function-levels parts objects number name drives (GateFunction kind path terminals) low = low (holders_at parts objects path)
function-levels parts objects number name drives (BlockFunction process) low =
    let one = statement-levels (meaning_in parts objects process) (block_body process.body) in let other = body-lower process.body in omega (arith, one, other, low)

-- each node of the design has few levels
pub node-levels : (parts : List Part) (design : FlatDesign) → IsMadeOf parts design → AllHold IsLevelled parts → AllHold (λ (node : FlatNode). levels_of_node node.kind ≤ most_levels) design.nodes
node-levels parts design made low =
    each-node (λ node. levels_of_node node.kind ≤ most_levels) parts design made
    (AllHold-from (λ (node : FlatNode). levels_of_node node.kind ≤ most_levels) (flat_nodes_in parts)
    (λ i node at.
    let r = at-numbered (flat_node parts (objects_in parts)) 0 (nodes_in parts) i node at in
    let few = AllHold-slice_get (λ (n : WalkedNode). IsFew n.function) (nodes_in parts) i r.0 (nodes-few (behaviours_of parts) (behaviours-few parts 0 parts low)) r.1 in
    subst (λ (n : FlatNode). levels_of_node n.kind ≤ most_levels) r.2 (function-levels parts (objects_in parts) (0 + i) r.0.name r.0.drives r.0.function few)))

-- and each process
pub process-levels : (parts : List Part) (design : FlatDesign) → IsMadeOf parts design → AllHold IsLevelled parts →
    AllHold (λ (process : FlatProcess). levels_of_statement process.body ≤ most_levels) design.processes
process-levels parts design made low =
    subst (AllHold (λ (process : FlatProcess). levels_of_statement process.body ≤ most_levels)) (design-processes parts design made)
    (AllHold-map (λ (process : FlatProcess). levels_of_statement process.body ≤ most_levels) (flat_process parts (objects_in parts)) (processes_in parts)
    (AllHold-each (λ (process : WalkedProcess). statement_height process.body ≤ most_height) (λ process. levels_of_statement (flat_process parts (objects_in parts) process).body ≤ most_levels)
    (processes_in parts)
    (λ process h. let one = statement-levels (meaning_in parts (objects_in parts) process) process.body in omega (arith, one, h))
    (processes-low (behaviours_of parts) (behaviours-few parts 0 parts low))))
