-- A gate of a flat design writes one object at most, of one bit (IEEE 1364-2001, clause 7.1).
use Rattle.std.proofs.Common.{◌≡◌, ℕ, zero, suc, ◌+◌, ◌≤◌, Bool, true, false, List, [], ◌∷◌, ◌++◌, length, map, Option, Some, None, Ok, refl, sym, ap, ◌∙◌, subst, arith}
use Rattle.std.specs.Prelude.{nat_eq, slice_get, filter, flat_map, sum_by}
use Rattle.std.proofs.lemmas.List.{length-map}
use Rattle.std.proofs.lemmas.List.Sums.{sum_by-cons}
use Rattle.std.proofs.lemmas.Option.{get_or_from_slice_get}
use Rattle.four_value.specs.declared.operator.GateKind.{GateKind}
use Rattle.vf_base.specs.Lists.{AllHold, map_numbered, joined}
use Rattle.v_design.specs.Designs.{FlatObject, FlatNodeKind, AssignNode, GateNode, BlockNode, FlatNode, FlatDesign, width_in}
use Rattle.v_design.specs.WellFormed.{IsSizedObject}
use Rattle.v_tree.specs.declared.item.Direction.{Direction}
use Rattle.v_tree.specs.declared.item.Direction.TheVariants.{Input, Output}
use Rattle.v_tree.specs.Trees.{Identifier, SourceExpression, SourceTarget, SourceWire, SourceAssignment, SourceGate, SourceConnection, SourceItem, ParameterItem, PortItem, WireItem, RegItem}
use Rattle.v_tree.specs.Trees.{IntegerItem, AssignItem, GateItem, InstanceItem, InitialItem, AlwaysItem, SourceModule}
use Rattle.v_names.specs.Faults.{same_place}
use Rattle.v_names.specs.Scopes.{ScopeEntry, ParameterEntry, RefusedParameter, WaitingParameter, NetEntry, RegEntry, MemoryEntry, GateEntry, InstanceEntry, Scope, looked_up}
use Rattle.v_names.specs.Constants.{name_faults}
use Rattle.v_names.specs.Names.{Declaration, names_declared, of_name, item_declarations, fixed_target_faults, gate_name_faults}
use Rattle.v_width.specs.Targets.{target_of}
use Rattle.v_elab.specs.declared.Mode.{Mode}
use Rattle.v_elab.specs.ItemFaults.{output_faults, terminal_faults, gate_faults, item_faults}
use Rattle.v_elab.specs.Parts.{Signal, WalkedProcess, Part, SignalPart, MemoryPart, AssignPart, GatePart, ProcessPart, InstancePart}
use Rattle.v_elab.specs.Connections.{Child, Paths, joined_name, port_direction, actual_parts, output_parts, connection_parts, connections_parts, connected_name, head_names}
use Rattle.v_elab.specs.Walk.{Here, part_by_entry, parts_of_own, declared_parts, assign_part, wire_parts, gate_parts, item_parts, child_of, paths_of, walked_from}
use Rattle.v_elab.specs.Drivers.{signals_of, drives_width, NodeFunction, AssignFunction, GateFunction, BlockFunction, WalkedNode, Behaviour, IsNode, IsProcess, block_or_process, process_behaviour}
use Rattle.v_elab.specs.Drivers.{part_behaviour, behaviours_of, nodes_of}
use Rattle.v_elab.specs.Objects.{PieceDriver, HeldObject}
use Rattle.v_elab.specs.Flat.{NodeOutput, output_if, output_of_object, node_kind, outputs_of, flat_node}
use Rattle.graph_order.specs.ListLaws.{AllHold-slice_get}
use Rattle.flat_laws.specs.Made.{nodes_in, objects_in, flat_nodes_in, IsMadeOf}
use Rattle.flat_laws.specs.Lists.{same_some, AllHold-from}
use Rattle.flat_laws.specs.Numbered.{at-numbered, AllHold-append, AllHold-flat_map, AllHold-map, AllHold-all}
use Rattle.flat_laws.specs.Limits.{design-objects, each-node}
use Rattle.flat_laws.specs.Drivers.OneDriver.{node-outputs}
use Rattle.flat_laws.specs.Hierarchy.Given.{IsHierarchy}
use Rattle.flat_laws.specs.Sizes.Objects.{objects-sized}
use Rattle.flat_laws.specs.Sizes.Complete.{append-none, IsSettled}
use Rattle.flat_laws.specs.Hierarchy.Processes.{items-named}
use Rattle.flat_laws.specs.Hierarchy.Walks.{IsOf, IsHere, walk-holds}
use Rattle.flat_laws.specs.Hierarchy.Visits.{IsVisited, at_top, below, IsAt}
use Rattle.flat_laws.specs.Names.OnceDeclared.{number_if}
use Rattle.flat_laws.specs.Sizes.Narrow.{output-narrow}
use Rattle.flat_laws.specs.Drivers.Driven.{driver_weight, held_weight, node-writes}

-- Gates of a walk

-- a gate drives one bit at most
abbrev pub IsNarrow : Part → Type 0
IsNarrow (GatePart name kind drives path terminals) = drives_width drives ≤ 1
IsNarrow _ = Unit {0}

entry-narrow : (here : Here) (d : Declaration) (entry : Option ScopeEntry) → AllHold IsNarrow (part_by_entry here d entry)
entry-narrow here d None = tt
entry-narrow here d (Some (NetEntry range signed)) = (tt, tt)
entry-narrow here d (Some (RegEntry range signed)) = (tt, tt)
entry-narrow here d (Some (MemoryEntry range first last signed)) = (tt, tt)
entry-narrow here d (Some (ParameterEntry value signed)) = tt
entry-narrow here d (Some RefusedParameter) = tt
entry-narrow here d (Some WaitingParameter) = tt
entry-narrow here d (Some GateEntry) = tt
entry-narrow here d (Some InstanceEntry) = tt

declared-narrow : (here : Here) (item : SourceItem) → AllHold IsNarrow (declared_parts here item)
declared-narrow here item =
    AllHold-flat_map IsNarrow (parts_of_own here (names_declared here.instance.inner)) (item_declarations item)
    (AllHold-all (λ d. AllHold IsNarrow (parts_of_own here (names_declared here.instance.inner) d)) (item_declarations item)
    (λ d.
    AllHold-flat_map IsNarrow (λ (own : Declaration). part_by_entry here own (looked_up here.scope own.name))
    (filter (λ (own : Declaration). same_place own.place d.place) (of_name d.name (names_declared here.instance.inner)))
    (AllHold-all (λ (own : Declaration). AllHold IsNarrow (part_by_entry here own (looked_up here.scope own.name)))
    (filter (λ (own : Declaration). same_place own.place d.place) (of_name d.name (names_declared here.instance.inner)))
    (λ own. entry-narrow here own (looked_up here.scope own.name)))))

wire-narrow : (here : Here) (wire : SourceWire) (value : Option SourceExpression) → AllHold IsNarrow (wire_parts here (record wire { value = value }))
wire-narrow here wire None = tt
wire-narrow here wire (Some value) = (tt, tt)

port-narrow : (child : Child) (paths : Paths) (port : Identifier) (e : SourceExpression) (target : Option SourceTarget) → AllHold IsNarrow (output_parts child paths port e target)
port-narrow child paths port e None = tt
port-narrow child paths port e (Some target) = (tt, tt)

actual-narrow : (child : Child) (paths : Paths) (port : Identifier) (e : SourceExpression) (joined : Option Identifier) (direction : Option Direction) →
    AllHold IsNarrow (actual_parts child paths port e joined direction)
actual-narrow child paths port e (Some joined) direction = tt
actual-narrow child paths port e None (Some Input) = (tt, tt)
actual-narrow child paths port e None (Some Output) = port-narrow child paths port e (target_of e)
actual-narrow child paths port e None None = tt

connection-narrow : (child : Child) (paths : Paths) (port : Option Identifier) (actual : Option SourceExpression) → AllHold IsNarrow (connection_parts child paths port actual)
connection-narrow child paths None actual = tt
connection-narrow child paths (Some port) None = tt
connection-narrow child paths (Some port) (Some e) = actual-narrow child paths port e (joined_name child port e) (port_direction child.inner port)

connections-narrow : (child : Child) (paths : Paths) (position : ℕ) (connections : List SourceConnection) → AllHold IsNarrow (connections_parts child paths position connections)
connections-narrow child paths position [] = tt
connections-narrow child paths position (connection ∷ rest) =
    AllHold-append IsNarrow (connection_parts child paths (connected_name (head_names child.inner.heads) position connection.name) connection.actual)
    (connections_parts child paths (position + 1) rest)
    (connection-narrow child paths (connected_name (head_names child.inner.heads) position connection.name) connection.actual) (connections-narrow child paths (position + 1) rest)

gates-narrow : (here : Here) → IsSettled here.scope → (kind : GateKind) (number : ℕ) (gates : List SourceGate) → flat_map (gate_name_faults here.scope) gates ≡ [] →
    flat_map (gate_faults here.scope) gates ≡ [] → AllHold IsNarrow (gate_parts here kind number gates)
gates-narrow here settled kind number [] names sizes = tt
gates-narrow here settled kind number (gate ∷ rest) names sizes =
    let n = append-none (gate_name_faults here.scope gate) (flat_map (gate_name_faults here.scope) rest) names in
    let s = append-none (gate_faults here.scope gate) (flat_map (gate_faults here.scope) rest) sizes in
    let own = append-none (fixed_target_faults here.scope gate.output) (flat_map (name_faults here.scope) gate.inputs) n.0 in
    let size = append-none (output_faults here.scope gate.output) (flat_map (terminal_faults here.scope) gate.inputs) s.0 in
    (output-narrow here.instance.path here.scope settled gate.output own.0 size.0, gates-narrow here settled kind (number + 1) rest n.1 s.1)

-- the parameters of each instance that a walk comes to have values
abbrev pub AllSettled : List SourceModule → Mode → SourceModule → Type 0
AllSettled modules mode top = (path : Identifier) (scope : Scope) → IsAt modules mode top path scope → IsSettled scope

item-narrow : (modules : List SourceModule) (mode : Mode) (top : SourceModule) → AllSettled modules mode top → (here : Here) → IsHere (IsVisited modules mode top) modules mode here →
    (gates : ℕ) (item : SourceItem) → IsOf here.instance.inner item →
    item_faults here.scope item ≡ [] → AllHold IsNarrow (item_parts here gates item)
item-narrow modules mode top settled here is gates (ParameterItem group) of none = tt
item-narrow modules mode top settled here is gates (PortItem group) of none = declared-narrow here (PortItem group)
item-narrow modules mode top settled here is gates (WireItem place signed range wires) of none =
    AllHold-append IsNarrow (declared_parts here (WireItem place signed range wires)) (flat_map (wire_parts here) wires) (declared-narrow here (WireItem place signed range wires))
    (AllHold-flat_map IsNarrow (wire_parts here) wires (AllHold-all (λ w. AllHold IsNarrow (wire_parts here w)) wires (λ (w : SourceWire). wire-narrow here w w.value)))
item-narrow modules mode top settled here is gates (RegItem place signed range regs) of none = declared-narrow here (RegItem place signed range regs)
item-narrow modules mode top settled here is gates (IntegerItem place regs) of none = declared-narrow here (IntegerItem place regs)
item-narrow modules mode top settled here is gates (AssignItem place assignments) of none =
    AllHold-map IsNarrow (λ (a : SourceAssignment). assign_part here a.target a.value) assignments
    (AllHold-all (λ (a : SourceAssignment). IsNarrow (assign_part here a.target a.value)) assignments (λ a. tt))
item-narrow modules mode top settled here is gates (GateItem place kind all) of none =
    gates-narrow here (settled here.instance.path here.scope (record { instance = here.instance; visited = is.entered; named = is.scope; path_is = refl })) kind (gates + 1) all
    (items-named here.instance.inner here.instance.given here.scope is.scope (GateItem place kind all) of) none
item-narrow modules mode top settled here is gates (InstanceItem place module_name parameters instances) of none = tt
item-narrow modules mode top settled here is gates (InitialItem place body) of none = (tt, tt)
item-narrow modules mode top settled here is gates (AlwaysItem place body) of none = (tt, tt)

-- the gates of a walk drive one bit at most
pub parts-narrow : (modules : List SourceModule) (mode : Mode) (top : SourceModule) → AllSettled modules mode top → (parts : List Part) → walked_from modules mode top ≡ Ok parts →
    AllHold IsNarrow parts
parts-narrow modules mode top settled parts e =
    walk-holds IsNarrow (IsVisited modules mode top) modules mode
    (record {
      of_item = item-narrow modules mode top settled;
      of_connections = λ here is inner given i of. connections-narrow (child_of here inner given) (paths_of here i) 0 i.connections;
      of_instance = tt;
      enters = λ here is inner given i of. below here is.scope is.same_modules is.same_mode is.entered inner given i of;
    }) top at_top parts e

-- Gates among the nodes

abbrev IsNarrowFunction : NodeFunction → ℕ → Type 0
IsNarrowFunction (AssignFunction value) width = Unit {0}
IsNarrowFunction (GateFunction kind path terminals) width = width ≤ 1
IsNarrowFunction (BlockFunction process) width = Unit {0}

abbrev IsNarrowNode : WalkedNode → Type 0
IsNarrowNode node = IsNarrowFunction node.function (drives_width node.drives)

abbrev IsNarrowBehaviour : Behaviour → Type 0
IsNarrowBehaviour (IsNode node) = IsNarrowNode node
IsNarrowBehaviour (IsProcess process) = Unit {0}

block-narrow : (signals : List Signal) (process : WalkedProcess) (test : Bool) (targets : List Identifier) → IsNarrowBehaviour (block_or_process signals process test targets)
block-narrow signals process true targets = tt
block-narrow signals process false targets = tt

process-narrow : (parts : List Part) (number : ℕ) (process : WalkedProcess) (targets : Option (List Identifier)) → IsNarrowBehaviour (process_behaviour parts number process targets)
process-narrow parts number process None = tt
process-narrow parts number process (Some targets) = block-narrow (signals_of parts) process _ targets

part-narrow : (parts : List Part) (number : ℕ) (part : Part) → IsNarrow part → AllHold IsNarrowBehaviour (part_behaviour parts number part)
part-narrow parts number (AssignPart drives value) h = (tt, tt)
part-narrow parts number (GatePart name kind drives path terminals) h = (h, tt)
part-narrow parts number (ProcessPart process) h = (process-narrow parts number process process.targets, tt)
part-narrow parts number (SignalPart signal) h = tt
part-narrow parts number (MemoryPart memory) h = tt
part-narrow parts number InstancePart h = tt

behaviours-narrow : (parts : List Part) (number : ℕ) (some : List Part) → AllHold IsNarrow some → AllHold IsNarrowBehaviour (joined (map_numbered (part_behaviour parts) number some))
behaviours-narrow parts number [] h = tt
behaviours-narrow parts number (part ∷ rest) h =
    AllHold-append IsNarrowBehaviour (part_behaviour parts number part) (joined (map_numbered (part_behaviour parts) (number + 1) rest)) (part-narrow parts number part h.0)
    (behaviours-narrow parts (number + 1) rest h.1)

nodes-narrow : (behaviours : List Behaviour) → AllHold IsNarrowBehaviour behaviours → AllHold IsNarrowNode (nodes_of behaviours)
nodes-narrow [] h = tt
nodes-narrow (IsNode node ∷ rest) h = (h.0, nodes-narrow rest h.1)
nodes-narrow (IsProcess process ∷ rest) h = nodes-narrow rest h.1

-- What a node writes

abbrev outputs_from : ℕ → ℕ → List HeldObject → List NodeOutput
outputs_from n start objects = joined (map_numbered (λ object (held : HeldObject). output_of_object n object held.driver) start objects)

abbrev AreOfOneBit : FlatDesign → List ℕ → Type 0
AreOfOneBit design objects = AllHold (λ object. width_in design object ≡ 1) objects

test-one : (design : FlatDesign) (start width later : ℕ) (outs : List NodeOutput) (test : Bool) (place : ℕ) → 1 ≤ width → width_in design start ≡ width → number_if test width + later ≤ 1 →
    length outs ≤ later →
    AreOfOneBit design (map (λ (o : NodeOutput). o.object) outs) →
    (length (output_if test (record { object = start; place = place }) ++ outs) ≤ number_if test width + later)
    × AreOfOneBit design (map (λ (o : NodeOutput). o.object) (output_if test (record { object = start; place = place }) ++ outs))
test-one design start width later outs true place some is most few h = (omega (arith, some, few), (omega (arith, is, some, most), h))
test-one design start width later outs false place some is most few h = (omega (arith, few), h)

driver-one : (design : FlatDesign) (n start width later : ℕ) (outs : List NodeOutput) (driver : Option PieceDriver) → 1 ≤ width → width_in design start ≡ width →
    driver_weight n width driver + later ≤ 1 → length outs ≤ later →
    AreOfOneBit design (map (λ (o : NodeOutput). o.object) outs) →
    (length (output_of_object n start driver ++ outs) ≤ driver_weight n width driver + later) × AreOfOneBit design (map (λ (o : NodeOutput). o.object) (output_of_object n start driver ++ outs))
driver-one design n start width later outs None some is most few h = (omega (arith, few), h)
driver-one design n start width later outs (Some driver) some is most few h = test-one design start width later outs (nat_eq driver.node n) driver.place some is most few h

-- objects that weigh one bit together are one at most, of one bit
outputs-one : (design : FlatDesign) (n start : ℕ) (objects : List HeldObject) → AllHold (λ (held : HeldObject). 1 ≤ held.object.width) objects →
    ((i : ℕ) (held : HeldObject) → slice_get objects i ≡ Some held → width_in design (start + i) ≡ held.object.width) → sum_by (held_weight n) objects ≤ 1 →
    (length (outputs_from n start objects) ≤ sum_by (held_weight n) objects) × AreOfOneBit design (map (λ (o : NodeOutput). o.object) (outputs_from n start objects))
outputs-one design n start [] sized widths most = (omega arith, tt)
outputs-one design n start (held ∷ objects) sized widths most =
    let cons = sum_by-cons (held_weight n) held objects in
    let rest = outputs-one design n (start + 1) objects sized.1 (λ i other at. let moved : (start + 1) + i ≡ start + suc i = omega arith in ap (width_in design) moved ∙ widths (suc i) other at)
    (omega (arith, cons, most)) in
    let same : start + 0 ≡ start = omega arith in
    let own = driver-one design n start held.object.width (sum_by (held_weight n) objects) (outputs_from n (start + 1) objects) held.driver sized.0
    (ap (width_in design) (sym same) ∙ widths 0 held refl) (omega (arith, cons, most)) rest.0 rest.1 in
    (omega (arith, cons, own.0), own.1)

-- The gates of a design

abbrev pub IsGate : FlatNodeKind → Type 0
IsGate (AssignNode value places) = ⊥
IsGate (GateNode kind terminals) = Unit {0}
IsGate (BlockNode statement) = ⊥

function-narrow : (parts : List Part) (objects : List HeldObject) (outputs : List NodeOutput) (function : NodeFunction) (width : ℕ) → IsGate (node_kind parts objects outputs function) →
    IsNarrowFunction function width → width ≤ 1
function-narrow parts objects outputs (AssignFunction value) width gate h = absurd gate
function-narrow parts objects outputs (GateFunction kind path terminals) width gate h = h
function-narrow parts objects outputs (BlockFunction process) width gate h = absurd gate

at-mapped : {A B : Type 0} (f : A → B) (xs : List A) (i : ℕ) (x : A) → slice_get xs i ≡ Some x → slice_get (map f xs) i ≡ Some (f x)
at-mapped f [] i x at = absurd (cc)
at-mapped f (y ∷ xs) zero x at = ap (λ z. Some (f z)) (same_some y x at)
at-mapped f (y ∷ xs) (suc i) x at = at-mapped f xs i x at

-- a gate writes one object at most, of one bit
pub gates-one : (parts : List Part) (design : FlatDesign) → IsMadeOf parts design → IsHierarchy parts → AllHold IsNarrow parts →
    AllHold (λ (node : FlatNode). IsGate node.kind → (length node.outputs ≤ 1) × AllHold (λ object. width_in design object ≡ 1) node.outputs) design.nodes
gates-one parts design made hierarchy narrow =
    each-node (λ (node : FlatNode). IsGate node.kind → (length node.outputs ≤ 1) × AreOfOneBit design node.outputs) parts design made
    (AllHold-from (λ (node : FlatNode). IsGate node.kind → (length node.outputs ≤ 1) × AreOfOneBit design node.outputs) (flat_nodes_in parts)
    (λ i node at gate.
    let objects = objects_in parts in
    let nodes = nodes_in parts in
    let r = at-numbered (flat_node parts objects) 0 nodes i node at in
    let own = AllHold-slice_get IsNarrowNode nodes i r.0 (nodes-narrow (behaviours_of parts) (behaviours-narrow parts 0 parts narrow)) r.1 in
    let width = function-narrow parts objects (outputs_of objects (0 + i)) r.0.function (drives_width r.0.drives) (subst (λ (n : FlatNode). IsGate n.kind) (sym r.2) gate) own in
    let total : sum_by (held_weight i) objects ≤ 1 =
    node-writes parts nodes i 1 hierarchy.once (λ other there. let same = same_some r.0 other (sym r.1 ∙ there) in subst (λ (w : WalkedNode). drives_width w.drives ≤ 1) same width) in
    let sized = objects-sized parts nodes hierarchy in
    let some : AllHold (λ (held : HeldObject). 1 ≤ held.object.width) objects =
    AllHold-from (λ (held : HeldObject). 1 ≤ held.object.width) objects
    (λ k held there.
    let is = AllHold-slice_get IsSizedObject (map (λ (h : HeldObject). h.object) objects) k held.object sized (at-mapped (λ (h : HeldObject). h.object) objects k held there) in
    omega (arith, is.1)) in
    let one = outputs-one design i 0 objects some
    (λ k held there.
    let same : 0 + k ≡ k = omega arith in
    let widths = at-mapped (λ (o : FlatObject). o.width) design.objects k held.object (ap (λ all. slice_get all k) (sym (design-objects parts design made))
    ∙ at-mapped (λ (h : HeldObject). h.object) objects k held there) in
    ap (width_in design) same ∙ get_or_from_slice_get (map (λ (o : FlatObject). o.width) design.objects) k held.object.width 0 widths) total in
    let outs = node-outputs parts objects nodes i node at in
    let long = ap length outs ∙ length-map (outputs_of objects i) (λ (o : NodeOutput). o.object) in
    (omega (arith, long, one.0, total), subst (AreOfOneBit design) (sym outs) one.1)))
