-- Of the processes of a walk nothing is wrong, so over objects that hold their names they are sized (IEEE 1364-2001, clause 9; clause 12.5 for the names).
use Rattle.std.proofs.Common.{◌≡◌, ℕ, ◌+◌, ◌<◌, Bool, true, false, List, [], ◌∷◌, ◌++◌, length, map, Option, Some, None, Ok, refl, sym, ap, ◌∙◌, subst, arith}
use Rattle.std.proofs.lemmas.List.{length-map}
use Rattle.std.specs.Prelude.{slice_get, filter, flat_map, IsTrue}
use Rattle.four_value.specs.declared.operator.GateKind.{GateKind}
use Rattle.vf_base.specs.Lists.{has, AllHold, map_numbered, joined}
use Rattle.v_design.specs.Sized.{IsSizedStatement}
use Rattle.v_design.specs.Designs.{FlatNode, FlatProcess, FlatDesign}
use Rattle.v_design.specs.Reads.{node_reads, named_by_node}
use Rattle.v_design.specs.WellFormed.{have_widths}
use Rattle.v_tree.specs.declared.item.Direction.{Direction}
use Rattle.v_tree.specs.declared.item.Direction.TheVariants.{Input, Output}
use Rattle.v_tree.specs.Trees.{Identifier, SourceExpression, SourceTarget, SourceParameters, SourcePorts, SourceWire, SourceAssignment, SourceGate, SourceConnection, SourceItem, ParameterItem}
use Rattle.v_tree.specs.Trees.{PortItem, WireItem, RegItem, IntegerItem, AssignItem, GateItem, InstanceItem, InitialItem, AlwaysItem, SourceHeads, PlainHeads, DeclaredHeads, SourceModule}
use Rattle.v_names.specs.Faults.{Fault, unless_faulty, same_place}
use Rattle.v_names.specs.Scopes.{ScopeEntry, ParameterEntry, RefusedParameter, WaitingParameter, NetEntry, RegEntry, MemoryEntry, GateEntry, InstanceEntry, Scope, looked_up}
use Rattle.v_names.specs.Names.{Declaration, names_declared, of_name, item_declarations, declarations_of, GivenParameter, scope_of, names, twice_faults, heads_faults, statement_name_faults}
use Rattle.v_names.specs.Names.{parameters_faults, item_name_faults, module_name_faults}
use Rattle.v_width.specs.Targets.{target_of}
use Rattle.v_elab.specs.declared.Mode.{Mode}
use Rattle.v_elab.specs.ItemFaults.{item_faults, statement_faults}
use Rattle.v_elab.specs.Parts.{Signal, WalkedProcess, Part, SignalPart, MemoryPart, AssignPart, GatePart, ProcessPart, InstancePart}
use Rattle.v_elab.specs.Connections.{Child, Paths, joined_name, port_direction, actual_parts, output_parts, connection_parts, connections_parts, connected_name, head_names}
use Rattle.v_elab.specs.Walk.{Here, part_by_entry, parts_of_own, declared_parts, assign_part, wire_parts, gate_parts, item_parts, child_of, paths_of, head_items, walked_from}
use Rattle.v_elab.specs.Drivers.{signals_of, NodeFunction, AssignFunction, GateFunction, BlockFunction, Behaviour, IsNode, IsProcess, block_or_process, process_behaviour, part_behaviour}
use Rattle.v_elab.specs.Drivers.{behaviours_of, processes_of}
use Rattle.v_elab.specs.Objects.{HeldObject, holders_at}
use Rattle.v_elab.specs.Flat.{NodeOutput, meaning_in, flat_process, outputs_of, node_kind, flat_node}
use Rattle.graph_order.specs.ListLaws.{AllHold-slice_get}
use Rattle.flat_laws.specs.Made.{nodes_in, processes_in, objects_in, flat_nodes_in, IsMadeOf}
use Rattle.flat_laws.specs.Lists.{AllHold-from}
use Rattle.flat_laws.specs.Numbered.{at-numbered, AllHold-each, AllHold-append, AllHold-flat_map, AllHold-map, AllHold-all}
use Rattle.flat_laws.specs.Limits.{each-node, design-objects, design-processes}
use Rattle.flat_laws.specs.Sizes.Complete.{append-none}
use Rattle.flat_laws.specs.Sizes.Sized.{IsMeant}
use Rattle.flat_laws.specs.Sizes.Statements.{HaveSelects, statement-sound}
use Rattle.flat_laws.specs.Hierarchy.Given.{IsHierarchy}
use Rattle.flat_laws.specs.Blocks.Named.{holders-there, tree-there, trees-there, IsAssignOrGate, reads-within, inputs-are}
use Rattle.flat_laws.specs.Hierarchy.Walks.{items_of, IsOf, IsHere, walk-holds}
use Rattle.flat_laws.specs.Source.{IsSourceUnit}
use Rattle.flat_laws.specs.Hierarchy.Levelled.{IsModule, enters-module}

-- The names of a module

pub unless_faulty-ok : {A : Type 0} (faults : List Fault) (given answer : A) → unless_faulty faults given ≡ Ok answer → (faults ≡ []) × (given ≡ answer)
unless_faulty-ok [] given answer e = (refl, (cc))
unless_faulty-ok (fault ∷ faults) given answer e = absurd (cc)

flat-each : {A : Type 0} (f : A → List Fault) (xs : List A) → flat_map f xs ≡ [] → AllHold (λ x. f x ≡ []) xs
flat-each f [] e = tt
flat-each f (x ∷ xs) e = let none = append-none (f x) (flat_map f xs) e in (none.0, flat-each f xs none.1)

heads-each : (scope : Scope) (heads : SourceHeads) → heads_faults scope heads ≡ [] → AllHold (λ item. item_name_faults scope item ≡ []) (head_items heads)
heads-each scope (PlainHeads names) e = tt
heads-each scope (DeclaredHeads groups) e = AllHold-map (λ item. item_name_faults scope item ≡ []) PortItem groups (flat-each (λ (g : SourcePorts). item_name_faults scope (PortItem g)) groups e)

-- nothing is wrong with the names of the items of a module that has a scope
pub items-named : (m : SourceModule) (given : List GivenParameter) (scope : Scope) → names m given ≡ Ok scope → (item : SourceItem) → IsOf m item → item_name_faults scope item ≡ []
items-named m given scope e item of =
    let all = scope_of m given in
    let ok = unless_faulty-ok (module_name_faults all m) all scope e in
    let none : module_name_faults scope m ≡ [] = ap (λ s. module_name_faults s m) (sym ok.1) ∙ ok.0 in
    let first = append-none (twice_faults scope [] (declarations_of m)) (flat_map (parameters_faults scope) m.parameters ++ (heads_faults scope m.heads ++ flat_map (item_name_faults scope) m.items))
    none in
    let second = append-none (flat_map (parameters_faults scope) m.parameters) (heads_faults scope m.heads ++ flat_map (item_name_faults scope) m.items) first.1 in
    let third = append-none (heads_faults scope m.heads) (flat_map (item_name_faults scope) m.items) second.1 in
    let each : AllHold (λ other. item_name_faults scope other ≡ []) (items_of m) =
    AllHold-append (λ other. item_name_faults scope other ≡ []) (map ParameterItem m.parameters) (head_items m.heads ++ m.items)
    (AllHold-map (λ other. item_name_faults scope other ≡ []) ParameterItem m.parameters (flat-each (λ (g : SourceParameters). item_name_faults scope (ParameterItem g)) m.parameters second.0))
    (AllHold-append (λ other. item_name_faults scope other ≡ []) (head_items m.heads) m.items (heads-each scope m.heads third.0) (flat-each (item_name_faults scope) m.items third.1)) in
    AllHold-slice_get (λ other. item_name_faults scope other ≡ []) (items_of m) of.0 item each of.1

-- Processes

-- of a process nothing is wrong, and it is read from a text
pub record IsFaultless (process : WalkedProcess) : Type 0 where
  pub selects : HaveSelects process.body
  pub names : statement_name_faults process.scope process.body ≡ []
  pub sizes : statement_faults process.scope process.body ≡ []

abbrev pub IsFaultlessPart : Part → Type 0
IsFaultlessPart (ProcessPart process) = IsFaultless process
IsFaultlessPart _ = Unit {0}

entry-faultless : (here : Here) (d : Declaration) (entry : Option ScopeEntry) → AllHold IsFaultlessPart (part_by_entry here d entry)
entry-faultless here d None = tt
entry-faultless here d (Some (NetEntry range signed)) = (tt, tt)
entry-faultless here d (Some (RegEntry range signed)) = (tt, tt)
entry-faultless here d (Some (MemoryEntry range first last signed)) = (tt, tt)
entry-faultless here d (Some (ParameterEntry value signed)) = tt
entry-faultless here d (Some RefusedParameter) = tt
entry-faultless here d (Some WaitingParameter) = tt
entry-faultless here d (Some GateEntry) = tt
entry-faultless here d (Some InstanceEntry) = tt

declared-faultless : (here : Here) (item : SourceItem) → AllHold IsFaultlessPart (declared_parts here item)
declared-faultless here item =
    AllHold-flat_map IsFaultlessPart (parts_of_own here (names_declared here.instance.inner)) (item_declarations item)
    (AllHold-all (λ d. AllHold IsFaultlessPart (parts_of_own here (names_declared here.instance.inner) d)) (item_declarations item)
    (λ d.
    AllHold-flat_map IsFaultlessPart (λ (own : Declaration). part_by_entry here own (looked_up here.scope own.name))
    (filter (λ (own : Declaration). same_place own.place d.place) (of_name d.name (names_declared here.instance.inner)))
    (AllHold-all (λ (own : Declaration). AllHold IsFaultlessPart (part_by_entry here own (looked_up here.scope own.name)))
    (filter (λ (own : Declaration). same_place own.place d.place) (of_name d.name (names_declared here.instance.inner)))
    (λ own. entry-faultless here own (looked_up here.scope own.name)))))

wire-faultless : (here : Here) (wire : SourceWire) (value : Option SourceExpression) → AllHold IsFaultlessPart (wire_parts here (record wire { value = value }))
wire-faultless here wire None = tt
wire-faultless here wire (Some value) = (tt, tt)

gates-faultless : (here : Here) (kind : GateKind) (number : ℕ) (gates : List SourceGate) → AllHold IsFaultlessPart (gate_parts here kind number gates)
gates-faultless here kind number [] = tt
gates-faultless here kind number (gate ∷ rest) = (tt, gates-faultless here kind (number + 1) rest)

port-faultless : (child : Child) (paths : Paths) (port : Identifier) (e : SourceExpression) (target : Option SourceTarget) → AllHold IsFaultlessPart (output_parts child paths port e target)
port-faultless child paths port e None = tt
port-faultless child paths port e (Some target) = (tt, tt)

actual-faultless : (child : Child) (paths : Paths) (port : Identifier) (e : SourceExpression) (joined : Option Identifier) (direction : Option Direction) →
    AllHold IsFaultlessPart (actual_parts child paths port e joined direction)
actual-faultless child paths port e (Some joined) direction = tt
actual-faultless child paths port e None (Some Input) = (tt, tt)
actual-faultless child paths port e None (Some Output) = port-faultless child paths port e (target_of e)
actual-faultless child paths port e None None = tt

connection-faultless : (child : Child) (paths : Paths) (port : Option Identifier) (actual : Option SourceExpression) → AllHold IsFaultlessPart (connection_parts child paths port actual)
connection-faultless child paths None actual = tt
connection-faultless child paths (Some port) None = tt
connection-faultless child paths (Some port) (Some e) = actual-faultless child paths port e (joined_name child port e) (port_direction child.inner port)

connections-faultless : (child : Child) (paths : Paths) (position : ℕ) (connections : List SourceConnection) → AllHold IsFaultlessPart (connections_parts child paths position connections)
connections-faultless child paths position [] = tt
connections-faultless child paths position (connection ∷ rest) =
    AllHold-append IsFaultlessPart (connection_parts child paths (connected_name (head_names child.inner.heads) position connection.name) connection.actual)
    (connections_parts child paths (position + 1) rest)
    (connection-faultless child paths (connected_name (head_names child.inner.heads) position connection.name) connection.actual) (connections-faultless child paths (position + 1) rest)

item-faultless : (modules : List SourceModule) → IsSourceUnit modules → (mode : Mode) (here : Here) → IsHere (IsModule modules) modules mode here → (gates : ℕ) (item : SourceItem) →
    IsOf here.instance.inner item → item_faults here.scope item ≡ [] →
    AllHold IsFaultlessPart (item_parts here gates item)
item-faultless modules source mode here is gates (ParameterItem group) of none = tt
item-faultless modules source mode here is gates (PortItem group) of none = declared-faultless here (PortItem group)
item-faultless modules source mode here is gates (WireItem place signed range wires) of none =
    AllHold-append IsFaultlessPart (declared_parts here (WireItem place signed range wires)) (flat_map (wire_parts here) wires) (declared-faultless here (WireItem place signed range wires))
    (AllHold-flat_map IsFaultlessPart (wire_parts here) wires (AllHold-all (λ w. AllHold IsFaultlessPart (wire_parts here w)) wires (λ (w : SourceWire). wire-faultless here w w.value)))
item-faultless modules source mode here is gates (RegItem place signed range regs) of none = declared-faultless here (RegItem place signed range regs)
item-faultless modules source mode here is gates (IntegerItem place regs) of none = declared-faultless here (IntegerItem place regs)
item-faultless modules source mode here is gates (AssignItem place assignments) of none =
    AllHold-map IsFaultlessPart (λ (a : SourceAssignment). assign_part here a.target a.value) assignments
    (AllHold-all (λ (a : SourceAssignment). IsFaultlessPart (assign_part here a.target a.value)) assignments (λ a. tt))
item-faultless modules source mode here is gates (GateItem place kind all) of none = gates-faultless here kind (gates + 1) all
item-faultless modules source mode here is gates (InstanceItem place module_name parameters instances) of none = tt
item-faultless modules source mode here is gates (InitialItem place body) of none =
    let text = source.items is.entered.0 here.instance.inner is.entered.1 (InitialItem place body) of in
    (record { selects = text.0; names = items-named here.instance.inner here.instance.given here.scope is.scope (InitialItem place body) of; sizes = none }, tt)
item-faultless modules source mode here is gates (AlwaysItem place body) of none =
    let text = source.items is.entered.0 here.instance.inner is.entered.1 (AlwaysItem place body) of in
    (record { selects = text.0; names = items-named here.instance.inner here.instance.given here.scope is.scope (AlwaysItem place body) of; sizes = none }, tt)

-- nothing is wrong with the processes of a walk
pub parts-faultless : (modules : List SourceModule) → IsSourceUnit modules → (mode : Mode) (top : SourceModule) → (i : ℕ) → slice_get modules i ≡ Some top → (parts : List Part) →
    walked_from modules mode top ≡ Ok parts → AllHold IsFaultlessPart parts
parts-faultless modules source mode top i at parts e =
    walk-holds IsFaultlessPart (IsModule modules) modules mode
    (record {
      of_item = item-faultless modules source mode;
      of_connections = λ here is inner given i of. connections-faultless (child_of here inner given) (paths_of here i) 0 i.connections;
      of_instance = tt;
      enters = enters-module modules mode;
    }) top (i, at) parts e

-- what holds of the processes among the parts holds of those that are processes of the design

abbrev pub OfBehaviour : (WalkedProcess → Type 0) → Behaviour → Type 0
OfBehaviour P (IsNode node) = Unit {0}
OfBehaviour P (IsProcess process) = P process

abbrev pub OfPart : (WalkedProcess → Type 0) → Part → Type 0
OfPart P (ProcessPart process) = P process
OfPart P _ = Unit {0}

block-of : (P : WalkedProcess → Type 0) (signals : List Signal) (process : WalkedProcess) (test : Bool) (targets : List Identifier) → P process →
    OfBehaviour P (block_or_process signals process test targets)
block-of P signals process true targets h = tt
block-of P signals process false targets h = h

process-of : (P : WalkedProcess → Type 0) (parts : List Part) (number : ℕ) (process : WalkedProcess) (targets : Option (List Identifier)) → P process →
    OfBehaviour P (process_behaviour parts number process targets)
process-of P parts number process None h = h
process-of P parts number process (Some targets) h = block-of P (signals_of parts) process _ targets h

part-of : (P : WalkedProcess → Type 0) (parts : List Part) (number : ℕ) (part : Part) → OfPart P part → AllHold (OfBehaviour P) (part_behaviour parts number part)
part-of P parts number (ProcessPart process) h = (process-of P parts number process process.targets h, tt)
part-of P parts number (AssignPart drives value) h = (tt, tt)
part-of P parts number (GatePart name kind drives path terminals) h = (tt, tt)
part-of P parts number (SignalPart signal) h = tt
part-of P parts number (MemoryPart memory) h = tt
part-of P parts number InstancePart h = tt

pub behaviours-of : (P : WalkedProcess → Type 0) (parts : List Part) (number : ℕ) (some : List Part) → AllHold (OfPart P) some →
    AllHold (OfBehaviour P) (joined (map_numbered (part_behaviour parts) number some))
behaviours-of P parts number [] h = tt
behaviours-of P parts number (part ∷ rest) h =
    AllHold-append (OfBehaviour P) (part_behaviour parts number part) (joined (map_numbered (part_behaviour parts) (number + 1) rest)) (part-of P parts number part h.0)
    (behaviours-of P parts (number + 1) rest h.1)

pub among-processes : (P : WalkedProcess → Type 0) (behaviours : List Behaviour) → AllHold (OfBehaviour P) behaviours → AllHold P (processes_of behaviours)
among-processes P [] h = tt
among-processes P (IsNode node ∷ rest) h = among-processes P rest h.1
among-processes P (IsProcess process ∷ rest) h = (h.0, among-processes P rest h.1)

pub faultless-of : (part : Part) → IsFaultlessPart part → OfPart IsFaultless part
faultless-of (ProcessPart process) h = h
faultless-of (AssignPart drives value) h = tt
faultless-of (GatePart name kind drives path terminals) h = tt
faultless-of (SignalPart signal) h = tt
faultless-of (MemoryPart memory) h = tt
faultless-of InstancePart h = tt

-- each process is sized, where its names are held by objects
pub processes-sized : (parts : List Part) (design : FlatDesign) → IsMadeOf parts design → AllHold IsFaultlessPart parts →
    AllHold (λ (process : WalkedProcess). IsMeant (meaning_in parts (objects_in parts) process)) (processes_in parts) →
    AllHold (λ (process : FlatProcess). IsSizedStatement process.body) design.processes
processes-sized parts design made faultless meant =
    let none = among-processes IsFaultless (behaviours_of parts) (behaviours-of IsFaultless parts 0 parts (AllHold-each IsFaultlessPart (OfPart IsFaultless) parts faultless-of faultless)) in
    subst (AllHold (λ (process : FlatProcess). IsSizedStatement process.body)) (design-processes parts design made)
    (AllHold-map (λ (process : FlatProcess). IsSizedStatement process.body) (flat_process parts (objects_in parts)) (processes_in parts)
    (AllHold-from (λ process. IsSizedStatement (flat_process parts (objects_in parts) process).body) (processes_in parts)
    (λ i process at.
    let text = AllHold-slice_get IsFaultless (processes_in parts) i process none at in
    let meaning = AllHold-slice_get (λ (p : WalkedProcess). IsMeant (meaning_in parts (objects_in parts) p)) (processes_in parts) i process meant at in
    statement-sound (meaning_in parts (objects_in parts) process) meaning process.body text.selects text.names text.sizes)))

-- Assignments and gates

-- what an assignment or a gate names is there, and its inputs are what it reads
pub record IsNamed (design : FlatDesign) (node : FlatNode) : Type 0 where
  pub names : IsTrue (have_widths design (named_by_node node.kind))
  pub inputs : (object : ℕ) → has node.inputs object ≡ has (node_reads node.kind node.outputs) object

kind-named : (design : FlatDesign) (parts : List Part) → IsHierarchy parts → map (λ (held : HeldObject). held.object) (objects_in parts) ≡ design.objects →
    (outputs : List NodeOutput) (function : NodeFunction) →
    IsAssignOrGate (node_kind parts (objects_in parts) outputs function) → IsTrue (have_widths design (named_by_node (node_kind parts (objects_in parts) outputs function)))
kind-named design parts hierarchy is outputs (AssignFunction value) which =
    tree-there design (holders_at parts (objects_in parts) value.path) (holders-there design parts (nodes_in parts) hierarchy is value.path) value.value
kind-named design parts hierarchy is outputs (GateFunction kind path terminals) which =
    trees-there design (holders_at parts (objects_in parts) path) (holders-there design parts (nodes_in parts) hierarchy is path) terminals
kind-named design parts hierarchy is outputs (BlockFunction process) which = absurd which

pub objects-long : (parts : List Part) (design : FlatDesign) → map (λ (held : HeldObject). held.object) (objects_in parts) ≡ design.objects → (o : ℕ) → o < length design.objects →
    o < length (objects_in parts)
objects-long parts design is o low =
    let same : length (map (λ (held : HeldObject). held.object) (objects_in parts)) ≡ length design.objects = ap length is in
    let long : length (map (λ (held : HeldObject). held.object) (objects_in parts)) ≡ length (objects_in parts) = length-map (objects_in parts) (λ (held : HeldObject). held.object) in
    omega (arith, same, long, low)

-- each assignment and each gate of a hierarchy
pub nodes-named : (parts : List Part) (design : FlatDesign) → IsMadeOf parts design → IsHierarchy parts → AllHold (λ (node : FlatNode). IsAssignOrGate node.kind → IsNamed design node) design.nodes
nodes-named parts design made hierarchy =
    each-node (λ node. IsAssignOrGate node.kind → IsNamed design node) parts design made
    (AllHold-from (λ (node : FlatNode). IsAssignOrGate node.kind → IsNamed design node) (flat_nodes_in parts)
    (λ i node at.
    let r = at-numbered (flat_node parts (objects_in parts)) 0 (nodes_in parts) i node at in
    let is = design-objects parts design made in
    subst (λ (n : FlatNode). IsAssignOrGate n.kind → IsNamed design n) r.2
    (λ which.
    let outputs = outputs_of (objects_in parts) (0 + i) in
    let kind = node_kind parts (objects_in parts) outputs r.0.function in
    let written = map (λ (o : NodeOutput). o.object) outputs in
    let named = kind-named design parts hierarchy is outputs r.0.function which in
    record {
      names = named;
      inputs = inputs-are (objects_in parts) kind written (λ o e. objects-long parts design is o (reads-within design kind written named o e which));
    })))
