-- The walk through the hierarchy from the top: items in text order, an instance standing for its connections and all of its module's items (IEEE 1364-2001, clause 12.1).
use Rattle.std.specs.Prelude.{ℕ, zero, suc, ◌+◌, Bool, true, false, List, [], ◌∷◌, ◌++◌, map, filter, flat_map, length, codes, decimal, Option, Some, None, Result, Ok, Err}
use Rattle.vf_base.specs.Base.{SourcePlace}
use Rattle.four_value.specs.Values.{LogicValue, resized}
use Rattle.four_value.specs.declared.operator.GateKind.{GateKind}
use Rattle.v_tree.specs.Trees.{Identifier, SourceExpression, SourceTarget, SourceStatement, NamedPlace, SourceWire, SourceAssignment, SourceGate, SourceConnection, SourceInstance, SourceItem}
use Rattle.v_tree.specs.Trees.{ParameterItem, PortItem, WireItem, RegItem, IntegerItem, AssignItem, GateItem, InstanceItem, InitialItem, AlwaysItem, SourceHeads, PlainHeads, DeclaredHeads}
use Rattle.v_tree.specs.Trees.{SourceModule, same_name}
use Rattle.v_elab.specs.declared.Mode.{Mode}
use Rattle.v_elab.specs.declared.Mode.TheVariants.{Usual, Strict}
use Rattle.v_names.specs.Faults.{UnknownName, WrongKind, Fault, fault_at, fault_if, same_place}
use Rattle.v_elab.specs.Refusals.{as_refusal, Refusal, Faulty, then_go, unless_refused, checked}
use Rattle.v_names.specs.Scopes.{SignedValue, DeclaredRange, ScopeEntry, NetEntry, RegEntry, MemoryEntry, Scope, looked_up, range_width}
use Rattle.v_names.specs.Readings.{is_empty, constant_of, reading_of, tree_in}
use Rattle.v_names.specs.SizedTrees.{SizedExpressions, no_sized, more_sized}
use Rattle.v_names.specs.Names.{Declared, DeclaredPort, DeclaredReg, Declaration, names_declared, of_name, is_port, item_declarations, GivenParameter, scope_of, names}
use Rattle.v_width.specs.Targets.{ByNode, target_width_in}
use Rattle.v_elab.specs.Blocks.{block_targets}
use Rattle.v_elab.specs.ItemFaults.{item_faults, wire_select}
use Rattle.v_elab.specs.Parts.{Joining, Part, SignalPart, MemoryPart, AssignPart, GatePart, ProcessPart, InstancePart, too_many_parts}
use Rattle.v_elab.specs.ReadCounts.{reads_refused, item_reads, connections_reads}
use Rattle.v_elab.specs.Connections.{most_depth, open_parameters, given_faults, given_parameters, Child, instance_faults, PortJoined, Paths, drives_of, connections_parts, connections_joins}

-- an instance that is walked: its module with the parameters that are given, its path, its depth, and its ports that are joined
pub record Entered : Type 0 where
  pub inner : SourceModule
  pub given : List GivenParameter
  pub path : Identifier
  pub depth : ℕ
  pub joins : List PortJoined

-- the instance whose items are walked, with its scope, among all modules
pub record Here : Type 0 where
  pub modules : List SourceModule
  pub mode : Mode
  pub instance : Entered
  pub scope : Scope

-- Declarations

abbrev pub joining_if : Bool → Joining → Option Joining → Option Joining
joining_if true joining other = Some joining
joining_if false joining other = other

-- how a port is joined
abbrev pub joining_of : List PortJoined → Identifier → Option Joining
joining_of [] name = None
joining_of (first ∷ joins) name = joining_if (same_name first.port name) first.joining (joining_of joins name)

abbrev pub first_content_of : Declared → Option SourceExpression
first_content_of (DeclaredPort direction is_reg signed bounds first) = first
first_content_of (DeclaredReg signed bounds first) = first
first_content_of _ = None

abbrev pub content_value : ℕ → Option SignedValue → Option LogicValue
content_value width None = None
content_value width (Some c) = Some (resized c.signed width c.value)

-- the first content of a variable, sized for it
abbrev pub content_of : Scope → ℕ → Option SourceExpression → Option LogicValue
content_of scope width None = None
content_of scope width (Some e) = content_value width (constant_of scope width e)

abbrev pub signal_part : Here → Declaration → Bool → DeclaredRange → Part
signal_part here d is_reg range = SignalPart (record {
  name = here.instance.path ++ d.name;
  is_reg = is_reg;
  range = range;
  first = content_of here.scope (range_width range) (first_content_of d.declared);
  place = d.place;
  depth = here.instance.depth;
  joined = joining_of here.instance.joins d.name;
})

abbrev pub part_by_entry : Here → Declaration → Option ScopeEntry → List Part
part_by_entry here d (Some (NetEntry range signed)) = signal_part here d false range ∷ []
part_by_entry here d (Some (RegEntry range signed)) = signal_part here d true range ∷ []
part_by_entry here d (Some (MemoryEntry range first last signed)) = MemoryPart (record { name = here.instance.path ++ d.name; range = range; first = first; last = last; place = d.place }) ∷ []
part_by_entry here d _ = []

abbrev pub parts_of_own : Here → List Declaration → Declaration → List Part
parts_of_own here declared d = flat_map (λ (own : Declaration). part_by_entry here own (looked_up here.scope own.name))
    (filter (λ (own : Declaration). same_place own.place d.place) (of_name d.name declared))

-- the nets, variables and memories that an item declares first
abbrev pub declared_parts : Here → SourceItem → List Part
declared_parts here item = flat_map (parts_of_own here (names_declared here.instance.inner)) (item_declarations item)

-- Nodes and processes

-- a target is assigned a value, sized by the larger of both
abbrev pub assign_part : Here → SourceTarget → SourceExpression → Part
assign_part here target value =
    AssignPart (drives_of here.instance.path here.scope target)
    (record { path = here.instance.path; value = tree_in (target_width_in ByNode here.scope target) (reading_of here.scope value) })

abbrev pub wire_parts : Here → SourceWire → List Part
wire_parts here wire = by_value wire.value
  where
    by_value : Option SourceExpression → List Part
    by_value None = []
    by_value (Some value) = assign_part here (wire_select wire) value ∷ []

abbrev pub terminals_of : Scope → List SourceExpression → SizedExpressions
terminals_of scope [] = no_sized
terminals_of scope (e ∷ rest) = more_sized (tree_in 1 (reading_of scope e)) (terminals_of scope rest)

-- a gate without a name has its number among its module's gates, from 1
abbrev pub gate_name : ℕ → Option NamedPlace → Identifier
gate_name number None = codes "$g" ++ decimal number
gate_name number (Some n) = n.name

abbrev pub gate_parts : Here → GateKind → ℕ → List SourceGate → List Part
gate_parts here kind number [] = []
gate_parts here kind number (gate ∷ rest) =
    GatePart (here.instance.path ++ gate_name number gate.name) kind (drives_of here.instance.path here.scope gate.output) here.instance.path (terminals_of here.scope gate.inputs)
    ∷ gate_parts here kind (number + 1) rest

-- in strict mode every block is a process
abbrev pub targets_by_mode : Mode → Bool → Scope → SourceStatement → Option (List Identifier)
targets_by_mode Usual true scope body = block_targets scope body
targets_by_mode Usual false scope body = None
targets_by_mode Strict always scope body = None

abbrev pub process_part : Here → Bool → SourcePlace → SourceStatement → Part
process_part here always place body = ProcessPart (record {
  always = always;
  place = place;
  path = here.instance.path;
  scope = here.scope;
  body = body;
  targets = targets_by_mode here.mode always here.scope body;
})

-- the parts of an item that is no instance; the gates before it are counted
abbrev pub item_parts : Here → ℕ → SourceItem → List Part
item_parts here gates (ParameterItem group) = []
item_parts here gates (PortItem group) = declared_parts here (PortItem group)
item_parts here gates (WireItem place signed range wires) = declared_parts here (WireItem place signed range wires) ++ flat_map (wire_parts here) wires
item_parts here gates (RegItem place signed range regs) = declared_parts here (RegItem place signed range regs)
item_parts here gates (IntegerItem place regs) = declared_parts here (IntegerItem place regs)
item_parts here gates (AssignItem place assignments) = map (λ (a : SourceAssignment). assign_part here a.target a.value) assignments
item_parts here gates (GateItem place kind all) = gate_parts here kind (gates + 1) all
item_parts here gates (InstanceItem place module_name parameters instances) = []
item_parts here gates (InitialItem place body) = process_part here false place body ∷ []
item_parts here gates (AlwaysItem place body) = process_part here true place body ∷ []

abbrev pub gates_in : SourceItem → ℕ
gates_in (GateItem place kind all) = length all
gates_in _ = 0

-- The walk: each item gives its first fault, or a node that reads too many objects, or its parts; then each count is held against its limit

-- the parts of an item of which nothing is wrong and whose nodes read few objects
abbrev pub checked_item : Here → ℕ → SourceItem → Result (List Part) Refusal
checked_item here gates item = then_go (checked (item_faults here.scope item) (item_parts here gates item)) (unless_refused (reads_refused here.scope (item_reads here.mode here.scope item)))

-- the parts so far and those of an item
abbrev pub added : List Part → List Part → Result (List Part) Refusal
added parts more = unless_refused (too_many_parts (parts ++ more)) (parts ++ more)

-- how an instance is walked, behind the parts so far
abbrev pub Walker : Type 0
Walker = Entered → List Part → Result (List Part) Refusal

abbrev pub child_of : Here → SourceModule → List GivenParameter → Child
child_of here inner given = record { inner = inner; inner_scope = scope_of inner given; outer_scope = here.scope }

abbrev pub paths_of : Here → SourceInstance → Paths
paths_of here i = record { inner = (here.instance.path ++ i.name) ++ codes "."; outer = here.instance.path }

abbrev pub entered : Here → SourceModule → List GivenParameter → SourceInstance → Entered
entered here inner given i = record {
  inner = inner;
  given = given;
  path = (paths_of here i).inner;
  depth = here.instance.depth + 1;
  joins = connections_joins (child_of here inner given) (paths_of here i) 0 i.connections;
}

-- an instance and the assignments of its connections
abbrev pub instance_parts : Here → SourceModule → List GivenParameter → SourceInstance → List Part
instance_parts here inner given i = InstancePart ∷ connections_parts (child_of here inner given) (paths_of here i) 0 i.connections

-- the same, where these read few objects
abbrev pub checked_instance : Here → SourceModule → List GivenParameter → SourceInstance → Result (List Part) Refusal
checked_instance here inner given i = unless_refused (reads_refused here.scope (connections_reads (child_of here inner given) 0 i.connections)) (instance_parts here inner given i)

-- an instance and the assignments of its connections, and then what stands in it
abbrev pub walked_instance : Walker → Here → SourceModule → List GivenParameter → SourceInstance → List Part → Result (List Part) Refusal
walked_instance walker here inner given i parts = then_go (then_go (checked_instance here inner given i) (added parts)) (walker (entered here inner given i))

abbrev pub walked_instances : Walker → Here → SourceModule → List GivenParameter → List SourceInstance → List Part → Result (List Part) Refusal
walked_instances walker here inner given [] parts = Ok parts
walked_instances walker here inner given (i ∷ rest) parts = then_go (walked_instance walker here inner given i parts) (walked_instances walker here inner given rest)

abbrev pub module_if : Bool → SourceModule → Option SourceModule → Option SourceModule
module_if true m other = Some m
module_if false m other = other

-- the module of a name
abbrev pub module_named : List SourceModule → Identifier → Option SourceModule
module_named [] name = None
module_named (m ∷ modules) name = module_if (same_name m.name name) m (module_named modules name)

abbrev pub instance_item_faults : Here → SourceModule → List SourceConnection → List SourceInstance → List Fault
instance_item_faults here inner parameters instances =
    let order = open_parameters inner in
    let child = child_of here inner (given_parameters here.scope order 0 parameters) in
    given_faults here.scope order 0 [] parameters ++ flat_map (instance_faults child (here.instance.depth + 1)) instances

abbrev pub walked_instance_item : Walker → Here → Option SourceModule → SourcePlace → List SourceConnection → List SourceInstance → List Part → Result (List Part) Refusal
walked_instance_item walker here None place parameters instances parts = Err (Faulty (fault_at place UnknownName))
walked_instance_item walker here (Some inner) place parameters instances parts =
    then_go (checked (instance_item_faults here inner parameters instances) (given_parameters here.scope (open_parameters inner) 0 parameters))
    (λ given. walked_instances walker here inner given instances parts)

abbrev pub walked_item : Walker → Here → ℕ → SourceItem → List Part → Result (List Part) Refusal
walked_item walker here gates (InstanceItem place module_name parameters instances) parts =
    walked_instance_item walker here (module_named here.modules module_name) place parameters instances parts
walked_item walker here gates item parts = then_go (checked_item here gates item) (added parts)

abbrev pub walked_items : Walker → Here → ℕ → List SourceItem → List Part → Result (List Part) Refusal
walked_items walker here gates [] parts = Ok parts
walked_items walker here gates (item ∷ rest) parts = then_go (walked_item walker here gates item parts) (walked_items walker here (gates + gates_in item) rest)

-- the ports that are declared in the list of ports
abbrev pub head_items : SourceHeads → List SourceItem
head_items (PlainHeads names) = []
head_items (DeclaredHeads groups) = map PortItem groups

-- a name in a plain list of ports that is declared as something else
abbrev pub not_port_faults : SourceModule → SourceHeads → List Fault
not_port_faults m (DeclaredHeads groups) = []
not_port_faults m (PlainHeads names) =
    flat_map (λ (n : NamedPlace). fault_if (is_empty (filter (λ (d : Declaration). is_port d.declared) (of_name n.name (names_declared m)))) n.place WrongKind) names

-- the parameters of a module's head, its ports, then its items
abbrev pub walked_module : Walker → Here → SourceModule → List Part → Result (List Part) Refusal
walked_module walker here m parts =
    then_go (walked_items walker here 0 (map ParameterItem m.parameters) parts)
    (λ behind. then_go (checked (not_port_faults m m.heads) behind)
    (walked_items walker here 0 (head_items m.heads ++ m.items)))

-- an instance with at most so many levels below it
abbrev pub walked : List SourceModule → Mode → ℕ → Walker
walked modules mode zero instance parts = Ok parts
walked modules mode (suc levels) instance parts =
    then_go (as_refusal (names instance.inner instance.given))
    (λ scope. walked_module (walked modules mode levels) (record { modules = modules; mode = mode; instance = instance; scope = scope }) instance.inner parts)

-- the whole design from its top; no instance stands deeper than the levels reach, since it is refused before
abbrev pub walked_from : List SourceModule → Mode → SourceModule → Result (List Part) Refusal
walked_from modules mode top = walked modules mode (most_depth + 1) (record { inner = top; given = []; path = []; depth = 0; joins = [] }) []
