-- No net, variable or memory of a walk is wider than a vector may be (IEEE 1364-2001, clause 3.3; the most bits are own).
use Rattle.std.proofs.Common.{◌≡◌, ℕ, suc, ◌+◌, ◌≤◌, true, false, List, [], ◌∷◌, Option, Some, None, Ok, option_map, refl, sym, ap, ◌∙◌, subst, arith}
use Rattle.std.specs.Prelude.{slice_get, filter, flat_map}
use Rattle.four_value.specs.declared.operator.GateKind.{GateKind}
use Rattle.vf_base.specs.Lists.{AllHold}
use Rattle.v_design.specs.Sized.{most_bits}
use Rattle.v_tree.specs.declared.item.Direction.{Direction}
use Rattle.v_tree.specs.declared.item.Direction.TheVariants.{Input, Output}
use Rattle.v_tree.specs.Trees.{Identifier, SourceExpression, SourceTarget, SourceWire, SourceAssignment, SourceGate, SourceConnection, SourceItem, ParameterItem, PortItem, WireItem, RegItem}
use Rattle.v_tree.specs.Trees.{IntegerItem, AssignItem, GateItem, InstanceItem, InitialItem, AlwaysItem, SourceModule}
use Rattle.v_names.specs.Faults.{same_place}
use Rattle.v_names.specs.Scopes.{ScopeEntry, ParameterEntry, RefusedParameter, WaitingParameter, NetEntry, RegEntry, MemoryEntry, GateEntry, InstanceEntry, Scope, looked_up, range_width}
use Rattle.v_names.specs.Scopes.{declared_width, is_parameter}
use Rattle.v_names.specs.Names.{Declared, DeclaredParameter, DeclaredPort, DeclaredNet, DeclaredReg, DeclaredMemory, DeclaredGate, DeclaredInstance, Declaration, names_declared, of_name}
use Rattle.v_names.specs.Names.{item_declarations, GivenParameter, parameter_of, meaning_of, given_of, scope_of, module_name_faults, names}
use Rattle.v_width.specs.Targets.{target_of}
use Rattle.v_elab.specs.declared.Mode.{Mode}
use Rattle.v_elab.specs.Parts.{Signal, WalkedMemory, Part, SignalPart, MemoryPart}
use Rattle.v_elab.specs.Connections.{Child, Paths, joined_name, port_direction, actual_parts, output_parts, connection_parts, connections_parts, connected_name, head_names}
use Rattle.v_elab.specs.Refusals.{as_refusal, then_go}
use Rattle.v_elab.specs.ItemFaults.{item_faults}
use Rattle.v_elab.specs.Walk.{Entered, Here, part_by_entry, parts_of_own, declared_parts, assign_part, wire_parts, gate_parts, item_parts, child_of, paths_of, walked_from}
use Rattle.v_elab.specs.Walk.{Walker, checked_item, added, walked_item, walked_module, walked}
use Rattle.graph_order.specs.ListLaws.{AllHold-slice_get}
use Rattle.flat_laws.specs.Numbered.{AllHold-append, AllHold-flat_map, AllHold-map, AllHold-all}
use Rattle.flat_laws.specs.Hierarchy.Processes.{unless_faulty-ok}
use Rattle.flat_laws.specs.Made.{then_go-ok}
use Rattle.flat_laws.specs.Hierarchy.Walks.{IsOf, as_refusal-ok, checked_item-ok, walk-holds}
use Rattle.flat_laws.specs.Hierarchy.Visited.{walked-grows, module-at}
use Rattle.flat_laws.specs.Hierarchy.Visits.{IsVisited, at_top, below}
use Rattle.flat_laws.specs.Names.Placed.{is-parameter}
use Rattle.flat_laws.specs.Names.Rounds.{found-in, scope-fixed}
use Rattle.v_names.specs.Meanings.{found, in-meanings}
use Rattle.flat_laws.specs.Names.Faultless.{IsFaultless, bounds-fit, item-faultless, module-faultless}

-- Scopes

parameter-narrow : (entry : ScopeEntry) → is_parameter (Some entry) ≡ true → declared_width (Some entry) ≤ most_bits
parameter-narrow (ParameterEntry value signed) e = omega arith
parameter-narrow RefusedParameter e = omega arith
parameter-narrow WaitingParameter e = omega arith
parameter-narrow (NetEntry range signed) e = absurd (cc)
parameter-narrow (RegEntry range signed) e = absurd (cc)
parameter-narrow (MemoryEntry range first last signed) e = absurd (cc)
parameter-narrow GateEntry e = absurd (cc)
parameter-narrow InstanceEntry e = absurd (cc)

meaning-narrow : (scope : Scope) (given : List GivenParameter) (name : Identifier) (d : Declared) → IsFaultless scope d → declared_width (Some (meaning_of scope given name d)) ≤ most_bits
meaning-narrow scope given name (DeclaredParameter is_local signed bounds value) h =
    parameter-narrow (parameter_of scope signed bounds value (given_of given name)) (is-parameter scope signed bounds value (given_of given name))
meaning-narrow scope given name (DeclaredPort direction true signed bounds first) h = bounds-fit scope bounds h
meaning-narrow scope given name (DeclaredPort direction false signed bounds first) h = bounds-fit scope bounds h
meaning-narrow scope given name (DeclaredNet signed bounds) h = bounds-fit scope bounds h
meaning-narrow scope given name (DeclaredReg signed bounds first) h = bounds-fit scope bounds h
meaning-narrow scope given name (DeclaredMemory signed bounds addresses) h = bounds-fit scope bounds h
meaning-narrow scope given name DeclaredGate h = omega arith
meaning-narrow scope given name DeclaredInstance h = omega arith

option-narrow : (f : Declaration → ScopeEntry) (d : Option Declaration) → ((x : Declaration) → d ≡ Some x → declared_width (Some (f x)) ≤ most_bits) → declared_width (option_map f d) ≤ most_bits
option-narrow f None h = omega arith
option-narrow f (Some x) h = h x refl

module-narrow : (m : SourceModule) (given : List GivenParameter) → ((number : ℕ) (d : Declaration) → slice_get (names_declared m) number ≡ Some d → IsFaultless (scope_of m given) d.declared) →
    (name : Identifier) →
    declared_width (looked_up (scope_of m given) name) ≤ most_bits
module-narrow m given faultless name =
    let scope = scope_of m given in
    let all = names_declared m in
    let own : looked_up scope name ≡ option_map (λ (d : Declaration). meaning_of scope given d.name d.declared) (found all name) = ap (λ s. looked_up s name) (scope-fixed m given)
    ∙ in-meanings scope given all name in
    subst (λ (entry : Option ScopeEntry). declared_width entry ≤ most_bits) (sym own)
    (option-narrow (λ (d : Declaration). meaning_of scope given d.name d.declared) (found all name)
    (λ d e. let place = found-in all name d e in meaning-narrow scope given d.name d.declared (faultless place.0 d place.1)))

-- no name of a module is wider than a vector may be, if nothing is wrong with its items
names-narrow : (m : SourceModule) (given : List GivenParameter) (scope : Scope) → names m given ≡ Ok scope → ((item : SourceItem) → IsOf m item → item_faults scope item ≡ []) →
    (name : Identifier) → declared_width (looked_up scope name) ≤ most_bits
names-narrow m given scope named none name =
    let scope_is : scope_of m given ≡ scope = (unless_faulty-ok (module_name_faults (scope_of m given) m) (scope_of m given) scope named).1 in
    let faultless = module-faultless m given scope named none in
    subst (λ (s : Scope). declared_width (looked_up s name) ≤ most_bits) scope_is
    (module-narrow m given (subst (λ (s : Scope). (number : ℕ) (d : Declaration) → slice_get (names_declared m) number ≡ Some d → IsFaultless s d.declared) (sym scope_is) faultless) name)

plain-clean : (here : Here) (gates : ℕ) (item : SourceItem) (parts result : List Part) → then_go (checked_item here gates item) (added parts) ≡ Ok result → item_faults here.scope item ≡ []
plain-clean here gates item parts result e = let step = then_go-ok (checked_item here gates item) (added parts) result e in (checked_item-ok here gates item step.0 step.1).0

-- nothing is wrong with an item that is walked
item-clean : (walker : Walker) (here : Here) (gates : ℕ) (item : SourceItem) (parts result : List Part) → walked_item walker here gates item parts ≡ Ok result → item_faults here.scope item ≡ []
item-clean walker here gates (InstanceItem place module_name parameters instances) parts result e = refl
item-clean walker here gates (ParameterItem group) parts result e = plain-clean here gates (ParameterItem group) parts result e
item-clean walker here gates (PortItem group) parts result e = plain-clean here gates (PortItem group) parts result e
item-clean walker here gates (WireItem place signed range wires) parts result e = plain-clean here gates (WireItem place signed range wires) parts result e
item-clean walker here gates (RegItem place signed range regs) parts result e = plain-clean here gates (RegItem place signed range regs) parts result e
item-clean walker here gates (IntegerItem place regs) parts result e = plain-clean here gates (IntegerItem place regs) parts result e
item-clean walker here gates (AssignItem place assignments) parts result e = plain-clean here gates (AssignItem place assignments) parts result e
item-clean walker here gates (GateItem place kind all) parts result e = plain-clean here gates (GateItem place kind all) parts result e
item-clean walker here gates (InitialItem place body) parts result e = plain-clean here gates (InitialItem place body) parts result e
item-clean walker here gates (AlwaysItem place body) parts result e = plain-clean here gates (AlwaysItem place body) parts result e

-- no name of an instance that is walked is wider than a vector may be
pub walked-narrow : (modules : List SourceModule) (mode : Mode) (levels : ℕ) (instance : Entered) (before after : List Part) → walked modules mode (suc levels) instance before ≡ Ok after →
    (name : Identifier) → declared_width (looked_up (scope_of instance.inner instance.given) name) ≤ most_bits
walked-narrow modules mode levels instance before after e name =
    let m = instance.inner in
    let walker = walked modules mode levels in
    let step = then_go-ok (as_refusal (names m instance.given)) (λ scope. walked_module walker (record { modules = modules; mode = mode; instance = instance; scope = scope }) m before) after e in
    let named = as_refusal-ok (names m instance.given) step.0 step.1 in
    let here : Here = record { modules = modules; mode = mode; instance = instance; scope = step.0 } in
    let scope_is : scope_of m instance.given ≡ step.0 = (unless_faulty-ok (module_name_faults (scope_of m instance.given) m) (scope_of m instance.given) step.0 named).1 in
    subst (λ (s : Scope). declared_width (looked_up s name) ≤ most_bits) (sym scope_is)
    (names-narrow m instance.given step.0 named
    (λ item of. let at = module-at walker (walked-grows modules mode levels) here m before after step.2 item of in item-clean walker here at.gates item at.before at.after at.is) name)

-- no name of an instance that a walk comes to is wider than a vector may be
pub scope-narrow : (modules : List SourceModule) (mode : Mode) (top : SourceModule) (parts : List Part) → walked_from modules mode top ≡ Ok parts → (instance : Entered) →
    IsVisited modules mode top instance → (scope : Scope) →
    names instance.inner instance.given ≡ Ok scope → (name : Identifier) → declared_width (looked_up scope name) ≤ most_bits
scope-narrow modules mode top parts e instance visited scope named name =
    names-narrow instance.inner instance.given scope named (item-faultless modules mode top parts e instance visited scope named) name

-- Parts

abbrev pub IsNarrow : Part → Type 0
IsNarrow (SignalPart signal) = range_width signal.range ≤ most_bits
IsNarrow (MemoryPart memory) = range_width memory.range ≤ most_bits
IsNarrow _ = Unit {0}

entry-narrow : (here : Here) (d : Declaration) (entry : Option ScopeEntry) → declared_width entry ≤ most_bits → AllHold IsNarrow (part_by_entry here d entry)
entry-narrow here d None h = tt
entry-narrow here d (Some (NetEntry range signed)) h = (h, tt)
entry-narrow here d (Some (RegEntry range signed)) h = (h, tt)
entry-narrow here d (Some (MemoryEntry range first last signed)) h = (h, tt)
entry-narrow here d (Some (ParameterEntry value signed)) h = tt
entry-narrow here d (Some RefusedParameter) h = tt
entry-narrow here d (Some WaitingParameter) h = tt
entry-narrow here d (Some GateEntry) h = tt
entry-narrow here d (Some InstanceEntry) h = tt

-- the names of a scope are narrow
abbrev AreNarrow : Scope → Type 0
AreNarrow scope = (name : Identifier) → declared_width (looked_up scope name) ≤ most_bits

declared-narrow : (here : Here) → AreNarrow here.scope → (item : SourceItem) → AllHold IsNarrow (declared_parts here item)
declared-narrow here narrow item =
    AllHold-flat_map IsNarrow (parts_of_own here (names_declared here.instance.inner)) (item_declarations item)
    (AllHold-all (λ d. AllHold IsNarrow (parts_of_own here (names_declared here.instance.inner) d)) (item_declarations item)
    (λ d.
    AllHold-flat_map IsNarrow (λ (own : Declaration). part_by_entry here own (looked_up here.scope own.name))
    (filter (λ (own : Declaration). same_place own.place d.place) (of_name d.name (names_declared here.instance.inner)))
    (AllHold-all (λ (own : Declaration). AllHold IsNarrow (part_by_entry here own (looked_up here.scope own.name)))
    (filter (λ (own : Declaration). same_place own.place d.place) (of_name d.name (names_declared here.instance.inner)))
    (λ own. entry-narrow here own (looked_up here.scope own.name) (narrow own.name)))))

wire-narrow : (here : Here) (wire : SourceWire) (value : Option SourceExpression) → AllHold IsNarrow (wire_parts here (record wire { value = value }))
wire-narrow here wire None = tt
wire-narrow here wire (Some value) = (tt, tt)

gates-narrow : (here : Here) (kind : GateKind) (number : ℕ) (gates : List SourceGate) → AllHold IsNarrow (gate_parts here kind number gates)
gates-narrow here kind number [] = tt
gates-narrow here kind number (gate ∷ rest) = (tt, gates-narrow here kind (number + 1) rest)

item-narrow : (here : Here) → AreNarrow here.scope → (gates : ℕ) (item : SourceItem) → AllHold IsNarrow (item_parts here gates item)
item-narrow here narrow gates (ParameterItem group) = tt
item-narrow here narrow gates (PortItem group) = declared-narrow here narrow (PortItem group)
item-narrow here narrow gates (WireItem place signed range wires) =
    AllHold-append IsNarrow (declared_parts here (WireItem place signed range wires)) (flat_map (wire_parts here) wires) (declared-narrow here narrow (WireItem place signed range wires))
    (AllHold-flat_map IsNarrow (wire_parts here) wires (AllHold-all (λ w. AllHold IsNarrow (wire_parts here w)) wires (λ (w : SourceWire). wire-narrow here w w.value)))
item-narrow here narrow gates (RegItem place signed range regs) = declared-narrow here narrow (RegItem place signed range regs)
item-narrow here narrow gates (IntegerItem place regs) = declared-narrow here narrow (IntegerItem place regs)
item-narrow here narrow gates (AssignItem place assignments) =
    AllHold-map IsNarrow (λ (a : SourceAssignment). assign_part here a.target a.value) assignments
    (AllHold-all (λ (a : SourceAssignment). IsNarrow (assign_part here a.target a.value)) assignments (λ a. tt))
item-narrow here narrow gates (GateItem place kind all) = gates-narrow here kind (gates + 1) all
item-narrow here narrow gates (InstanceItem place module_name parameters instances) = tt
item-narrow here narrow gates (InitialItem place body) = (tt, tt)
item-narrow here narrow gates (AlwaysItem place body) = (tt, tt)

port-narrow : (child : Child) (paths : Paths) (port : Identifier) (e : SourceExpression) (target : Option SourceTarget) → AllHold IsNarrow (output_parts child paths port e target)
port-narrow child paths port e None = tt
port-narrow child paths port e (Some target) = (tt, tt)

actual-narrow : (child : Child) (paths : Paths) (port : Identifier) (e : SourceExpression) (joined : Option Identifier) (direction : Option Direction) →
    AllHold IsNarrow (actual_parts child paths port e joined direction)
actual-narrow child paths port e (Some joined) direction = tt
actual-narrow child paths port e None (Some Input) = (tt, tt)
actual-narrow child paths port e None (Some Output) = port-narrow child paths port e (target_of e)
actual-narrow child paths port e None None = tt

connection-narrow : (child : Child) (paths : Paths) (port : Option Identifier) (actual : Option SourceExpression) → AllHold IsNarrow (connection_parts child paths port actual)
connection-narrow child paths None actual = tt
connection-narrow child paths (Some port) None = tt
connection-narrow child paths (Some port) (Some e) = actual-narrow child paths port e (joined_name child port e) (port_direction child.inner port)

connections-narrow : (child : Child) (paths : Paths) (position : ℕ) (connections : List SourceConnection) → AllHold IsNarrow (connections_parts child paths position connections)
connections-narrow child paths position [] = tt
connections-narrow child paths position (connection ∷ rest) =
    AllHold-append IsNarrow (connection_parts child paths (connected_name (head_names child.inner.heads) position connection.name) connection.actual)
    (connections_parts child paths (position + 1) rest)
    (connection-narrow child paths (connected_name (head_names child.inner.heads) position connection.name) connection.actual) (connections-narrow child paths (position + 1) rest)

parts-narrow : (modules : List SourceModule) (mode : Mode) (top : SourceModule) (parts : List Part) → walked_from modules mode top ≡ Ok parts → AllHold IsNarrow parts
parts-narrow modules mode top parts e =
    walk-holds IsNarrow (IsVisited modules mode top) modules mode
    (record {
      of_item = λ here is gates item of none. item-narrow here (scope-narrow modules mode top parts e here.instance is.entered here.scope is.scope) gates item;
      of_connections = λ here is inner given i of. connections-narrow (child_of here inner given) (paths_of here i) 0 i.connections;
      of_instance = tt;
      enters = λ here is inner given i of. below here is.scope is.same_modules is.same_mode is.entered inner given i of;
    }) top at_top parts e

-- the nets, variables and memories of a walk have at most as many bits as a vector may have
pub record AreWithin (parts : List Part) : Type 0 where
  pub signals : (i : ℕ) (signal : Signal) → slice_get parts i ≡ Some (SignalPart signal) → range_width signal.range ≤ most_bits
  pub memories : (i : ℕ) (memory : WalkedMemory) → slice_get parts i ≡ Some (MemoryPart memory) → range_width memory.range ≤ most_bits

pub walk-widths : (modules : List SourceModule) (mode : Mode) (top : SourceModule) (parts : List Part) → walked_from modules mode top ≡ Ok parts → AreWithin parts
walk-widths modules mode top parts e =
    let narrow = parts-narrow modules mode top parts e in
    record {
      signals = λ i signal at. AllHold-slice_get IsNarrow parts i (SignalPart signal) narrow at;
      memories = λ i memory at. AllHold-slice_get IsNarrow parts i (MemoryPart memory) narrow at;
    }
