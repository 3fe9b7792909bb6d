-- The processes of a flat design have bodies of items of its unit (IEEE 1364-2001, clause 9.9 for `initial` and `always`, clause 12.1 for the hierarchy).
use Rattle.std.proofs.Common.{◌≡◌, ℕ, ◌+◌, List, [], ◌∷◌, Option, Some, None, Ok}
use Rattle.std.specs.Prelude.{slice_get, filter, flat_map}
use Rattle.vf_base.specs.Base.{SourcePlace}
use Rattle.four_value.specs.declared.operator.GateKind.{GateKind}
use Rattle.vf_base.specs.Lists.{AllHold}
use Rattle.v_tree.specs.declared.item.Direction.{Direction}
use Rattle.v_tree.specs.declared.item.Direction.TheVariants.{Input, Output}
use Rattle.v_tree.specs.Trees.{Identifier, SourceExpression, SourceTarget, SourceStatement, SourceWire, SourceAssignment, SourceGate, SourceConnection, SourceItem, ParameterItem, PortItem, WireItem}
use Rattle.v_tree.specs.Trees.{RegItem, IntegerItem, AssignItem, GateItem, InstanceItem, InitialItem, AlwaysItem, SourceModule}
use Rattle.v_names.specs.Faults.{same_place}
use Rattle.v_names.specs.Scopes.{ScopeEntry, ParameterEntry, RefusedParameter, WaitingParameter, NetEntry, RegEntry, MemoryEntry, GateEntry, InstanceEntry, looked_up}
use Rattle.v_names.specs.Names.{Declaration, names_declared, of_name, item_declarations}
use Rattle.v_width.specs.Targets.{target_of}
use Rattle.v_elab.specs.declared.Mode.{Mode}
use Rattle.v_elab.specs.Parts.{WalkedProcess, Part}
use Rattle.v_elab.specs.Connections.{Child, Paths, joined_name, port_direction, actual_parts, output_parts, connection_parts, connections_parts, connected_name, head_names}
use Rattle.v_elab.specs.Walk.{Here, part_by_entry, parts_of_own, declared_parts, assign_part, wire_parts, gate_parts, item_parts, child_of, paths_of, walked_from}
use Rattle.flat_laws.specs.Numbered.{AllHold-append, AllHold-flat_map, AllHold-map, AllHold-all}
use Rattle.flat_laws.specs.Hierarchy.Processes.{OfPart}
use Rattle.flat_laws.specs.Hierarchy.Walks.{IsOf, IsHere, walk-holds}
use Rattle.flat_laws.specs.Hierarchy.Levelled.{IsModule, enters-module}

-- what holds of the body of each process that stands in a unit
pub record HoldsOfBodies (Q : SourceStatement → Type 0) (modules : List SourceModule) : Type 0 where
  pub of_initial : (i : ℕ) (m : SourceModule) → slice_get modules i ≡ Some m → (place : SourcePlace) (body : SourceStatement) → IsOf m (InitialItem place body) → Q body
  pub of_always : (i : ℕ) (m : SourceModule) → slice_get modules i ≡ Some m → (place : SourcePlace) (body : SourceStatement) → IsOf m (AlwaysItem place body) → Q body

module _ (Q : SourceStatement → Type 0) where
  abbrev P : Part → Type 0
  P part = OfPart (λ (process : WalkedProcess). Q process.body) part

  entry-of : (here : Here) (d : Declaration) (entry : Option ScopeEntry) → AllHold P (part_by_entry here d entry)
  entry-of here d None = tt
  entry-of here d (Some (NetEntry range signed)) = (tt, tt)
  entry-of here d (Some (RegEntry range signed)) = (tt, tt)
  entry-of here d (Some (MemoryEntry range first last signed)) = (tt, tt)
  entry-of here d (Some (ParameterEntry value signed)) = tt
  entry-of here d (Some RefusedParameter) = tt
  entry-of here d (Some WaitingParameter) = tt
  entry-of here d (Some GateEntry) = tt
  entry-of here d (Some InstanceEntry) = tt

  declared-of : (here : Here) (item : SourceItem) → AllHold P (declared_parts here item)
  declared-of here item =
      AllHold-flat_map P (parts_of_own here (names_declared here.instance.inner)) (item_declarations item)
      (AllHold-all (λ d. AllHold P (parts_of_own here (names_declared here.instance.inner) d)) (item_declarations item)
      (λ d.
      AllHold-flat_map P (λ (own : Declaration). part_by_entry here own (looked_up here.scope own.name))
      (filter (λ (own : Declaration). same_place own.place d.place) (of_name d.name (names_declared here.instance.inner)))
      (AllHold-all (λ (own : Declaration). AllHold P (part_by_entry here own (looked_up here.scope own.name)))
      (filter (λ (own : Declaration). same_place own.place d.place) (of_name d.name (names_declared here.instance.inner)))
      (λ own. entry-of here own (looked_up here.scope own.name)))))

  wire-of : (here : Here) (wire : SourceWire) (value : Option SourceExpression) → AllHold P (wire_parts here (record wire { value = value }))
  wire-of here wire None = tt
  wire-of here wire (Some value) = (tt, tt)

  gates-of : (here : Here) (kind : GateKind) (number : ℕ) (gates : List SourceGate) → AllHold P (gate_parts here kind number gates)
  gates-of here kind number [] = tt
  gates-of here kind number (gate ∷ rest) = (tt, gates-of here kind (number + 1) rest)

  port-of : (child : Child) (paths : Paths) (port : Identifier) (e : SourceExpression) (target : Option SourceTarget) → AllHold P (output_parts child paths port e target)
  port-of child paths port e None = tt
  port-of child paths port e (Some target) = (tt, tt)

  actual-of : (child : Child) (paths : Paths) (port : Identifier) (e : SourceExpression) (joined : Option Identifier) (direction : Option Direction) →
      AllHold P (actual_parts child paths port e joined direction)
  actual-of child paths port e (Some joined) direction = tt
  actual-of child paths port e None (Some Input) = (tt, tt)
  actual-of child paths port e None (Some Output) = port-of child paths port e (target_of e)
  actual-of child paths port e None None = tt

  connection-of : (child : Child) (paths : Paths) (port : Option Identifier) (actual : Option SourceExpression) → AllHold P (connection_parts child paths port actual)
  connection-of child paths None actual = tt
  connection-of child paths (Some port) None = tt
  connection-of child paths (Some port) (Some e) = actual-of child paths port e (joined_name child port e) (port_direction child.inner port)

  connections-of : (child : Child) (paths : Paths) (position : ℕ) (connections : List SourceConnection) → AllHold P (connections_parts child paths position connections)
  connections-of child paths position [] = tt
  connections-of child paths position (connection ∷ rest) =
      AllHold-append P (connection_parts child paths (connected_name (head_names child.inner.heads) position connection.name) connection.actual) (connections_parts child paths (position + 1) rest)
      (connection-of child paths (connected_name (head_names child.inner.heads) position connection.name) connection.actual) (connections-of child paths (position + 1) rest)

  item-of : (modules : List SourceModule) → HoldsOfBodies Q modules → (mode : Mode) (here : Here) → IsHere (IsModule modules) modules mode here → (gates : ℕ) (item : SourceItem) →
      IsOf here.instance.inner item → AllHold P (item_parts here gates item)
  item-of modules holds mode here is gates (ParameterItem group) of = tt
  item-of modules holds mode here is gates (PortItem group) of = declared-of here (PortItem group)
  item-of modules holds mode here is gates (WireItem place signed range wires) of =
      AllHold-append P (declared_parts here (WireItem place signed range wires)) (flat_map (wire_parts here) wires) (declared-of here (WireItem place signed range wires))
      (AllHold-flat_map P (wire_parts here) wires (AllHold-all (λ w. AllHold P (wire_parts here w)) wires (λ (w : SourceWire). wire-of here w w.value)))
  item-of modules holds mode here is gates (RegItem place signed range regs) of = declared-of here (RegItem place signed range regs)
  item-of modules holds mode here is gates (IntegerItem place regs) of = declared-of here (IntegerItem place regs)
  item-of modules holds mode here is gates (AssignItem place assignments) of =
      AllHold-map P (λ (a : SourceAssignment). assign_part here a.target a.value) assignments (AllHold-all (λ (a : SourceAssignment). P (assign_part here a.target a.value)) assignments (λ a. tt))
  item-of modules holds mode here is gates (GateItem place kind all) of = gates-of here kind (gates + 1) all
  item-of modules holds mode here is gates (InstanceItem place module_name parameters instances) of = tt
  item-of modules holds mode here is gates (InitialItem place body) of = (holds.of_initial is.entered.0 here.instance.inner is.entered.1 place body of, tt)
  item-of modules holds mode here is gates (AlwaysItem place body) of = (holds.of_always is.entered.0 here.instance.inner is.entered.1 place body of, tt)

  -- it holds of each process of a walk
  pub walked-bodies : (modules : List SourceModule) → HoldsOfBodies Q modules → (mode : Mode) (top : SourceModule) → (i : ℕ) → slice_get modules i ≡ Some top → (parts : List Part) →
      walked_from modules mode top ≡ Ok parts → AllHold (OfPart (λ (process : WalkedProcess). Q process.body)) parts
  walked-bodies modules holds mode top i at parts e =
      walk-holds P (IsModule modules) modules mode
      (record {
        of_item = λ here is gates item of none. item-of modules holds mode here is gates item of;
        of_connections = λ here is inner given i of. connections-of (child_of here inner given) (paths_of here i) 0 i.connections;
        of_instance = tt;
        enters = enters-module modules mode;
      }) top (i, at) parts e
