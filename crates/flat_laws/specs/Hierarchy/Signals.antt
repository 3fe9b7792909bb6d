-- The nets and variables of a walk: their first contents have their widths, they stand no deeper than instances may, and joined ones are joined with what has their width
-- (IEEE 1364-2001, clause 6.2.1 for first contents, clause 12.3 for ports).
use Rattle.std.proofs.Common.{◌≡◌, ℕ, ◌+◌, ◌<◌, ◌≤◌, List, [], ◌∷◌, length, Option, Some, None, Ok, refl, sym, ap, ◌∙◌, subst, arith}
use Rattle.std.specs.Prelude.{filter, flat_map}
use Rattle.four_value.specs.Values.{LogicValue, resized}
use Rattle.four_value.specs.ValueLaws.{length-resized}
use Rattle.four_value.specs.declared.operator.GateKind.{GateKind}
use Rattle.vf_base.specs.Lists.{AllHold}
use Rattle.v_tree.specs.declared.item.Direction.{Direction}
use Rattle.v_tree.specs.declared.item.Direction.TheVariants.{Input, Output}
use Rattle.v_tree.specs.Trees.{Identifier, SourceExpression, SourceTarget, SourceWire, SourceAssignment, SourceGate, SourceConnection, SourceInstance, SourceItem, ParameterItem, PortItem, WireItem}
use Rattle.v_tree.specs.Trees.{RegItem, IntegerItem, AssignItem, GateItem, InstanceItem, InitialItem, AlwaysItem, SourceModule}
use Rattle.v_names.specs.Faults.{same_place}
use Rattle.v_names.specs.Scopes.{SignedValue, ScopeEntry, ParameterEntry, RefusedParameter, WaitingParameter, NetEntry, RegEntry, MemoryEntry, GateEntry, InstanceEntry, Scope, looked_up}
use Rattle.v_names.specs.Scopes.{range_width, declared_width}
use Rattle.v_names.specs.Readings.{constant_of}
use Rattle.v_names.specs.Names.{Declaration, names_declared, of_name, item_declarations, GivenParameter, scope_of, module_name_faults}
use Rattle.v_width.specs.Targets.{target_of}
use Rattle.v_elab.specs.declared.Mode.{Mode}
use Rattle.v_elab.specs.Parts.{Joining, Signal, Part, SignalPart}
use Rattle.v_elab.specs.Connections.{most_depth, Child, Paths, joined_name, port_direction, actual_parts, output_parts, connection_parts, connections_parts, connected_name, head_names}
use Rattle.v_elab.specs.Walk.{Entered, Here, joining_of, first_content_of, content_value, content_of, part_by_entry, parts_of_own, declared_parts, assign_part, wire_parts, gate_parts, item_parts}
use Rattle.v_elab.specs.Walk.{child_of, paths_of, entered, walked_from}
use Rattle.flat_laws.specs.Lists.{same_some}
use Rattle.flat_laws.specs.Numbered.{AllHold-append, AllHold-flat_map, AllHold-map, AllHold-all}
use Rattle.flat_laws.specs.Hierarchy.Walks.{IsHere, IsInstance, walk-holds}
use Rattle.flat_laws.specs.Hierarchy.Visits.{IsVisited, at_top, below}
use Rattle.flat_laws.specs.Hierarchy.Visited.{instance-depth}
use Rattle.flat_laws.specs.Hierarchy.Processes.{unless_faulty-ok}
use Rattle.flat_laws.specs.Hierarchy.Joined.{IsOuter, port-outer}

-- First contents

value-long : (width : ℕ) (c : Option SignedValue) (value : LogicValue) → content_value width c ≡ Some value → length value ≡ width
value-long width None value e = absurd (cc)
value-long width (Some c) value e = ap length (sym (same_some (resized c.signed width c.value) value e)) ∙ length-resized c.signed width c.value

content-long : (scope : Scope) (width : ℕ) (first : Option SourceExpression) (value : LogicValue) → content_of scope width first ≡ Some value → length value ≡ width
content-long scope width None value e = absurd (cc)
content-long scope width (Some e) value found = value-long width (constant_of scope width e) value found

-- Nets and variables

-- a net or a variable of a walk
pub record IsWalkedSignal (parts : List Part) (signal : Signal) : Type 0 where
  pub first : (value : LogicValue) → signal.first ≡ Some value → length value ≡ range_width signal.range
  pub depth : signal.depth ≤ most_depth
  pub joins : (joining : Joining) → signal.joined ≡ Some joining → (above : ℕ) × (above < signal.depth) × IsOuter parts joining.into above (range_width signal.range)

abbrev pub IsSignalPart : List Part → Part → Type 0
IsSignalPart parts (SignalPart signal) = IsWalkedSignal parts signal
IsSignalPart parts _ = Unit {0}

-- what is known of an instance
record IsJoinedInstance (modules : List SourceModule) (mode : Mode) (top : SourceModule) (parts : List Part) (instance : Entered) : Type 0 where
  visited : IsVisited modules mode top instance
  depth : instance.depth ≤ most_depth
  joins : (port : Identifier) (joining : Joining) → joining_of instance.joins port ≡ Some joining →
      (above : ℕ) × (above < instance.depth) × IsOuter parts joining.into above (declared_width (looked_up (scope_of instance.inner instance.given) port))

module _ (modules : List SourceModule) (mode : Mode) (top : SourceModule) (parts : List Part) where
  abbrev P : Part → Type 0
  P part = IsSignalPart parts part

  abbrev Q : Entered → Type 0
  Q instance = IsJoinedInstance modules mode top parts instance

  entry-signal : (here : Here) → IsHere Q modules mode here → (d : Declaration) (entry : Option ScopeEntry) → looked_up here.scope d.name ≡ entry → AllHold P (part_by_entry here d entry)
  entry-signal here is d None found = tt
  entry-signal here is d (Some (NetEntry range signed)) found =
      (record { first = content-long here.scope (range_width range) (first_content_of d.declared); depth = is.entered.depth; joins = joined here is d (NetEntry range signed) found }, tt)
    where
      joined : (here : Here) → IsHere Q modules mode here → (d : Declaration) (entry : ScopeEntry) → looked_up here.scope d.name ≡ Some entry → (joining : Joining) →
          joining_of here.instance.joins d.name ≡ Some joining →
          (above : ℕ) × (above < here.instance.depth) × IsOuter parts joining.into above (declared_width (Some entry))
      joined here is d entry found joining e =
          let r = is.entered.joins d.name joining e in
          let m = here.instance.inner in
          let scope_is = (unless_faulty-ok (module_name_faults (scope_of m here.instance.given) m) (scope_of m here.instance.given) here.scope is.scope).1 in
          (r.0, r.1, subst (IsOuter parts joining.into r.0) (ap (λ s. declared_width (looked_up s d.name)) scope_is ∙ ap declared_width found) r.2)
  entry-signal here is d (Some (RegEntry range signed)) found =
      (record { first = content-long here.scope (range_width range) (first_content_of d.declared); depth = is.entered.depth; joins = joined here is d (RegEntry range signed) found }, tt)
    where
      joined : (here : Here) → IsHere Q modules mode here → (d : Declaration) (entry : ScopeEntry) → looked_up here.scope d.name ≡ Some entry → (joining : Joining) →
          joining_of here.instance.joins d.name ≡ Some joining →
          (above : ℕ) × (above < here.instance.depth) × IsOuter parts joining.into above (declared_width (Some entry))
      joined here is d entry found joining e =
          let r = is.entered.joins d.name joining e in
          let m = here.instance.inner in
          let scope_is = (unless_faulty-ok (module_name_faults (scope_of m here.instance.given) m) (scope_of m here.instance.given) here.scope is.scope).1 in
          (r.0, r.1, subst (IsOuter parts joining.into r.0) (ap (λ s. declared_width (looked_up s d.name)) scope_is ∙ ap declared_width found) r.2)
  entry-signal here is d (Some (MemoryEntry range first last signed)) found = (tt, tt)
  entry-signal here is d (Some (ParameterEntry value signed)) found = tt
  entry-signal here is d (Some RefusedParameter) found = tt
  entry-signal here is d (Some WaitingParameter) found = tt
  entry-signal here is d (Some GateEntry) found = tt
  entry-signal here is d (Some InstanceEntry) found = tt

  declared-signal : (here : Here) → IsHere Q modules mode here → (item : SourceItem) → AllHold P (declared_parts here item)
  declared-signal here is item =
      AllHold-flat_map P (parts_of_own here (names_declared here.instance.inner)) (item_declarations item)
      (AllHold-all (λ d. AllHold P (parts_of_own here (names_declared here.instance.inner) d)) (item_declarations item)
      (λ d.
      AllHold-flat_map P (λ (own : Declaration). part_by_entry here own (looked_up here.scope own.name))
      (filter (λ (own : Declaration). same_place own.place d.place) (of_name d.name (names_declared here.instance.inner)))
      (AllHold-all (λ (own : Declaration). AllHold P (part_by_entry here own (looked_up here.scope own.name)))
      (filter (λ (own : Declaration). same_place own.place d.place) (of_name d.name (names_declared here.instance.inner)))
      (λ own. entry-signal here is own (looked_up here.scope own.name) refl))))

  wire-signal : (here : Here) (wire : SourceWire) (value : Option SourceExpression) → AllHold P (wire_parts here (record wire { value = value }))
  wire-signal here wire None = tt
  wire-signal here wire (Some value) = (tt, tt)

  gates-signal : (here : Here) (kind : GateKind) (number : ℕ) (gates : List SourceGate) → AllHold P (gate_parts here kind number gates)
  gates-signal here kind number [] = tt
  gates-signal here kind number (gate ∷ rest) = (tt, gates-signal here kind (number + 1) rest)

  port-signal : (child : Child) (paths : Paths) (port : Identifier) (e : SourceExpression) (target : Option SourceTarget) → AllHold P (output_parts child paths port e target)
  port-signal child paths port e None = tt
  port-signal child paths port e (Some target) = (tt, tt)

  actual-signal : (child : Child) (paths : Paths) (port : Identifier) (e : SourceExpression) (joined : Option Identifier) (direction : Option Direction) →
      AllHold P (actual_parts child paths port e joined direction)
  actual-signal child paths port e (Some joined) direction = tt
  actual-signal child paths port e None (Some Input) = (tt, tt)
  actual-signal child paths port e None (Some Output) = port-signal child paths port e (target_of e)
  actual-signal child paths port e None None = tt

  connection-signal : (child : Child) (paths : Paths) (port : Option Identifier) (actual : Option SourceExpression) → AllHold P (connection_parts child paths port actual)
  connection-signal child paths None actual = tt
  connection-signal child paths (Some port) None = tt
  connection-signal child paths (Some port) (Some e) = actual-signal child paths port e (joined_name child port e) (port_direction child.inner port)

  connections-signal : (child : Child) (paths : Paths) (position : ℕ) (connections : List SourceConnection) → AllHold P (connections_parts child paths position connections)
  connections-signal child paths position [] = tt
  connections-signal child paths position (connection ∷ rest) =
      AllHold-append P (connection_parts child paths (connected_name (head_names child.inner.heads) position connection.name) connection.actual) (connections_parts child paths (position + 1) rest)
      (connection-signal child paths (connected_name (head_names child.inner.heads) position connection.name) connection.actual) (connections-signal child paths (position + 1) rest)

  item-signal : (here : Here) → IsHere Q modules mode here → (gates : ℕ) (item : SourceItem) → AllHold P (item_parts here gates item)
  item-signal here is gates (ParameterItem group) = tt
  item-signal here is gates (PortItem group) = declared-signal here is (PortItem group)
  item-signal here is gates (WireItem place signed range wires) =
      AllHold-append P (declared_parts here (WireItem place signed range wires)) (flat_map (wire_parts here) wires) (declared-signal here is (WireItem place signed range wires))
      (AllHold-flat_map P (wire_parts here) wires (AllHold-all (λ w. AllHold P (wire_parts here w)) wires (λ (w : SourceWire). wire-signal here w w.value)))
  item-signal here is gates (RegItem place signed range regs) = declared-signal here is (RegItem place signed range regs)
  item-signal here is gates (IntegerItem place regs) = declared-signal here is (IntegerItem place regs)
  item-signal here is gates (AssignItem place assignments) =
      AllHold-map P (λ (a : SourceAssignment). assign_part here a.target a.value) assignments (AllHold-all (λ (a : SourceAssignment). P (assign_part here a.target a.value)) assignments (λ a. tt))
  item-signal here is gates (GateItem place kind all) = gates-signal here kind (gates + 1) all
  item-signal here is gates (InstanceItem place module_name parameters instances) = tt
  item-signal here is gates (InitialItem place body) = (tt, tt)
  item-signal here is gates (AlwaysItem place body) = (tt, tt)

  child-joined : walked_from modules mode top ≡ Ok parts → (here : Here) → IsHere Q modules mode here → (inner : SourceModule) (given : List GivenParameter) (i : SourceInstance) →
      IsInstance here inner given i → Q (entered here inner given i)
  child-joined e here is inner given i of = record {
    visited = below here is.scope is.same_modules is.same_mode is.entered.visited inner given i of;
    depth = instance-depth (child_of here inner given) (here.instance.depth + 1) i of.faultless;
    joins = λ port joining found. (
      here.instance.depth,
      omega arith,
      port-outer modules mode top parts e here (record { instance = here.instance; visited = is.entered.visited; named = is.scope; path_is = refl }) refl inner given i port joining found,
    );
  }

  -- the nets and variables of a walk
  pub parts-signals : walked_from modules mode top ≡ Ok parts → AllHold (λ part. IsSignalPart parts part) parts
  parts-signals e =
      walk-holds P Q modules mode
      (record {
        of_item = λ here is gates item of none. item-signal here is gates item;
        of_connections = λ here is inner given i of. connections-signal (child_of here inner given) (paths_of here i) 0 i.connections;
        of_instance = tt;
        enters = child-joined e;
      }) top (record { visited = at_top; depth = omega arith; joins = λ port joining found. absurd (cc) }) parts e
