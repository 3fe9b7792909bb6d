-- The instances that a walk comes to, and what their gates and processes are read from (IEEE 1364-2001, clause 7 for gates, clause 9 for processes, clause 12.1 for the hierarchy).
use Rattle.std.proofs.Common.{◌≡◌, ℕ, ◌+◌, ◌<◌, ◌≤◌, ◌^◌, Bool, true, false, List, [], ◌∷◌, length, Option, Some, None, Ok, refl}
use Rattle.std.specs.Prelude.{slice_get, filter, flat_map}
use Rattle.four_value.specs.declared.operator.GateKind.{GateKind}
use Rattle.vf_base.specs.Lists.{AllHold}
use Rattle.v_design.specs.WellFormed.{TerminalsFit}
use Rattle.v_tree.specs.declared.item.Direction.{Direction}
use Rattle.v_tree.specs.declared.item.Direction.TheVariants.{Input, Output}
use Rattle.v_tree.specs.Trees.{Identifier, SourceExpression, SourceTarget, SourceWire, SourceAssignment, SourceGate, SourceConnection, SourceInstance, SourceStatement, SourceItem, ParameterItem}
use Rattle.v_tree.specs.Trees.{PortItem, WireItem, RegItem, IntegerItem, AssignItem, GateItem, InstanceItem, InitialItem, AlwaysItem, SourceModule}
use Rattle.v_names.specs.Faults.{same_place}
use Rattle.v_names.specs.Scopes.{ScopeEntry, ParameterEntry, RefusedParameter, WaitingParameter, NetEntry, RegEntry, MemoryEntry, GateEntry, InstanceEntry, Scope, looked_up}
use Rattle.v_names.specs.Constants.{name_faults}
use Rattle.v_names.specs.Names.{Declaration, names_declared, of_name, item_declarations, GivenParameter, names, statement_name_faults, fixed_target_faults, gate_name_faults}
use Rattle.v_names.specs.SizedTrees.{SizedExpressions}
use Rattle.v_width.specs.Targets.{target_of}
use Rattle.v_elab.specs.declared.Mode.{Mode}
use Rattle.v_elab.specs.declared.Mode.TheVariants.{Usual, Strict}
use Rattle.v_elab.specs.Blocks.{block_targets}
use Rattle.v_elab.specs.ItemFaults.{output_faults, terminal_faults, gate_faults, item_faults, statement_faults}
use Rattle.v_elab.specs.Parts.{WalkedProcess, Part, GatePart, ProcessPart}
use Rattle.v_elab.specs.Connections.{Child, Paths, joined_name, port_direction, actual_parts, output_parts, connection_parts, connections_parts, connected_name, head_names}
use Rattle.v_elab.specs.Walk.{Entered, Here, part_by_entry, parts_of_own, declared_parts, assign_part, wire_parts, terminals_of, gate_parts, targets_by_mode, item_parts, child_of, paths_of, entered}
use Rattle.v_elab.specs.Walk.{walked_from}
use Rattle.v_expr.specs.Heights.{height_of}
use Rattle.flat_laws.specs.Numbered.{AllHold-append, AllHold-flat_map, AllHold-map, AllHold-all}
use Rattle.flat_laws.specs.Sizes.Complete.{append-none}
use Rattle.flat_laws.specs.Sizes.Statements.{HasSelects, HaveSelects}
use Rattle.flat_laws.specs.Hierarchy.Walks.{IsOf, IsHere, IsInstance, top_entered, walk-holds}
use Rattle.flat_laws.specs.Source.{most_height, IsSourceUnit}
use Rattle.flat_laws.specs.Hierarchy.Levelled.{IsModule, enters-module}
use Rattle.flat_laws.specs.Hierarchy.Processes.{items-named}

-- an instance that a walk comes to: the top, or one of an item of such an instance
pub data IsVisited (modules : List SourceModule) (mode : Mode) (top : SourceModule) : Entered → Type 0 where
  at_top : IsVisited modules mode top (top_entered top)
  below : (here : Here) → names here.instance.inner here.instance.given ≡ Ok here.scope → here.modules ≡ modules → here.mode ≡ mode → IsVisited modules mode top here.instance →
      (inner : SourceModule) (given : List GivenParameter) (i : SourceInstance) →
      IsInstance here inner given i → IsVisited modules mode top (entered here inner given i)

-- an instance with its path and its scope
pub record IsAt (modules : List SourceModule) (mode : Mode) (top : SourceModule) (path : Identifier) (scope : Scope) : Type 0 where
  pub instance : Entered
  pub visited : IsVisited modules mode top instance
  pub named : names instance.inner instance.given ≡ Ok scope
  pub path_is : instance.path ≡ path

-- a gate with what its terminals are read from
pub record IsReadGate (modules : List SourceModule) (mode : Mode) (top : SourceModule) (kind : GateKind) (path : Identifier) (terminals : SizedExpressions) : Type 0 where
  pub scope : Scope
  pub at : IsAt modules mode top path scope
  pub inputs : List SourceExpression
  pub is : terminals_of scope inputs ≡ terminals
  pub fit : TerminalsFit kind (length inputs)
  pub few : length inputs < 2 ^ 64
  pub names : flat_map (name_faults scope) inputs ≡ []
  pub sizes : flat_map (terminal_faults scope) inputs ≡ []

form-of : (mode : Mode) (always : Bool) (scope : Scope) (body : SourceStatement) (targets : List Identifier) → targets_by_mode mode always scope body ≡ Some targets →
    block_targets scope body ≡ Some targets
form-of Usual true scope body targets e = e
form-of Usual false scope body targets e = absurd (cc)
form-of Strict always scope body targets e = absurd (cc)

-- a process with the instance in which it stands
pub record IsReadProcess (modules : List SourceModule) (mode : Mode) (top : SourceModule) (process : WalkedProcess) : Type 0 where
  pub at : IsAt modules mode top process.path process.scope
  pub selects : HaveSelects process.body
  pub names : statement_name_faults process.scope process.body ≡ []
  pub sizes : statement_faults process.scope process.body ≡ []
  -- where it has targets, its body by itself is of combinational form
  pub form : (targets : List Identifier) → process.targets ≡ Some targets → block_targets process.scope process.body ≡ Some targets

abbrev pub IsReadPart : List SourceModule → Mode → SourceModule → Part → Type 0
IsReadPart modules mode top (GatePart name kind drives path terminals) = IsReadGate modules mode top kind path terminals
IsReadPart modules mode top (ProcessPart process) = IsReadProcess modules mode top process
IsReadPart modules mode top _ = Unit {0}

-- what is known of an instance that is walked
record IsKnown (modules : List SourceModule) (mode : Mode) (top : SourceModule) (instance : Entered) : Type 0 where
  in_unit : IsModule modules instance
  visited : IsVisited modules mode top instance

module _ (modules : List SourceModule) (mode : Mode) (top : SourceModule) where
  abbrev P : Part → Type 0
  P part = IsReadPart modules mode top part

  entry-read : (here : Here) (d : Declaration) (entry : Option ScopeEntry) → AllHold P (part_by_entry here d entry)
  entry-read here d None = tt
  entry-read here d (Some (NetEntry range signed)) = (tt, tt)
  entry-read here d (Some (RegEntry range signed)) = (tt, tt)
  entry-read here d (Some (MemoryEntry range first last signed)) = (tt, tt)
  entry-read here d (Some (ParameterEntry value signed)) = tt
  entry-read here d (Some RefusedParameter) = tt
  entry-read here d (Some WaitingParameter) = tt
  entry-read here d (Some GateEntry) = tt
  entry-read here d (Some InstanceEntry) = tt

  declared-read : (here : Here) (item : SourceItem) → AllHold P (declared_parts here item)
  declared-read here item =
      AllHold-flat_map P (parts_of_own here (names_declared here.instance.inner)) (item_declarations item)
      (AllHold-all (λ d. AllHold P (parts_of_own here (names_declared here.instance.inner) d)) (item_declarations item)
      (λ d.
      AllHold-flat_map P (λ (own : Declaration). part_by_entry here own (looked_up here.scope own.name))
      (filter (λ (own : Declaration). same_place own.place d.place) (of_name d.name (names_declared here.instance.inner)))
      (AllHold-all (λ (own : Declaration). AllHold P (part_by_entry here own (looked_up here.scope own.name)))
      (filter (λ (own : Declaration). same_place own.place d.place) (of_name d.name (names_declared here.instance.inner)))
      (λ own. entry-read here own (looked_up here.scope own.name)))))

  wire-read : (here : Here) (wire : SourceWire) (value : Option SourceExpression) → AllHold P (wire_parts here (record wire { value = value }))
  wire-read here wire None = tt
  wire-read here wire (Some value) = (tt, tt)

  port-read : (child : Child) (paths : Paths) (port : Identifier) (e : SourceExpression) (target : Option SourceTarget) → AllHold P (output_parts child paths port e target)
  port-read child paths port e None = tt
  port-read child paths port e (Some target) = (tt, tt)

  actual-read : (child : Child) (paths : Paths) (port : Identifier) (e : SourceExpression) (joined : Option Identifier) (direction : Option Direction) →
      AllHold P (actual_parts child paths port e joined direction)
  actual-read child paths port e (Some joined) direction = tt
  actual-read child paths port e None (Some Input) = (tt, tt)
  actual-read child paths port e None (Some Output) = port-read child paths port e (target_of e)
  actual-read child paths port e None None = tt

  connection-read : (child : Child) (paths : Paths) (port : Option Identifier) (actual : Option SourceExpression) → AllHold P (connection_parts child paths port actual)
  connection-read child paths None actual = tt
  connection-read child paths (Some port) None = tt
  connection-read child paths (Some port) (Some e) = actual-read child paths port e (joined_name child port e) (port_direction child.inner port)

  connections-read : (child : Child) (paths : Paths) (position : ℕ) (connections : List SourceConnection) → AllHold P (connections_parts child paths position connections)
  connections-read child paths position [] = tt
  connections-read child paths position (connection ∷ rest) =
      AllHold-append P (connection_parts child paths (connected_name (head_names child.inner.heads) position connection.name) connection.actual) (connections_parts child paths (position + 1) rest)
      (connection-read child paths (connected_name (head_names child.inner.heads) position connection.name) connection.actual) (connections-read child paths (position + 1) rest)

  gates-read : (here : Here) → IsAt modules mode top here.instance.path here.scope → (kind : GateKind) (number : ℕ) (gates : List SourceGate) →
      AllHold (λ (g : SourceGate). HasSelects g.output × TerminalsFit kind (length g.inputs) × AllHold (λ (e : SourceExpression). height_of e ≤ most_height) g.inputs × (length g.inputs < 2 ^ 64))
      gates → flat_map (gate_name_faults here.scope) gates ≡ [] →
      flat_map (gate_faults here.scope) gates ≡ [] → AllHold P (gate_parts here kind number gates)
  gates-read here at kind number [] text names sizes = tt
  gates-read here at kind number (gate ∷ rest) text names sizes =
      let n = append-none (gate_name_faults here.scope gate) (flat_map (gate_name_faults here.scope) rest) names in
      let s = append-none (gate_faults here.scope gate) (flat_map (gate_faults here.scope) rest) sizes in
      let own = append-none (fixed_target_faults here.scope gate.output) (flat_map (name_faults here.scope) gate.inputs) n.0 in
      let size = append-none (output_faults here.scope gate.output) (flat_map (terminal_faults here.scope) gate.inputs) s.0 in
      (record { scope = here.scope; at = at; inputs = gate.inputs; is = refl; fit = text.0.1; few = text.0.3; names = own.1; sizes = size.1 }, gates-read here at kind (number + 1) rest text.1 n.1 s.1)

  here-at : (here : Here) → IsHere (IsKnown modules mode top) modules mode here → IsAt modules mode top here.instance.path here.scope
  here-at here is = record { instance = here.instance; visited = is.entered.visited; named = is.scope; path_is = refl }

  item-read : IsSourceUnit modules → (here : Here) → IsHere (IsKnown modules mode top) modules mode here → (gates : ℕ) (item : SourceItem) → IsOf here.instance.inner item →
      item_faults here.scope item ≡ [] → AllHold P (item_parts here gates item)
  item-read source here is gates (ParameterItem group) of none = tt
  item-read source here is gates (PortItem group) of none = declared-read here (PortItem group)
  item-read source here is gates (WireItem place signed range wires) of none =
      AllHold-append P (declared_parts here (WireItem place signed range wires)) (flat_map (wire_parts here) wires) (declared-read here (WireItem place signed range wires))
      (AllHold-flat_map P (wire_parts here) wires (AllHold-all (λ w. AllHold P (wire_parts here w)) wires (λ (w : SourceWire). wire-read here w w.value)))
  item-read source here is gates (RegItem place signed range regs) of none = declared-read here (RegItem place signed range regs)
  item-read source here is gates (IntegerItem place regs) of none = declared-read here (IntegerItem place regs)
  item-read source here is gates (AssignItem place assignments) of none =
      AllHold-map P (λ (a : SourceAssignment). assign_part here a.target a.value) assignments (AllHold-all (λ (a : SourceAssignment). P (assign_part here a.target a.value)) assignments (λ a. tt))
  item-read source here is gates (GateItem place kind all) of none =
      let module_at = is.entered.in_unit in
      gates-read here (here-at here is) kind (gates + 1) all (source.items module_at.0 here.instance.inner module_at.1 (GateItem place kind all) of)
      (items-named here.instance.inner here.instance.given here.scope is.scope (GateItem place kind all) of) none
  item-read source here is gates (InstanceItem place module_name parameters instances) of none = tt
  item-read source here is gates (InitialItem place body) of none =
      let module_at = is.entered.in_unit in
      let text = source.items module_at.0 here.instance.inner module_at.1 (InitialItem place body) of in (
        record {
          at = here-at here is;
          selects = text.0;
          names = items-named here.instance.inner here.instance.given here.scope is.scope (InitialItem place body) of;
          sizes = none;
          form = λ targets e. form-of here.mode false here.scope body targets e;
        },
        tt,
      )
  item-read source here is gates (AlwaysItem place body) of none =
      let module_at = is.entered.in_unit in
      let text = source.items module_at.0 here.instance.inner module_at.1 (AlwaysItem place body) of in (
        record {
          at = here-at here is;
          selects = text.0;
          names = items-named here.instance.inner here.instance.given here.scope is.scope (AlwaysItem place body) of;
          sizes = none;
          form = λ targets e. form-of here.mode true here.scope body targets e;
        },
        tt,
      )

  child-known : (here : Here) → IsHere (IsKnown modules mode top) modules mode here → (inner : SourceModule) (given : List GivenParameter) (i : SourceInstance) → IsInstance here inner given i →
      IsKnown modules mode top (entered here inner given i)
  child-known here is inner given i of = record {
    in_unit = enters-module modules mode here (record { scope = is.scope; entered = is.entered.in_unit; same_modules = is.same_modules; same_mode = is.same_mode }) inner given i of;
    visited = below here is.scope is.same_modules is.same_mode is.entered.visited inner given i of;
  }

  -- the gates and processes of a walk are read from items of instances that it comes to, of which nothing is wrong
  pub parts-read : IsSourceUnit modules → (i : ℕ) → slice_get modules i ≡ Some top → (parts : List Part) → walked_from modules mode top ≡ Ok parts →
      AllHold (λ part. IsReadPart modules mode top part) parts
  parts-read source i at parts e =
      walk-holds P (IsKnown modules mode top) modules mode
      (record {
        of_item = item-read source;
        of_connections = λ here is inner given inst of. connections-read (child_of here inner given) (paths_of here inst) 0 inst.connections;
        of_instance = tt;
        enters = child-known;
      }) top (record { in_unit = (i, at); visited = at_top }) parts e
