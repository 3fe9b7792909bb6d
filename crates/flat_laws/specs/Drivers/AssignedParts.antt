-- The assignments of a walk: continuous ones and those of ports that aren't joined (IEEE 1364-2001, clause 6.1 for assignments, clause 12.3 for ports).
use Rattle.std.proofs.Common.{◌≡◌, ℕ, ◌+◌, ◌≤◌, max, Bool, true, false, ◌&&◌, List, [], ◌∷◌, ◌++◌, map, nat_le, Option, Some, None, Ok, option_map, refl, sym, ap, ◌∙◌, inl, inr, arith}
use Rattle.std.specs.Prelude.{filter, flat_map, nat_lt}
use Rattle.std.proofs.lemmas.Bool.{cases_Bool, cond-true, cond-false}
use Rattle.std.proofs.lemmas.Bool.Decides.{leb_tells}
use Rattle.vf_base.specs.Base.{SourcePlace}
use Rattle.four_value.specs.declared.operator.GateKind.{GateKind}
use Rattle.vf_base.specs.Lists.{AllHold}
use Rattle.v_design.specs.Sized.{most_bits}
use Rattle.v_tree.specs.declared.item.Direction.{Direction}
use Rattle.v_tree.specs.declared.item.Direction.TheVariants.{Input, Output}
use Rattle.v_tree.specs.Trees.{Identifier, SourceExpression, Selected, NoIndex, SourceTarget, OneSelect, SourceWire, SourceAssignment, SourceGate, SourceConnection, SourceInstance, SourceItem}
use Rattle.v_tree.specs.Trees.{ParameterItem, PortItem, WireItem, RegItem, IntegerItem, AssignItem, GateItem, InstanceItem, InitialItem, AlwaysItem, SourceModule, place_of_expression, same_name}
use Rattle.v_names.specs.Faults.{TooDeep, fault_at, fault_if, same_place}
use Rattle.v_names.specs.Scopes.{ScopeEntry, ParameterEntry, RefusedParameter, WaitingParameter, NetEntry, RegEntry, MemoryEntry, GateEntry, InstanceEntry, Scope, looked_up, range_width}
use Rattle.v_names.specs.Scopes.{declared_width, is_vector}
use Rattle.v_names.specs.SizedTrees.{SizedExpression}
use Rattle.v_names.specs.Readings.{tree_in, sized_if, sized_reading, name_reading, reading_of}
use Rattle.v_names.specs.Constants.{known_faults, name_faults, constant_faults, ParameterValue, optional_faults}
use Rattle.v_names.specs.Names.{Declared, DeclaredParameter, DeclaredPort, DeclaredNet, DeclaredReg, DeclaredMemory, DeclaredGate, DeclaredInstance, Declaration, names_declared, of_name}
use Rattle.v_names.specs.Names.{item_declarations, GivenParameter, meaning_of, scope_of, fixed_target_faults, actual_faults, item_name_faults, module_name_faults, names}
use Rattle.v_width.specs.Targets.{ByNode, target_reading, target_alone_faults, target_width_in, target_of}
use Rattle.v_elab.specs.declared.Mode.{Mode}
use Rattle.v_elab.specs.Refusals.{as_refusal}
use Rattle.v_elab.specs.ItemFaults.{assigned_faults, wire_select, wire_faults, declared_range_faults, item_faults}
use Rattle.v_elab.specs.Parts.{Drive, ValueIn, Part, AssignPart}
use Rattle.v_elab.specs.Drivers.{drives_width}
use Rattle.v_elab.specs.Connections.{most_depth, Child, Paths, direction_of_first, port_direction, port_width, joined_name, output_actual_faults, actual_faults_by, port_faults, is_named}
use Rattle.v_elab.specs.Connections.{connections_faults, instance_faults, name_before, actual_parts, output_parts, connection_parts, connections_parts, connected_name, head_names}
use Rattle.v_elab.specs.Walk.{Entered, Here, part_by_entry, parts_of_own, declared_parts, assign_part, wire_parts, gate_parts, item_parts, child_of, paths_of, entered, walked_module, walked}
use Rattle.v_elab.specs.Walk.{walked_from}
use Rattle.flat_laws.specs.Made.{then_go-ok}
use Rattle.flat_laws.specs.Numbered.{AllHold-append, AllHold-flat_map, AllHold-all}
use Rattle.flat_laws.specs.Hierarchy.Given.{both-true}
use Rattle.flat_laws.specs.Sizes.Complete.{append-none, group-none, IsSettled, expression-full, expression-complete}
use Rattle.flat_laws.specs.Hierarchy.Processes.{unless_faulty-ok, items-named}
use Rattle.flat_laws.specs.Hierarchy.Walks.{IsHere, IsInstance, flat-none, as_refusal-ok, walk-holds}
use Rattle.flat_laws.specs.Hierarchy.Visits.{IsVisited, IsAt, at_top, below}
use Rattle.flat_laws.specs.Hierarchy.Visited.{visited-walked}
use Rattle.flat_laws.specs.Sizes.Entries.{Ascend, whole-ascends}
use Rattle.flat_laws.specs.Names.Rounds.{scope-fixed}
use Rattle.v_names.specs.Meanings.{found, in-meanings}
use Rattle.flat_laws.specs.Names.Settled.{walk-settled}
use Rattle.flat_laws.specs.Sizes.Widths.{scope-narrow}
use Rattle.flat_laws.specs.Drivers.Assigned.{TargetHolds, target-holds, whole-long}

-- an assignment with what its value is read from
pub record IsReadAssign (modules : List SourceModule) (mode : Mode) (top : SourceModule) (drives : List Drive) (value : ValueIn) : Type 0 where
  pub scope : Scope
  pub at : IsAt modules mode top value.path scope
  pub e : SourceExpression
  pub width : ℕ
  pub is : tree_in width (reading_of scope e) ≡ value.value
  pub complete : (reading_of scope e).complete ≡ true
  pub few : width ≤ most_bits
  pub covers : drives_width drives ≤ max width 1
  pub ascends : AllHold (λ (d : Drive). Ascend 0 d.places) drives

abbrev pub IsReadAssignment : List SourceModule → Mode → SourceModule → Part → Type 0
IsReadAssignment modules mode top (AssignPart drives value) = IsReadAssign modules mode top drives value
IsReadAssignment modules mode top _ = Unit {0}

-- Ports

port-vector : (scope : Scope) (given : List GivenParameter) (d : Declaration) (kind : Declared) (rest : List Declaration) (direction : Direction) →
    direction_of_first (record d { declared = kind } ∷ rest) ≡ Some direction →
    is_vector (Some (meaning_of scope given d.name kind)) ≡ true
port-vector scope given d (DeclaredPort own true signed bounds first) rest direction e = refl
port-vector scope given d (DeclaredPort own false signed bounds first) rest direction e = refl
port-vector scope given d (DeclaredParameter is_local signed bounds value) rest direction e = absurd (cc)
port-vector scope given d (DeclaredNet signed bounds) rest direction e = absurd (cc)
port-vector scope given d (DeclaredReg signed bounds first) rest direction e = absurd (cc)
port-vector scope given d (DeclaredMemory signed bounds addresses) rest direction e = absurd (cc)
port-vector scope given d DeclaredGate rest direction e = absurd (cc)
port-vector scope given d DeclaredInstance rest direction e = absurd (cc)

found-vector : (scope : Scope) (given : List GivenParameter) (port : Identifier) (direction : Direction) (ds : List Declaration) → direction_of_first (of_name port ds) ≡ Some direction →
    is_vector (option_map (λ (d : Declaration). meaning_of scope given d.name d.declared) (found ds port)) ≡ true
found-vector scope given port direction [] e = absurd (cc)
found-vector scope given port direction (d ∷ ds) e =
    elim (cases_Bool (same_name d.name port)) [
      | inl same ↦
          let all : of_name port (d ∷ ds) ≡ d ∷ of_name port ds = cond-true (same_name d.name port) (d ∷ of_name port ds) (of_name port ds) same in
          let first : found (d ∷ ds) port ≡ Some d = cond-true (same_name d.name port) (Some d) (found ds port) same in
          ap (λ x. is_vector (option_map (λ (y : Declaration). meaning_of scope given y.name y.declared) x)) first
          ∙ port-vector scope given d d.declared (of_name port ds) direction (sym (ap direction_of_first all) ∙ e)
      | inr other ↦
          let all : of_name port (d ∷ ds) ≡ of_name port ds = cond-false (same_name d.name port) (d ∷ of_name port ds) (of_name port ds) other in
          let first : found (d ∷ ds) port ≡ found ds port = cond-false (same_name d.name port) (Some d) (found ds port) other in
          ap (λ x. is_vector (option_map (λ (y : Declaration). meaning_of scope given y.name y.declared) x)) first ∙ found-vector scope given port direction ds (sym (ap direction_of_first all) ∙ e)
    ]

-- a port is a net or a variable
module-port : (m : SourceModule) (given : List GivenParameter) (port : Identifier) (direction : Direction) → port_direction m port ≡ Some direction →
    is_vector (looked_up (scope_of m given) port) ≡ true
module-port m given port direction e =
    let scope = scope_of m given in
    ap is_vector (ap (λ s. looked_up s port) (scope-fixed m given) ∙ in-meanings scope given (names_declared m) port) ∙ found-vector scope given port direction (names_declared m) e

test-true : (a b : ℕ) → a ≤ b → nat_le a b ≡ true
test-true a b h =
    elim (leb_tells a b) [
      | inl holds ↦ holds.0
      | inr fails ↦ let less = fails.1 in absurd (omega (arith, less, h))
    ]

sized-complete : (place : SourcePlace) (width : ℕ) (signed : Bool) (tree : ℕ → Bool → SizedExpression) → 1 ≤ width → width ≤ most_bits → (sized_reading place width signed true [] tree).complete ≡ true
sized-complete place width signed tree some few =
    ap (λ b. (sized_if b place (record { width = width; signed = signed }) true [] tree).complete)
    (both-true (nat_le 1 width) (nat_le width most_bits) (test-true 1 width some) (test-true width most_bits few))

vector-complete : (entry : Option ScopeEntry) (place : SourcePlace) (name : Identifier) → is_vector entry ≡ true → declared_width entry ≤ most_bits → (name_reading entry place name).complete ≡ true
vector-complete (Some (NetEntry range signed)) place name v few = sized-complete place (range_width range) signed _ (omega arith) few
vector-complete (Some (RegEntry range signed)) place name v few = sized-complete place (range_width range) signed _ (omega arith) few
vector-complete None place name v few = absurd (cc)
vector-complete (Some (MemoryEntry range first last signed)) place name v few = absurd (cc)
vector-complete (Some (ParameterEntry value signed)) place name v few = absurd (cc)
vector-complete (Some RefusedParameter) place name v few = absurd (cc)
vector-complete (Some WaitingParameter) place name v few = absurd (cc)
vector-complete (Some GateEntry) place name v few = absurd (cc)
vector-complete (Some InstanceEntry) place name v few = absurd (cc)

module _ (modules : List SourceModule) (mode : Mode) (top : SourceModule) where
  abbrev P : Part → Type 0
  P part = IsReadAssignment modules mode top part

  -- Connections

  -- an instance and what it stands in
  record IsChild (child : Child) (paths : Paths) : Type 0 where
    outer_at : IsAt modules mode top paths.outer child.outer_scope
    inner_at : IsAt modules mode top paths.inner child.inner_scope
    settled : IsSettled child.outer_scope
    narrow : (name : Identifier) → declared_width (looked_up child.inner_scope name) ≤ most_bits
    port : (name : Identifier) (direction : Direction) → port_direction child.inner name ≡ Some direction → is_vector (looked_up child.inner_scope name) ≡ true

  output-read : (child : Child) (paths : Paths) → IsChild child paths → (port : Identifier) → port_direction child.inner port ≡ Some Output → (e : SourceExpression) (target : Option SourceTarget) →
      actual_faults_by child.outer_scope None (Some Output) e ≡ [] → target_of e ≡ target → AllHold P (output_parts child paths port e target)
  output-read child paths is port direction e None faults t = tt
  output-read child paths is port direction e (Some target) faults t =
      let step : actual_faults_by child.outer_scope None (Some Output) e ≡ target_alone_faults (target_reading ByNode child.outer_scope target) ++ fixed_target_faults child.outer_scope target =
      ap (output_actual_faults child.outer_scope e) t in
      let own : target_alone_faults (target_reading ByNode child.outer_scope target) ++ fixed_target_faults child.outer_scope target ≡ [] = sym step ∙ faults in
      let none = append-none (target_alone_faults (target_reading ByNode child.outer_scope target)) (fixed_target_faults child.outer_scope target) own in
      let group = group-none (target_reading ByNode child.outer_scope target).here (target_reading ByNode child.outer_scope target).inside none.0 in
      let holds = target-holds paths.outer child.outer_scope is.settled target none.1 group.0 group.1 in (
        record {
          scope = child.inner_scope;
          at = is.inner_at;
          e = Selected (place_of_expression e) port NoIndex;
          width = target_width_in ByNode child.outer_scope target;
          is = refl;
          complete = vector-complete (looked_up child.inner_scope port) (place_of_expression e) port (is.port port Output direction) (is.narrow port);
          few = holds.few;
          covers = holds.covers;
          ascends = holds.ascends;
        },
        tt,
      )

  actual-read : (child : Child) (paths : Paths) → IsChild child paths → (port : Identifier) (e : SourceExpression) (joined : Option Identifier) (direction : Option Direction) →
      port_direction child.inner port ≡ direction →
      actual_faults_by child.outer_scope joined direction e ≡ [] → name_faults child.outer_scope e ≡ [] → AllHold P (actual_parts child paths port e joined direction)
  actual-read child paths is port e (Some joined) direction d faults names = tt
  actual-read child paths is port e None (Some Input) d faults names =
      let width = port_width child port in
      let long = whole-long width 0 in (
        record {
          scope = child.outer_scope;
          at = is.outer_at;
          e = e;
          width = width;
          is = refl;
          complete = expression-complete child.outer_scope is.settled e names faults;
          few = is.narrow port;
          covers = omega (arith, long);
          ascends = (whole-ascends width, tt);
        },
        tt,
      )
  actual-read child paths is port e None (Some Output) d faults names = output-read child paths is port d e (target_of e) faults refl
  actual-read child paths is port e None None d faults names = tt

  connection-read : (child : Child) (paths : Paths) → IsChild child paths → (earlier : List Identifier) (connection : SourceConnection) (port : Option Identifier) (actual : Option SourceExpression) →
      port_faults child earlier (record connection { actual = actual }) port ≡ [] → optional_faults (name_faults child.outer_scope) actual ≡ [] → AllHold P (connection_parts child paths port actual)
  connection-read child paths is earlier connection None actual faults names = tt
  connection-read child paths is earlier connection (Some port) None faults names = tt
  connection-read child paths is earlier connection (Some port) (Some e) faults names =
      let own = (append-none (fault_if (is_named connection.name && _) connection.place _)
      (actual_faults_by child.outer_scope (joined_name child port e) (port_direction child.inner port) e) faults).1 in
      actual-read child paths is port e (joined_name child port e) (port_direction child.inner port) refl own names

  connections-read : (child : Child) (paths : Paths) → IsChild child paths → (position : ℕ) (earlier : List Identifier) (connections : List SourceConnection) →
      connections_faults child position earlier connections ≡ [] →
      flat_map (actual_faults child.outer_scope) connections ≡ [] → AllHold P (connections_parts child paths position connections)
  connections-read child paths is position earlier [] faults names = tt
  connections-read child paths is position earlier (connection ∷ rest) faults names =
      let port = connected_name (head_names child.inner.heads) position connection.name in
      let f = append-none (port_faults child earlier connection port) (connections_faults child (position + 1) (name_before port earlier) rest) faults in
      let n = append-none (actual_faults child.outer_scope connection) (flat_map (actual_faults child.outer_scope) rest) names in
      AllHold-append P (connection_parts child paths port connection.actual) (connections_parts child paths (position + 1) rest)
      (connection-read child paths is earlier connection port connection.actual f.0 n.0) (connections-read child paths is (position + 1) (name_before port earlier) rest f.1 n.1)

  shallow : (child : Child) (depth : ℕ) (i : SourceInstance) → instance_faults child depth i ≡ [] → connections_faults child 0 [] i.connections ≡ []
  shallow child depth i e =
      elim (cases_Bool (nat_lt most_depth depth)) [
        | inl deep ↦
            let step : instance_faults child depth i ≡ fault_at i.place TooDeep ∷ [] = rw deep refl in
            let wrong : fault_at i.place TooDeep ∷ [] ≡ [] = sym step ∙ e in
            absurd (cc)
        | inr fits ↦ let step : instance_faults child depth i ≡ connections_faults child 0 [] i.connections = rw fits refl in sym step ∙ e
      ]

  -- Items

  assign-read : (here : Here) → IsAt modules mode top here.instance.path here.scope → IsSettled here.scope → (target : SourceTarget) (value : SourceExpression) →
      assigned_faults ByNode here.scope target value ≡ [] →
      name_faults here.scope value ≡ [] → ((target_reading ByNode here.scope target).here ≡ [] → (target_reading ByNode here.scope target).inside ≡ [] →
      TargetHolds here.instance.path here.scope target) → P (assign_part here target value)
  assign-read here at settled target value faults names holds =
      let t = target_reading ByNode here.scope target in
      let v = reading_of here.scope value in
      let group = group-none (t.here ++ v.here) (t.inside ++ v.inside) faults in
      let heres = append-none t.here v.here group.0 in
      let insides = append-none t.inside v.inside group.1 in
      let own = holds heres.0 insides.0 in
      record {
        scope = here.scope;
        at = at;
        e = value;
        width = target_width_in ByNode here.scope target;
        is = refl;
        complete = expression-full here.scope settled value names heres.1 insides.1;
        few = own.few;
        covers = own.covers;
        ascends = own.ascends;
      }

  assigns-read : (here : Here) → IsAt modules mode top here.instance.path here.scope → IsSettled here.scope → (assignments : List SourceAssignment) →
      flat_map (λ (a : SourceAssignment). fixed_target_faults here.scope a.target ++ name_faults here.scope a.value) assignments ≡ [] →
      flat_map (λ (a : SourceAssignment). assigned_faults ByNode here.scope a.target a.value) assignments ≡ [] →
      AllHold P (map (λ (a : SourceAssignment). assign_part here a.target a.value) assignments)
  assigns-read here at settled [] names faults = tt
  assigns-read here at settled (a ∷ rest) names faults =
      let n = append-none (fixed_target_faults here.scope a.target ++ name_faults here.scope a.value) _ names in
      let f = append-none (assigned_faults ByNode here.scope a.target a.value) _ faults in
      let own = append-none (fixed_target_faults here.scope a.target) (name_faults here.scope a.value) n.0 in
      (assign-read here at settled a.target a.value f.0 own.1 (target-holds here.instance.path here.scope settled a.target own.0), assigns-read here at settled rest n.1 f.1)

  -- a declared net is a target; a name that isn't declared counts as one bit
  wire-holds : (path : Identifier) (scope : Scope) → IsSettled scope → (place : SourcePlace) (name : Identifier) (entry : Option ScopeEntry) → looked_up scope name ≡ entry →
      (target_reading ByNode scope (OneSelect (record { place = place; name = name; index = NoIndex }))).here ≡ [] →
      (target_reading ByNode scope (OneSelect (record { place = place; name = name; index = NoIndex }))).inside ≡ [] →
      TargetHolds path scope (OneSelect (record { place = place; name = name; index = NoIndex }))
  wire-holds path scope settled place name (Some entry) is h i =
      let known : known_faults (looked_up scope name) place ≡ [] = ap (λ e. known_faults e place) is in
      target-holds path scope settled (OneSelect (record { place = place; name = name; index = NoIndex })) (ap (λ l. (l ++ []) ++ []) known) h i
  wire-holds path scope settled place name None is h i = record { few = rw is (omega arith); covers = rw is (omega arith); ascends = (whole-ascends _, tt) }

  wire-read : (here : Here) → IsAt modules mode top here.instance.path here.scope → IsSettled here.scope → (wire : SourceWire) (value : Option SourceExpression) →
      optional_faults (assigned_faults ByNode here.scope (wire_select wire)) value ≡ [] →
      optional_faults (name_faults here.scope) value ≡ [] → AllHold P (wire_parts here (record wire { value = value }))
  wire-read here at settled wire None faults names = tt
  wire-read here at settled wire (Some value) faults names =
      (assign-read here at settled (wire_select wire) value faults names (wire-holds here.instance.path here.scope settled wire.place wire.name (looked_up here.scope wire.name) refl), tt)

  wires-read : (here : Here) → IsAt modules mode top here.instance.path here.scope → IsSettled here.scope → (wires : List SourceWire) →
      flat_map (λ (w : SourceWire). optional_faults (name_faults here.scope) w.value) wires ≡ [] →
      flat_map (wire_faults here.scope) wires ≡ [] → AllHold P (flat_map (wire_parts here) wires)
  wires-read here at settled [] names faults = tt
  wires-read here at settled (wire ∷ rest) names faults =
      let n = append-none (optional_faults (name_faults here.scope) wire.value) _ names in
      let f = append-none (wire_faults here.scope wire) (flat_map (wire_faults here.scope) rest) faults in
      AllHold-append P (wire_parts here wire) (flat_map (wire_parts here) rest) (wire-read here at settled wire wire.value f.0 n.0) (wires-read here at settled rest n.1 f.1)

  entry-read : (here : Here) (d : Declaration) (entry : Option ScopeEntry) → AllHold P (part_by_entry here d entry)
  entry-read here d None = tt
  entry-read here d (Some (NetEntry range signed)) = (tt, tt)
  entry-read here d (Some (RegEntry range signed)) = (tt, tt)
  entry-read here d (Some (MemoryEntry range first last signed)) = (tt, tt)
  entry-read here d (Some (ParameterEntry value signed)) = tt
  entry-read here d (Some RefusedParameter) = tt
  entry-read here d (Some WaitingParameter) = tt
  entry-read here d (Some GateEntry) = tt
  entry-read here d (Some InstanceEntry) = tt

  declared-read : (here : Here) (item : SourceItem) → AllHold P (declared_parts here item)
  declared-read here item =
      AllHold-flat_map P (parts_of_own here (names_declared here.instance.inner)) (item_declarations item)
      (AllHold-all (λ d. AllHold P (parts_of_own here (names_declared here.instance.inner) d)) (item_declarations item)
      (λ d.
      AllHold-flat_map P (λ (own : Declaration). part_by_entry here own (looked_up here.scope own.name))
      (filter (λ (own : Declaration). same_place own.place d.place) (of_name d.name (names_declared here.instance.inner)))
      (AllHold-all (λ (own : Declaration). AllHold P (part_by_entry here own (looked_up here.scope own.name)))
      (filter (λ (own : Declaration). same_place own.place d.place) (of_name d.name (names_declared here.instance.inner)))
      (λ own. entry-read here own (looked_up here.scope own.name)))))

  gates-read : (here : Here) (kind : GateKind) (number : ℕ) (gates : List SourceGate) → AllHold P (gate_parts here kind number gates)
  gates-read here kind number [] = tt
  gates-read here kind number (gate ∷ rest) = (tt, gates-read here kind (number + 1) rest)

  item-read : (here : Here) → IsAt modules mode top here.instance.path here.scope → IsSettled here.scope → (gates : ℕ) (item : SourceItem) → item_name_faults here.scope item ≡ [] →
      item_faults here.scope item ≡ [] → AllHold P (item_parts here gates item)
  item-read here at settled gates (ParameterItem group) names faults = tt
  item-read here at settled gates (PortItem group) names faults = declared-read here (PortItem group)
  item-read here at settled gates (WireItem place signed range wires) names faults =
      let n = append-none (optional_faults _ range) (flat_map (λ (w : SourceWire). optional_faults (name_faults here.scope) w.value) wires) names in
      let f = append-none (declared_range_faults here.scope range) (flat_map (wire_faults here.scope) wires) faults in
      AllHold-append P (declared_parts here (WireItem place signed range wires)) (flat_map (wire_parts here) wires) (declared-read here (WireItem place signed range wires))
      (wires-read here at settled wires n.1 f.1)
  item-read here at settled gates (RegItem place signed range regs) names faults = declared-read here (RegItem place signed range regs)
  item-read here at settled gates (IntegerItem place regs) names faults = declared-read here (IntegerItem place regs)
  item-read here at settled gates (AssignItem place assignments) names faults = assigns-read here at settled assignments names faults
  item-read here at settled gates (GateItem place kind all) names faults = gates-read here kind (gates + 1) all
  item-read here at settled gates (InstanceItem place module_name parameters instances) names faults = tt
  item-read here at settled gates (InitialItem place body) names faults = (tt, tt)
  item-read here at settled gates (AlwaysItem place body) names faults = (tt, tt)

  -- Instances

  -- an instance that a walk comes to has a scope
  visited-named : (parts : List Part) → walked_from modules mode top ≡ Ok parts → (instance : Entered) → IsVisited modules mode top instance →
      names instance.inner instance.given ≡ Ok (scope_of instance.inner instance.given)
  visited-named parts e instance visited =
      let w = visited-walked modules mode top parts e instance visited in
      let step = then_go-ok (as_refusal (names instance.inner instance.given)) (λ s. walked_module (walked modules mode w.levels)
      (record { modules = modules; mode = mode; instance = instance; scope = s }) instance.inner w.before) w.after w.is in
      let named = as_refusal-ok (names instance.inner instance.given) step.0 step.1 in
      let m = instance.inner in
      let same : scope_of m instance.given ≡ step.0 = (unless_faulty-ok (module_name_faults (scope_of m instance.given) m) (scope_of m instance.given) step.0 named).1 in
      named ∙ ap Ok (sym same)

  abbrev Q : Entered → Type 0
  Q instance = IsVisited modules mode top instance

  here-at : (here : Here) → IsHere Q modules mode here → IsAt modules mode top here.instance.path here.scope
  here-at here is = record { instance = here.instance; visited = is.entered; named = is.scope; path_is = refl }

  child-read : (parts : List Part) → walked_from modules mode top ≡ Ok parts → (here : Here) → IsHere Q modules mode here →
      (inner : SourceModule) (given : List GivenParameter) (i : SourceInstance) → IsInstance here inner given i →
      IsChild (child_of here inner given) (paths_of here i)
  child-read parts e here is inner given i of =
      let visited = below here is.scope is.same_modules is.same_mode is.entered inner given i of in
      let named = visited-named parts e (entered here inner given i) visited in
      record {
        outer_at = here-at here is;
        inner_at = record { instance = entered here inner given i; visited = visited; named = named; path_is = refl };
        settled = walk-settled modules mode top parts e here.instance.path here.scope (here-at here is);
        narrow = scope-narrow modules mode top parts e (entered here inner given i) visited (scope_of inner given) named;
        port = module-port inner given;
      }

  -- the assignments of a walk
  pub assignments-read : (parts : List Part) → walked_from modules mode top ≡ Ok parts → AllHold (λ part. IsReadAssignment modules mode top part) parts
  assignments-read parts e =
      walk-holds P Q modules mode
      (record {
        of_item = λ here is gates item of none.
            item-read here (here-at here is) (walk-settled modules mode top parts e here.instance.path here.scope (here-at here is)) gates item
            (items-named here.instance.inner here.instance.given here.scope is.scope item of) none;
        of_connections = λ here is inner given i of.
            let all = items-named here.instance.inner here.instance.given here.scope is.scope (InstanceItem of.place of.module_name of.parameters of.instances) of.is in
            let actuals = (append-none (flat_map (λ (c : SourceConnection). optional_faults (constant_faults here.scope ParameterValue) c.actual) of.parameters)
            (flat_map (λ (j : SourceInstance). flat_map (actual_faults here.scope) j.connections) of.instances) all).1 in
            let own = flat-none (λ (j : SourceInstance). flat_map (actual_faults here.scope) j.connections) of.instances actuals of.number i of.at in
            connections-read (child_of here inner given) (paths_of here i) (child-read parts e here is inner given i of) 0 [] i.connections
            (shallow (child_of here inner given) (here.instance.depth + 1) i of.faultless) own;
        of_instance = tt;
        enters = λ here is inner given i of. below here is.scope is.same_modules is.same_mode is.entered inner given i of;
      }) top at_top parts e
