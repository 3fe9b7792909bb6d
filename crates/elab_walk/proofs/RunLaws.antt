-- What nodes drive are runs of bits, where nothing is wrong with their targets (IEEE 1364-2001, clause 6.1 for assignments, clause 7.1 for gates, clause 12.3.9 for outputs).
use Rattle.std.proofs.Common.{◌≡◌, ℕ, ◌+◌, Bool, true, false, List, [], ◌∷◌, ◌++◌, Option, Some, None, flat_map, refl, sym, ap, ◌∙◌, inl, inr}
use Rattle.std.specs.Prelude.{◌&&◌, nat_lt}
use Rattle.std.proofs.lemmas.Bool.{cases_Bool}
use Rattle.vf_base.specs.Base.{SourcePlace}
use Rattle.v_tree.specs.declared.item.Direction.{Direction}
use Rattle.v_tree.specs.declared.item.Direction.TheVariants.{Input, Output}
use Rattle.v_tree.specs.Trees.{Identifier, SourceExpression, SourceSelect, SourceTarget, OneSelect, JoinedSelects, selects_of, SourceAssignment, SourceGate, SourceConnection, SourceInstance}
use Rattle.v_tree.specs.Trees.{SourceItem}
use Rattle.v_tree.specs.Trees.{ParameterItem, PortItem, WireItem, RegItem, IntegerItem, AssignItem, GateItem, InstanceItem, InitialItem, AlwaysItem, place_of_target, has_name}
use Rattle.v_names.specs.Faults.{Fault, BadConnection, TooDeep, fault_at, fault_if}
use Rattle.v_names.specs.Scopes.{Scope, looked_up}
use Rattle.v_names.specs.Readings.{Reading, reading_of, select_reading}
use Rattle.v_names.specs.Constants.{known_faults, fixed_index_faults, fixed_select_faults, name_faults, optional_faults}
use Rattle.v_names.specs.Names.{fixed_target_faults, gate_name_faults, item_name_faults}
use Rattle.v_width.specs.Targets.{ByNode, may_write, written_reading, target_select_reading, selects_reading, target_reading, TargetReading, within_most, target_alone_faults, target_of}
use Rattle.v_elab.specs.ItemFaults.{assigned_faults, is_not_one, output_faults, terminal_faults, gate_faults, item_faults}
use Rattle.v_elab.specs.Connections.{Child, connected_name, head_names, joined_name, port_direction, is_named, name_before, output_actual_faults, actual_faults_by, port_faults, connections_faults}
use Rattle.v_elab.specs.Connections.{instance_faults, most_depth}
use Rattle.flat_laws.specs.Sizes.Complete.{append-none, group-none}
use Rattle.flat_laws.specs.Sizes.Statements.{within-few}
use Rattle.select_bits.specs.Runs.{TakeRuns, TargetTakesRuns}
use Rattle.select_bits.specs.RunLaws.{select-takes}
use Rattle.elab_items.specs.Runs.{AssignmentsTakeRuns, GatesTakeRuns, ItemTakesRuns}
use Rattle.elab_connections.specs.OutputRuns.{OutputTakesRuns, ActualTakesRuns, ConnectionTakesRuns, ConnectionsTakeRuns}

-- Targets of nodes

written-here : (writes : Bool) (place : SourcePlace) (reading : Reading) → (written_reading writes place reading).here ≡ [] → reading.here ≡ []
written-here true place reading e = e
written-here false place reading e = absurd (cc)

selects-run : (scope : Scope) (selects : List SourceSelect) → flat_map (fixed_select_faults scope) selects ≡ [] → (selects_reading ByNode scope selects).here ≡ [] → TakeRuns scope selects
selects-run scope [] names here = tt
selects-run scope (select ∷ rest) names here =
    let n = append-none (fixed_select_faults scope select) (flat_map (fixed_select_faults scope) rest) names in
    let h = append-none (target_select_reading ByNode scope select).here (selects_reading ByNode scope rest).here here in
    let known = (append-none (known_faults (looked_up scope select.name) select.place) (fixed_index_faults scope select.index) n.0).0 in
    let own = written-here (may_write ByNode (looked_up scope select.name)) select.place (select_reading scope select.place select.name select.index) h.0 in
    (select-takes scope select.place select.name select.index known own, selects-run scope rest n.1 h.1)

-- nothing is wrong with what stands in braces where nothing is wrong with them
within-here : (place : SourcePlace) (reading : TargetReading) → (within_most place reading).here ≡ [] → reading.here ≡ []
within-here place reading e = by_width reading.width refl
  where
    by_width : (width : Option ℕ) → reading.width ≡ width → reading.here ≡ []
    by_width None is = sym (ap (λ (w : Option ℕ). (within_most place (record reading { width = w })).here) is) ∙ e
    by_width (Some total) is = (within-few place reading total is e).2

target-runs : (scope : Scope) (target : SourceTarget) → fixed_target_faults scope target ≡ [] → (target_reading ByNode scope target).here ≡ [] → TargetTakesRuns scope target
target-runs scope (OneSelect select) names here = selects-run scope (select ∷ []) names here
target-runs scope (JoinedSelects place selects) names here = selects-run scope selects names (within-here place (selects_reading ByNode scope selects) here)

alone-runs : (scope : Scope) (target : SourceTarget) → fixed_target_faults scope target ≡ [] → target_alone_faults (target_reading ByNode scope target) ≡ [] → TargetTakesRuns scope target
alone-runs scope target names faults =
    let reading = target_reading ByNode scope target in
    target-runs scope target names (group-none reading.here reading.inside faults).0

-- Items

assignments-run : (scope : Scope) (assignments : List SourceAssignment) → flat_map (λ (a : SourceAssignment). fixed_target_faults scope a.target ++ name_faults scope a.value) assignments ≡ [] →
    flat_map (λ (a : SourceAssignment). assigned_faults ByNode scope a.target a.value) assignments ≡ [] → AssignmentsTakeRuns scope assignments
assignments-run scope [] names faults = tt
assignments-run scope (a ∷ rest) names faults =
    let n = append-none (fixed_target_faults scope a.target ++ name_faults scope a.value)
    (flat_map (λ (b : SourceAssignment). fixed_target_faults scope b.target ++ name_faults scope b.value) rest) names in
    let own = append-none (fixed_target_faults scope a.target) (name_faults scope a.value) n.0 in
    let f = append-none (assigned_faults ByNode scope a.target a.value) (flat_map (λ (b : SourceAssignment). assigned_faults ByNode scope b.target b.value) rest) faults in
    let target = target_reading ByNode scope a.target in
    let value = reading_of scope a.value in
    let here = append-none target.here value.here (group-none (target.here ++ value.here) (target.inside ++ value.inside) f.0).0 in
    (target-runs scope a.target own.0 here.0, assignments-run scope rest n.1 f.1)

gates-run : (scope : Scope) (gates : List SourceGate) → flat_map (gate_name_faults scope) gates ≡ [] → flat_map (gate_faults scope) gates ≡ [] → GatesTakeRuns scope gates
gates-run scope [] names faults = tt
gates-run scope (g ∷ rest) names faults =
    let n = append-none (gate_name_faults scope g) (flat_map (gate_name_faults scope) rest) names in
    let own = append-none (fixed_target_faults scope g.output) (flat_map (name_faults scope) g.inputs) n.0 in
    let f = append-none (gate_faults scope g) (flat_map (gate_faults scope) rest) faults in
    let output = append-none (output_faults scope g.output) (flat_map (terminal_faults scope) g.inputs) f.0 in
    let reading = target_reading ByNode scope g.output in
    let alone = append-none (target_alone_faults reading) (fault_if (is_not_one reading.width) (place_of_target g.output) BadConnection) output.0 in
    (alone-runs scope g.output own.0 alone.0, gates-run scope rest n.1 f.1)

-- an item of which nothing is wrong
pub item-runs : (scope : Scope) (item : SourceItem) → item_name_faults scope item ≡ [] → item_faults scope item ≡ [] → ItemTakesRuns scope item
item-runs scope (ParameterItem group) names faults = tt
item-runs scope (PortItem group) names faults = tt
item-runs scope (WireItem place signed range wires) names faults = tt
item-runs scope (RegItem place signed range regs) names faults = tt
item-runs scope (IntegerItem place regs) names faults = tt
item-runs scope (AssignItem place assignments) names faults = assignments-run scope assignments names faults
item-runs scope (GateItem place kind gates) names faults = gates-run scope gates names faults
item-runs scope (InstanceItem place module_name parameters instances) names faults = tt
item-runs scope (InitialItem place body) names faults = tt
item-runs scope (AlwaysItem place body) names faults = tt

-- Connections

output-runs : (scope : Scope) (e : SourceExpression) (target : Option SourceTarget) → output_actual_faults scope e target ≡ [] → OutputTakesRuns scope target
output-runs scope e None faults = tt
output-runs scope e (Some target) faults =
    let f = append-none (target_alone_faults (target_reading ByNode scope target)) (fixed_target_faults scope target) faults in
    alone-runs scope target f.1 f.0

actual-runs : (scope : Scope) (e : SourceExpression) (joined : Option Identifier) (direction : Option Direction) → actual_faults_by scope joined direction e ≡ [] →
    ActualTakesRuns scope e joined direction
actual-runs scope e (Some joined) direction faults = tt
actual-runs scope e None (Some Input) faults = tt
actual-runs scope e None (Some Output) faults = output-runs scope e (target_of e) faults
actual-runs scope e None None faults = tt

port-runs : (child : Child) (port : Identifier) (actual : Option SourceExpression) →
    optional_faults (λ e. actual_faults_by child.outer_scope (joined_name child port e) (port_direction child.inner port) e) actual ≡ [] → ConnectionTakesRuns child (Some port) actual
port-runs child port None faults = tt
port-runs child port (Some actual) faults = actual-runs child.outer_scope actual (joined_name child port actual) (port_direction child.inner port) faults

connection-runs : (child : Child) (earlier : List Identifier) (connection : SourceConnection) (port : Option Identifier) → port_faults child earlier connection port ≡ [] →
    ConnectionTakesRuns child port connection.actual
connection-runs child earlier connection None faults = tt
connection-runs child earlier connection (Some port) faults =
    port-runs child port connection.actual (append-none (fault_if (is_named connection.name && has_name earlier port) connection.place BadConnection)
    (optional_faults (λ e. actual_faults_by child.outer_scope (joined_name child port e) (port_direction child.inner port) e) connection.actual) faults).1

connections-run : (child : Child) (position : ℕ) (earlier : List Identifier) (connections : List SourceConnection) → connections_faults child position earlier connections ≡ [] →
    ConnectionsTakeRuns child position connections
connections-run child position earlier [] faults = tt
connections-run child position earlier (connection ∷ rest) faults =
    let port = connected_name (head_names child.inner.heads) position connection.name in
    let f = append-none (port_faults child earlier connection port) (connections_faults child (position + 1) (name_before port earlier) rest) faults in
    (connection-runs child earlier connection port f.0, connections-run child (position + 1) (name_before port earlier) rest f.1)

deep-faults : (child : Child) (depth : ℕ) (i : SourceInstance) → nat_lt most_depth depth ≡ true → instance_faults child depth i ≡ fault_at i.place TooDeep ∷ []
deep-faults child depth i e = rw e

shallow-faults : (child : Child) (depth : ℕ) (i : SourceInstance) → nat_lt most_depth depth ≡ false → instance_faults child depth i ≡ connections_faults child 0 [] i.connections
shallow-faults child depth i e = rw e

-- an instance of which nothing is wrong
pub instance-runs : (child : Child) (depth : ℕ) (i : SourceInstance) → instance_faults child depth i ≡ [] → ConnectionsTakeRuns child 0 i.connections
instance-runs child depth i faults =
    elim (cases_Bool (nat_lt most_depth depth)) [
      | inl deep ↦ let wrong : fault_at i.place TooDeep ∷ [] ≡ [] = sym (deep-faults child depth i deep) ∙ faults in absurd (cc)
      | inr fits ↦ connections-run child 0 [] i.connections (sym (shallow-faults child depth i fits) ∙ faults)
    ]
