-- Items whose targets take runs of bits (IEEE 1364-2001, clause 6.1 for assignments, clause 7.1 for gates).
use Rattle.std.specs.Prelude.{List}
use Rattle.vf_base.specs.Lists.{AllHold}
use Rattle.v_tree.specs.Trees.{SourceAssignment, SourceGate, SourceItem, ParameterItem, PortItem, WireItem, RegItem, IntegerItem, AssignItem, GateItem, InstanceItem, InitialItem, AlwaysItem}
use Rattle.v_names.specs.Scopes.{Scope}
use Rattle.select_bits.specs.Runs.{TargetTakesRuns}

abbrev pub AssignmentsTakeRuns : Scope → List SourceAssignment → Type 0
AssignmentsTakeRuns scope assignments = AllHold (λ (a : SourceAssignment). TargetTakesRuns scope a.target) assignments

abbrev pub GatesTakeRuns : Scope → List SourceGate → Type 0
GatesTakeRuns scope gates = AllHold (λ (g : SourceGate). TargetTakesRuns scope g.output) gates

-- the nets that an item assigns or drives by gates
abbrev pub ItemTakesRuns : Scope → SourceItem → Type 0
ItemTakesRuns scope (ParameterItem group) = Unit {0}
ItemTakesRuns scope (PortItem group) = Unit {0}
ItemTakesRuns scope (WireItem place signed range wires) = Unit {0}
ItemTakesRuns scope (RegItem place signed range regs) = Unit {0}
ItemTakesRuns scope (IntegerItem place regs) = Unit {0}
ItemTakesRuns scope (AssignItem place assignments) = AssignmentsTakeRuns scope assignments
ItemTakesRuns scope (GateItem place kind gates) = GatesTakeRuns scope gates
ItemTakesRuns scope (InstanceItem place module_name parameters instances) = Unit {0}
ItemTakesRuns scope (InitialItem place body) = Unit {0}
ItemTakesRuns scope (AlwaysItem place body) = Unit {0}
