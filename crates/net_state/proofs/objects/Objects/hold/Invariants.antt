use Rattle.std.proofs.Common.{◌≡◌, map, take}
use Rattle.vf_base.specs.Base.{object_number}
use Rattle.v_design.specs.Assignments.{with_outputs}
use Rattle.v_design.specs.PlainDesigns.{design_of}
use Rattle.node_eval.specs.ValuesOf.{AreValuesOf}
use Rattle.net_state.proofs.objects.Objects.hold.Given as goal

abbrev pub invariant-outputs : goal.invariant-outputs
invariant-outputs l = record {
  settle : l.self.settle ≡ l.initial.self.settle;
  are : AreValuesOf (design_of l.self.settle.graph.now.design.now) l.self.values.items;
  values : l.self.values.items ≡ with_outputs (take l.at (map object_number l.outputs)) (take l.at l.values) l.initial.self.values.items;
}
