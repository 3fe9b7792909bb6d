use Rattle.std.proofs.Common.{◌≡◌, drop}
use Rattle.v_design.specs.Assignments.{settled_from}
use Rattle.v_design.specs.PlainDesigns.{design_of}
use Rattle.v_design.specs.Views.{machine_with}
use Rattle.net_settle.specs.Rooms.{IsMadeFor}
use Rattle.net_state.proofs.objects.Objects.settle_all.Given as goal

abbrev pub invariant-nodes : goal.invariant-nodes
invariant-nodes l = record {
  settle : l.self.settle ≡ l.initial.self.settle;
  made : IsMadeFor (design_of l.initial.self.settle.graph.now.design.now) l.room;
  values : settled_from (machine_with l.initial.self.settle.graph.now.design.now l.fn.fault) l.number (drop l.number (design_of l.initial.self.settle.graph.now.design.now).nodes) l.self.values.items
      ≡ settled_from (machine_with l.initial.self.settle.graph.now.design.now l.fn.fault) 0 (design_of l.initial.self.settle.graph.now.design.now).nodes l.initial.self.values.items;
}
