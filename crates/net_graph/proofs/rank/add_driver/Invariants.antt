use Rattle.std.proofs.Common.{◌≡◌, map, take, vec_len}
use Rattle.vf_base.specs.Base.{object_number}
use Rattle.graph_order.specs.Digraphs.{lists_of}
use Rattle.net_graph.specs.WiringLaws.{DriverAdded}
use Rattle.net_graph.proofs.rank.add_driver.Given as goal

abbrev pub invariant-outputs : goal.invariant-outputs
invariant-outputs l = record {
  same : vec_len l.needs ≡ vec_len l.initial.needs;
  added : DriverAdded l.driver (map object_number (take l.output-index l.outputs)) (lists_of l.initial.needs.items) (lists_of l.needs.items);
}
