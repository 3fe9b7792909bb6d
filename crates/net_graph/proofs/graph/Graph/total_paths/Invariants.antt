use Rattle.std.proofs.Common.{◌≡◌, vec_len}
use Rattle.v_design.specs.PlainDesigns.{design_of}
use Rattle.net_graph.specs.SpreadLaws.{TotalsBefore}
use Rattle.net_graph.proofs.graph.Graph.total_paths.Given as goal

abbrev pub invariant-nodes : goal.invariant-nodes
invariant-nodes l = record {
  totals : TotalsBefore (design_of l.self.design.now) l.counts l.number l.totals.items;
  same : vec_len l.totals ≡ vec_len l.initial.totals;
}
