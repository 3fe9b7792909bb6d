use Rattle.std.proofs.Common.{◌≡◌, ◌-◌, length, vec_len}
use Rattle.v_design.specs.PlainDesigns.{design_of}
use Rattle.net_graph.specs.Walks.{OnlyDrivenCount}
use Rattle.net_graph.proofs.walk.clear_driven.Given as goal

abbrev pub invariant-nodes : goal.invariant-nodes
invariant-nodes l = record {
  same : vec_len l.counts ≡ vec_len l.fn.counts;
  only : OnlyDrivenCount (design_of l.design).nodes l.walked l.at l.counts.items;
}

abbrev pub decreases-nodes : goal.decreases-nodes
decreases-nodes l = length (design_of l.design).nodes - l.at
