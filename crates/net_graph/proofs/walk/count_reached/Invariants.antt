use Rattle.std.proofs.Common.{◌≡◌, ◌-◌, length, vec_len}
use Rattle.v_design.specs.PlainDesigns.{design_of}
use Rattle.net_graph.specs.Walks.{IsWalked}
use Rattle.net_graph.proofs.walk.count_reached.Given as goal

abbrev pub invariant-nodes : goal.invariant-nodes
invariant-nodes l = record {
  walk : IsWalked (design_of l.graph.design.now) l.from l.at l.counts.items l.walked;
  same : vec_len l.counts ≡ vec_len l.fn.counts;
  walked_same : l.walked.bound ≡ l.fn.walked.bound;
}

abbrev pub decreases-nodes : goal.decreases-nodes
decreases-nodes l = length (design_of l.graph.design.now).nodes - l.at
