use Rattle.std.proofs.Common.{◌≡◌, ◌≤◌, false, get_or, length, vec_len}
use Rattle.v_design.specs.PlainDesigns.{design_of}
use Rattle.net_graph.specs.ConeLaws.{AreReached}
use Rattle.net_graph.proofs.cone.mark_sources.Given as goal

abbrev pub invariant-nodes : goal.invariant-nodes
invariant-nodes l = record {
  within : l.left ≤ length l.nodes;
  same : vec_len l.marked ≡ vec_len l.fn.marked;
  reached : AreReached (design_of l.design).nodes l.left (λ o. get_or l.fn.marked.items o false) l.marked.items;
}

abbrev pub decreases-nodes : goal.decreases-nodes
decreases-nodes l = l.left
