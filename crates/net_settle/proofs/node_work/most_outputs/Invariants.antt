use Rattle.std.proofs.Common.{ℕ, ◌<◌, ◌≤◌, get_or, length}
use Rattle.v_design.specs.declared.plan.Node.{Node}
use Rattle.net_settle.proofs.node_work.most_outputs.Given as goal

abbrev pub invariant-nodes : goal.invariant-nodes
invariant-nodes l = (k : ℕ) (d : Node) → k < l.node-index → length (get_or l.nodes k d).outputs ≤ l.most
