use Rattle.std.proofs.Common.{◌≡◌, ℕ, ◌<◌, ◌≤◌, true, map, take}
use Rattle.vf_base.specs.Base.{node_number}
use Rattle.vf_base.specs.Lists.{has}
use Rattle.net_settle.proofs.settle.past_of.Given as goal

abbrev pub invariant-nodes : goal.invariant-nodes
invariant-nodes l = record {
  high : l.fn.past ≤ l.highest;
  within : l.highest ≤ l.fn.count;
  higher : (node : ℕ) → has (map node_number (take l.node-index l.nodes)) node ≡ true → node < l.highest;
}
