use Rattle.std.proofs.Common.{◌≡◌, map, take, vec_len}
use Rattle.vf_base.specs.Base.{object_number}
use Rattle.net_graph.specs.Walks.{ClearsCounts}
use Rattle.net_graph.proofs.walk.clear_outputs.Given as goal

abbrev pub invariant-outputs : goal.invariant-outputs
invariant-outputs l = record {
  same : vec_len l.counts ≡ vec_len l.initial.counts;
  cleared : ClearsCounts (map object_number (take l.output-index l.outputs)) l.initial.counts.items l.counts.items;
}
