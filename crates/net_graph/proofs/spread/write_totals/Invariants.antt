use Rattle.std.proofs.Common.{◌≡◌, map, take, vec_len}
use Rattle.vf_base.specs.Base.{object_number}
use Rattle.net_graph.specs.SpreadLaws.{WritesTotals}
use Rattle.net_graph.proofs.spread.write_totals.Given as goal

abbrev pub invariant-outputs : goal.invariant-outputs
invariant-outputs l = record {
  same : vec_len l.totals ≡ vec_len l.initial.totals;
  written : WritesTotals l.counts l.through (map object_number (take l.output-index l.outputs)) l.initial.totals.items l.totals.items;
}
