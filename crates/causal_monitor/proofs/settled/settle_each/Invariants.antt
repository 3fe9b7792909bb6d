use Rattle.std.proofs.Common.{◌≡◌, vec_len}
use Rattle.v_design.specs.Logs.{phase_changes}
use Rattle.v_design.specs.PlainDesigns.{design_of}
use Rattle.net_graph.specs.Tables.{object_lists}
use Rattle.causal_monitor.proofs.TotalLaws.{SettledBefore}
use Rattle.causal_monitor.proofs.settled.settle_each.Given as goal

abbrev pub invariant-objects : goal.invariant-objects
invariant-objects l = record {
  belongs : l.marks.design.now ≡ l.graph.design.now;
  count : vec_len l.lists ≡ vec_len l.counts;
  settled : SettledBefore (design_of l.graph.design.now) (phase_changes (design_of l.graph.design.now) l.log.log) l.counts.items l.number (object_lists l.lists.items);
}
