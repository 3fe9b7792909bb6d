use Rattle.std.proofs.Common.{◌≡◌, vec_len}
use Rattle.v_design.specs.PlainDesigns.{design_of}
use Rattle.causal_monitor.specs.Changes.{CountChanges}
use Rattle.causal_monitor.proofs.ChangeLaws.{changes_before}
use Rattle.causal_monitor.proofs.changes.count_changes.Given as goal

abbrev pub invariant-events : goal.invariant-events
invariant-events l = record {
  same : vec_len l.counts ≡ vec_len l.fn.counts;
  counted : CountChanges (changes_before (design_of l.design) l.log.log l.event) l.counts.items;
}
