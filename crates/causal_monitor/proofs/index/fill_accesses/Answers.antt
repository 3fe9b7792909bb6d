use Rattle.std.proofs.Common.{[], length, subst, sym}
use Rattle.causal_monitor.specs.Changes.{CountChanges}
use Rattle.causal_monitor.proofs.ChangeLaws.{CountChanges-none}
use Rattle.causal_monitor.proofs.index.fill_accesses.Goals as goal

pub count_changes-requires-clause-blank : goal.count_changes-requires-clause-blank
count_changes-requires-clause-blank c = subst (CountChanges []) (sym c.in_ok-fill_zeros.ensures) (CountChanges-none (length c.as_slice-objects.result.now))
