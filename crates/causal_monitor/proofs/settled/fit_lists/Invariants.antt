use Rattle.std.proofs.Common.{◌≤◌, ◌-◌, vec_len}
use Rattle.causal_monitor.proofs.settled.fit_lists.Given as goal

abbrev pub decreases-more : goal.decreases-more
decreases-more l = l.objects - vec_len l.lists

abbrev pub invariant-more : goal.invariant-more
invariant-more l = vec_len l.lists ≤ l.objects
