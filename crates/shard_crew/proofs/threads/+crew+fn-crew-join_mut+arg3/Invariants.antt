-- One counter less.
use Rattle.std.proofs.Common.{◌+◌, ◌*◌, length}
use Rattle.shard_crew.proofs.threads.+crew+fn-crew-join_mut+arg3.Given as goal

abbrev pub decreases-crew : goal.decreases-crew
decreases-crew g l = 2 * length l.steps.now

abbrev pub decreases-join_mut+arg3 : goal.decreases-join_mut+arg3
decreases-join_mut+arg3 g l = 2 * length l.others.now + 1
