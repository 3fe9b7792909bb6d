-- Fewer shards are left.
use Rattle.std.proofs.Common.{length}
use Rattle.copy_shard.proofs.together.+advance_together.Given as goal

abbrev pub decreases-advance_together : goal.decreases-advance_together
decreases-advance_together g l = length l.shards.now.items
