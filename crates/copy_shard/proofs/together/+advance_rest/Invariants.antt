-- A shard fewer is left.
use Rattle.std.proofs.Common.{length}
use Rattle.copy_shard.proofs.together.+advance_rest.Given as goal

abbrev pub decreases-advance_rest : goal.decreases-advance_rest
decreases-advance_rest g l = length l.shards.now.items
