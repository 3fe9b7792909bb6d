-- So many shards are taken out.
use Rattle.std.proofs.Common.{◌≡◌, map}
use Rattle.shard_workers.specs.Ordered.{claimed_shard}
use Rattle.shard_workers.proofs.order.without_numbers.Given as goal

abbrev pub invariant-claimed : goal.invariant-claimed
invariant-claimed g l = l.shards.items ≡ map claimed_shard l.yielded
