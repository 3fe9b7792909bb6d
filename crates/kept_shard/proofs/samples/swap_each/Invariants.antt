use Rattle.kept_shard.proofs.Swapping.{SwappedTo}
use Rattle.kept_shard.proofs.samples.swap_each.Given as goal

abbrev pub invariant-faults : goal.invariant-faults
invariant-faults l = SwappedTo l.place l.initial.faults.items l.initial.kept.items l.faults.items l.kept.items
