use Rattle.copy_shard.proofs.Places.{FoundTo}
use Rattle.copy_shard.proofs.shard.push_each.Given as goal

abbrev pub invariant-faults : goal.invariant-faults
invariant-faults l = FoundTo l.initial.found.items l.own-index l.faults l.found.items
