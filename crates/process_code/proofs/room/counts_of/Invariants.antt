use Rattle.std.proofs.Common.{◌≡◌, replicate}
use Rattle.process_code.proofs.room.counts_of.Given as goal

abbrev pub invariant-repeats : goal.invariant-repeats
invariant-repeats l = l.counts.items ≡ replicate l.counter 0
