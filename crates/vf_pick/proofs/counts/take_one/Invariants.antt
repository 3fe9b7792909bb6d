use Rattle.std.proofs.Common.{◌≡◌, length}
use Rattle.vf_pick.proofs.Taking.{AreTaken}
use Rattle.vf_pick.proofs.counts.take_one.Given as goal

abbrev pub invariant-faults : goal.invariant-faults
invariant-faults l = record {
  same : length l.counts.items ≡ length l.initial.counts.items;
  taken : AreTaken l.initial.counts.items l.counts.items l.faults l.fault-index;
}
