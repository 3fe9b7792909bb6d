-- The samples so far.
use Rattle.std.proofs.Common.{◌≡◌, take}
use Rattle.kept_samples.proofs.kept.Kept.copy.Given as goal

abbrev pub invariant-samples : goal.invariant-samples
invariant-samples l = l.differs.items ≡ take l.sample-index l.sample-items
