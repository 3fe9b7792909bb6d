use Rattle.std.proofs.Common.{◌≡◌, take}
use Rattle.window_strobes.proofs.rests.copied.Given as goal

abbrev pub invariant-samples : goal.invariant-samples
invariant-samples l = l.copies.items ≡ take l.sample-index l.samples
