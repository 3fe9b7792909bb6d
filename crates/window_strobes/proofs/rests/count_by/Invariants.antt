-- All so far come up to the time.
use Rattle.std.proofs.Common.{◌≤◌, take}
use Rattle.vf_base.specs.Lists.{AllHold}
use Rattle.kept_samples.specs.declared.kept.Sample.{Sample}
use Rattle.window_strobes.proofs.rests.count_by.Given as goal

abbrev pub invariant-samples : goal.invariant-samples
invariant-samples l = AllHold (λ (sample : Sample). sample.time ≤ l.time) (take l.place l.samples)
