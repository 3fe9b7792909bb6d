use Rattle.std.proofs.Common.{◌≡◌, false, drop}
use Rattle.vf_base.specs.Lists.{has}
use Rattle.plan_read.proofs.stem.front.Given as goal

abbrev pub invariant-bytes : goal.invariant-bytes
invariant-bytes l = has (drop l.i l.word) 46 ≡ false
