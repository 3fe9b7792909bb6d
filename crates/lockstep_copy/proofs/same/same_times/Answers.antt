-- Lists that are equal are equal at the place.
use Rattle.std.proofs.Common.{sym, ap, ◌∙◌, arith}
use Rattle.lockstep_copy.specs.Kept.{time_of}
use Rattle.lockstep_copy.proofs.Lists.{element-same}
use Rattle.lockstep_copy.proofs.same.same_times.Goals as goal

pub returns-then-one-place : goal.returns-then-one-place
returns-then-one-place c = (
  λ never. absurd (cc),
  λ e.
      let same = element-same time_of c.args.one.now c.args.other.now c.updates.place c.index-one-place.result c.index-other-place.result
      (omega (arith, c.updates-test.true)) c.updates.invariant.0 c.index-one-place.is c.index-other-place.is e in
      absurd (c.if-one-place.true (ap time_of (sym c.index-one-place.is) ∙ same ∙ ap time_of c.index-other-place.is)),
)
