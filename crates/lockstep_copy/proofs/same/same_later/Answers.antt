-- Lists that are equal are equal at the place.
use Rattle.std.proofs.Common.{arith}
use Rattle.v_design.specs.Plain.{due_of}
use Rattle.lockstep_copy.proofs.Lists.{element-same}
use Rattle.lockstep_copy.proofs.same.same_later.Goals as goal

pub returns-then-not-same_due : goal.returns-then-not-same_due
returns-then-not-same_due c = (
  λ never. absurd (cc),
  λ e.
      let same = element-same due_of c.args.one.now c.args.other.now c.updates.place c.index-one-place.result c.index-other-place.result
      (omega (arith, c.updates-test.true)) c.updates.invariant.0 c.index-one-place.is c.index-other-place.is e in
      let yes = c.same_due.ensures.1 same in
      cc,
)
