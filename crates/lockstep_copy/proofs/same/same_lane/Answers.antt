-- Lists that are equal are equal at the place.
use Rattle.std.proofs.Common.{arith}
use Rattle.v_design.specs.Plain.{update_of}
use Rattle.lockstep_copy.proofs.Lists.{element-same}
use Rattle.lockstep_copy.proofs.same.same_lane.Goals as goal

pub returns-then-not-same_update : goal.returns-then-not-same_update
returns-then-not-same_update c = (
  λ never. absurd (cc),
  λ e.
      let same = element-same update_of c.args.one.now c.args.other.now c.updates.place c.index-one-place.result c.index-other-place.result
      (omega (arith, c.updates-test.true)) c.updates.invariant.0 c.index-one-place.is c.index-other-place.is e in
      let yes = c.same_update.ensures.1 same in
      cc,
)
