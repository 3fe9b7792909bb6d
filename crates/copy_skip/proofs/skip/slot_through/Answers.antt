-- Slot by slot.
use Rattle.std.proofs.Common.{arith}
use Rattle.copy_skip.proofs.skip.slot_through.Goals as goal

pub slots-init : goal.slots-init
slots-init g c = record {
  since = omega arith;
  within = omega (arith, c.requires, c.slots-count.ensures);
  count = c.slots-count.ensures;
  before = λ h. absurd (omega (arith, h));
}

pub slots-preserved : goal.slots-preserved
slots-preserved g c =
    let own = c.slots.invariant in
    let end = c.first_moment-end.ensures.moment in
    record {
      since = omega (arith, own.since);
      within = omega (arith, c.slots-test.true);
      count = own.count;
      before = λ h. omega (arith, end, c.if-limit-end.false);
    }
