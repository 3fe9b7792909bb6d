use Rattle.std.proofs.Common.{arith}
use Rattle.v_scan.proofs.ValueLaws.{places-step}
use Rattle.v_scan.proofs.value.push_number.Goals as goal

pub places-preserved : goal.places-preserved
places-preserved c =
    record {
      within = omega arith;
      same = rw (c.in_ok-push.ensures.items, c.lowest_bit.ensures) (places-step c.places.bits.items _ c.args.count c.places.counter c.places.rest (omega arith) c.places.invariant.same);
    }
