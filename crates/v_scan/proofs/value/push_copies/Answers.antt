use Rattle.std.proofs.Common.{arith}
use Rattle.v_scan.proofs.ValueLaws.{copies-step}
use Rattle.v_scan.proofs.value.push_copies.Goals as goal

pub copies-preserved : goal.copies-preserved
copies-preserved c =
    record {
      within = omega arith;
      same = rw c.in_ok-push.ensures.items (copies-step c.args.bit c.copies.bits.items _ c.args.count c.copies.counter (omega arith) c.copies.invariant.same);
    }
