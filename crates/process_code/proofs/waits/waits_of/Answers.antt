use Rattle.process_code.proofs.WaitEntries.{waits-more}
use Rattle.process_code.proofs.waits.waits_of.Goals as goal

pub spots-preserved : goal.spots-preserved
spots-preserved c =
    waits-more c.args.spots.now c.spots.spot-index c.spot-item.result c.spots.waits.items c.push.new.self.items c.in_ok-entries.entries c.spots-test.true c.spot-item.is
    c.in_ok-push.ensures.items c.in_ok-entries.ensures c.spots.invariant
