use Rattle.process_table.proofs.Candidates.{waiters-more}
use Rattle.process_table.proofs.wakes.list_waiters.Goals as goal

pub changes-preserved : goal.changes-preserved
changes-preserved c =
    waiters-more c.args.index.now c.args.changes.now c.changes.change-index c.change-item.result c.changes.candidates.items c.push_waiters.new.candidates.items c.changes-test.true c.change-item.is
    c.in_ok-push_waiters.ensures c.changes.invariant
