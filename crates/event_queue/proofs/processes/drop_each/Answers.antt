-- Each lane is that of a process.
use Rattle.std.proofs.Common.{◌<◌, length, ap, sym, subst, ℕ}
use Rattle.event_queue.specs.Arranged.{lane_number}
use Rattle.event_queue.proofs.Places.{AllHold-at}
use Rattle.event_queue.proofs.processes.drop_each.Goals as goal

pub drop_due-requires : goal.drop_due-requires
drop_due-requires c =
    let Below : ℕ → Type 0 = λ n. (n < length c.loop-lane.processes) in
    subst Below (ap lane_number (sym c.lane-item.is))
    (AllHold-at Below lane_number c.args.lanes.now c.loop-lane.lane-index c.lane-item.result (rw c.loop-lane.auto.processes c.requires) c.loop-lane-test.true)
