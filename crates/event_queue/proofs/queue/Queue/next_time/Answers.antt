-- The lesser of the first times of both maps.
use Rattle.std.proofs.Common.{◌∙◌, ap}
use Rattle.event_queue.specs.Queues.{next_time}
use Rattle.event_queue.specs.Arranged.{held_by_process}
use Rattle.event_queue.proofs.NextTimes.{next_time-arranged}
use Rattle.event_queue.proofs.queue.Queue.next_time.Goals as goal

pub returns : goal.returns
returns c =
    let q = c.self.inside in
    c.earlier.ensures
    ∙ (next_time-arranged (held_by_process q.processes.items) q.postponed q.sleepers q.lanes c.self.invariant c.first_time.result c.first_time-2.result c.first_time.ensures c.first_time-2.ensures
    ∙ ap next_time c.self.view_is)
