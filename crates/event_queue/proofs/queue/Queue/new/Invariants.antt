-- Of the processes so far nothing is held.
use Rattle.std.proofs.Common.{◌≡◌}
use Rattle.event_queue.specs.Queues.{nothing_held, repeated}
use Rattle.event_queue.specs.Arranged.{held_by_process}
use Rattle.event_queue.proofs.queue.Queue.new.Given as goal

abbrev pub invariant-loop : goal.invariant-loop
invariant-loop l = held_by_process l.held.items ≡ repeated nothing_held l.counter
