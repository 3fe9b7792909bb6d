-- Those below the number are let go of.
use Rattle.std.proofs.Common.{◌≡◌}
use Rattle.event_queue.specs.Arranged.{held_by_process}
use Rattle.event_queue.proofs.Clears.{cleared_below}
use Rattle.event_queue.proofs.processes.clear_all.Given as goal

abbrev pub invariant-numbers : goal.invariant-numbers
invariant-numbers l = held_by_process l.processes ≡ cleared_below l.number (held_by_process l.initial.processes)
