-- What is left to be done, done to what is held now, gives the result.
use Rattle.std.proofs.Common.{◌≡◌, drop, map}
use Rattle.event_queue.specs.Arranged.{held_by_process, lane_number, without_at, changed_each}
use Rattle.event_queue.proofs.processes.drop_each.Given as goal

abbrev pub invariant-loop-lane : goal.invariant-loop-lane
invariant-loop-lane l =
    changed_each (without_at l.time) (map lane_number (drop l.lane-index l.lanes)) (held_by_process l.processes)
    ≡ changed_each (without_at l.time) (map lane_number l.lanes) (held_by_process l.initial.processes)
