-- What is left to be done, done to what is held now, gives the result.
use Rattle.std.proofs.Common.{◌≡◌, drop, map}
use Rattle.vf_base.specs.Base.{process_number}
use Rattle.event_queue.specs.declared.held.Holding.TheVariants.{Free}
use Rattle.event_queue.specs.Queues.{with_holding}
use Rattle.event_queue.specs.Arranged.{held_by_process, changed_each}
use Rattle.event_queue.proofs.processes.free_each.Given as goal

abbrev pub invariant-loop-process : goal.invariant-loop-process
invariant-loop-process l =
    changed_each (with_holding Free) (map process_number (drop l.process-index l.freed)) (held_by_process l.processes)
    ≡ changed_each (with_holding Free) (map process_number l.freed) (held_by_process l.initial.processes)
