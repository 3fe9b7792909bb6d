use Rattle.std.proofs.Common.{◌≡◌}
use Rattle.event_queue.specs.Queues.{repeated}
use Rattle.process_table.proofs.set.ProcessSet.new.Given as goal

abbrev pub invariant-members : goal.invariant-members
invariant-members l = l.members.items ≡ repeated l.all l.counter
