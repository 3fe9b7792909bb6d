-- The updates so far are appended.
use Rattle.std.proofs.Common.{◌≡◌, map, take}
use Rattle.vf_base.specs.Base.{process_number}
use Rattle.vf_base.specs.Lists.{change_at}
use Rattle.v_design.specs.Plain.{due_of}
use Rattle.event_queue.specs.Queues.{with_laters}
use Rattle.event_queue.proofs.queue.Queue.schedule_updates.Given as goal

abbrev pub invariant-updates : goal.invariant-updates
invariant-updates l = l.self ≡ change_at l.initial.self (process_number l.process) (with_laters (map due_of (take l.due-index l.updates)))
