-- The write changes the view at its place.
use Rattle.event_queue.specs.Queues.{HeldProcess, nothing_held}
use Rattle.event_queue.specs.Arranged.{held_process}
use Rattle.event_queue.proofs.Views.{map-slice_set}
use Rattle.event_queue.proofs.processes.clear_one.Goals as goal

pub returns : goal.returns
returns c =
    map-slice_set held_process (λ (h : HeldProcess). nothing_held) c.args.processes.now c.args.number c.index-processes-number.result c.clear.new.self c.requires
    c.index-processes-number.is c.clear.ensures
