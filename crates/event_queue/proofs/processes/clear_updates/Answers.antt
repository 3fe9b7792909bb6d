-- The write changes the view at its place.
use Rattle.std.proofs.Common.{◌∙◌, [], ap, sym}
use Rattle.event_queue.specs.Queues.{with_updates}
use Rattle.event_queue.specs.declared.held.Held.{Held}
use Rattle.event_queue.specs.Arranged.{held_process}
use Rattle.event_queue.proofs.Views.{map-slice_set}
use Rattle.event_queue.proofs.processes.clear_updates.Goals as goal

pub returns : goal.returns
returns c =
    map-slice_set held_process (with_updates []) c.args.processes.now c.args.process.0 c.index-processes-process.result c.clear_updates.new.self c.requires
    c.index-processes-process.is
    (c.clear_updates.ensures ∙ ap (λ (h : Held). with_updates [] (held_process h)) (sym c.index-processes-process.is))
