-- The write changes the view at its place.
use Rattle.std.proofs.Common.{◌∙◌, ap, sym}
use Rattle.event_queue.specs.declared.held.Held.{Held}
use Rattle.event_queue.specs.Arranged.{held_process, without_at}
use Rattle.event_queue.proofs.Views.{map-slice_set}
use Rattle.event_queue.proofs.processes.drop_due.Goals as goal

pub returns : goal.returns
returns c =
    map-slice_set held_process (without_at c.args.time) c.args.processes.now c.args.process.0 c.index-processes-process.result c.drop_due.new.self c.requires
    c.index-processes-process.is
    (c.drop_due.ensures ∙ ap (λ (h : Held). without_at c.args.time (held_process h)) (sym c.index-processes-process.is))
