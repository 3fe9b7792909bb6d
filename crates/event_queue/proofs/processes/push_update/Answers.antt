-- The write changes the view at its place.
use Rattle.std.proofs.Common.{◌∙◌, ap, sym}
use Rattle.v_design.specs.Plain.{due_of}
use Rattle.event_queue.specs.Queues.{with_later}
use Rattle.event_queue.specs.declared.held.Held.{Held}
use Rattle.event_queue.specs.Arranged.{held_process}
use Rattle.event_queue.proofs.Views.{map-slice_set}
use Rattle.event_queue.proofs.processes.push_update.Goals as goal

pub returns : goal.returns
returns c =
    map-slice_set held_process (with_later (due_of c.args.due)) c.args.processes.now c.args.process.0 c.index-processes-process.result c.push.new.self c.requires.number
    c.index-processes-process.is
    (c.push.ensures ∙ ap (λ (h : Held). with_later (due_of c.args.due) (held_process h)) (sym c.index-processes-process.is))
