-- The write changes the view at its place.
use Rattle.std.proofs.Common.{◌∙◌, ap, sym}
use Rattle.event_queue.specs.Queues.{with_holding}
use Rattle.event_queue.specs.declared.held.Held.{Held}
use Rattle.event_queue.specs.Arranged.{held_process}
use Rattle.event_queue.proofs.Views.{map-slice_set}
use Rattle.event_queue.proofs.processes.hold.Goals as goal

pub returns : goal.returns
returns c =
    map-slice_set held_process (with_holding c.args.holding) c.args.processes.now c.args.process.0 c.index-processes-process.result c.hold.new.self c.requires
    c.index-processes-process.is
    (c.hold.ensures ∙ ap (λ (h : Held). with_holding c.args.holding (held_process h)) (sym c.index-processes-process.is))
