-- Room changes nothing of the view.
use Rattle.std.proofs.Common.{◌∙◌, ap, sym}
use Rattle.event_queue.specs.Queues.{HeldProcess}
use Rattle.event_queue.specs.Arranged.{held_process, held_by_process}
use Rattle.event_queue.proofs.Views.{map-slice_set, change_at-same}
use Rattle.event_queue.proofs.processes.reserve_update.Goals as goal

pub returns-clause-same : goal.returns-clause-same
returns-clause-same c =
    map-slice_set held_process (λ (h : HeldProcess). h) c.args.processes.now c.args.process.0 c.index-processes-process.result c.reserve.new.self c.requires
    c.index-processes-process.is
    (c.reserve.ensures.same ∙ ap held_process (sym c.index-processes-process.is))
    ∙ change_at-same (held_by_process c.args.processes.now) c.args.process.0
