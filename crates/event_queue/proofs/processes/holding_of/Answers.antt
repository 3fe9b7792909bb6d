-- It is that of the view at the process's place.
use Rattle.std.proofs.Common.{ap, sym, ◌∙◌}
use Rattle.event_queue.specs.declared.held.Held.{Held}
use Rattle.event_queue.specs.Queues.{HeldProcess}
use Rattle.event_queue.proofs.Clears.{held-read}
use Rattle.event_queue.proofs.processes.holding_of.Goals as goal

pub returns : goal.returns
returns c =
    ap (λ (held : Held). held.holding) (sym c.index-processes-process.is)
    ∙ ap (λ (h : HeldProcess). h.holding) (held-read c.args.processes.now c.args.process.0 c.index-processes-process.result c.requires c.index-processes-process.is)
