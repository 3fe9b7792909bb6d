-- They are those of the view at the process's place.
use Rattle.std.proofs.Common.{map, ap, sym, ◌∙◌}
use Rattle.v_design.specs.Plain.{due_of}
use Rattle.event_queue.specs.declared.held.Held.{Held}
use Rattle.event_queue.specs.Queues.{HeldProcess}
use Rattle.event_queue.proofs.Clears.{held-read}
use Rattle.event_queue.proofs.processes.updates_of.Goals as goal

pub returns : goal.returns
returns c =
    ap (map due_of) c.as_slice.ensures.value ∙ ap (λ (held : Held). map due_of held.later.items) (sym c.index-processes-process.is)
    ∙ ap (λ (h : HeldProcess). h.later) (held-read c.args.processes.now c.args.process.0 c.index-processes-process.result c.requires c.index-processes-process.is)
