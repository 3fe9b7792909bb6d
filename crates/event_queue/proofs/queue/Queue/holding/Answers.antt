-- It is that of the view at the process's place.
use Rattle.std.proofs.Common.{◌∙◌, length, ap, arith, List}
use Rattle.vf_base.specs.Base.{process_number}
use Rattle.event_queue.specs.declared.held.Held.{Held}
use Rattle.event_queue.specs.Queues.{HeldProcess, held_at}
use Rattle.event_queue.specs.Arranged.{held_by_process}
use Rattle.event_queue.proofs.Views.{length-held_by_process}
use Rattle.event_queue.proofs.queue.Queue.holding.Goals as goal

pub holding_of-requires : goal.holding_of-requires
holding_of-requires c =
    omega (arith, c.requires, ap length c.self.view_is, length-held_by_process c.self.inside.processes.items, ap length c.deref.ensures.value)

pub returns : goal.returns
returns c =
    let n = process_number c.args.process in
    c.holding_of.ensures ∙ ap (λ (processes : List Held). (held_at (held_by_process processes) n).holding) c.deref.ensures.value
    ∙ ap (λ (held : List HeldProcess). (held_at held n).holding) c.self.view_is
