-- One more is let go of, until there are all.
use Rattle.std.proofs.Common.{◌∙◌, ap, arith, List}
use Rattle.vf_base.specs.Lists.{change_at}
use Rattle.event_queue.specs.Queues.{HeldProcess, nothing_held, repeated}
use Rattle.event_queue.specs.Arranged.{held_by_process}
use Rattle.event_queue.proofs.Clears.{cleared-more, cleared-all}
use Rattle.event_queue.proofs.Views.{length-held_by_process}
use Rattle.event_queue.proofs.processes.clear_all.Goals as goal

pub numbers-preserved : goal.numbers-preserved
numbers-preserved c =
    c.clear_one.ensures ∙ ap (λ (held : List HeldProcess). change_at held c.numbers.number (λ (h : HeldProcess). nothing_held)) c.numbers.invariant
    ∙ cleared-more c.numbers.number (held_by_process c.args.processes.now)

pub returns : goal.returns
returns c =
    let long = length-held_by_process c.args.processes.now in
    c.numbers.invariant ∙ cleared-all c.numbers.number (held_by_process c.args.processes.now) (omega (arith, long, c.numbers-test.false)) ∙ ap (repeated nothing_held) long
