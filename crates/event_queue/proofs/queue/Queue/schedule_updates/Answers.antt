-- One update more, until there are all.
use Rattle.std.proofs.Common.{◌∙◌, List, length, map, take, ap, arith}
use Rattle.std.proofs.lemmas.List.{take_all}
use Rattle.vf_base.specs.Base.{process_number}
use Rattle.vf_base.specs.Lists.{change_at}
use Rattle.v_design.specs.Plain.{due_of}
use Rattle.v_design.specs.declared.plan.Due.{Due}
use Rattle.event_queue.specs.Queues.{HeldProcess, with_later, with_laters}
use Rattle.event_queue.specs.ChangeLaws.{length-change, no-laters}
use Rattle.event_queue.proofs.Updates.{laters-more, taken-more}
use Rattle.event_queue.proofs.queue.Queue.schedule_updates.Goals as goal

pub updates-init : goal.updates-init
updates-init c = no-laters c.args.self.now (process_number c.args.process)

pub schedule_update-requires : goal.schedule_update-requires
schedule_update-requires c =
    let p = process_number c.args.process in
    omega (arith, c.requires, ap length c.updates.invariant, length-change c.args.self.now p (with_laters (map due_of (take c.updates.due-index c.args.updates.now))))

pub updates-preserved : goal.updates-preserved
updates-preserved c =
    let p = process_number c.args.process in
    let i = c.updates.due-index in
    let due : Due = c.due-item.result in
    c.in_ok-schedule_update.ensures.ok ∙ ap (λ (queue : List HeldProcess). change_at queue p (with_later (due_of due))) c.updates.invariant
    ∙ laters-more c.args.self.now p (map due_of (take i c.args.updates.now)) (due_of due)
    ∙ ap (λ later. change_at c.args.self.now p (with_laters later)) (taken-more c.args.updates.now i due c.updates-test.true c.due-item.is)

pub returns : goal.returns
returns c =
    c.updates.invariant
    ∙ ap (λ us. change_at c.args.self.now (process_number c.args.process) (with_laters (map due_of us))) (take_all c.updates.due-index c.args.updates.now c.updates-test.false)
