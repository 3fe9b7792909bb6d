-- The process's own updates are let go of, and the others are appended.
use Rattle.std.proofs.Common.{◌∙◌, [], List, length, map, ap, arith}
use Rattle.std.proofs.lemmas.Result.{IfOk-weaker}
use Rattle.vf_base.specs.Base.{process_number}
use Rattle.vf_base.specs.Lists.{change_at}
use Rattle.v_design.specs.Plain.{due_of}
use Rattle.event_queue.specs.Queues.{HeldProcess, with_laters, with_updates}
use Rattle.event_queue.specs.ChangeLaws.{length-change, change-twice}
use Rattle.event_queue.proofs.queue.Queue.put_updates.Goals as goal

pub schedule_updates-requires : goal.schedule_updates-requires
schedule_updates-requires c = omega (arith, c.requires, ap length c.drop_updates.ensures, length-change c.args.self.now (process_number c.args.process) (with_updates []))

pub returns : goal.returns
returns c =
    let p = process_number c.args.process in
    let later = map due_of c.args.updates.now in
    IfOk-weaker c.schedule_updates.result _ _
    (λ x h. h ∙ ap (λ (held : List HeldProcess). change_at held p (with_laters later)) c.drop_updates.ensures ∙ change-twice c.args.self.now p (with_updates []) (with_laters later))
    c.schedule_updates.ensures
