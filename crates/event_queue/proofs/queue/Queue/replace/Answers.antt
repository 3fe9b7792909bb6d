-- The updates are put, and then the holding.
use Rattle.std.proofs.Common.{◌∙◌, List, length, map, ap, arith}
use Rattle.std.proofs.lemmas.Result.{IfOk-weaker}
use Rattle.vf_base.specs.Base.{process_number}
use Rattle.vf_base.specs.Lists.{change_at}
use Rattle.v_design.specs.Plain.{due_of}
use Rattle.event_queue.specs.Queues.{HeldProcess, with_holding, with_updates}
use Rattle.event_queue.specs.ChangeLaws.{length-change, change-twice}
use Rattle.event_queue.proofs.queue.Queue.replace.Goals as goal

pub put_holding-requires : goal.put_holding-requires
put_holding-requires c =
    omega (arith, c.requires, ap length c.in_ok-put_updates.ensures, length-change c.args.self.now (process_number c.args.process) (with_updates (map due_of c.args.updates.now)))

pub returns : goal.returns
returns c =
    let p = process_number c.args.process in
    let later = map due_of c.args.updates.now in
    IfOk-weaker c.put_holding.result _ _
    (λ x h. h ∙ ap (λ (held : List HeldProcess). change_at held p (with_holding c.args.holding)) c.in_ok-put_updates.ensures
    ∙ change-twice c.args.self.now p (with_updates later) (with_holding c.args.holding))
    c.put_holding.ensures
