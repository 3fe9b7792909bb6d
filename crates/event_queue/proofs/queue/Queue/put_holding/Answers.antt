-- A process that is held so stays as it is; any other is let go of first.
use Rattle.std.proofs.Common.{◌∙◌, List, length, refl, ap, arith}
use Rattle.std.proofs.lemmas.Result.{IfOk-weaker}
use Rattle.vf_base.specs.Base.{process_number}
use Rattle.vf_base.specs.Lists.{change_at}
use Rattle.event_queue.specs.declared.held.Holding.TheVariants.{Free}
use Rattle.event_queue.specs.Queues.{HeldProcess, held_at, nothing_held, with_holding}
use Rattle.event_queue.specs.ChangeLaws.{at-change, length-change, change-twice}
use Rattle.event_queue.proofs.Removed.{same-holding}
use Rattle.event_queue.proofs.queue.Queue.put_holding.Goals as goal

pub returns-then-is_held : goal.returns-then-is_held
returns-then-is_held c = same-holding c.args.self.now (process_number c.args.process) c.args.holding (c.if-is_held.ensures refl)

pub hold_free-requires-clause-number : goal.hold_free-requires-clause-number
hold_free-requires-clause-number c = omega (arith, c.requires, ap length c.release.ensures, length-change c.args.self.now (process_number c.args.process) (with_holding Free))

pub hold_free-requires-clause-free : goal.hold_free-requires-clause-free
hold_free-requires-clause-free c =
    let p = process_number c.args.process in
    ap (λ (held : List HeldProcess). (held_at held p).holding) c.release.ensures
    ∙ ap (λ (h : HeldProcess). h.holding) (at-change nothing_held c.args.self.now p (with_holding Free) c.requires)

pub returns : goal.returns
returns c =
    let p = process_number c.args.process in
    IfOk-weaker c.hold_free.result _ _
    (λ x h. h ∙ ap (λ (held : List HeldProcess). change_at held p (with_holding c.args.holding)) c.release.ensures
    ∙ change-twice c.args.self.now p (with_holding Free) (with_holding c.args.holding))
    c.hold_free.ensures
