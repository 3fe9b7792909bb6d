use Rattle.std.proofs.Common.{◌∙◌, List, length, ap, arith}
use Rattle.vf_base.specs.Base.{process_number}
use Rattle.vf_base.specs.Lists.{change_at}
use Rattle.event_queue.specs.Queues.{HeldProcess, nothing_held, held_at, with_holding}
use Rattle.process_code.specs.Points.{said_by}
use Rattle.event_queue.specs.Queues.{with_laters}
use Rattle.process_table.specs.Arranged.{later_by, stage_holding}
use Rattle.event_queue.specs.ChangeLaws.{at-change, length-change, change-twice}
use Rattle.process_table.proofs.holds.keep.Goals as goal

pub hold-requires-clause-number : goal.hold-requires-clause-number
hold-requires-clause-number c =
    let laters = with_laters (later_by (said_by c.args.did.now)) in
    omega (arith, c.requires.number, ap length c.in_ok-append_later.ensures, length-change c.args.queue.now (process_number c.args.process) laters)

pub hold-requires-clause-free : goal.hold-requires-clause-free
hold-requires-clause-free c =
    let p = process_number c.args.process in
    let laters = with_laters (later_by (said_by c.args.did.now)) in
    ap (λ (queue : List HeldProcess). (held_at queue p).holding) c.in_ok-append_later.ensures
    ∙ ap (λ (h : HeldProcess). h.holding) (at-change nothing_held c.args.queue.now p laters c.requires.number) ∙ c.requires.free

pub returns : goal.returns
returns c =
    let p = process_number c.args.process in
    c.in_ok-hold.ensures ∙ ap (λ (queue : List HeldProcess). change_at queue p (with_holding (stage_holding c.args.stage))) c.in_ok-append_later.ensures
    ∙ change-twice c.args.queue.now p (with_laters (later_by (said_by c.args.did.now))) (with_holding (stage_holding c.args.stage))
