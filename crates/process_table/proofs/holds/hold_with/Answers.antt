use Rattle.std.proofs.Common.{◌∙◌, List, length, map, ap, arith}
use Rattle.vf_base.specs.Base.{process_number}
use Rattle.vf_base.specs.Lists.{change_at}
use Rattle.v_design.specs.Plain.{due_of}
use Rattle.event_queue.specs.Queues.{HeldProcess, nothing_held, held_at, with_holding}
use Rattle.event_queue.specs.Queues.{with_laters}
use Rattle.process_table.specs.Arranged.{stage_holding}
use Rattle.event_queue.specs.ChangeLaws.{at-change, length-change, change-twice}
use Rattle.process_table.proofs.holds.hold_with.Goals as goal

pub hold-requires-clause-number : goal.hold-requires-clause-number
hold-requires-clause-number c =
    let laters = with_laters (map due_of c.args.updates.now) in
    omega (arith, c.requires.number, ap length c.in_ok-schedule_updates.ensures, length-change c.args.queue.now (process_number c.args.process) laters)

pub hold-requires-clause-free : goal.hold-requires-clause-free
hold-requires-clause-free c =
    let p = process_number c.args.process in
    let laters = with_laters (map due_of c.args.updates.now) in
    ap (λ (queue : List HeldProcess). (held_at queue p).holding) c.in_ok-schedule_updates.ensures
    ∙ ap (λ (h : HeldProcess). h.holding) (at-change nothing_held c.args.queue.now p laters c.requires.number) ∙ c.requires.free

pub returns : goal.returns
returns c =
    let p = process_number c.args.process in
    c.in_ok-hold.ensures ∙ ap (λ (queue : List HeldProcess). change_at queue p (with_holding (stage_holding c.args.stage))) c.in_ok-schedule_updates.ensures
    ∙ change-twice c.args.queue.now p (with_laters (map due_of c.args.updates.now)) (with_holding (stage_holding c.args.stage))
