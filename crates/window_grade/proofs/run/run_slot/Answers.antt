-- The next slot was run.
use Rattle.std.proofs.Common.{◌^◌, sym}
use Rattle.machine.specs.Standing.{left-at}
use Rattle.window_grade.proofs.Slots.{may-beside, next-is, slot-leads, slot-ticks, ticks-beside}
use Rattle.window_grade.proofs.run.run_slot.Goals as goal

pub at-goods-requires : goal.at-goods-requires
at-goods-requires g c = let known = c.requires.may.known in record { design = c.requires.may.design; slots = known.slots; tells = known.tells }

pub slot_beside-requires-clause-standing : goal.slot_beside-requires-clause-standing
slot_beside-requires-clause-standing g c = c.requires.may.at.standing

pub slot_beside-requires-clause-left : goal.slot_beside-requires-clause-left
slot_beside-requires-clause-left g c = left-at c.args.machine.now c.args.time (2 ^ 63) (sym c.requires.next) c.requires.limit

pub slot_beside-requires-clause-goods : goal.slot_beside-requires-clause-goods
slot_beside-requires-clause-goods g c =
    let may = c.requires.may in
    may-beside c.runs_go_on.ensures c.slot_goes_on.ensures.begin c.tried_steps_go_on.ensures may.design may.plan may.fault may.now may.kept c.args.time c.args.beside.now c.args.machine.now
    may.at may.early may.known c.requires.next c.at-goods.result (c.at-goods.ensures may.design may.known.slots may.known.tells) c.tried_at-tried.result.now c.tried_at-tried.ensures

pub returns-clause-run : goal.returns-clause-run
returns-clause-run g c =
    let n = next-is c.args.machine.now c.args.time c.requires.next in
    slot-leads c.runs_go_on.ensures c.runs_take_steps.ensures c.args.time c.args.machine.now c.slot_beside.new.self n.0 _ _ c.end_of.result _ n.1 n.2 c.in_ok-end.ensures.machine
    (c.in_ok-end.ensures.slot n.0 n.1) c.in_ok-end.ensures.standing c.end_of.ensures

pub returns-clause-stays : goal.returns-clause-stays
returns-clause-stays g c = record { same_machine = c.in_ok-end.ensures.machine; standing = c.in_ok-end.ensures.standing; notes = c.in_ok-end.ensures.notes }

pub returns-clause-ticks : goal.returns-clause-ticks
returns-clause-ticks g c =
    let n = next-is c.args.machine.now c.args.time c.requires.next in
    slot-ticks c.own_steps_rise.ensures c.args.time c.args.machine.now n.0 c.args.beside.now c.args.steps.now c.slot_beside.new.steps n.1 n.2
    (ticks-beside c.runs_go_on.ensures c.slot_goes_on.ensures.begin c.tried_steps_go_on.ensures c.args.time c.args.beside.now c.args.machine.now n.0 c.at-goods.result c.tried_at-tried.result.now
    c.args.steps.now c.slot_beside.new.steps n.1 n.2 c.at-goods.ensures c.tried_at-tried.ensures c.in_ok-end.ensures.ticks)
