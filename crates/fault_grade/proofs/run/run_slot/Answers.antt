-- The next slot was run.
use Rattle.std.proofs.Common.{◌^◌, sym}
use Rattle.machine.specs.Standing.{left-at}
use Rattle.fault_grade.specs.Reached.{runs-on}
use Rattle.fault_grade.proofs.Slots.{next-is}
use Rattle.fault_grade.proofs.Ticks.{slot-ticked}
use Rattle.fault_grade.proofs.run.run_slot.Goals as goal

pub slot-requires-clause-left : goal.slot-requires-clause-left
slot-requires-clause-left g c = left-at c.args.machine.now c.args.time (2 ^ 63) (sym c.requires.next) c.requires.limit

pub returns-clause-runs : goal.returns-clause-runs
returns-clause-runs g c =
    let n = next-is c.args.machine.now c.args.time c.requires.next in
    runs-on c.first_run_goes_on.ensures c.args.time c.args.machine.now c.slot.new.self n.0 _ _ c.stop_at.result _ n.1 n.2 c.in_ok-end.ensures.machine
    (c.in_ok-end.ensures.slot n.0 n.1) c.in_ok-end.ensures.standing c.stop_at.ensures

pub returns-clause-ticks : goal.returns-clause-ticks
returns-clause-ticks g c = λ start until now goes early t.
    let n = next-is c.args.machine.now c.args.time c.requires.next in
    slot-ticked c.args.time start until now c.args.steps.now c.slot.new.steps c.args.machine.now c.slot.new.self n.0 _ _ c.stop_at.result _ n.1 n.2 c.in_ok-end.ensures.machine
    (c.in_ok-end.ensures.slot n.0 n.1) c.stop_at.ensures goes early (c.in_ok-end.ensures.ticks n.0 n.1) t
