-- A window that has this slot alone.
use Rattle.std.proofs.Common.{◌+◌, arith}
use Rattle.v_design.specs.Plain.{fault_of}
use Rattle.slot_strobes.specs.window_strobes.Neighbours.{slots-within}
use Rattle.window_faults.proofs.Within.{can-go-on, stands-after}
use Rattle.window_faults.proofs.whole.run_slot.Goals as goal

pub strobes_of_slot-requires-clause-next : goal.strobes_of_slot-requires-clause-next
strobes_of_slot-requires-clause-next g c κs within =
    let all = slots-within g.N.World.design g.N.World.plan c.args.window.now.before c.args.window.now.through c.args.window.now.ending c.begins-first.ensures.window in
    omega (arith, c.requires.slot, all)

pub strobes_of_slot-requires-clause-passed : goal.strobes_of_slot-requires-clause-passed
strobes_of_slot-requires-clause-passed g c κs within = c.requires.fault.has_passed

pub resume_fault-requires-clause-fault : goal.resume_fault-requires-clause-fault
resume_fault-requires-clause-fault g c κs within =
    can-go-on g.N.World.design g.N.World.plan (c.args.window.now.before + c.args.slot) (c.args.window.now.before + (c.args.slot + 1)) c.args.passed c.in_ok-strobes.strobes
    (fault_of c.args.fault) c.args.own.now (omega (arith, c.requires.some)) (omega (arith, c.in_ok-strobes.ensures.before))
    (stands-after g.N.World.design g.N.World.plan (fault_of c.args.fault) (c.args.window.now.before + c.args.slot) c.args.passed c.args.passed c.args.own.now c.requires.fault)
    c.in_ok-strobes.ensures.strobes

pub count_behind-behind-requires-after_bounds : goal.count_behind-behind-requires-after_bounds
count_behind-behind-requires-after_bounds g c κs within = c.in_ok-strobes.ensures.behind.within
