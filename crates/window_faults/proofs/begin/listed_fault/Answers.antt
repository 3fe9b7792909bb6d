-- The fault is one of the plan's.
use Rattle.std.proofs.Common.{sym}
use Rattle.window_faults.proofs.Within.{listed-within}
use Rattle.window_faults.proofs.begin.listed_fault.Goals as goal

pub bounds-faults-place : goal.bounds-faults-place
bounds-faults-place g c =
    listed-within g.N.World.plan c.plan-plan.result.now c.as_slice-faults.result.now c.fault-place.result.0 c.args.copy.now.fault c.plan-plan.ensures.world c.as_slice-faults.ensures
    (sym c.fault-place.ensures) c.requires
