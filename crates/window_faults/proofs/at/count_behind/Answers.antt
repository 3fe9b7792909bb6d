-- A plan has few strobes.
use Rattle.std.proofs.Common.{◌≤◌, length, arith}
use Rattle.vf_base.specs.declared.limits.TheConstants.{MAX_STROBES}
use Rattle.slot_strobes.proofs.window_strobes.Knowing.{plan-rules}
use Rattle.window_faults.proofs.at.count_behind.Goals as goal

pub overflow_add-result : goal.overflow_add-result
overflow_add-result g c =
    let low = c.requires in
    let most : length g.N.World.plan.strobes ≤ MAX_STROBES = (plan-rules g.N.World.plan c.plan-plan.result.now c.plan-plan.ensures.world).few_strobes in
    omega (arith, low, most, c.len.ensures)
