-- A plan has few strobes.
use Rattle.std.proofs.Common.{arith}
use Rattle.shard_windows.proofs.Through.{few-strobes}
use Rattle.shard_windows.proofs.reached.reached_behind.Goals as goal

pub overflow_add-result : goal.overflow_add-result
overflow_add-result g c =
    let few = few-strobes g.N.World.plan c.plan-plan.result.now c.plan-plan.ensures.world in
    omega (arith, few, c.requires, c.len.ensures)
