-- Before the first slot.
use Rattle.std.proofs.Common.{sym, subst}
use Rattle.shard_windows.proofs.Beginning.{reached_at_start}
use Rattle.shard_windows.proofs.Through.{keeps-rules}
use Rattle.kept_shard.specs.Kept.{IsKeeping}
use Rattle.kept_shard.proofs.Standing.{is-keeping, keeping-seen, of-plan}
use Rattle.kept_shard.proofs.shard.KeptShard.new.Goals as goal

pub invariant_of-result : goal.invariant_of-result
invariant_of-result g c =
    subst (IsKeeping g.N.World.design g.N.World.plan 0 reached_at_start c.in_ok-fresh.fresh.items) (sym c.in_ok-kept.ensures)
    (is-keeping c.faults_go_on.ensures g.N.World.design g.N.World.plan (keeps-rules g.N.World.design c.design-design.result.now c.design-design.ensures.world)
    (of-plan g.N.World.plan c.plan-plan.result.now c.plan-plan.ensures.world) c.args.faults.now c.in_ok-fresh.fresh.items c.requires c.in_ok-fresh.ensures)

pub returns : goal.returns
returns g c = keeping-seen c.args.faults.now c.in_ok-kept.kept.items c.in_ok-kept.ensures
