-- Before the first slot.
use Rattle.std.proofs.Common.{sym, subst}
use Rattle.copy_shard.specs.Kept.{IsShard}
use Rattle.shard_windows.proofs.Through.{keeps-rules}
use Rattle.shard_windows.proofs.Beginning.{reached_at_start}
use Rattle.copy_shard.proofs.Starting.{is-shard, shard-seen}
use Rattle.copy_shard.proofs.shard.Shard.new.Goals as goal

pub invariant_of-result : goal.invariant_of-result
invariant_of-result g c =
    subst (λ numbers. IsShard g.N.World.design g.N.World.plan 0 reached_at_start numbers c.in_ok-fresh.fresh.items) (sym c.in_ok-numbers.ensures.items)
    (is-shard c.faults_go_on.ensures g.N.World.design g.N.World.plan (keeps-rules g.N.World.design c.design-design.result.now c.design-design.ensures.world) c.args.faults.now
    c.in_ok-fresh.fresh.items c.requires c.in_ok-fresh.ensures)

pub returns : goal.returns
returns g c = shard-seen c.args.faults.now c.in_ok-fresh.fresh.items c.in_ok-fresh.ensures
