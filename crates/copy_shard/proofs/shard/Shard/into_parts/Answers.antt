-- The parts are what the shard keeps.
use Rattle.std.proofs.Common.{ap, subst}
use Rattle.copy_shard.specs.Kept.{IsShard}
use Rattle.copy_shard.specs.Shards.{ShardKept}
use Rattle.copy_shard.proofs.shard.Shard.into_parts.Goals as goal

pub returns-clause-seen : goal.returns-clause-seen
returns-clause-seen g c = ap (λ (kept : ShardKept). kept.faults) c.self.view_is

pub returns-clause-stands : goal.returns-clause-stands
returns-clause-stands g c =
    let s = c.self.inside in
    subst (λ n. IsShard g.N.World.design g.N.World.plan n s.reached s.numbers.items s.faults.items) (ap (λ (kept : ShardKept). kept.gone) c.self.view_is) c.self.invariant
