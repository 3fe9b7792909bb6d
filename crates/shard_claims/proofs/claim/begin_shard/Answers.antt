-- A shard of its claim's faults goes through the first window.
use Rattle.std.proofs.Common.{ap, ◌∙◌, arith}
use Rattle.shard_turns.specs.copy_shard.Shards.{ShardKept, places_of}
use Rattle.fault_shards.specs.Shards.{representatives_of}
use Rattle.shard_claims.proofs.Claiming.{shard-listed, places-fresh}
use Rattle.shard_claims.proofs.claim.begin_shard.Goals as goal

pub new-requires-after_bounds : goal.new-requires-after_bounds
new-requires-after_bounds g c κs within =
    shard-listed g.N.World.design g.N.World.plan.faults (representatives_of c.args.round.now.shards.now) c.args.number _ c.shards_cover.ensures
    c.requires.place.shards_are.representatives c.shard-faults.ensures

pub returns-clause-faults : goal.returns-clause-faults
returns-clause-faults g c =
    c.in_ok-advance.ensures.places ∙ (ap (λ (kept : ShardKept). places_of kept.faults) c.in_ok-own.ensures ∙ (places-fresh _ ∙ c.shard-faults.ensures))

pub returns-clause-ticks : goal.returns-clause-ticks
returns-clause-ticks g c tally = (let rises = c.in_ok-advance.ensures.ticks tally in omega (arith, rises))
