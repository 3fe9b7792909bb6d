-- The shards that were claimed so far have gone through the window.
use Rattle.std.proofs.Common.{◌≡◌, ◌≤◌, ◌+◌, ◌-◌, []}
use Rattle.own_gradings.specs.Numbers.{OwnStepsOf}
use Rattle.fault_shards.specs.Shards.{representatives_of}
use Rattle.verdict_words.specs.Seats.{view, IsSeatOf, claims_of}
use Rattle.verdict_words.specs.Views.{lent_share}
use Rattle.shard_claims.specs.Workers.{KeepsShards, claimed_steps}
use Rattle.shard_claims.proofs.claim.claim_all.Given as goal

abbrev pub invariant-claims : goal.invariant-claims
invariant-claims g l = record {
  own : IsSeatOf l.round.board.now l.seat;
  share : (view l.seat).share ≡ lent_share;
  moved : (view l.seat).moved ≡ [];
  calls : (view l.seat).calls ≤ claims_of l.round.board.now;
  keeps : KeepsShards (representatives_of l.round.shards.now) l.round.window.now.through (view l.seat) l.shards.items;
  ticks : (tally : OwnStepsOf g.N.World.design g.N.World.plan) → l.steps ≤ l.fn.steps + claimed_steps tally l.shards.items;
}

abbrev pub decreases-claims : goal.decreases-claims
decreases-claims g l = claims_of l.round.board.now - (view l.seat).calls
