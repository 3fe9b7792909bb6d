-- Some shards have had their turns, and the others are left.
use Rattle.std.proofs.Common.{◌≡◌, ◌+◌, ◌++◌, length}
use Rattle.std.specs.List.{All}
use Rattle.fault_shards.specs.Shards.{representatives_of}
use Rattle.own_gradings.specs.Numbers.{RisesOwn}
use Rattle.copy_shard.specs.Together.{claimed_steps}
use Rattle.shard_turns.specs.Backups.{StaysSeat}
use Rattle.shard_turns.specs.Claims.{IsClaimed, numbers_of}
use Rattle.shard_turns.proofs.turns.take_turns.Given as goal

abbrev pub invariant-groups : goal.invariant-groups
invariant-groups g l = record {
  seat : StaysSeat l.round.backups.now l.fn.seat l.seat;
  done : All (IsClaimed (representatives_of l.round.shards.now) l.round.window.now.through) l.done.items;
  left : All (IsClaimed (representatives_of l.round.shards.now) l.round.window.now.before) l.left.items;
  numbers : numbers_of l.done.items ++ numbers_of l.left.items ≡ numbers_of l.fn.shards.items;
  ticks : RisesOwn g.N.World.design g.N.World.plan (λ tally. claimed_steps tally l.fn.shards.items)
      (λ tally. claimed_steps tally l.done.items + claimed_steps tally l.left.items) l.fn.steps l.steps;
}

abbrev pub decreases-groups : goal.decreases-groups
decreases-groups g l = length l.left.items
