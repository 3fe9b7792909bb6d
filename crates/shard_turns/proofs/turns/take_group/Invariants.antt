-- So many shards of the group have had their turn.
use Rattle.std.proofs.Common.{◌≡◌, ◌+◌, ◌++◌}
use Rattle.fault_shards.specs.Shards.{representatives_of}
use Rattle.own_gradings.specs.Numbers.{RisesOwn}
use Rattle.copy_shard.specs.Together.{claimed_steps}
use Rattle.shard_turns.specs.Backups.{StaysSeat}
use Rattle.shard_turns.specs.Claims.{numbers_of}
use Rattle.shard_turns.specs.Going.{AreGoing, going_numbers, going_steps}
use Rattle.shard_turns.proofs.turns.take_group.Given as goal

abbrev pub invariant-group : goal.invariant-group
invariant-group g l = record {
  seat : StaysSeat l.round.backups.now l.fn.seat l.seat;
  going : AreGoing (representatives_of l.round.shards.now) l.round.window.now.before l.round.window.now.through l.own;
  numbers : going_numbers l.own ≡ numbers_of l.fn.done.items ++ numbers_of l.yielded;
  ticks : RisesOwn g.N.World.design g.N.World.plan (λ tally. claimed_steps tally l.fn.done.items + claimed_steps tally l.yielded) (λ tally. going_steps tally l.own) l.fn.steps l.steps;
}
