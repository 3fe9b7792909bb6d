-- The workers stand before a round.
use Rattle.std.proofs.Common.{length, ◌-◌}
use Rattle.copy_laws.specs.Windows.{good_slots}
use Rattle.fault_shards.specs.Shards.{representatives_of}
use Rattle.std.specs.Prelude.{sum}
use Rattle.good_windows.specs.Next.{steps_of_slots}
use Rattle.shard_crew.specs.graded_steps.Behind.{RisesWithin}
use Rattle.shard_rounds.specs.Rounds.{CrewTicks, IsBeforeRound}
use Rattle.shard_rounds.proofs.rounds.go_rounds.Given as goal

abbrev pub invariant-rounds : goal.invariant-rounds
invariant-rounds g l = record {
  before : IsBeforeRound g.N.World.design g.N.World.plan (representatives_of l.place.shards.now) l.place.board.now (length l.initial.steps) l.ahead.run l.rounds;
  ticks : CrewTicks g.N.World.design g.N.World.plan (representatives_of l.place.shards.now) l.fn.rounds.window.before l.rounds.window.before l.fn.rounds.workers.items l.rounds.workers.items
      (sum l.initial.steps) (sum l.steps);
  good :
      RisesWithin (steps_of_slots g.N.World.design g.N.World.plan l.initial.ahead.run.ran) (steps_of_slots g.N.World.design g.N.World.plan l.ahead.run.ran) (sum l.initial.own) (sum l.own);
}

abbrev pub decreases-rounds : goal.decreases-rounds
decreases-rounds g l = length (good_slots g.N.World.design g.N.World.plan) - l.rounds.window.before
