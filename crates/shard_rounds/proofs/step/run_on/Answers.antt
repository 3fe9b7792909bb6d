-- The one counter.
use Rattle.good_windows.specs.Next.{steps_of_slots}
use Rattle.shard_crew.proofs.Ticks.{alone-rises}
use Rattle.shard_rounds.proofs.step.run_on.Goals as goal

pub returns-clause-ticks : goal.returns-clause-ticks
returns-clause-ticks g c = record {
  rises =
      alone-rises (steps_of_slots g.N.World.design g.N.World.plan c.args.ahead.now.run.ran) (steps_of_slots g.N.World.design g.N.World.plan c.next_window.new.self.ran)
      c.args.own.now c.index-own-0.result c.next_window.new.steps c.requires.one c.in_ok-next.ensures.ticks;
}
