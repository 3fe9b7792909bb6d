use Rattle.shard_slots.specs.window_strobes.Strobes.{passed_behind}
use Rattle.own_gradings.specs.Numbers.{OwnStepsOf}
use Rattle.shard_slots.specs.graded_steps.Behind.{RisesWithin}
use Rattle.shard_slots.specs.window_faults.Steps.{steps_of_fault, steps_of_faults}
use Rattle.shard_slots.specs.window_faults.Within.{ComesThrough}
use Rattle.shard_slots.proofs.window_faults.Lists.{mixed}
use Rattle.shard_windows.proofs.Lists.{ChangedTo}
use Rattle.shard_windows.proofs.advance.begin_each.Given as goal

abbrev pub invariant-faults : goal.invariant-faults
invariant-faults g l = record {
  changed : ChangedTo (ComesThrough g.N.World.design g.N.World.plan l.window.through (passed_behind l.strobes)) l.place l.initial.faults.items l.faults.items;
  ticks : (tally : OwnStepsOf g.N.World.design g.N.World.plan) →
      RisesWithin (steps_of_faults tally l.window.before l.initial.faults.items)
      (mixed (steps_of_fault tally l.window.before) (steps_of_fault tally l.window.through) l.place l.faults.items)
      l.fn.steps l.steps;
}
