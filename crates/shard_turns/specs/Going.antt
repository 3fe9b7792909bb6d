-- Shards of a worker in a round, some of which have gone through its window (slots by IEEE 1364-2001, clause 5).
use Rattle.std.specs.Prelude.{ℕ, ◌+◌, ◌++◌, List}
use Rattle.std.specs.List.{All}
use Rattle.v_design.specs.Designs.{FlatDesign, TestPlan}
use Rattle.own_gradings.specs.Numbers.{OwnStepsOf}
use Rattle.copy_shard.specs.Together.{claimed_steps}
use Rattle.shard_turns.specs.Claims.{IsClaimed, numbers_of}
use Rattle.shard_turns.specs.declared.going.Going.{Going}

module _ {N : Type 0} where
  -- those that are done have gone through the window, and the others stand before it
  pub record AreGoing (representatives : List ℕ) (before through : ℕ) (own : Going N) : Type 0 where
    pub done : All (IsClaimed representatives through) own.done.items
    pub going : All (IsClaimed representatives before) own.going.items

  -- their numbers, in order
  abbrev pub going_numbers : Going N → List ℕ
  going_numbers own = numbers_of own.done.items ++ numbers_of own.going.items

  -- the own steps that their faults have taken
  abbrev pub going_steps : {design : FlatDesign} {plan : TestPlan} → OwnStepsOf design plan → Going N → ℕ
  going_steps tally own = claimed_steps tally own.done.items + claimed_steps tally own.going.items
