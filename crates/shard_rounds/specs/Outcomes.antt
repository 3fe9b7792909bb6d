-- What the rounds come to (grades by the definition, over events by IEEE 1364-2001, clause 5).
use Rattle.std.specs.Prelude.{ℕ, ◌+◌, ◌≤◌, ◌^◌, List, sum_by}
use Rattle.v_design.specs.Designs.{FlatDesign, TestPlan}
use Rattle.shard_crew.specs.fault_grade.Results.{LoopsAt}
use Rattle.verdict_words.specs.declared.board.Board.{Board}
use Rattle.shard_rounds.specs.declared.outcome.Outcome.{Outcome}
use Rattle.shard_rounds.specs.declared.outcome.Outcome.TheVariants.{Graded, GoodLoop}
use Rattle.v_design.specs.OwnSteps.{good_steps}
use Rattle.own_gradings.specs.Numbers.{OwnStepsOf}
use Rattle.shard_crew.specs.copy_shard.Shards.{fault_steps_at}
use Rattle.shard_crew.specs.shard_findings.Gatherings.{HasGathered, claimed_most}

module _ {N : Type 0} where
  -- where all faults were graded, the counters rose by no more than the process steps of the good first run, the own steps of all faults of the shards, and once more those of all faults that
  -- stand for their classes
  abbrev pub OutcomeTicks : FlatDesign → TestPlan → List ℕ → ℕ → ℕ → Outcome N → Type 0
  OutcomeTicks design plan representatives before after (Graded gathered) =
      (tally : OwnStepsOf design plan) → after ≤ before + (good_steps design plan + (claimed_most tally gathered.shards.items + sum_by (fault_steps_at tally) representatives))
  OutcomeTicks design plan representatives before after (GoodLoop time) = Unit {0}

  -- all faults were graded, by the seat that is left, and the good machine never loops before a race of its own; or it loops at a time
  abbrev pub IsOutcome : FlatDesign → TestPlan → List ℕ → Board N → Outcome N → Type 0
  IsOutcome design plan representatives board (Graded gathered) =
      HasGathered design plan representatives board (2 ^ 62) gathered × ((time : ℕ) → LoopsAt design plan time → ⊥)
  IsOutcome design plan representatives board (GoodLoop time) = LoopsAt design plan time
