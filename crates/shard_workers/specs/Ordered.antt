-- Shards in the order of their claims (nothing of the language).
use Rattle.std.specs.Prelude.{◌≡◌, ℕ, List, map, sum_by}
use Rattle.std.specs.List.Sorted.{IsPermutation, IsNonDecreasingBy}
use Rattle.v_design.specs.Designs.{FlatDesign, TestPlan}
use Rattle.own_gradings.specs.Numbers.{OwnStepsOf}
use Rattle.shard_rounds.specs.copy_shard.Shards.{ShardKept, fault_steps_at, places_of}
use Rattle.shard_rounds.specs.copy_shard.declared.together.ClaimedShard.{ClaimedShard}

-- all own steps that the faults of some shards take
abbrev pub work_steps : {design : FlatDesign} {plan : TestPlan} → OwnStepsOf design plan → List ShardKept → ℕ
work_steps tally shards = sum_by (λ (own : ShardKept). sum_by (fault_steps_at tally) (places_of own.faults)) shards

module _ {N : Type 0} where
  abbrev pub claim_number : ClaimedShard N → ℕ
  claim_number claimed = claimed.number

  abbrev pub claimed_shard : ClaimedShard N → ShardKept
  claimed_shard claimed = claimed.shard

  -- these are some claimed shards, in the order of their numbers
  pub record AreOrdered (claimed : List (ClaimedShard N)) (shards : List ShardKept) : Type 0 where
    pub sorted : List (ClaimedShard N)
    pub permuted : IsPermutation claimed sorted
    pub ascend : IsNonDecreasingBy claim_number sorted
    pub shards_are : shards ≡ map claimed_shard sorted
