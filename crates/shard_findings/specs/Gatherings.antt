-- What all workers have together behind the last round (slots by IEEE 1364-2001, clause 5).
use Rattle.std.specs.Prelude.{◌≡◌, ℕ, IsTrue, List, length, sum_by}
use Rattle.std.specs.List.{All, flat_map}
use Rattle.copy_laws.specs.Windows.{good_slots}
use Rattle.shard_claims.specs.copy_shard.Shards.{fault_steps_at, places_of, findings_of}
use Rattle.own_gradings.specs.Numbers.{OwnStepsOf}
use Rattle.fault_shards.specs.Found.{found_faults}
use Rattle.verdict_settle.specs.Harvests.{IsHarvest, claimed_faults}
use Rattle.verdict_words.specs.Seats.{view, IsSeatOf}
use Rattle.verdict_words.specs.declared.board.Board.{Board}
use Rattle.shard_claims.specs.copy_shard.declared.together.ClaimedShard.{ClaimedShard}
use Rattle.v_design.specs.Designs.{FlatDesign, TestPlan}
use Rattle.shard_claims.specs.Workers.{KeepsShards}
use Rattle.shard_findings.specs.declared.gathered.Gathered.{Gathered}

module _ {N : Type 0} where
  -- the faults of some shards
  abbrev pub places_in : List (ClaimedShard N) → List ℕ
  places_in shards = flat_map (λ (claimed : ClaimedShard N). places_of claimed.shard.faults) shards

  -- a shard has a finding for each of its faults
  abbrev pub IsFoundShard : ClaimedShard N → Type 0
  IsFoundShard claimed = found_faults (findings_of claimed.shard.faults) ≡ places_of claimed.shard.faults

  -- all have gone through so many slots
  abbrev pub HaveGone : ℕ → List (ClaimedShard N) → Type 0
  HaveGone gone shards = All (λ (claimed : ClaimedShard N). claimed.shard.gone ≡ gone) shards

  -- all own steps that the faults of some claimed shards take
  abbrev pub claimed_most : {design : FlatDesign} {plan : TestPlan} → OwnStepsOf design plan → List (ClaimedShard N) → ℕ
  claimed_most tally shards = sum_by (λ (claimed : ClaimedShard N). sum_by (fault_steps_at tally) (places_of claimed.shard.faults)) shards

  -- A seat with this share was told that no claim is left. Each fault of the shards that it claimed was found, with its grade, and its word was seen; these shards have gone through all slots of
  -- the good first run.
  pub record HasGathered (design : FlatDesign) (plan : TestPlan) (representatives : List ℕ) (board : Board N) (share : ℕ) (gathered : Gathered N) : Type 0 where
    pub own : IsSeatOf board gathered.seat
    pub share_is : (view gathered.seat).share ≡ share
    pub dry : IsTrue (view gathered.seat).dry
    pub harvest : IsHarvest design plan representatives (claimed_faults representatives (view gathered.seat).claimed) (view gathered.seat) gathered.findings.items
    pub keeps : KeepsShards representatives (length (good_slots design plan)) (view gathered.seat) gathered.shards.items
    pub found : All IsFoundShard gathered.shards.items
