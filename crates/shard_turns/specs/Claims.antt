-- The shards that workers claimed, and the slots for copies of them (nothing of the language).
use Rattle.std.specs.Prelude.{◌≡◌, ℕ, ◌<◌, List, length, map}
use Rattle.v_design.specs.Designs.{FlatDesign, TestPlan}
use Rattle.copy_shard.specs.Shards.{places_of}
use Rattle.copy_shard.specs.declared.together.ClaimedShard.{ClaimedShard}
use Rattle.fault_shards.specs.Cuts.{shard, shard_count}
use Rattle.fault_shards.specs.Shards.{AreShardsOf, representatives_of}
use Rattle.fault_shards.specs.declared.shards.Shards.{Shards}
use Rattle.verdict_words.specs.Seats.{faults_of, claims_of}
use Rattle.verdict_words.specs.declared.board.Board.{Board}
use Rattle.shard_turns.specs.declared.backups.Backups.{Backups}
use Rattle.shard_turns.specs.Backups.{visits_in}

module _ {N : Type 0} where
  -- the shards are those of the plan's faults, and the board has a word for each listed fault and a claim for each shard
  pub record IsPlaceOf (design : FlatDesign) (plan : TestPlan) (shards : Shards) (board : Board N) : Type 0 where
    pub shards_are : AreShardsOf design plan.faults shards
    pub faults : faults_of board ≡ length plan.faults
    pub claims : claims_of board ≡ shard_count (length (representatives_of shards))

  -- there is a slot for each shard
  abbrev pub AreBackupsOf : Shards → Backups N → Type 0
  AreBackupsOf shards backups = visits_in backups ≡ shard_count (length (representatives_of shards))

  -- the numbers by which shards were claimed
  abbrev pub numbers_of : List (ClaimedShard N) → List ℕ
  numbers_of shards = map (λ (claimed : ClaimedShard N). claimed.number) shards

  -- a shard has the faults of its claim, and has gone through so many slots of the good first run
  pub record IsClaimed (representatives : List ℕ) (gone : ℕ) (claimed : ClaimedShard N) : Type 0 where
    pub low : claimed.number < shard_count (length representatives)
    pub faults : places_of claimed.shard.faults ≡ shard claimed.number representatives
    pub gone_is : claimed.shard.gone ≡ gone
