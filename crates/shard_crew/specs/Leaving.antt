-- Which shards have a slot in a round, and of which a copy is left there (nothing of the language).
use Rattle.std.specs.Prelude.{◌≡◌, ℕ, ◌<◌, true, false, if◌then◌else◌, List, [], ◌∷◌, length}
use Rattle.std.specs.List.{All, flat_map, list_any}
use Rattle.fault_shards.specs.Cuts.{shard_count}
use Rattle.shard_findings.specs.copy_shard.Copied.{IsSameShard}
use Rattle.shard_findings.specs.copy_shard.Shards.{ShardKept, goes_on}
use Rattle.shard_findings.specs.shard_turns.Backups.{Leaves, ShardCalls}
use Rattle.shard_findings.specs.shard_claims.Workers.{visits_in}
use Rattle.shard_findings.specs.copy_shard.declared.together.ClaimedShard.{ClaimedShard}
use Rattle.shard_findings.specs.shard_claims.declared.worker.Worker.{Worker}
use Rattle.shard_findings.specs.shard_turns.declared.backups.Backups.{Backups}

module _ {N : Type 0} where
  -- there is a slot of its number
  abbrev pub HasSlot : Backups N → ClaimedShard N → Type 0
  HasSlot backups claimed = claimed.number < visits_in backups

  -- so it is for each shard of a worker that has claimed
  abbrev pub HaveSlots : Backups N → Worker N → Type 0
  HaveSlots backups worker = worker.dry ≡ true → All (HasSlot backups) worker.shards.items

  -- the shards of a worker that has claimed are numbered below the count of the shards of a list
  abbrev pub AreNumbered : List ℕ → Worker N → Type 0
  AreNumbered representatives worker = worker.dry ≡ true → All (λ (claimed : ClaimedShard N). claimed.number < shard_count (length representatives)) worker.shards.items

  -- of a shard that goes on the same shard once more is left in the slot of its number, of any other nothing is
  pub record IsLeft (claimed : ClaimedShard N) (old new : ShardCalls) : Type 0 where
    pub copied : list_any goes_on claimed.shard.faults ≡ true → (copy : ShardKept) × IsSameShard claimed.shard copy × Leaves claimed.number copy old new
    pub none : list_any goes_on claimed.shard.faults ≡ false → new ≡ old

  -- so it is of each, in order
  abbrev pub AreLeft : List (ClaimedShard N) → ShardCalls → ShardCalls → Type 0
  AreLeft [] old new = new ≡ old
  AreLeft (claimed ∷ others) old new = (between : ShardCalls) × IsLeft claimed old between × AreLeft others between new

  -- the shards of a worker, once it has claimed
  abbrev pub shards_of : Worker N → List (ClaimedShard N)
  shards_of worker = if worker.dry then worker.shards.items else []

  -- those of all
  abbrev pub shards_of_all : List (Worker N) → List (ClaimedShard N)
  shards_of_all workers = flat_map shards_of workers
