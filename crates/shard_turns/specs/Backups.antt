-- Copies of shards in slots, and what the seats know of their visits (nothing of the language).
use Rattle.std.specs.Prelude.{◌≡◌, ℕ, ◌≤◌, ◌⊎◌, IsTrue, Option, None, Some, List, [], length, sum_by}
use Rattle.copy_shard.specs.Shards.{ShardKept}
use Rattle.fault_shards.specs.Cuts.{shard, shard_count}
use Rattle.verdict_words.specs.JobSeats.{IsFree, IsJobSeatOf, calls_of}
use Rattle.verdict_words.specs.Seats.{view, claims_of, IsSeatOf}
use Rattle.verdict_words.specs.Slots.{with_put, with_refusal, with_take}
use Rattle.verdict_words.specs.Views.{lent_share}
use Rattle.verdict_words.specs.declared.jobs.rule.SlotCalls.{SlotCalls}
use Rattle.shard_turns.specs.declared.backups.Backups.{Backups}
use Rattle.shard_turns.specs.declared.backups.BackupSeat.{BackupSeat}

-- so many shards of any list, visited in this order, have all its numbers: any sum over those of the visited shards is that over the list
abbrev pub AddUp : ℕ → List ℕ → Type 0
AddUp count visited =
    (representatives : List ℕ) (f : ℕ → ℕ) → count ≡ shard_count (length representatives) →
    sum_by (λ (number : ℕ). sum_by f (shard number representatives)) visited ≡ sum_by f representatives

-- what calls took from slots for shards and put there
abbrev pub ShardCalls : Type 0
ShardCalls = SlotCalls (Option ShardKept)

-- one more took what was found in the slot, and put this there
abbrev pub Exchanges : ℕ → Option ShardKept → Option ShardKept → ShardCalls → ShardCalls → Type 0
Exchanges number found put old new = new ≡ with_put number put (with_take number found old)

-- the copy was put into the slot in place of what was found there, or another seat held the slot
abbrev pub Leaves : ℕ → ShardKept → ShardCalls → ShardCalls → Type 0
Leaves number copy old new = ((found : Option ShardKept) × Exchanges number found (Some copy) old new) ⊎ (new ≡ with_refusal old)

-- nothing was put into the slot in place of what was found there, or nothing was found, since another seat held the slot
abbrev pub Empties : ℕ → Option ShardKept → ShardCalls → ShardCalls → Type 0
Empties number found old new = Exchanges number found None old new ⊎ ((found ≡ None) × (new ≡ with_refusal old))

module _ {N : Type 0} where
  -- how many slots are visited
  abbrev pub visits_in : Backups N → ℕ
  visits_in backups = claims_of backups.visits

  -- the slots whose visits were drawn by a seat, and by those that were joined into it
  abbrev pub visited_by : BackupSeat N → List ℕ
  visited_by seat = (view seat.visits).claimed

  -- a seat of these backups, which holds no slot
  pub record IsBackupSeat (backups : Backups N) (seat : BackupSeat N) : Type 0 where
    pub job : IsJobSeatOf backups.jobs seat.job
    pub free : IsFree seat.job
    pub visits : IsSeatOf backups.visits seat.visits

  -- afterwards it is one that knows the same of visits
  pub record StaysSeat (backups : Backups N) (old new : BackupSeat N) : Type 0 where
    pub own : IsBackupSeat backups new
    pub same : view new.visits ≡ view old.visits

  -- what the seat's calls took from the slots and put there, and those of the seats that were joined into it
  abbrev pub slot_calls : BackupSeat N → ShardCalls
  slot_calls seat = calls_of seat.job

  -- a seat that has drawn no visit, with the share of one worker at least
  pub record IsFreshBackup (backups : Backups N) (seat : BackupSeat N) : Type 0 where
    pub own : IsBackupSeat backups seat
    pub share : lent_share ≤ (view seat.visits).share
    pub calls : (view seat.visits).calls ≡ 0
    pub none : visited_by seat ≡ []

  -- afterwards it was told that no slot is left
  pub record HasVisited (backups : Backups N) (old new : BackupSeat N) : Type 0 where
    pub own : IsBackupSeat backups new
    pub share : (view new.visits).share ≡ (view old.visits).share
    pub dry : IsTrue (view new.visits).dry
