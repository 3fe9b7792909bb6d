-- The seats of a round's backups, as they are split off for workers and joined again (nothing of the language).
use Rattle.std.proofs.Common.{◌≡◌, ℕ, ◌+◌, ◌*◌, ◌-◌, ◌^◌, ◌<◌, ◌≤◌, List, length, refl, sym, ap, subst, ◌∙◌, arith}
use Rattle.std.proofs.lemmas.Bool.{or_right}
use Rattle.std.proofs.lemmas.List.Elements.{All-weaker}
use Rattle.fault_shards.specs.Cuts.{shard_count}
use Rattle.verdict_words.specs.Seats.{view}
use Rattle.verdict_words.specs.Views.{first_view, joined, lent_share, newcomer, without_lent}
use Rattle.verdict_words.specs.declared.board.Board.{Board}
use Rattle.verdict_words.specs.declared.view.View.{View}
use Rattle.shard_findings.specs.copy_shard.declared.together.ClaimedShard.{ClaimedShard}
use Rattle.shard_findings.specs.shard_turns.declared.backups.Backups.{Backups}
use Rattle.shard_findings.specs.shard_turns.declared.backups.BackupSeat.{BackupSeat}
use Rattle.shard_findings.specs.shard_claims.declared.worker.Worker.{Worker}
use Rattle.shard_findings.specs.shard_claims.Workers.{HasVisited, IsBackupSeat, IsClaimed, IsFreshBackup, IsWorkerAt, StaysSeat, visits_in}
use Rattle.shard_findings.specs.shard_claims.WorkerLaws.{has-claimed}
use Rattle.shard_crew.specs.Crews.{HasCrewVisited, IsCrewSeat}
use Rattle.shard_crew.specs.Leaving.{AreNumbered, HasSlot, HaveSlots}

module _ {N : Type 0} where
  -- the shards of a worker are numbered by their claims
  pub numbered : (representatives : List ℕ) (board : Board N) (gone : ℕ) (worker : Worker N) → IsWorkerAt representatives board gone worker → AreNumbered representatives worker
  numbered representatives board gone worker at dry =
      All-weaker (IsClaimed representatives gone) (λ (claimed : ClaimedShard N). claimed.number < shard_count (length representatives)) (λ claimed is. is.low) worker.shards.items
      (has-claimed representatives board gone worker dry at).keeps.each

  -- so each has a slot
  pub slot-each : (representatives : List ℕ) (backups : Backups N) (worker : Worker N) → visits_in backups ≡ shard_count (length representatives) → AreNumbered representatives worker →
      HaveSlots backups worker
  slot-each representatives backups worker same low dry =
      All-weaker (λ (claimed : ClaimedShard N). claimed.number < shard_count (length representatives)) (HasSlot backups) (λ claimed under. subst (λ n. claimed.number < n) (sym same) under)
      worker.shards.items (low dry)

  module _ (backups : Backups N) where
    -- the first seat is enough for all workers
    pub crew-first : (count : ℕ) (seat : BackupSeat N) → count ≤ 64 → IsBackupSeat backups seat → view seat.visits ≡ first_view → IsCrewSeat backups count seat
    crew-first count seat few own is = record {
      own = own;
      share = (let share : (view seat.visits).share ≡ 2 ^ 62 = ap (λ (v : View). v.share) is in omega (arith, share, few));
      calls = ap (λ (v : View). v.calls) is;
      none = ap (λ (v : View). v.claimed) is;
    }

    pub crew-stays : (count : ℕ) (old new : BackupSeat N) → IsCrewSeat backups count old → StaysSeat backups old new → IsCrewSeat backups count new
    crew-stays count old new is stays = record {
      own = stays.own;
      share = subst (λ (v : View). count * lent_share ≤ v.share) (sym stays.same) is.share;
      calls = ap (λ (v : View). v.calls) stays.same ∙ is.calls;
      none = ap (λ (v : View). v.claimed) stays.same ∙ is.none;
    }

    -- of the last worker
    pub crew-last : (count : ℕ) (seat : BackupSeat N) → 0 < count → IsCrewSeat backups count seat → IsFreshBackup backups seat
    crew-last count seat some is = record {
      own = is.own;
      share = (let share : count * lent_share ≤ (view seat.visits).share = is.share in omega (arith, share, some));
      calls = is.calls;
      none = is.none;
    }

    -- one is split off
    pub crew-enough : (count : ℕ) (seat : BackupSeat N) → 1 < count → IsCrewSeat backups count seat → (view seat.visits).calls + lent_share < (view seat.visits).share
    crew-enough count seat more is =
        let share : count * lent_share ≤ (view seat.visits).share = is.share in
        let calls : (view seat.visits).calls ≡ 0 = is.calls in
        omega (arith, share, calls, more)

    pub crew-rest : (count others : ℕ) (seat rest : BackupSeat N) → others + 1 ≡ count → IsCrewSeat backups count seat → IsBackupSeat backups rest → view rest.visits ≡ without_lent (view seat.visits) →
        IsCrewSeat backups others rest
    crew-rest count others seat rest one is own less = record {
      own = own;
      share =
          (let share : count * lent_share ≤ (view seat.visits).share = is.share in
          let left : (view rest.visits).share ≡ (view seat.visits).share - lent_share = ap (λ (v : View). v.share) less in
          omega (arith, share, left, one));
      calls = ap (λ (v : View). v.calls) less ∙ is.calls;
      none = ap (λ (v : View). v.claimed) less ∙ is.none;
    }

    pub crew-one : (seat own : BackupSeat N) → IsBackupSeat backups own → view own.visits ≡ newcomer (view seat.visits) → IsFreshBackup backups own
    crew-one seat own is new = record {
      own = is;
      share = (let share : (view own.visits).share ≡ lent_share = ap (λ (v : View). v.share) new in omega (arith, share));
      calls = ap (λ (v : View). v.calls) new;
      none = ap (λ (v : View). v.claimed) new;
    }

    -- and joined again behind the round
    pub crew-joined : (count others : ℕ) (seat rest own rest_after own_after both : BackupSeat N) → others + 1 ≡ count → 1 < count → IsCrewSeat backups count seat →
        view rest.visits ≡ without_lent (view seat.visits) → view own.visits ≡ newcomer (view seat.visits) → HasCrewVisited backups others rest rest_after → HasVisited backups own own_after →
        IsBackupSeat backups both → view both.visits ≡ joined (view rest_after.visits) (view own_after.visits) → HasCrewVisited backups count seat both
    crew-joined count others seat rest own rest_after own_after both one more is less new visited alone both_own same = record {
      own = both_own;
      share =
          (let share : count * lent_share ≤ (view seat.visits).share = is.share in
          let left : (view rest.visits).share ≡ (view seat.visits).share - lent_share = ap (λ (v : View). v.share) less in
          let lent : (view own.visits).share ≡ lent_share = ap (λ (v : View). v.share) new in
          let a : (view rest_after.visits).share ≡ (view rest.visits).share = visited.share in
          let b : (view own_after.visits).share ≡ (view own.visits).share = alone.share in
          let c : (view both.visits).share ≡ (view rest_after.visits).share + (view own_after.visits).share = ap (λ (v : View). v.share) same in
          omega (arith, share, left, lent, a, b, c, more));
      dry = λ some. ap (λ (v : View). v.dry) same ∙ or_right (view rest_after.visits).dry (view own_after.visits).dry alone.dry;
    }

    pub crew-alone : (count : ℕ) (seat after : BackupSeat N) → HasVisited backups seat after → HasCrewVisited backups count seat after
    crew-alone count seat after visited = record { own = visited.own; share = visited.share; dry = λ some. visited.dry }

    pub crew-nobody : (count : ℕ) (seat : BackupSeat N) → count ≡ 0 → IsCrewSeat backups count seat → HasCrewVisited backups count seat seat
    crew-nobody count seat none is = record { own = is.own; share = refl; dry = λ some. absurd (omega (arith, some, none)) }
