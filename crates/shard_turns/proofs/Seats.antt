-- The seats of a round's backups (nothing of the language).
use Rattle.std.proofs.Common.{ℕ, ◌≤◌, List, refl, sym, ap, subst, ◌∙◌}
use Rattle.verdict_words.specs.Seats.{IsSeatOf}
use Rattle.verdict_words.specs.Views.{lent_share}
use Rattle.verdict_words.specs.declared.board.Board.{Board}
use Rattle.verdict_words.specs.declared.board.Seat.{Seat}
use Rattle.verdict_words.specs.declared.view.View.{View}
use Rattle.shard_turns.specs.Backups.{HasVisited, IsFreshBackup, StaysSeat}
use Rattle.shard_turns.specs.Visits.{SettlesMore}
use Rattle.shard_turns.specs.declared.backups.Backups.{Backups}
use Rattle.shard_turns.specs.declared.backups.BackupSeat.{BackupSeat}

module _ {N : Type 0} (backups : Backups N) where
  pub stays-more : (old mid new : BackupSeat N) → StaysSeat backups old mid → StaysSeat backups mid new → StaysSeat backups old new
  stays-more old mid new one next = record { own = next.own; same = next.same ∙ one.same }

  -- a seat that has drawn no visit
  pub fresh-stays : (old new : BackupSeat N) → IsFreshBackup backups old → StaysSeat backups old new → IsFreshBackup backups new
  fresh-stays old new fresh stays = record {
    own = stays.own;
    share = subst (λ (v : View). lent_share ≤ v.share) (sym stays.same) fresh.share;
    calls = ap (λ (v : View). v.calls) stays.same ∙ fresh.calls;
    none = ap (λ (v : View). v.claimed) stays.same ∙ fresh.none;
  }

  pub visited-on : (old mid new : BackupSeat N) → StaysSeat backups old mid → HasVisited backups mid new → HasVisited backups old new
  visited-on old mid new stays visited = record { own = visited.own; share = visited.share ∙ ap (λ (v : View). v.share) stays.same; dry = visited.dry }

-- Seats of the board, whose words are settled

module _ {N : Type 0} (representatives : List ℕ) (board : Board N) where
  pub settles-none : (seat : Seat N) → IsSeatOf board seat → SettlesMore representatives board seat seat
  settles-none seat own = record { own = own; claims = record { claimed = refl; share = refl; calls = refl; dry = refl }; moved = λ moved. moved }

  pub settles-on : (old mid new : Seat N) → SettlesMore representatives board old mid → SettlesMore representatives board mid new → SettlesMore representatives board old new
  settles-on old mid new one next = record {
    own = next.own;
    claims = record {
      claimed = next.claims.claimed ∙ one.claims.claimed;
      share = next.claims.share ∙ one.claims.share;
      calls = next.claims.calls ∙ one.claims.calls;
      dry = next.claims.dry ∙ one.claims.dry;
    };
    moved = λ moved. next.moved (one.moved moved);
  }
