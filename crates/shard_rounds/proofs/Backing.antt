-- The slots of a round (nothing of the language).
use Rattle.std.proofs.Common.{◌≡◌, ℕ, ◌≤◌, false, List, length, ap, ◌∙◌, arith}
use Rattle.std.specs.Prelude.{sum}
use Rattle.std.specs.List.{All}
use Rattle.std.proofs.lemmas.List.Elements.{All-weaker}
use Rattle.v_design.specs.Designs.{FlatDesign, TestPlan}
use Rattle.fault_shards.specs.Cuts.{shard_count}
use Rattle.fault_shards.specs.Shards.{representatives_of}
use Rattle.fault_shards.specs.declared.shards.Shards.{Shards}
use Rattle.verdict_words.specs.Seats.{view}
use Rattle.verdict_words.specs.Views.{first_view}
use Rattle.verdict_words.specs.declared.board.Board.{Board}
use Rattle.verdict_words.specs.declared.view.View.{View}
use Rattle.shard_crew.specs.shard_claims.Workers.{AddUp, IsBackupSeat, IsWorkerAt, StaysSeat, faults_steps, visit_steps, visited_by, visits_in}
use Rattle.shard_crew.specs.shard_claims.declared.worker.Worker.{Worker}
use Rattle.shard_crew.specs.shard_turns.declared.backups.Backups.{Backups}
use Rattle.shard_crew.specs.shard_turns.declared.backups.BackupSeat.{BackupSeat}
use Rattle.shard_crew.specs.shard_findings.AllWorkers.{AreWorkersAt}
use Rattle.shard_crew.specs.Crews.{CrewRose}
use Rattle.shard_crew.specs.Leaving.{AreNumbered}
use Rattle.shard_crew.proofs.Visiting.{crew-first, crew-stays, numbered}
use Rattle.shard_rounds.specs.Rounds.{BackedUp, CrewTicks}

module _ {N : Type 0} where
  -- all workers' shards are numbered by their claims
  pub all-numbered : (representatives : List ℕ) (board : Board N) (gone count : ℕ) (workers : List (Worker N)) → AreWorkersAt representatives board gone count workers →
      All (AreNumbered representatives) workers
  all-numbered representatives board gone count workers are =
      All-weaker (IsWorkerAt representatives board gone) (AreNumbered representatives) (λ worker at. numbered representatives board gone worker at) workers are.each

  -- the slots as they are made, and with copies in them
  pub backed-first : (shards : Shards) (count : ℕ) (backups : Backups N) (seat : BackupSeat N) → count ≤ 64 → visits_in backups ≡ shard_count (length (representatives_of shards)) →
      IsBackupSeat backups seat → view seat.visits ≡ first_view → BackedUp shards count (backups, seat)
  backed-first shards count backups seat few slots own first = record {
    slots = slots;
    seat = crew-first backups count seat few own first;
    whole = ap (λ (v : View). v.share) first;
  }

  pub backed-on : (shards : Shards) (count : ℕ) (backups : Backups N) (old new : BackupSeat N) → BackedUp shards count (backups, old) → StaysSeat backups old new → BackedUp shards count (backups, new)
  backed-on shards count backups old new is stays = record {
    slots = is.slots;
    seat = crew-stays backups count old new is.seat stays;
    whole = ap (λ (v : View). v.share) stays.same ∙ is.whole;
  }

  -- all slots were visited, each once: so the visits take what all faults take
  pub round-ticks : (design : FlatDesign) (plan : TestPlan) (shards : Shards) (from to : ℕ) (backups : Backups N) (seat : BackupSeat N) (old new : List (Worker N)) (before after : List ℕ) →
      visits_in backups ≡ shard_count (length (representatives_of shards)) → AddUp (visits_in backups) (visited_by seat) →
      CrewRose design plan (representatives_of shards) from to old new seat before after → CrewTicks design plan (representatives_of shards) from to old new (sum before) (sum after)
  round-ticks design plan shards from to backups seat old new before after slots adds rose tally =
      let was : visit_steps tally (representatives_of shards) from (visited_by seat) ≡ faults_steps tally from (representatives_of shards) =
      adds (representatives_of shards) (λ (n : ℕ). tally.steps n false from) slots in
      let now : visit_steps tally (representatives_of shards) to (visited_by seat) ≡ faults_steps tally to (representatives_of shards) =
      adds (representatives_of shards) (λ (n : ℕ). tally.steps n false to) slots in
      let rises = rose.rises tally in
      omega (arith, was, now, rises)
