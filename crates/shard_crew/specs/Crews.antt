-- What workers have in a round, and the seat of its backups (slots by IEEE 1364-2001, clause 5).
use Rattle.std.specs.Prelude.{◌≡◌, ℕ, ◌+◌, ◌*◌, ◌<◌, ◌≤◌, IsTrue, List, [], sum, Option, Some, None}
use Rattle.own_gradings.specs.Numbers.{OwnStepsOf, RisesOwn}
use Rattle.verdict_words.specs.Seats.{view}
use Rattle.verdict_words.specs.Views.{lent_share}
use Rattle.verdict_words.specs.declared.board.Board.{Board}
use Rattle.shard_findings.specs.shard_claims.declared.worker.Seated.{Seated}
use Rattle.shard_findings.specs.shard_claims.declared.worker.Worker.{Worker}
use Rattle.shard_findings.specs.shard_turns.declared.backups.Backups.{Backups}
use Rattle.shard_findings.specs.shard_turns.declared.backups.BackupSeat.{BackupSeat}
use Rattle.v_design.specs.Designs.{FlatDesign, TestPlan}
use Rattle.shard_findings.specs.shard_claims.Workers.{IsBackupSeat, IsFreshBackup, IsWorkerAt, visit_steps, visited_by, worker_steps}
use Rattle.shard_findings.specs.AllWorkers.{crew_steps}

module _ {N : Type 0} where
  -- the own steps of the faults of a worker's shards, with its seat, if there is one
  abbrev pub steps_in : {design : FlatDesign} {plan : TestPlan} → OwnStepsOf design plan → Option (Seated N) → ℕ
  steps_in tally None = 0
  steps_in tally (Some seated) = worker_steps tally seated.worker

  -- up to behind so many slots of the good first run and not more some counters rose together by no more than the own steps of the faults of all workers' shards, and of those of the slots that
  -- a seat of the round's backups has visited
  pub record CrewRose (design : FlatDesign) (plan : TestPlan) (representatives : List ℕ) (from to : ℕ) (old new : List (Worker N)) (seat : BackupSeat N) (before after : List ℕ) : Type 0 where
    pub rises : RisesOwn design plan (λ tally. crew_steps tally old + visit_steps tally representatives from (visited_by seat))
        (λ tally. crew_steps tally new + visit_steps tally representatives to (visited_by seat)) (sum before) (sum after)

  -- of the faults of one worker's, and of those of the slots that it visited
  pub record WorkerRose (design : FlatDesign) (plan : TestPlan) (representatives : List ℕ) (from to : ℕ) (found : Option (Seated N)) (after_it : Seated N) (before after : List ℕ) : Type 0 where
    pub rises : RisesOwn design plan (λ tally. steps_in tally found + visit_steps tally representatives from (visited_by after_it.backup))
        (λ tally. worker_steps tally after_it.worker + visit_steps tally representatives to (visited_by after_it.backup)) (sum before) (sum after)

  -- a worker behind so many slots, with a seat that has visited none
  pub record IsSeatedAt (representatives : List ℕ) (board : Board N) (backups : Backups N) (gone : ℕ) (seated : Seated N) : Type 0 where
    pub at : IsWorkerAt representatives board gone seated.worker
    pub fresh : IsFreshBackup backups seated.backup

  -- a seat of a round's backups off which those of so many workers are split: none has visited a slot
  pub record IsCrewSeat (backups : Backups N) (count : ℕ) (seat : BackupSeat N) : Type 0 where
    pub own : IsBackupSeat backups seat
    pub share : count * lent_share ≤ (view seat.visits).share
    pub calls : (view seat.visits).calls ≡ 0
    pub none : visited_by seat ≡ []

  -- into which they were joined again, behind the round: where there is a worker, all slots were visited
  pub record HasCrewVisited (backups : Backups N) (count : ℕ) (old new : BackupSeat N) : Type 0 where
    pub own : IsBackupSeat backups new
    pub share : (view new.visits).share ≡ (view old.visits).share
    pub dry : 0 < count → IsTrue (view new.visits).dry
