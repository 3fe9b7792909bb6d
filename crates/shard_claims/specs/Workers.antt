-- What workers have between rounds (slots by IEEE 1364-2001, clause 5).
use Rattle.std.specs.Prelude.{◌≡◌, ℕ, ◌+◌, Bool, true, false, IsTrue, List, [], if◌then◌else◌}
use Rattle.std.specs.List.{All}
use Rattle.v_design.specs.Designs.{FlatDesign, TestPlan}
use Rattle.own_gradings.specs.Numbers.{OwnStepsOf, RisesOwn}
pub use Rattle.shard_turns.specs.copy_shard.Together.{claimed_steps}
pub use Rattle.shard_turns.specs.Backups.{AddUp, HasVisited, IsBackupSeat, IsFreshBackup, StaysSeat, visited_by, visits_in}
pub use Rattle.shard_turns.specs.Claims.{AreBackupsOf, IsClaimed, IsPlaceOf, numbers_of}
pub use Rattle.shard_turns.specs.Visits.{MovesListed, faults_steps, visit_steps}
use Rattle.verdict_words.specs.Seats.{view, IsSeatOf}
use Rattle.verdict_words.specs.Views.{lent_share}
use Rattle.verdict_words.specs.declared.board.Board.{Board}
use Rattle.verdict_words.specs.declared.board.Seat.{Seat}
use Rattle.verdict_words.specs.declared.view.View.{View}
use Rattle.shard_turns.specs.copy_shard.declared.together.ClaimedShard.{ClaimedShard}
use Rattle.shard_claims.specs.declared.worker.Seated.{Seated}
use Rattle.shard_claims.specs.declared.worker.Worker.{Worker}

module _ {N : Type 0} where
  -- Shards

  -- a seat drew the claims of these shards and no others
  pub record KeepsShards (representatives : List ℕ) (gone : ℕ) (v : View) (shards : List (ClaimedShard N)) : Type 0 where
    pub claimed : v.claimed ≡ numbers_of shards
    pub each : All (IsClaimed representatives gone) shards

  -- Workers

  -- the own steps of the faults of a worker's shards, once it has claimed
  abbrev pub worker_steps : {design : FlatDesign} {plan : TestPlan} → OwnStepsOf design plan → Worker N → ℕ
  worker_steps tally worker = if worker.dry then claimed_steps tally worker.shards.items else 0

  -- a seat that has drawn no claim, moved no word, and has the share of one worker
  pub record IsNewSeat (board : Board N) (seat : Seat N) : Type 0 where
    pub own : IsSeatOf board seat
    pub share : (view seat).share ≡ lent_share
    pub calls : (view seat).calls ≡ 0
    pub claimed : (view seat).claimed ≡ []
    pub moved : (view seat).moved ≡ []

  -- a seat that was told that no claim is left, beside the shards that it claimed; it moved words of representatives alone
  pub record HasClaimed (representatives : List ℕ) (board : Board N) (gone : ℕ) (seat : Seat N) (shards : List (ClaimedShard N)) : Type 0 where
    pub own : IsSeatOf board seat
    pub share : (view seat).share ≡ lent_share
    pub moved : MovesListed representatives (view seat).moved
    pub dry : IsTrue (view seat).dry
    pub keeps : KeepsShards representatives gone (view seat) shards

  -- a worker that claimed has its shards behind so many slots of the good first run; one that didn't is new, and stands before the first slot
  abbrev pub StandsBy : Bool → List ℕ → Board N → ℕ → Worker N → Type 0
  StandsBy true representatives board gone worker = HasClaimed representatives board gone worker.seat worker.shards.items
  StandsBy false representatives board gone worker = IsNewSeat board worker.seat × (gone ≡ 0)

  abbrev pub IsWorkerAt : List ℕ → Board N → ℕ → Worker N → Type 0
  IsWorkerAt representatives board gone worker = StandsBy worker.dry representatives board gone worker

  -- A worker in a round

  -- a counter rose by no more than the own steps of the faults of a worker's shards, and of those of the slots that it visited, up to behind so many slots of the good first run and not more
  abbrev pub RoseInRound : FlatDesign → TestPlan → List ℕ → ℕ → ℕ → Worker N → Seated N → ℕ → ℕ → Type 0
  RoseInRound design plan representatives from to worker after_it before after =
      RisesOwn design plan (λ tally. worker_steps tally worker + visit_steps tally representatives from (visited_by after_it.backup))
      (λ tally. worker_steps tally after_it.worker + visit_steps tally representatives to (visited_by after_it.backup)) before after
