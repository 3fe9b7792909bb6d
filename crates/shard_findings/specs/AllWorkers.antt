-- All workers between two rounds, and the seat that is left beside theirs (slots by IEEE 1364-2001, clause 5).
use Rattle.std.specs.Prelude.{◌≡◌, ℕ, ◌+◌, ◌*◌, ◌^◌, List, [], length, map, sum_by}
use Rattle.std.specs.List.{All}
use Rattle.own_gradings.specs.Numbers.{OwnStepsOf}
use Rattle.verdict_words.specs.Seats.{view, IsSeatOf}
use Rattle.verdict_words.specs.Views.{lent_share}
use Rattle.verdict_words.specs.declared.board.Board.{Board}
use Rattle.verdict_words.specs.declared.board.Seat.{Seat}
use Rattle.shard_claims.specs.declared.worker.Worker.{Worker}
use Rattle.v_design.specs.Designs.{FlatDesign, TestPlan}
use Rattle.shard_claims.specs.Workers.{IsWorkerAt, worker_steps}

module _ {N : Type 0} where
  -- their numbers, by which the gate is told of them
  abbrev pub worker_numbers : List (Worker N) → List ℕ
  worker_numbers workers = map (λ (worker : Worker N). worker.number) workers

  -- the own steps of the faults of their shards
  abbrev pub crew_steps : {design : FlatDesign} {plan : TestPlan} → OwnStepsOf design plan → List (Worker N) → ℕ
  crew_steps tally workers = sum_by (worker_steps tally) workers

  -- so many workers behind so many slots
  pub record AreWorkersAt (representatives : List ℕ) (board : Board N) (gone count : ℕ) (workers : List (Worker N)) : Type 0 where
    pub count_is : length workers ≡ count
    pub each : All (IsWorkerAt representatives board gone) workers

  -- what is left of a board's first seat, off which the seats of so many workers were split
  pub record IsRest (board : Board N) (count : ℕ) (seat : Seat N) : Type 0 where
    pub own : IsSeatOf board seat
    pub share : (view seat).share + count * lent_share ≡ 2 ^ 62
    pub calls : (view seat).calls ≡ 0
    pub claimed : (view seat).claimed ≡ []
    pub moved : (view seat).moved ≡ []
