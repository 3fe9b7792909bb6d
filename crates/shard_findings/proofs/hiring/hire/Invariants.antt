-- So many workers are hired.
use Rattle.std.proofs.Common.{◌≡◌, ℕ, List}
use Rattle.std.specs.List.{range_with_len}
use Rattle.shard_findings.specs.AllWorkers.{IsRest, AreWorkersAt, worker_numbers}
use Rattle.shard_findings.proofs.hiring.hire.Given as goal

abbrev pub invariant-numbers : goal.invariant-numbers
invariant-numbers g l = record {
  rest : IsRest l.board l.number l.seat;
  workers : (representatives : List ℕ) → AreWorkersAt representatives l.board 0 l.number l.workers.items;
  numbers : worker_numbers l.workers.items ≡ range_with_len 0 l.number;
}
