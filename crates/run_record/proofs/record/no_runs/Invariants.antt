use Rattle.std.proofs.Common.{◌≡◌, length, map}
use Rattle.std.specs.List.{All}
use Rattle.run_record.specs.Notes.{SoFar, nothing_so_far}
use Rattle.run_record.specs.RunRecords.{so_far}
use Rattle.run_record.proofs.record.no_runs.Given as goal

abbrev pub invariant-processes : goal.invariant-processes
invariant-processes l = record {
  count : length l.runs.items ≡ l._process;
  nothing : All (λ (told : SoFar). told ≡ nothing_so_far) (map so_far l.runs.items);
}
