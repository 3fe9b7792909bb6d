-- So many runs were taken in.
use Rattle.std.proofs.Common.{◌≡◌, ℕ, ◌<◌, ◌≤◌, get_or, length}
use Rattle.std.specs.Prelude.{Some, slice_get}
use Rattle.process_code.specs.declared.state.RunEnd.{RunEnd}
use Rattle.window_runs.specs.RunsByProcess.{run_process}
use Rattle.window_runs.proofs.Dues.{DueBy}
use Rattle.window_runs.proofs.latest.list_latest.Given as goal

abbrev pub invariant-runs : goal.invariant-runs
invariant-runs l = record {
  count : length l.latest.items ≡ l.run-index;
  kept : (place : ℕ) (run : RunEnd) → place < l.run-index → slice_get l.runs place ≡ Some run → DueBy (get_or l.highest.items (run_process run) 0) run.later;
  bounds : (place : ℕ) → place < l.run-index → (earlier : ℕ) (run other : RunEnd) → earlier ≤ place → slice_get l.runs place ≡ Some run → slice_get l.runs earlier ≡ Some other →
      run_process other ≡ run_process run → DueBy (get_or l.latest.items place 0) other.later;
}
