use Rattle.std.proofs.Common.{◌≡◌, map, take}
use Rattle.window_runs.specs.Placed.{at_moment}
use Rattle.window_runs.specs.RunsByProcess.{run_process, run_phase}
use Rattle.window_runs.proofs.index.list_phases.Given as goal

abbrev pub invariant-runs : goal.invariant-runs
invariant-runs l = l.occurrences.items ≡ map (at_moment run_process run_phase) (take l.run-index l.runs)
