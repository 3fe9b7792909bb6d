use Rattle.std.proofs.Common.{◌≡◌, ◌++◌, map, take, drop}
use Rattle.window_runs.specs.RunsByProcess.{numbered_from}
use Rattle.window_runs.proofs.numbers.number_from.Given as goal

abbrev pub invariant-runs : goal.invariant-runs
invariant-runs l = l.runs.items ≡ map (numbered_from l.phases) (take l.place l.initial.runs.items) ++ drop l.place l.initial.runs.items
