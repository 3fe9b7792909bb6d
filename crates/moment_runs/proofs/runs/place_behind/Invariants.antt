use Rattle.std.proofs.Common.{◌-◌, ◌≤◌}
use Rattle.vf_base.specs.Base.{process_number}
use Rattle.moment_runs.proofs.Found.{HasNone}
use Rattle.moment_runs.proofs.runs.place_behind.Given as goal

abbrev pub invariant-runs : goal.invariant-runs
invariant-runs l = record {
  from_on : l.from ≤ l.place;
  none : HasNone l.runs l.from (l.place - l.from) (process_number l.process);
}
