-- So far the time is no earlier.
use Rattle.std.proofs.Common.{◌≤◌, take}
use Rattle.window_runs.proofs.Dues.{DueBy}
use Rattle.window_runs.proofs.latest.latest_due.Given as goal

abbrev pub invariant-updates : goal.invariant-updates
invariant-updates l = record {
  since : l.time ≤ l.latest;
  all : DueBy l.latest (take l.due-index l.updates);
}
