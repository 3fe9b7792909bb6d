-- So many lines were followed, and as many turns at most were made.
use Rattle.std.proofs.Common.{◌-◌, ◌≤◌, length}
use Rattle.text_lines.specs.Plain.{plain_texts}
use Rattle.cert_laws.specs.Valid.{lines_said}
use Rattle.cert_runs.specs.AskedRuns.{IsAskedRun}
use Rattle.cert_runs.proofs.Passing.{Passing}
use Rattle.cert_runs.proofs.lines.follow_lines.Given as goal

abbrev pub invariant-lines : goal.invariant-lines
invariant-lines g l = record {
  below : l.at ≤ length l.fn.lines;
  stands : IsAskedRun l.at l.run;
  passing : Passing (lines_said (plain_texts l.fn.lines)) l.at l.initial.run l.run;
}

abbrev pub decreases-lines : goal.decreases-lines
decreases-lines g l = length l.fn.lines - l.at
