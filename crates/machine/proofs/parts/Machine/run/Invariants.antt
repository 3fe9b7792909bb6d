use Rattle.std.proofs.Common.{◌≡◌, ◌≤◌}
use Rattle.machine.specs.Standing.{notes_runs}
use Rattle.machine.proofs.Made.{HasRun}
use Rattle.machine.proofs.parts.Machine.run.Given as goal

abbrev pub invariant-moves : goal.invariant-moves
invariant-moves g l = record {
  has : HasRun l.initial.guide l.guide l.initial.steps l.steps l.initial.self l.self l.initial.log l.log l.taken l._move;
  few : l.taken ≤ 100001;
  notes : notes_runs l.self ≡ notes_runs l.initial.self;
}
