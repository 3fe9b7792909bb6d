-- Some steps were taken, and so many are left.
use Rattle.std.proofs.Common.{◌≤◌, ◌^◌}
use Rattle.v_design.specs.Designs.{Machine}
use Rattle.cert_laws.specs.Replays.{Replay}
use Rattle.cert_replay.specs.Kept.{Keeps, SameRun, event_by, time_kept}
use Rattle.cert_replay.proofs.Lines.{Stepping}
use Rattle.cert_replay.proofs.replaying.Replaying.step.Given as goal

abbrev pub invariant-steps : goal.invariant-steps
invariant-steps g l = record {
  same : SameRun l.initial.self l.self;
  low : time_kept l.self ≤ 2 ^ 63;
  stepping : (machine : Machine) (replay : Replay) → Keeps machine replay l.initial.self → Stepping machine (event_by l.fn.stepper l.number) l.fn.count l.left replay l.self;
}

abbrev pub decreases-steps : goal.decreases-steps
decreases-steps g l = l.left
