-- Some node events are done, and as many nodes as are left may still have work.
use Rattle.v_design.specs.Designs.{Machine}
use Rattle.cert_laws.specs.Replays.{Replay}
use Rattle.cert_replay.specs.Kept.{Keeps, SameRun}
use Rattle.cert_replay.proofs.Going.{Settling}
use Rattle.cert_replay.proofs.replaying.Replaying.settle.Given as goal

abbrev pub invariant-nodes : goal.invariant-nodes
invariant-nodes l = record {
  same : SameRun l.initial.self l.self;
  settling : (machine : Machine) (replay : Replay) → Keeps machine replay l.initial.self → Settling machine replay l.left l.self;
}

abbrev pub decreases-nodes : goal.decreases-nodes
decreases-nodes l = l.left
