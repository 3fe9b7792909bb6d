-- What the changes so far write reaches is reached.
use Rattle.std.proofs.Common.{◌≡◌, map, take}
use Rattle.v_design.specs.PlainDesigns.{design_of}
use Rattle.trace_window.specs.Writes.{written_of}
use Rattle.phase_reach.specs.Reached.{WritesAreReached}
use Rattle.phase_reach.proofs.reach.reach_written.Given as goal

abbrev pub invariant-changes : goal.invariant-changes
invariant-changes l = record {
  design : l.reached.design ≡ l.initial.reached.design;
  all : WritesAreReached (design_of l.initial.reached.design) l.first l.end (map written_of (take l.place l.changes)) l.reached;
}
