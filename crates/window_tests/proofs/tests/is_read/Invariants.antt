use Rattle.std.proofs.Common.{◌≤◌, ◌-◌}
use Rattle.vf_base.specs.Base.{object_number}
use Rattle.v_design.specs.Designs.{good_machine}
use Rattle.trace_window.specs.Moments.{window_events}
use Rattle.window_tests.specs.Between.{OnlyWithin, read_at}
use Rattle.window_tests.proofs.tests.is_read.Given as goal

abbrev pub invariant-moments : goal.invariant-moments
invariant-moments g l = record {
  since : l.first ≤ l.at;
  none : OnlyWithin (g.S.Spans.covers l.spans)
      (read_at (good_machine g.N.World.design) (window_events g.N.World.design g.N.World.plan l.window.before l.window.through) (object_number l.object)) l.first l.at;
}

abbrev pub decreases-moments : goal.decreases-moments
decreases-moments g l = l.end - l.at
