-- So far none of the readers is evaluated before the moment.
use Rattle.std.proofs.Common.{◌≤◌}
use Rattle.trace_window.specs.Moments.{window_events}
use Rattle.copy_skip.proofs.Limited.{NoneYet}
use Rattle.next_touches.proofs.search.readers_limit.Given as goal

abbrev pub invariant-readers : goal.invariant-readers
invariant-readers g l = record {
  low : l.least ≤ l.limit;
  none : NoneYet (window_events g.N.World.design g.N.World.plan l.window.before l.window.through) l.readers l.reader-index l.first l.least;
}
