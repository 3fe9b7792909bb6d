-- So far each of the first objects is left alone.
use Rattle.std.proofs.Common.{◌≤◌, length, map, take}
use Rattle.copy_skip.specs.Limits.{AreLeftAlone}
use Rattle.copy_state.specs.Listed.{entry_of}
use Rattle.trace_window.specs.Moments.{window_events}
use Rattle.next_touches.specs.Touches.{AreLeftBy}
use Rattle.next_touches.proofs.limits.listed_limit.Given as goal

abbrev pub invariant-objects : goal.invariant-objects
invariant-objects g l = record {
  low : l.least ≤ l.limit;
  alone : AreLeftAlone g.N.World.design (window_events g.N.World.design g.N.World.plan l.window.before l.window.through) (map entry_of (take l.own-index l.listed))
      (length g.N.World.design.objects) l.first l.least;
  known : AreLeftBy g.N.World.design (window_events g.N.World.design g.N.World.plan l.window.before l.window.through) l.objects.items;
}
