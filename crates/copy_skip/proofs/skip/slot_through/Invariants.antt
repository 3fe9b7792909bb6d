-- So far each slot ends before the moment.
use Rattle.std.proofs.Common.{◌-◌, ◌≡◌, ◌+◌, ◌<◌, ◌≤◌, length}
use Rattle.trace_window.specs.Moments.{window_events}
use Rattle.copy_skip.proofs.skip.slot_through.Given as goal

abbrev pub invariant-slots : goal.invariant-slots
invariant-slots g l = record {
  since : l.slot ≤ l.through;
  within : l.through ≤ l.count;
  count : l.window.before + l.count ≡ l.window.through;
  before : l.slot < l.through → length (window_events g.N.World.design g.N.World.plan l.window.before (l.window.before + l.through)) ≤ l.limit;
}

abbrev pub decreases-slots : goal.decreases-slots
decreases-slots g l = l.count - l.through
