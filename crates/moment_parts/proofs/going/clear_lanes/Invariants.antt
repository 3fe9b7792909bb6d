use Rattle.std.proofs.Common.{◌≡◌, [], length}
use Rattle.moment_parts.specs.Lanes.{lane_left}
use Rattle.moment_parts.specs.declared.lane.Lane.{Lane as LaneKept}
use Rattle.moment_parts.proofs.Below.{AreBelow}
use Rattle.moment_parts.proofs.going.clear_lanes.Given as goal

abbrev pub invariant-lanes : goal.invariant-lanes
invariant-lanes l = AreBelow LaneKept (λ place lane. lane_left lane ≡ []) l.place (length l.fn.lanes.items) l.lanes.items
