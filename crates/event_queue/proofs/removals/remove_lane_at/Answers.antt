-- The list is shorter, or there is none any more.
use Rattle.std.proofs.Common.{refl}
use Rattle.event_queue.specs.Arranged.{without_lane}
use Rattle.event_queue.proofs.Removed.{removes-at}
use Rattle.event_queue.proofs.removals.remove_lane_at.Goals as goal

pub returns : goal.returns
returns c = removes-at c.args.time (without_lane c.args.process) c.args.lanes.now c.shorten_lanes.new.lanes c.drop_empty.new.map refl c.shorten_lanes.ensures c.drop_empty.ensures
