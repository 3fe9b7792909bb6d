use Rattle.std.proofs.Common.{◌≡◌, Bool, true, map}
use Rattle.event_queue.specs.Arranged.{lane_number, lane_of}
use Rattle.process_table.specs.Turned.{each_changed, FillsLanes}
use Rattle.process_table.proofs.turns.fill_lanes.Given as goal

abbrev pub invariant-lanes : goal.invariant-lanes
invariant-lanes l = record {
  rows : FillsLanes l.fn.rows.items l.rows.items (map lane_of l.yielded);
  set : l.busy ≡ each_changed (λ (member : Bool). true) (map lane_number l.yielded) l.fn.busy;
}
