-- A region as plain data (IEEE 1364-2001, clause 5.3).
use Rattle.std.specs.Prelude.{map}
use Rattle.vf_base.specs.Base.{process_number}
use Rattle.event_queue.specs.declared.region.Region.{Region}
use Rattle.event_queue.specs.Queues.{TurnRegion}
use Rattle.event_queue.specs.Arranged.{lane_of}

-- a region
abbrev pub turn_region : Region → TurnRegion
turn_region region = record { time = region.time; processes = map process_number region.processes; lanes = map lane_of region.lanes }
