use Rattle.std.proofs.Common.{◌≡◌, ◌++◌, map, take}
use Rattle.slot_record.specs.Records.{event_of}
use Rattle.window_wakes.specs.Gathered.{causes_of, wakes_by}
use Rattle.window_wakes.specs.Wakes.{wake_of}
use Rattle.window_wakes.proofs.gathering.push_phase.Given as goal

abbrev pub invariant-events : goal.invariant-events
invariant-events l =
    map wake_of l.wakes.items
    ≡ map wake_of l.fn.wakes.items ++ wakes_by l.first (map event_of l.actors) (take l.number (map event_of l.actors)) (take l.number (causes_of l.log.log))
