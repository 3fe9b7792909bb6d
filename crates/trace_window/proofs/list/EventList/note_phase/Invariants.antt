use Rattle.std.proofs.Common.{map, take}
use Rattle.slot_record.specs.Records.{event_of}
use Rattle.trace_window.specs.Gathered.{Gathers}
use Rattle.trace_window.specs.Listed.{phase_accesses}
use Rattle.trace_window.proofs.list.EventList.note_phase.Given as goal

abbrev pub invariant-events : goal.invariant-events
invariant-events l = Gathers l.sizes (take l.event (phase_accesses l.log)) (map event_of (take l.event l.actors)) l.fn.self l.self
