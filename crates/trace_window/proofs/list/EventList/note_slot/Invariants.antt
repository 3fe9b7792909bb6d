use Rattle.std.proofs.Common.{List, map, take}
use Rattle.vf_base.specs.Lists.{joined}
use Rattle.causal_monitor.specs.declared.slot.Actor.{Actor}
use Rattle.slot_record.specs.Records.{event_of}
use Rattle.trace_window.specs.Gathered.{Gathers}
use Rattle.trace_window.specs.Listed.{phase_accesses}
use Rattle.trace_window.proofs.list.EventList.note_slot.Given as goal

abbrev pub invariant-phases : goal.invariant-phases
invariant-phases l =
    Gathers l.sizes (joined (map phase_accesses (take l.number l.phases))) (joined (map (λ (own : List Actor). map event_of own) (take l.number l.actors))) l.fn.self l.self
