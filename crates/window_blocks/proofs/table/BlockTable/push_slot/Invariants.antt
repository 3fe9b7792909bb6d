-- So far the phases before this one are gathered.
use Rattle.std.proofs.Common.{List, map, take}
use Rattle.causal_monitor.specs.declared.slot.Actor.{Actor}
use Rattle.slot_record.specs.Records.{event_of}
use Rattle.window_blocks.specs.Gathered.{GathersBlocks}
use Rattle.window_blocks.proofs.table.BlockTable.push_slot.Given as goal

abbrev pub invariant-phases : goal.invariant-phases
invariant-phases l = GathersBlocks (map (λ (actors : List Actor). map event_of actors) (take l.actors-index l.phases)) l.fn.self l.self
