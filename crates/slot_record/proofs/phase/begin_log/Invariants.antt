use Rattle.std.proofs.Common.{◌≡◌, map, take}
use Rattle.causal_monitor.specs.Notes.{noted_access}
use Rattle.slot_record.specs.Records.{held_phase}
use Rattle.slot_record.proofs.phase.begin_log.Given as goal

abbrev pub invariant-entries : goal.invariant-entries
invariant-entries l = l.log ≡ held_phase l.fn.time l.fn.number (map noted_access (take l.entry-index l.held))
