use Rattle.std.proofs.Common.{◌≡◌, map, take}
use Rattle.vf_base.specs.Base.{process_number}
use Rattle.vf_base.specs.Lists.{AllHold}
use Rattle.causal_monitor.specs.Notes.{IsNoted, noted_access}
use Rattle.slot_record.specs.Records.{write_of_change}
use Rattle.slot_record.proofs.phase.fill_accesses.Given as goal

abbrev pub invariant-changes : goal.invariant-changes
invariant-changes l =
    (map noted_access l.accesses.items ≡ map (write_of_change (process_number l.writer.process) l.writer.line) (take l.change-index l.changes)) × AllHold IsNoted l.accesses.items
