use Rattle.std.proofs.Common.{map, take}
use Rattle.vf_base.specs.Base.{process_number}
use Rattle.event_causes.specs.Causes.{Marks}
use Rattle.event_causes.proofs.marks.mark_processes.Given as goal

abbrev pub invariant-processes : goal.invariant-processes
invariant-processes l = Marks (map process_number (take l.process-index l.processes)) l.number l.initial.table.items l.table.items
