use Rattle.std.proofs.Common.{◌≡◌, Bool, true, map, take}
use Rattle.vf_base.specs.Base.{process_number}
use Rattle.process_table.specs.Turned.{each_changed, ReadiesRows}
use Rattle.process_table.proofs.turns.ready_each.Given as goal

abbrev pub invariant-processes : goal.invariant-processes
invariant-processes l = record {
  rows : ReadiesRows l.fn.rows.items l.rows.items (map process_number (take l.process-index l.processes));
  set : l.ready ≡ each_changed (λ (member : Bool). true) (map process_number (take l.process-index l.processes)) l.fn.ready;
}
