use Rattle.std.proofs.Common.{◌≡◌, map, take}
use Rattle.vf_base.specs.Lists.{AllHold}
use Rattle.v_design.specs.Plain.{process_of}
use Rattle.process_table.specs.Rows.{IsGoodRow, row_text, row_states, new_state}
use Rattle.process_table.proofs.rows.new_rows.Given as goal

abbrev pub invariant-processes : goal.invariant-processes
invariant-processes l = record {
  good : AllHold IsGoodRow l.rows.items;
  texts : map row_text l.rows.items ≡ map process_of (take l.process-index l.processes);
  states : row_states l.rows.items ≡ map new_state (map process_of (take l.process-index l.processes));
}
