use Rattle.std.proofs.Common.{◌≡◌, map}
use Rattle.vf_base.specs.Lists.{AllHold}
use Rattle.process_table.specs.Rows.{RowState, IsGoodRow, row_text, row_states, idle_row}
use Rattle.process_table.specs.Wakes.{changed_below}
use Rattle.process_table.proofs.rows.clear_rows.Given as goal

abbrev pub invariant-numbers : goal.invariant-numbers
invariant-numbers l = record {
  texts : map row_text l.rows.items ≡ map row_text l.initial.rows.items;
  good : AllHold IsGoodRow l.initial.rows.items → AllHold IsGoodRow l.rows.items;
  states : row_states l.rows.items ≡ changed_below (λ (row : RowState). idle_row) l.number (row_states l.initial.rows.items);
}
