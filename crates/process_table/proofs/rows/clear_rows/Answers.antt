use Rattle.std.proofs.Common.{◌≡◌, ◌∙◌, List, length, map, sym, ap, arith, add-one}
use Rattle.std.proofs.lemmas.List.{length-map}
use Rattle.vf_base.specs.Lists.{change_at}
use Rattle.process_table.specs.declared.row.Row.{Row}
use Rattle.process_table.specs.Rows.{RowState, row_text, row_states, idle_row}
use Rattle.process_table.specs.Wakes.{changed_below}
use Rattle.process_table.proofs.Changed.{rows-length}
use Rattle.process_table.proofs.Woken.{below-more, below-all}
use Rattle.process_table.proofs.rows.clear_rows.Goals as goal

-- as many rows as before
as-many : (old new : List Row) → map row_text new ≡ map row_text old → length new ≡ length old
as-many old new texts = sym (length-map new row_text) ∙ ap length texts ∙ length-map old row_text

pub clear_row-requires : goal.clear_row-requires
clear_row-requires c = omega (arith, c.numbers-test.true, c.len-number-end.ensures, as-many c.args.rows.now.items c.numbers.rows.items c.numbers.invariant.texts)

pub numbers-preserved : goal.numbers-preserved
numbers-preserved c =
    let n = c.numbers.number in
    let states = row_states c.args.rows.now.items in
    record {
      texts = c.clear_row.ensures.texts ∙ c.numbers.invariant.texts;
      good = λ good. c.clear_row.ensures.good (c.numbers.invariant.good good);
      states =
          c.clear_row.ensures.states ∙ ap (λ (s : List RowState). change_at s n (λ (row : RowState). idle_row)) c.numbers.invariant.states
          ∙ sym (below-more (λ (row : RowState). idle_row) n states) ∙ ap (λ m. changed_below (λ (row : RowState). idle_row) m states) (sym (add-one n));
    }

pub returns : goal.returns
returns c =
    let n = c.numbers.number in
    let rows = c.args.rows.now.items in
    record {
      texts = c.numbers.invariant.texts;
      good = c.numbers.invariant.good;
      states = c.numbers.invariant.states ∙ below-all (λ (row : RowState). idle_row) n (row_states rows) (omega (arith, rows-length rows, c.numbers-test.false, c.len-number-end.ensures));
    }
