-- The code of a row is one of its process (nothing of the language).
use Rattle.std.proofs.Common.{◌≡◌, ℕ, zero, suc, ◌<◌, List, [], ◌∷◌, length, map, get_or, false, refl, sym, ap, ◌∙◌, arith}
use Rattle.std.specs.Prelude.{Option, Some, slice_get}
use Rattle.v_design.specs.Trees.{Null}
use Rattle.v_design.specs.Designs.{FlatProcess}
use Rattle.v_design.specs.PlainDesigns.{design_of}
use Rattle.v_design.specs.States.{found_or}
use Rattle.process_code.specs.OneCode.{AreCodesOfOne}
use Rattle.process_code.specs.declared.code.Code.{Code}
use Rattle.run_ends.specs.RunEnds.{IsCodeAt}
use Rattle.process_table.specs.declared.row.Row.{Row}
use Rattle.process_table.specs.declared.table.ProcessTable.{ProcessTable}
use Rattle.process_table.specs.Rows.{IsGoodRow, row_text, text_at}
use Rattle.process_table.specs.Arranged.{IsKept, table_of}
use Rattle.process_table.proofs.Lists.{AllHold-at}
use Rattle.process_table.proofs.Changed.{text-is}
use Rattle.process_table.proofs.TableCalls.{count-processes}

-- a process has a row
pub row-low : (t : ProcessTable) → IsKept t → (p : ℕ) → p < length (table_of t).processes → p < length t.rows.items
row-low t kept p there = omega (arith, there, count-processes (design_of t.design.now) t.time t.rows.items t.index t.ready t.lanes t.queue kept)

pub row-there : (rows : List Row) (p : ℕ) → p < length rows → (row : Row) × (row ≡ get_or rows p row)
row-there [] p low = absurd (omega (arith, low))
row-there (row ∷ rows) zero low = (row, refl)
row-there (row ∷ rows) (suc p) low = row-there rows p (omega (arith, low))

text-found : (rows : List Row) (p : ℕ) (row : Row) → p < length rows → row ≡ get_or rows p row → slice_get (map row_text rows) p ≡ Some (row_text row)
text-found [] p row low is = absurd (omega (arith, low))
text-found (r ∷ rows) zero row low is = ap (λ (x : Row). Some (row_text x)) (sym is)
text-found (r ∷ rows) (suc p) row low is = text-found rows p row (omega (arith, low)) is

-- the row's code is one of the process
pub code-at : (t : ProcessTable) → IsKept t → (p : ℕ) (row : Row) → p < length t.rows.items → row ≡ get_or t.rows.items p row → IsCodeAt (design_of t.design.now) p row.code
code-at t kept p row there is = record {
  process_is = ap (λ texts. slice_get texts p) (sym kept.texts) ∙ text-found t.rows.items p row there is;
  code_of = (AllHold-at IsGoodRow t.rows.items p row kept.good there is).code;
}

-- the row's code, and any other of the process
pub one-process : (t : ProcessTable) → IsKept t → (p : ℕ) (row : Row) (code : Code) → p < length t.rows.items → row ≡ get_or t.rows.items p row → IsCodeAt (design_of t.design.now) p code →
    AreCodesOfOne row.code code
one-process t kept p row code there is at = record {
  same =
      sym (text-is t.rows.items p row there is) ∙ ap (λ texts. text_at texts p) kept.texts
      ∙ ap (λ (o : Option FlatProcess). found_or (record { always = false; body = Null; place = record { line = 0; column = 0 } }) o) at.process_is;
  first = (AllHold-at IsGoodRow t.rows.items p row kept.good there is).code;
  second = at.code_of;
}
