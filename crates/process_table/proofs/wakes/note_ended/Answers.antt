use Rattle.std.proofs.Common.{◌≡◌, ◌∙◌, length, map, ap, sym, subst, arith, get_or, ◌<◌, ℕ, List}
use Rattle.std.proofs.lemmas.List.{length-map}
use Rattle.vf_base.specs.Base.{process_number}
use Rattle.four_value.specs.Values.{IsWidth}
use Rattle.vf_base.specs.Lists.{AllHold}
use Rattle.v_design.specs.Trees.{Entry}
use Rattle.v_design.specs.Plain.{entry_of}
use Rattle.v_design.specs.Accesses.{waiting_entries, waiting_line}
use Rattle.v_design.specs.declared.tree.WaitEntry.{WaitEntry}
use Rattle.value_change.specs.Changes.{change_seen, matches_one}
use Rattle.process_table.specs.declared.row.Row.{Row}
use Rattle.process_table.specs.Rows.{RowState, row_state, row_states, state_at}
use Rattle.process_table.proofs.Changed.{state-is}
use Rattle.process_table.proofs.Matching.{found-below}
use Rattle.process_table.proofs.NotedLaws.{ends-none, ends-some}
use Rattle.process_table.proofs.wakes.note_ended.Goals as goal

-- the entries are those of the row that is read
same : (rows : List Row) (p : ℕ) (row : Row) (entries : List WaitEntry) → p < length rows → row ≡ get_or rows p row → map entry_of entries ≡ waiting_entries (row_state row).activity →
    map entry_of entries ≡ waiting_entries (state_at (row_states rows) p).activity
same rows p row entries low is of_row = of_row ∙ ap (λ (r : RowState). waiting_entries r.activity) (sym (state-is rows p row low is))

pub first_matching-requires : goal.first_matching-requires
first_matching-requires c =
    subst (AllHold (λ (entry : Entry). IsWidth entry.width))
    (sym (same c.args.rows.now.items (process_number c.args.process) c.index-row.result.now c.waits-entries.result.now c.requires.number c.index-row.ensures c.waits-entries.ensures)) c.requires.widths

pub returns-in_default : goal.returns-in_default
returns-in_default c =
    ends-none (map change_seen c.args.changes.now) (process_number c.args.process) (state_at (row_states c.args.rows.now.items) (process_number c.args.process)).activity c.waits-entries.result.now
    c.args.accesses.now.items
    (same c.args.rows.now.items (process_number c.args.process) c.index-row.result.now c.waits-entries.result.now c.requires.number c.index-row.ensures c.waits-entries.ensures)
    c.in_default.ensures

pub push_others-requires : goal.push_others-requires
push_others-requires c =
    omega (
      arith,
      found-below (matches_one (map change_seen c.args.changes.now)) (map entry_of c.waits-entries.result.now) c.in-Some.first c.in-Some.ensures,
      length-map c.waits-entries.result.now entry_of,
    )

pub returns : goal.returns
returns c =
    ends-some (map change_seen c.args.changes.now) c.args.process (state_at (row_states c.args.rows.now.items) (process_number c.args.process)).activity c.waits-entries.result.now c.in-Some.first
    c.wait_line-line.result
    c.args.accesses.now.items c.push_others.new.accesses.items
    (same c.args.rows.now.items (process_number c.args.process) c.index-row.result.now c.waits-entries.result.now c.requires.number c.index-row.ensures c.waits-entries.ensures)
    (c.wait_line-line.ensures ∙ ap (λ (r : RowState). waiting_line r.activity) (sym (state-is c.args.rows.now.items
    (process_number c.args.process) c.index-row.result.now c.requires.number c.index-row.ensures)))
    c.in-Some.ensures c.in_ok-push_others.ensures
