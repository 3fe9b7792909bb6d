use Rattle.std.proofs.Common.{List, map, flat_map, refl}
use Rattle.v_elab.specs.ItemFaults.{entry_select_faults}
use Rattle.v_tree.specs.Trees.{SourceEntry}
use Rattle.v_tree.specs.Views.{select_of, entry_of}
use Rattle.v_tree.specs.declared.statement.Entry.{Entry}
use Rattle.name_checks.specs.Rows.{rest-more}
use Rattle.item_checks.proofs.waits.note_entries.Goals as goal

pub entries-preserved : goal.entries-preserved
entries-preserved c =
    rest-more (λ (x : Entry). entry_select_faults c.args.scope.now (select_of x.select)) (λ (xs : List Entry).
    flat_map (λ (e : SourceEntry). entry_select_faults c.args.scope.now e.select) (map entry_of xs)) c.args.entries.now c.entries.entry-index c.entry-item.result
    c.entries.first c.note_entry_select.new.first _ (λ y ys. refl) c.entries-test.true c.entry-item.is c.in_ok-note_entry_select.ensures c.entries.invariant
