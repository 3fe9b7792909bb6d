use Rattle.std.proofs.Common.{◌≡◌, drop, map, flat_map}
use Rattle.v_elab.specs.ItemFaults.{entry_select_faults}
use Rattle.v_tree.specs.Trees.{SourceEntry}
use Rattle.v_tree.specs.Views.{entry_of}
use Rattle.name_checks.specs.Noted.{noted}
use Rattle.item_checks.proofs.waits.note_entries.Given as goal

abbrev pub invariant-entries : goal.invariant-entries
invariant-entries l = noted l.first (flat_map (λ (e : SourceEntry). entry_select_faults l.scope e.select) (map entry_of (drop l.entry-index l.entries))) ≡ noted l.initial.first
    (flat_map (λ (e : SourceEntry). entry_select_faults l.scope e.select) (map entry_of l.entries))
