use Rattle.std.proofs.Common.{drop}
use Rattle.v_tree.specs.Views.{case_items_of}
use Rattle.v_width.specs.declared.faults.Faults.{Faults}
use Rattle.v_elab.specs.ItemFaults.{items_labels_faults}
use Rattle.item_checks.specs.Groups.{Grows}
use Rattle.item_checks.proofs.cases.with_items.Given as goal

abbrev pub invariant-items : goal.invariant-items
invariant-items l = (final : Faults) → Grows (items_labels_faults l.scope (case_items_of (drop l.item-index l.items))) l.faults final →
    Grows (items_labels_faults l.scope (case_items_of l.items)) l.fn.before final
