use Rattle.std.proofs.Common.{drop}
use Rattle.v_tree.specs.Views.{expressions_of}
use Rattle.v_width.specs.declared.faults.Faults.{Faults}
use Rattle.item_checks.specs.Groups.{labels_group, Grows}
use Rattle.item_checks.proofs.cases.with_labels.Given as goal

abbrev pub invariant-labels : goal.invariant-labels
invariant-labels l = (final : Faults) → Grows (labels_group l.scope (expressions_of (drop l.label-index l.labels))) l.faults final →
    Grows (labels_group l.scope (expressions_of l.labels)) l.fn.before final
