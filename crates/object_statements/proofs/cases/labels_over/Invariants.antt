use Rattle.std.proofs.Common.{◌≡◌, drop, option_map}
use Rattle.v_design.specs.Plain.{expressions_of}
use Rattle.v_tree.specs.Views as source
use Rattle.v_names.specs.SizeViews.{size_of}
use Rattle.v_elab.specs.Statements.{Meaning, label_expressions}
use Rattle.object_statements.specs.Meanings.{IsMeaning}
use Rattle.object_statements.proofs.Rows.{then_expressions}
use Rattle.object_statements.proofs.cases.labels_over.Given as goal

abbrev pub invariant-labels : goal.invariant-labels
invariant-labels l =
    (plain : Meaning) → IsMeaning plain l.meaning →
    then_expressions (expressions_of l.flats.items) (label_expressions plain (option_map size_of l.size) (source.expressions_of (drop l.label-index l.labels))) ≡ label_expressions plain
    (option_map size_of l.size) (source.expressions_of l.labels)
