use Rattle.std.proofs.Common.{◌≡◌, ◌++◌, drop, map}
use Rattle.vf_base.specs.Base.{object_number}
use Rattle.v_tree.specs.Views.{expressions_of}
use Rattle.v_elab.specs.Statements.{Meaning, labels_in_text}
use Rattle.object_statements.specs.Meanings.{IsMeaning}
use Rattle.object_statements.proofs.reads.add_labels.Given as goal

abbrev pub invariant-labels : goal.invariant-labels
invariant-labels l =
    (plain : Meaning) → IsMeaning plain l.meaning →
    map object_number l.objects.items ++ labels_in_text plain (expressions_of (drop l.label-index l.labels)) ≡ map object_number l.initial.objects.items
    ++ labels_in_text plain (expressions_of l.labels)
