use Rattle.std.proofs.Common.{◌≡◌, drop, option_map}
use Rattle.v_tree.specs.Views.{expressions_of}
use Rattle.v_names.specs.SizeViews.{size_of}
use Rattle.v_elab.specs.Statements.{labels_size}
use Rattle.object_statements.proofs.cases.with_labels.Given as goal

abbrev pub invariant-labels : goal.invariant-labels
invariant-labels l = labels_size l.scope (expressions_of (drop l.label-index l.labels)) (option_map size_of l.all) ≡ labels_size l.scope (expressions_of l.labels) (option_map size_of l.fn.size)
