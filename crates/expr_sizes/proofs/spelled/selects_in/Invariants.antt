use Rattle.std.proofs.Common.{◌≡◌, map, drop}
use Rattle.v_tree.specs.Views.{expressions_of, select_of}
use Rattle.v_width.specs.Targets.{selects_of_parts}
use Rattle.expr_sizes.proofs.SpelledLaws.{selects_before}
use Rattle.expr_sizes.proofs.spelled.selects_in.Given as goal

abbrev pub invariant-parts : goal.invariant-parts
invariant-parts l = selects_of_parts (expressions_of l.parts) ≡ selects_before (map select_of l.selects.items) (selects_of_parts (expressions_of (drop l.part-index l.parts)))
