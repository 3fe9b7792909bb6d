use Rattle.std.proofs.Common.{◌≡◌, drop, option_map}
use Rattle.v_tree.specs.Views.{case_items_of}
use Rattle.v_names.specs.SizeViews.{size_of}
use Rattle.v_elab.specs.Statements.{items_size}
use Rattle.object_statements.proofs.cases.with_items.Given as goal

abbrev pub invariant-items : goal.invariant-items
invariant-items l = items_size l.scope (case_items_of (drop l.item-index l.items)) (option_map size_of l.all) ≡ items_size l.scope (case_items_of l.items) (option_map size_of l.fn.size)
