use Rattle.std.proofs.Common.{◌+◌, List, drop, ap, ◌∙◌, option_map}
use Rattle.v_tree.specs.Views.{case_items_of}
use Rattle.v_tree.specs.declared.statement.CaseItem.{CaseItem}
use Rattle.v_names.specs.SizeViews.{size_of}
use Rattle.v_elab.specs.Statements.{items_size}
use Rattle.object_statements.proofs.Sizes.{item-behind}
use Rattle.object_statements.proofs.Rows.{made-step}
use Rattle.object_statements.proofs.cases.with_items.Goals as goal

pub items-preserved : goal.items-preserved
items-preserved c =
    let left : List CaseItem = drop (c.items.item-index + 1) c.args.items.now in
    ap (items_size c.args.scope.now (case_items_of left)) c.in_ok-all.ensures
    ∙ item-behind c.args.scope.now c.item-item.result left (option_map size_of c.items.all)
    ∙ made-step (λ (xs : List CaseItem). items_size c.args.scope.now (case_items_of xs) (option_map size_of c.items.all)) c.args.items.now c.items.item-index c.item-item.result _ c.items-test.true
    c.item-item.is c.items.invariant
