use Rattle.std.proofs.Common.{List, ap, sym, subst, ◌∙◌}
use Rattle.v_tree.specs.Views.{expressions_of}
use Rattle.v_tree.specs.declared.expression.Expr.{Expr}
use Rattle.v_tree.specs.declared.statement.CaseItem.{CaseItem}
use Rattle.v_elab.specs.ItemFaults.{GroupFaults}
use Rattle.item_checks.specs.Groups.{labels_group, item_group, Grows}
use Rattle.item_checks.proofs.GroupsGrow.{grows-none}
use Rattle.item_checks.proofs.cases.with_item.Goals as goal

pub returns-in_ok-new-in-Labelled : goal.returns-in_ok-new-in-Labelled
returns-in_ok-new-in-Labelled c =
    subst (λ (g : GroupFaults). Grows g c.args.faults c.in_ok-new-in-Labelled.new)
    (ap (λ (ls : List Expr). labels_group c.args.scope.now (expressions_of ls)) c.as_slice.ensures ∙ ap (item_group c.args.scope.now) (sym c.in-Labelled.is)) c.in_ok-new-in-Labelled.ensures

pub returns-in-Default : goal.returns-in-Default
returns-in-Default c = subst (λ (i : CaseItem). Grows (item_group c.args.scope.now i) c.args.faults c.args.faults) (sym c.in-Default.is) (grows-none c.args.faults)
