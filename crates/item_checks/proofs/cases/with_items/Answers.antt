use Rattle.std.proofs.Common.{List, refl}
use Rattle.v_tree.specs.Views.{case_items_of}
use Rattle.v_tree.specs.declared.statement.CaseItem.{CaseItem}
use Rattle.v_elab.specs.ItemFaults.{items_labels_faults}
use Rattle.item_checks.specs.Groups.{item_group}
use Rattle.item_checks.proofs.GroupsGrow.{items-first, grows-step, grows-end}
use Rattle.item_checks.proofs.cases.with_items.Goals as goal

pub items-preserved : goal.items-preserved
items-preserved c final rest =
    c.items.invariant final
    (grows-step (item_group c.args.scope.now) (λ (xs : List CaseItem). items_labels_faults c.args.scope.now (case_items_of xs)) c.args.items.now c.items.item-index c.item-item.result c.items.faults
    c.in_ok-faults.faults final (items-first c.args.scope.now)
    c.items-test.true c.item-item.is c.in_ok-faults.ensures rest)

pub returns : goal.returns
returns c = c.items.invariant c.items.faults (grows-end (λ (xs : List CaseItem). items_labels_faults c.args.scope.now (case_items_of xs)) c.args.items.now c.items.item-index c.items.faults refl
    c.items-test.false)
