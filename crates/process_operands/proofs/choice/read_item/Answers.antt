use Rattle.std.proofs.Common.{◌+◌, sym, subst, ◌∙◌, ap, length, drop}
use Rattle.v_design.specs.declared.tree.CaseItem.{CaseItem}
use Rattle.v_design.specs.Plain.{expressions_of}
use Rattle.v_design.specs.PlainLemmas.{items_of}
use Rattle.v_design.specs.Sized.{AreLabels}
use Rattle.v_design.specs.Assignments.{some_label_matches}
use Rattle.v_design.specs.Expressions.{read_each}
use Rattle.v_design.specs.Processes.{read_items}
use Rattle.process_operands.specs.Sought.{got}
use Rattle.process_operands.specs.Choices.{chosen_or}
use Rattle.process_operands.specs.ChoiceLaws.{labels_at, items-more}
use Rattle.process_operands.proofs.choice.read_item.Goals as goal

pub read_labels-requires : goal.read_labels-requires
read_labels-requires c =
    let at = labels_at (length c.args.value) c.requires.0 c.args.items.now c.items.number c.index-items-number.result c.items-test.true c.requires.1 in
    let own = subst (λ item. AreLabels (length c.args.value) c.requires.0 (expressions_of item.labels.items)) (sym c.index-items-number.is) at in
    (c.requires.0, subst (λ l. AreLabels (length c.args.value) c.requires.0 (expressions_of l)) (sym c.deref.ensures.value) own)

pub items-preserved : goal.items-preserved
items-preserved c default =
    let items = c.args.items.now in
    let i = c.items.number in
    let d = c.index-items-number.result in
    let ops = drop c.items.used c.args.operands.now in
    let left = drop c.read_labels.new.used c.args.operands.now in
    let labels = ap (λ l. got (some_label_matches c.args.kind c.args.value) (read_each (expressions_of l) ops))
    (ap (λ (item : CaseItem). item.labels.items) (sym c.index-items-number.is) ∙ sym c.deref.ensures.value) ∙ c.in_ok-matches.ensures.has in
    c.items.invariant default
    ∙ items-more c.args.kind c.args.value items i d default c.items.choice c.in_ok-matches.matches ops left c.items-test.true labels
    ∙ ap (λ choice. got (chosen_or (items_of items) default choice) (read_items c.args.kind c.args.value (items_of (drop (i + 1) items)) default left)) (sym c.first_choice-choice.ensures)
