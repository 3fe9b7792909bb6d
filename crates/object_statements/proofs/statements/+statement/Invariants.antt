use Rattle.std.proofs.Common.{◌≡◌, ◌+◌, ◌*◌, drop, option_map}
use Rattle.v_design.specs.PlainLemmas.{statements_of, items_of}
use Rattle.v_tree.specs.Views as source
use Rattle.v_names.specs.SizeViews.{size_of}
use Rattle.v_elab.specs.Statements.{Meaning, statements_over, items_over, default_over}
use Rattle.object_statements.specs.Meanings.{IsMeaning}
use Rattle.object_statements.specs.CaseItems.{then_items}
use Rattle.object_statements.proofs.Rows.{then_statements}
use Rattle.object_statements.proofs.Levels.{levels_of, levels_of_all, levels_of_items, levels_of_item, levels_of_second}
use Rattle.object_statements.proofs.statements.+statement.Given as goal

abbrev pub invariant-statements_over-statements : goal.invariant-statements_over-statements
invariant-statements_over-statements l =
    (plain : Meaning) → IsMeaning plain l.meaning →
    then_statements (statements_of l.flats.items) (statements_over plain (source.statements_of (drop l.statement-index l.statements))) ≡ statements_over plain (source.statements_of l.statements)

abbrev pub invariant-items_over-items : goal.invariant-items_over-items
invariant-items_over-items l =
    (plain : Meaning) → IsMeaning plain l.meaning →
    then_items (items_of l.flats.items) (items_over plain (option_map size_of l.size) (source.case_items_of (drop l.item-index l.items))) ≡ items_over plain (option_map size_of l.size)
    (source.case_items_of l.items)

abbrev pub invariant-default_over-items : goal.invariant-default_over-items
invariant-default_over-items l =
    (plain : Meaning) → IsMeaning plain l.meaning →
    default_over plain (source.case_items_of (drop l.item-index l.items)) ≡ default_over plain (source.case_items_of l.items)

-- what stands within has a level less
abbrev pub decreases-statement_over : goal.decreases-statement_over
decreases-statement_over l = 5 * levels_of (source.statement_of l.statement.now)

abbrev pub decreases-boxed_over : goal.decreases-boxed_over
decreases-boxed_over l = 5 * levels_of (source.statement_of l.statement.now) + 1

abbrev pub decreases-second_over : goal.decreases-second_over
decreases-second_over l = 5 * levels_of_second l.second.now + 2

abbrev pub decreases-statements_over : goal.decreases-statements_over
decreases-statements_over l = 5 * levels_of_all (source.statements_of l.statements.now) + 1

abbrev pub decreases-push_item : goal.decreases-push_item
decreases-push_item l = 5 * levels_of_item l.item.now + 1

abbrev pub decreases-items_over : goal.decreases-items_over
decreases-items_over l = 5 * levels_of_items (source.case_items_of l.items.now) + 2

abbrev pub decreases-default_over : goal.decreases-default_over
decreases-default_over l = 5 * levels_of_items (source.case_items_of l.items.now) + 2
