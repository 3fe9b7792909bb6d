use Rattle.std.proofs.Common.{◌≡◌, ◌+◌, ◌*◌, ◌++◌, drop, map}
use Rattle.vf_base.specs.Base.{object_number}
use Rattle.v_tree.specs.Views.{statement_of, statements_of, case_items_of}
use Rattle.v_elab.specs.Statements.{Meaning, all_read_in_text, items_read_in_text}
use Rattle.object_statements.specs.Meanings.{IsMeaning}
use Rattle.object_statements.proofs.Levels.{levels_of, levels_of_all, levels_of_items, levels_of_item}
use Rattle.object_statements.proofs.reads.+reads.Given as goal

abbrev pub invariant-add_statements-statements : goal.invariant-add_statements-statements
invariant-add_statements-statements l =
    (plain : Meaning) → IsMeaning plain l.meaning →
    map object_number l.objects.items ++ all_read_in_text plain (statements_of (drop l.statement-index l.statements)) ≡ map object_number l.initial.objects.items
    ++ all_read_in_text plain (statements_of l.statements)

abbrev pub invariant-add_items-items : goal.invariant-add_items-items
invariant-add_items-items l =
    (plain : Meaning) → IsMeaning plain l.meaning →
    map object_number l.objects.items ++ items_read_in_text plain (case_items_of (drop l.item-index l.items)) ≡ map object_number l.initial.objects.items
    ++ items_read_in_text plain (case_items_of l.items)

-- what stands within has a level less
abbrev pub decreases-add_statement : goal.decreases-add_statement
decreases-add_statement l = 3 * levels_of (statement_of l.statement.now)

abbrev pub decreases-add_statements : goal.decreases-add_statements
decreases-add_statements l = 3 * levels_of_all (statements_of l.statements.now) + 1

abbrev pub decreases-add_items : goal.decreases-add_items
decreases-add_items l = 3 * levels_of_items (case_items_of l.items.now) + 2

abbrev pub decreases-add_item : goal.decreases-add_item
decreases-add_item l = 3 * levels_of_item l.item.now + 1
