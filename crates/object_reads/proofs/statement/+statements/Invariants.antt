use Rattle.std.proofs.Common.{◌≡◌, ◌+◌, ◌*◌, ◌++◌, map, drop}
use Rattle.vf_base.specs.Base.{object_number}
use Rattle.v_design.specs.Plain.{statement_of}
use Rattle.v_design.specs.PlainLemmas.{statements_of, items_of}
use Rattle.v_design.specs.Sized.{levels_of_statement, levels_of_statements, levels_of_items}
use Rattle.v_design.specs.Reads.{all_read, items_read}
use Rattle.object_reads.proofs.statement.+statements.Given as goal

abbrev pub invariant-push_statements_reads-statements : goal.invariant-push_statements_reads-statements
invariant-push_statements_reads-statements l =
    map object_number l.objects.items ++ all_read (statements_of (drop l.statement-index l.statements)) ≡ map object_number l.initial.objects.items ++ all_read (statements_of l.statements)

abbrev pub invariant-push_items_reads-items : goal.invariant-push_items_reads-items
invariant-push_items_reads-items l =
    map object_number l.objects.items ++ items_read (items_of (drop l.item-index l.items)) ≡ map object_number l.initial.objects.items ++ items_read (items_of l.items)

-- what stands within has a level less
abbrev pub decreases-push_statement_reads : goal.decreases-push_statement_reads
decreases-push_statement_reads l = 2 * levels_of_statement (statement_of l.statement.now)

abbrev pub decreases-push_statements_reads : goal.decreases-push_statements_reads
decreases-push_statements_reads l = 2 * levels_of_statements (statements_of l.statements.now) + 1

abbrev pub decreases-push_items_reads : goal.decreases-push_items_reads
decreases-push_items_reads l = 2 * levels_of_items (items_of l.items.now) + 1
