use Rattle.std.proofs.Common.{◌≡◌, ◌++◌, map, drop}
use Rattle.vf_base.specs.Base.{object_number}
use Rattle.v_design.specs.PlainLemmas.{statements_of, items_of}
use Rattle.wait_index.specs.Waits.{all_waited, items_waited}
use Rattle.wait_index.proofs.waited.+waited.Given as goal

abbrev pub invariant-add_statements-statements : goal.invariant-add_statements-statements
invariant-add_statements-statements l =
    map object_number l.objects.items ++ all_waited (statements_of (drop l.statement-index l.statements)) ≡ map object_number l.initial.objects.items ++ all_waited (statements_of l.statements)

abbrev pub invariant-add_items-items : goal.invariant-add_items-items
invariant-add_items-items l = map object_number l.objects.items ++ items_waited (items_of (drop l.item-index l.items)) ≡ map object_number l.initial.objects.items ++ items_waited (items_of l.items)
