use Rattle.std.proofs.Common.{◌≡◌, drop}
use Rattle.v_tree.specs.Views.{statements_of, case_items_of}
use Rattle.v_elab.specs.ItemFaults.{statements_faults, items_faults}
use Rattle.name_checks.specs.Noted.{noted}
use Rattle.item_checks.proofs.statements.+statement.Given as goal

abbrev pub invariant-note_statements-statements : goal.invariant-note_statements-statements
invariant-note_statements-statements l = noted l.first (statements_faults l.scope (statements_of (drop l.stmt-index l.statements))) ≡ noted l.initial.first
    (statements_faults l.scope (statements_of l.statements))

abbrev pub invariant-note_case_items-items : goal.invariant-note_case_items-items
invariant-note_case_items-items l = noted l.first (items_faults l.scope (case_items_of (drop l.item-index l.items))) ≡ noted l.initial.first (items_faults l.scope (case_items_of l.items))
