use Rattle.std.proofs.Common.{◌≡◌, drop}
use Rattle.v_tree.specs.Views.{statements_of, case_items_of}
use Rattle.v_comb.specs.Flags.{all_flags_after, items_flags_after}
use Rattle.v_comb.proofs.assigned.+flags_after.Given as goal

abbrev pub invariant-after_all-statements : goal.invariant-after_all-statements
invariant-after_all-statements l = all_flags_after l.targets l.now.items (statements_of (drop l.stmt-index l.statements)) ≡ all_flags_after l.targets l.fn.flags.items (statements_of l.statements)

abbrev pub invariant-after_items-items : goal.invariant-after_items-items
invariant-after_items-items l = items_flags_after l.targets l.flags l.met.items (case_items_of (drop l.item-index l.items)) ≡ items_flags_after l.targets l.flags l.fn.met.items (case_items_of l.items)
