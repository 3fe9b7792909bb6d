use Rattle.std.proofs.Common.{◌≡◌, map, take}
use Rattle.v_tree.specs.Views.{statement_of}
use Rattle.v_tree.specs.CaseParts.{case_part_of}
use Rattle.tree_copies.proofs.copy_statement.+copy_statement.Given as goal

abbrev pub invariant-copy_stmts-statements : goal.invariant-copy_stmts-statements
invariant-copy_stmts-statements l = map statement_of l.copies.items ≡ map statement_of (take l.stmt-index l.statements)

abbrev pub invariant-copy_items-items : goal.invariant-copy_items-items
invariant-copy_items-items l = map case_part_of l.copies.items ≡ map case_part_of (take l.item-index l.items)
