use Rattle.std.proofs.Common.{◌≡◌, drop, map}
use Rattle.v_tree.specs.CaseParts.{case_part_of}
use Rattle.v_stmt.specs.Statements as read
use Rattle.v_stmt.proofs.pieces.has_default.Given as goal

abbrev pub invariant-loop-item : goal.invariant-loop-item
invariant-loop-item l = read.has_default (map case_part_of (drop l.item-index l.items)) ≡ read.has_default (map case_part_of l.items)
