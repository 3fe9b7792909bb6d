use Rattle.std.proofs.Common.{◌≡◌, map, take}
use Rattle.v_tree.specs.Views.{reg_of}
use Rattle.tree_copies.proofs.copy_item.copy_regs.Given as goal

abbrev pub invariant-regs : goal.invariant-regs
invariant-regs l = map reg_of l.copies.items ≡ map reg_of (take l.reg-index l.regs)
