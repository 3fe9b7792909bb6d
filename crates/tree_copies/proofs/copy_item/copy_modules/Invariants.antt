use Rattle.std.proofs.Common.{◌≡◌, map, take}
use Rattle.v_tree.specs.Views.{module_of}
use Rattle.tree_copies.proofs.copy_item.copy_modules.Given as goal

abbrev pub invariant-modules : goal.invariant-modules
invariant-modules l = map module_of l.copies.items ≡ map module_of (take l.source-index l.modules)
