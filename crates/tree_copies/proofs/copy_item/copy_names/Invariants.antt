use Rattle.std.proofs.Common.{◌≡◌, map, take}
use Rattle.v_tree.specs.Views.{name_of}
use Rattle.tree_copies.proofs.copy_item.copy_names.Given as goal

abbrev pub invariant-names : goal.invariant-names
invariant-names l = map name_of l.copies.items ≡ map name_of (take l.name-index l.names)
