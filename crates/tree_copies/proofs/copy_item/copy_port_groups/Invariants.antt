use Rattle.std.proofs.Common.{◌≡◌, map, take}
use Rattle.v_tree.specs.Views.{ports_of}
use Rattle.tree_copies.proofs.copy_item.copy_port_groups.Given as goal

abbrev pub invariant-groups : goal.invariant-groups
invariant-groups l = map ports_of l.copies.items ≡ map ports_of (take l.group-index l.groups)
