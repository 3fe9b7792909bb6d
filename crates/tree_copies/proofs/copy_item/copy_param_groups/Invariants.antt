use Rattle.std.proofs.Common.{◌≡◌, map, take}
use Rattle.v_tree.specs.Views.{parameters_of}
use Rattle.tree_copies.proofs.copy_item.copy_param_groups.Given as goal

abbrev pub invariant-groups : goal.invariant-groups
invariant-groups l = map parameters_of l.copies.items ≡ map parameters_of (take l.group-index l.groups)
