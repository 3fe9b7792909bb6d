use Rattle.std.proofs.Common.{◌≡◌, map, take}
use Rattle.v_tree.specs.Views.{parameter_of}
use Rattle.tree_copies.proofs.copy_item.copy_param_list.Given as goal

abbrev pub invariant-params : goal.invariant-params
invariant-params l = map parameter_of l.copies.items ≡ map parameter_of (take l.param-index l.params)
