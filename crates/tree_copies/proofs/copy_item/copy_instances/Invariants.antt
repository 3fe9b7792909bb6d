use Rattle.std.proofs.Common.{◌≡◌, map, take}
use Rattle.v_tree.specs.Views.{instance_of}
use Rattle.tree_copies.proofs.copy_item.copy_instances.Given as goal

abbrev pub invariant-instances : goal.invariant-instances
invariant-instances l = map instance_of l.copies.items ≡ map instance_of (take l.instance-index l.instances)
