use Rattle.std.proofs.Common.{◌≡◌, map, drop}
use Rattle.vf_base.specs.Base.{object_number}
use Rattle.vf_base.specs.Lists.{has}
use Rattle.fault_list.proofs.spelled.drives.Given as goal

abbrev pub invariant-outputs : goal.invariant-outputs
invariant-outputs l = has (map object_number l.node.outputs) (object_number l.object) ≡ has (map object_number (drop l.output-index l.output-items)) (object_number l.object)
