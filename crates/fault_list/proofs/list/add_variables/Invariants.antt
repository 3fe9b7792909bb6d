use Rattle.std.proofs.Common.{◌≡◌, ◌++◌, map, take}
use Rattle.vf_base.specs.Lists.{joined, map_numbered}
use Rattle.v_design.specs.Plain.{object_of}
use Rattle.v_design.specs.Sites.{variable_sites}
use Rattle.fault_list.specs.Listed.{stuck, both}
use Rattle.fault_list.proofs.list.add_variables.Given as goal

abbrev pub invariant-objects : goal.invariant-objects
invariant-objects l = stuck l.faults.items ≡ stuck l.initial.faults.items ++ both (joined (map_numbered variable_sites 0 (map object_of (take l.number l.objects))))
