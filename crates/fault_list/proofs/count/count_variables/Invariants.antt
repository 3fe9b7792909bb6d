use Rattle.std.proofs.Common.{◌≡◌, ◌-◌, ◌^◌, length, map, take, min}
use Rattle.vf_base.specs.Lists.{joined, map_numbered}
use Rattle.v_design.specs.Plain.{object_of}
use Rattle.v_design.specs.Sites.{variable_sites}
use Rattle.fault_list.proofs.count.count_variables.Given as goal

abbrev pub invariant-objects : goal.invariant-objects
invariant-objects l = l.count ≡ min (length (joined (map_numbered variable_sites 0 (map object_of (take l.object-index l.objects))))) (2 ^ 64 - 1)
