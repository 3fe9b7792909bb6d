use Rattle.std.proofs.Common.{◌≡◌, ◌++◌, map, take}
use Rattle.vf_base.specs.Lists.{joined, map_numbered}
use Rattle.v_design.specs.Plain.{node_of}
use Rattle.v_design.specs.PlainDesigns.{design_of}
use Rattle.v_design.specs.Sites.{output_sites}
use Rattle.fault_list.specs.Listed.{stuck, both}
use Rattle.fault_list.proofs.list.add_outputs.Given as goal

abbrev pub invariant-nodes : goal.invariant-nodes
invariant-nodes l = stuck l.faults.items ≡ stuck l.initial.faults.items ++ both (joined (map_numbered (output_sites (design_of l.design)) 0 (map node_of (take l.number l.design.nodes))))
