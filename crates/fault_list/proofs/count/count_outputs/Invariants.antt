use Rattle.std.proofs.Common.{◌≡◌, ◌-◌, ◌^◌, length, map, take, min}
use Rattle.vf_base.specs.Lists.{joined, map_numbered}
use Rattle.v_design.specs.Plain.{node_of}
use Rattle.v_design.specs.PlainDesigns.{design_of}
use Rattle.v_design.specs.Sites.{output_sites}
use Rattle.fault_list.proofs.count.count_outputs.Given as goal

abbrev pub invariant-nodes : goal.invariant-nodes
invariant-nodes l = l.count ≡ min (length (joined (map_numbered (output_sites (design_of l.design)) 0 (map node_of (take l.node-index l.design.nodes))))) (2 ^ 64 - 1)
