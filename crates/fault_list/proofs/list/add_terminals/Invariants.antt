use Rattle.std.proofs.Common.{◌≡◌, ◌++◌, map, take}
use Rattle.vf_base.specs.Lists.{joined, map_numbered}
use Rattle.v_design.specs.Plain.{node_of}
use Rattle.v_design.specs.Sites.{terminal_sites}
use Rattle.fault_list.specs.Listed.{stuck, both}
use Rattle.fault_list.proofs.list.add_terminals.Given as goal

abbrev pub invariant-nodes : goal.invariant-nodes
invariant-nodes l = stuck l.faults.items ≡ stuck l.initial.faults.items ++ both (joined (map_numbered terminal_sites 0 (map node_of (take l.number l.nodes))))
