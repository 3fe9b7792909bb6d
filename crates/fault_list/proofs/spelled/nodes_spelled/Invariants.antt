use Rattle.std.proofs.Common.{◌≡◌, map, drop}
use Rattle.v_design.specs.Plain.{node_of}
use Rattle.v_design.specs.PlainDesigns.{design_of}
use Rattle.fault_list.specs.Spelled.{first_answer, node_spelled}
use Rattle.fault_list.proofs.spelled.nodes_spelled.Given as goal

abbrev pub invariant-nodes : goal.invariant-nodes
invariant-nodes l =
    first_answer (node_spelled l.word) 0 (design_of l.design).nodes
    ≡ first_answer (node_spelled l.word) l.number (map node_of (drop l.number l.nodes))
