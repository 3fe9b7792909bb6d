use Rattle.v_design.specs.Plain.{node_of}
use Rattle.v_design.specs.Sites.{terminal_sites}
use Rattle.fault_list.proofs.Growing.{more_listed}
use Rattle.fault_list.proofs.list.add_terminals.Goals as goal

pub nodes-preserved : goal.nodes-preserved
nodes-preserved c = more_listed node_of terminal_sites c.args.nodes.now c.nodes.number c.index-nodes-number.result _ _ _ c.nodes-test.true c.index-nodes-number.is c.nodes.invariant
    c.in_ok-add_terminals_of.ensures
