use Rattle.std.proofs.Common.{◌≡◌, ap, ◌∙◌, ◌++◌, filter}
use Rattle.std.specs.Prelude.{slice_get, Some}
use Rattle.vf_base.specs.Lists.{has}
use Rattle.v_design.specs.Paths.{net_pieces}
use Rattle.v_design.specs.Plain.{node_of}
use Rattle.v_design.specs.PlainDesigns.{design_of}
use Rattle.v_design.specs.RulesHold.{rules_hold}
use Rattle.v_design.specs.Sites.{output_sites}
use Rattle.fault_list.specs.Listed.{stuck, both, bits_of_outputs}
use Rattle.fault_list.proofs.Growing.{more_listed_in}
use Rattle.fault_list.proofs.Outputs.{node_in, nets_of_node}
use Rattle.fault_list.proofs.list.add_outputs.Goals as goal

pub nodes-preserved : goal.nodes-preserved
nodes-preserved c =
    let at : slice_get (design_of c.args.design.now).nodes c.nodes.number ≡ Some (node_of c.node-item.result) =
    node_in c.args.design.now.nodes c.as_slice-node-items.result.now c.nodes.number c.node-item.result c.as_slice-node-items.ensures c.nodes-test.true c.node-item.is in
    let sorted : c.in_ok-outputs.outputs.items ≡ filter (has (node_of c.node-item.result).outputs) (net_pieces (design_of c.args.design.now)) =
    c.in_ok-outputs.ensures (design_of c.args.design.now) (nets_of_node (design_of c.args.design.now) c.nodes.number (node_of c.node-item.result)
    (rules_hold (design_of c.args.design.now) c.args.design.now.rules) at) in
    more_listed_in node_of (output_sites (design_of c.args.design.now)) c.args.design.now.nodes c.as_slice-node-items.result.now c.nodes.number c.node-item.result _ _ _ c.as_slice-node-items.ensures
    c.nodes-test.true c.node-item.is c.nodes.invariant
    (c.in_ok-add_outputs_of.ensures ∙ ap (λ l. stuck c.nodes.faults.items ++ both (bits_of_outputs (design_of c.args.design.now) c.nodes.number l)) (c.deref.ensures.value ∙ sorted))
