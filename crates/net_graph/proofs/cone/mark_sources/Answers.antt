use Rattle.std.proofs.Common.{rules, arith, ◌≡◌, ◌+◌, ◌-◌, false, get_or, ap, refl, subst, length, vec_len}
use Rattle.std.proofs.lemmas.List.{length-map}
use Rattle.v_design.specs.Plain.{node_of}
use Rattle.v_design.specs.PlainDesigns.{design_of}
use Rattle.net_graph.specs.ConeLaws.{AreReached, AreReached-start, AreReached-more}
use Rattle.net_graph.specs.RuleLaws.{inputs_below, outputs_below, node_in}
use Rattle.net_graph.proofs.cone.mark_sources.Goals as goal

pub mark_node-requires-clause-inputs : goal.mark_node-requires-clause-inputs
mark_node-requires-clause-inputs c =
    inputs_below (design_of c.args.design.now) (c.nodes.left - 1) (node_of c.index-nodes-left.result) c.index-nodes-left.result.inputs (vec_len c.nodes.marked) c.args.design.now.rules
    (node_in c.args.design.now.nodes c.as_slice-nodes.result.now (c.nodes.left - 1) c.index-nodes-left.result c.as_slice-nodes.ensures (search rules) c.index-nodes-left.is)
    refl (search rules)

pub mark_node-requires-clause-outputs : goal.mark_node-requires-clause-outputs
mark_node-requires-clause-outputs c =
    outputs_below (design_of c.args.design.now) (c.nodes.left - 1) (node_of c.index-nodes-left.result) c.index-nodes-left.result.outputs (vec_len c.nodes.marked) c.args.design.now.rules
    (node_in c.args.design.now.nodes c.as_slice-nodes.result.now (c.nodes.left - 1) c.index-nodes-left.result c.as_slice-nodes.ensures (search rules) c.index-nodes-left.is)
    refl (search rules)

pub nodes-preserved : goal.nodes-preserved
nodes-preserved c = record {
  within = search rules;
  same = search rules;
  reached =
      AreReached-more (design_of c.args.design.now) c.args.design.now.rules (c.nodes.left - 1) (λ o. get_or c.args.marked.now.items o false)
      (node_of c.index-nodes-left.result) c.nodes.marked.items c.mark_node.new.marked.items
      (node_in c.args.design.now.nodes c.as_slice-nodes.result.now (c.nodes.left - 1) c.index-nodes-left.result c.as_slice-nodes.ensures (search rules) c.index-nodes-left.is)
      (search rules)
      (subst (λ k. AreReached (design_of c.args.design.now).nodes k (λ o. get_or c.args.marked.now.items o false) c.nodes.marked.items)
      (let e : c.nodes.left ≡ c.nodes.left - 1 + 1 = omega arith in e) c.nodes.invariant.reached)
      c.mark_node.ensures.marked c.mark_node.ensures.kept;
}

pub nodes-init : goal.nodes-init
nodes-init c = record {
  within = search rules;
  same = search rules;
  reached = AreReached-start (design_of c.args.design.now).nodes (length c.as_slice-nodes.result.now) c.args.marked.now.items
      (omega (arith, ap length c.as_slice-nodes.ensures, length-map c.args.design.now.nodes node_of));
}
