use Rattle.std.proofs.Common.{rules, ◌≡◌, ◌<◌, ◌≤◌, ap, sym, subst, map, take, length, arith}
use Rattle.std.specs.Prelude.{None}
use Rattle.std.proofs.lemmas.List.{length-map}
use Rattle.vf_base.specs.Base.{object_number}
use Rattle.v_design.specs.Plain.{node_of}
use Rattle.v_design.specs.WellFormed.{most_inputs}
use Rattle.v_elab.specs.Flat.{some_inputs_over}
use Rattle.net_graph.specs.RuleLaws.{node_at}
use Rattle.node_order.specs.OrderLaws.{inputs-more, inputs-many}
use Rattle.node_order.proofs.Answered.{one-more}
use Rattle.node_order.proofs.order.some_crowded.Goals as goal

pub returns-then-as_slice-gt-MAX_INPUTS : goal.returns-then-as_slice-gt-MAX_INPUTS
returns-then-as_slice-gt-MAX_INPUTS c =
    let node = c.node-item.result in
    let low : c.nodes.node-index < length c.args.nodes.now = search rules in
    let inputs : length c.as_slice.result.now ≡ length node.inputs = ap length c.as_slice.ensures in
    let many : most_inputs < length (node_of node).inputs = omega (arith, c.if-as_slice-gt-MAX_INPUTS.true, inputs, length-map node.inputs object_number) in
    inputs-many (map node_of c.args.nodes.now) c.nodes.node-index (node_of node) (node_at c.args.nodes.now c.nodes.node-index node low c.node-item.is) many

pub nodes-preserved : goal.nodes-preserved
nodes-preserved c =
    let node = c.node-item.result in
    let low : c.nodes.node-index < length c.args.nodes.now = search rules in
    let inputs : length c.as_slice.result.now ≡ length node.inputs = ap length c.as_slice.ensures in
    let few : length (node_of node).inputs ≤ most_inputs = omega (arith, c.if-as_slice-gt-MAX_INPUTS.false, inputs, length-map node.inputs object_number) in
    subst (λ nodes. some_inputs_over nodes ≡ None) (sym (one-more c.args.nodes.now c.nodes.node-index node low c.node-item.is))
    (inputs-more (map node_of (take c.nodes.node-index c.args.nodes.now)) (node_of node) c.nodes.invariant few)
