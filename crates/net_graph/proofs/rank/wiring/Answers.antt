use Rattle.std.proofs.Common.{rules, ◌+◌, ◌<◌, ◌++◌, ◌∷◌, [], ap, sym, subst, ◌∙◌, map, length, arith}
use Rattle.std.proofs.lemmas.List.{map_push, length-map}
use Rattle.vf_base.specs.Base.{object_number}
use Rattle.v_design.specs.Plain.{node_of}
use Rattle.graph_order.specs.Digraphs.{lists_of}
use Rattle.net_graph.specs.RuleLaws.{node_at}
use Rattle.net_graph.specs.WiringLaws.{WiringBefore, WiringBefore-more, WiringBefore-all}
use Rattle.net_graph.proofs.rank.wiring.Goals as goal

pub nodes-preserved : goal.nodes-preserved
nodes-preserved c =
    let low : c.nodes.node-index < length c.args.nodes.now = search rules in
    subst (WiringBefore c.args.objects (map node_of c.args.nodes.now) (c.nodes.node-index + 1))
    (sym (ap lists_of c.in_ok-push.ensures.items ∙ map_push (λ list. list.items) c.nodes.needs.items c.in_ok-inputs.inputs
    ∙ ap (λ l. lists_of c.nodes.needs.items ++ l ∷ []) (c.in_ok-inputs.ensures ∙ ap (map object_number) c.as_slice.ensures)))
    (WiringBefore-more c.args.objects (map node_of c.args.nodes.now) c.nodes.node-index (lists_of c.nodes.needs.items) (node_of c.node-item.result)
    (node_at c.args.nodes.now c.nodes.node-index c.node-item.result low c.node-item.is) c.nodes.invariant)

pub returns : goal.returns
returns c =
    WiringBefore-all c.args.objects (map node_of c.args.nodes.now) c.nodes.node-index (lists_of c.nodes.needs.items)
    (omega (arith, length-map c.args.nodes.now node_of, c.nodes.auto.node-index-end, c.nodes-test.false)) c.nodes.invariant
