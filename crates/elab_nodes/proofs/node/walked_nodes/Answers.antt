use Rattle.std.proofs.Common.{◌++◌, ◌∷◌, [], length, map, ap, sym, ◌∙◌}
use Rattle.std.proofs.lemmas.List.{map_push}
use Rattle.vf_base.specs.Lists.{map_numbered}
use Rattle.v_design.specs.Plain.{node_of}
use Rattle.v_elab.specs.Flat as plain
use Rattle.elab_parts.specs.BehaviourViews as walked
use Rattle.object_reads.specs.SizedReads.{holds-at}
use Rattle.flat_laws.specs.Sizes.WalkedNodes.{IsSizedKind}
use Rattle.v_elab.specs.Drivers.{WalkedNode}
use Rattle.elab_nodes.specs.Nodes.{node_by}
use Rattle.sized_walks.specs.Texts.{IsSizedFunction}
use Rattle.elab_nodes.proofs.Turns.{push-turn, here}
use Rattle.elab_nodes.proofs.node.walked_nodes.Goals as goal

pub flat_node-requires-clause-sized : goal.flat_node-requires-clause-sized
flat_node-requires-clause-sized c =
    let over = c.requires.sized in
    record {
      parts = over.parts;
      objects = over.objects;
      basis_is = over.basis_is;
      sized = λ outputs. (
        holds-at (λ (node : WalkedNode). IsSizedKind (plain.node_kind over.parts over.objects outputs node.function)) walked.node_of c.args.nodes.now c.nodes.number c.index-nodes-number.result
            (over.sized outputs) c.nodes-test.true c.index-nodes-number.is,
        tt,
      );
      functions = (
        holds-at (λ (node : WalkedNode). IsSizedFunction over.parts over.objects node.function) walked.node_of c.args.nodes.now c.nodes.number c.index-nodes-number.result over.functions c.nodes-test.true
            c.index-nodes-number.is,
        tt,
      );
    }

pub nodes-preserved : goal.nodes-preserved
nodes-preserved c parts objects are all =
    let node = walked.node_of c.index-nodes-number.result in
    let made = map node_of c.nodes.flats.items in
    push-turn made _ (plain.flat_node parts objects c.nodes.number node) _ _ _
    (ap (map node_of) c.in_ok-push.ensures.items ∙ (map_push node_of c.nodes.flats.items _
    ∙ ap (λ p. made ++ p ∷ []) (c.in_ok-flat_node.ensures parts objects are ∙ ap (λ o. node_by parts objects o node)
    (c.outputs_at-own.ensures objects (length c.args.nodes.now) all c.nodes-test.true))))
    (ap (λ l. map_numbered (plain.flat_node parts objects) c.nodes.number (map walked.node_of l))
    (here c.args.nodes.now c.nodes.number c.index-nodes-number.result c.nodes-test.true (sym c.index-nodes-number.is)))
    (c.nodes.invariant parts objects are all)
