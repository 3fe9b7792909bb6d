use Rattle.std.proofs.Common.{map, sym, subst}
use Rattle.flat_laws.specs.Sizes.WalkedNodes.{IsSizedKind}
use Rattle.object_names.specs.OutputViews.{output_of}
use Rattle.elab_nodes.proofs.node.flat_node.Goals as goal

pub node_inputs-requires : goal.node_inputs-requires
node_inputs-requires c =
    let over = c.requires.sized in
    subst IsSizedKind (sym (c.in_ok-kind.ensures over.parts over.objects over.basis_is)) (over.sized (map output_of c.args.outputs.now)).0

pub node_kind-requires : goal.node_kind-requires
node_kind-requires c =
    let over = c.requires.sized in record { parts = over.parts; objects = over.objects; basis_is = over.basis_is; sized = over.functions.0 }
