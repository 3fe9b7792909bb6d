use Rattle.std.proofs.Common.{map, ap, sym, subst, ◌∙◌}
use Rattle.v_elab.specs.Flat as plain
use Rattle.elab_parts.specs.BehaviourViews.{function_of}
use Rattle.object_names.specs.OutputViews.{output_of}
use Rattle.sized_walks.specs.Texts.{IsSizedFunction}
use Rattle.elab_nodes.proofs.kinds.node_kind.Goals as goal

pub returns-in_ok-kind-in-Gate : goal.returns-in_ok-kind-in-Gate
returns-in_ok-kind-in-Gate c parts objects are =
    c.in_ok-kind-in-Gate.ensures parts objects (map output_of c.args.outputs.now) are ∙ ap (λ f. plain.node_kind parts objects (map output_of c.args.outputs.now) (function_of f)) (sym c.in-Gate.is)

pub returns-in_ok-kind-in-Block : goal.returns-in_ok-kind-in-Block
returns-in_ok-kind-in-Block c parts objects are =
    c.in_ok-kind-in-Block.ensures parts objects (map output_of c.args.outputs.now) are ∙ ap (λ f. plain.node_kind parts objects (map output_of c.args.outputs.now) (function_of f)) (sym c.in-Block.is)

pub block_kind-requires : goal.block_kind-requires
block_kind-requires c =
    let over = c.requires in
    record {
      parts = over.parts;
      objects = over.objects;
      basis_is = over.basis_is;
      sized = subst (IsSizedFunction over.parts over.objects) (ap function_of c.in-Block.is) over.sized;
    }

pub assign_kind-requires : goal.assign_kind-requires
assign_kind-requires c = let over = c.requires in subst (IsSizedFunction over.parts over.objects) (ap function_of c.in-Assign.is) over.sized

pub gate_kind-requires : goal.gate_kind-requires
gate_kind-requires c = let over = c.requires in subst (IsSizedFunction over.parts over.objects) (ap function_of c.in-Gate.is) over.sized
