use Rattle.std.proofs.Common.{◌≡◌, ap, ◌∙◌, map, take_all, subst, Contains, ◌↔◌}
use Rattle.vf_base.specs.Base.{object_number}
use Rattle.v_design.specs.Plain.{node_of}
use Rattle.fault_list.proofs.Outputs.{outputs-in-order}
use Rattle.fault_list.proofs.list.outputs_in_order.Goals as goal

pub returns : goal.returns
returns c design nets =
    let all : c.loop-object.outputs.items ≡ map object_number c.args.node.now.outputs =
    c.loop-object.invariant ∙ ap (map object_number) (take_all c.loop-object.object-index c.as_slice-object-items.result.now c.loop-object-test.false)
    ∙ ap (map object_number) c.as_slice-object-items.ensures in
    outputs-in-order design (node_of c.args.node.now) c.in_ok-sorted.sorted.items nets c.in_ok-sorted.ensures.ordered
    (λ n. subst (λ l. Contains c.in_ok-sorted.sorted.items n ↔ Contains l n) all (c.in_ok-sorted.ensures.same n))
