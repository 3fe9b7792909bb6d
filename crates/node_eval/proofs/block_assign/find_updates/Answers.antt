use Rattle.std.proofs.Common.{sym, subst, ◌∙◌, ap, length, arith}
use Rattle.four_value.specs.ValueLaws.{length-part_of}
use Rattle.v_design.specs.Plain.{target_of}
use Rattle.v_design.specs.Reads.{named_in_target}
use Rattle.v_design.specs.Sized.{IsSizedTarget, levels_of_target}
use Rattle.v_design.specs.Assignments.{target_width}
use Rattle.expr_eval.specs.Operands.{AreThere}
use Rattle.process_operands.specs.ChoiceLaws.{target_at, targets_width-at, targets_width-from, target_width-some}
use Rattle.node_eval.specs.WriteLaws.{target-there, target-levels, few-targets}
use Rattle.node_eval.proofs.block_assign.find_updates.Goals as goal

pub index_of-index-requires-clause-sized : goal.index_of-index-requires-clause-sized
index_of-index-requires-clause-sized g c =
    subst (λ t. IsSizedTarget (target_of t)) (sym c.target-item.is) (target_at c.args.targets.now c.targets.target-index c.target-item.result c.targets-test.true c.requires.sized)

pub index_of-index-requires-clause-there : goal.index_of-index-requires-clause-there
index_of-index-requires-clause-there g c =
    subst (λ t. AreThere (g.V.Values.values c.args.values.now) (named_in_target (target_of t))) (sym c.target-item.is)
    (target-there (g.V.Values.values c.args.values.now) c.args.targets.now c.targets.target-index c.target-item.result c.targets-test.true c.requires.there)

pub index_of-index-requires-clause-levels : goal.index_of-index-requires-clause-levels
index_of-index-requires-clause-levels g c =
    let most = target-levels c.args.targets.now c.targets.target-index c.target-item.result c.targets-test.true in
    let own = ap (λ t. levels_of_target (target_of t)) c.target-item.is in
    omega (arith, most, own, c.targets.invariant.levels, c.requires.levels)

pub overflow_cast-left : goal.overflow_cast-left
overflow_cast-left g c = omega (arith, c.targets.invariant.left, targets_width-from c.args.targets.now c.targets.target-index, c.requires.few)

pub overflow_cast-width : goal.overflow_cast-width
overflow_cast-width g c =
    let at = targets_width-at c.args.targets.now c.targets.target-index c.target-item.result c.targets-test.true in
    let own = ap (λ t. target_width (target_of t)) c.target-item.is in
    omega (arith, at, own, c.width_of_target-width.ensures, targets_width-from c.args.targets.now c.targets.target-index, c.requires.few)

pub part-part-requires : goal.part-part-requires
part-part-requires g c =
    let at = targets_width-at c.args.targets.now c.targets.target-index c.target-item.result c.targets-test.true in
    let own = ap (λ t. target_width (target_of t)) c.target-item.is in
    let sized = subst (λ t. IsSizedTarget (target_of t)) (sym c.target-item.is) (target_at c.args.targets.now c.targets.target-index c.target-item.result c.targets-test.true c.requires.sized) in (
      omega (arith, target_width-some (target_of c.target-item.result) sized, c.width_of_target-width.ensures),
      omega (arith, at, own, c.width_of_target-width.ensures, targets_width-from c.args.targets.now c.targets.target-index, c.requires.few),
    )

pub update_of_target-requires : goal.update_of_target-requires
update_of_target-requires g c = ap length c.part-part.ensures ∙ length-part_of c.args.bits _ _ ∙ c.width_of_target-width.ensures

pub put_update-requires : goal.put_update-requires
put_update-requires g c =
    omega (arith, few-targets c.args.targets.now c.requires.sized, c.targets.invariant.count, c.targets-test.true, c.requires.few, c.requires.space, c.targets.invariant.space)
