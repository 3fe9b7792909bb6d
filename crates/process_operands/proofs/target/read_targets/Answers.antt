use Rattle.std.proofs.Common.{sym, subst, ◌∙◌, ap, length, arith}
use Rattle.four_value.specs.ValueLaws.{length-part_of}
use Rattle.v_design.specs.Plain.{target_of}
use Rattle.v_design.specs.Sized.{IsSizedTarget}
use Rattle.v_design.specs.Assignments.{target_width}
use Rattle.process_operands.specs.ChoiceLaws.{target_at, targets_width-at, targets_width-from, target_width-some}
use Rattle.process_operands.proofs.target.read_targets.Goals as goal

pub read_target_index-requires : goal.read_target_index-requires
read_target_index-requires c = subst (λ t. IsSizedTarget (target_of t)) (sym c.target-item.is)
    (target_at c.args.targets.now c.targets.target-index c.target-item.result c.targets-test.true c.requires.sized)

pub overflow_cast-left : goal.overflow_cast-left
overflow_cast-left c = omega (arith, c.targets.invariant.left, targets_width-from c.args.targets.now c.targets.target-index, c.requires.few)

pub overflow_cast-width : goal.overflow_cast-width
overflow_cast-width c =
    let at = targets_width-at c.args.targets.now c.targets.target-index c.target-item.result c.targets-test.true in
    let own = ap (λ t. target_width (target_of t)) c.target-item.is in
    omega (arith, at, own, c.width_of_target-width.ensures, targets_width-from c.args.targets.now c.targets.target-index, c.requires.few)

pub part-part-requires : goal.part-part-requires
part-part-requires c =
    let at = targets_width-at c.args.targets.now c.targets.target-index c.target-item.result c.targets-test.true in
    let own = ap (λ t. target_width (target_of t)) c.target-item.is in
    let sized = subst (λ t. IsSizedTarget (target_of t)) (sym c.target-item.is) (target_at c.args.targets.now c.targets.target-index c.target-item.result c.targets-test.true c.requires.sized) in (
      omega (arith, target_width-some (target_of c.target-item.result) sized, c.width_of_target-width.ensures),
      omega (arith, at, own, c.width_of_target-width.ensures, targets_width-from c.args.targets.now c.targets.target-index, c.requires.few),
    )

pub update_of_target-requires : goal.update_of_target-requires
update_of_target-requires c = ap length c.part-part.ensures ∙ length-part_of c.args.bits _ _ ∙ c.width_of_target-width.ensures
