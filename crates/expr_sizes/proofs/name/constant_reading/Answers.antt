use Rattle.std.proofs.Common.{true, [], length, refl, ap, ◌∙◌}
use Rattle.v_names.specs.OwnSizes.{size_within}
use Rattle.v_names.specs.SizedTrees.{SizedConstant}
use Rattle.expr_sizes.proofs.name.constant_reading.Goals as goal

pub returns : goal.returns
returns c =
    c.sized.ensures (length c.args.value) c.args.signed true [] (λ w s. SizedConstant w s c.args.value)
    (c.size_within-size.ensures ∙ ap (λ n. size_within n c.args.signed) (c.from.ensures ∙ c.width.ensures.bits))
    c.no_faults.ensures (λ w s. refl)
