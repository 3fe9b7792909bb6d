use Rattle.std.proofs.Common.{true, [], ap, ◌∙◌}
use Rattle.v_design.specs.Sized.{span}
use Rattle.v_names.specs.OwnSizes.{size_within}
use Rattle.v_names.specs.SizedTrees.{SizedName}
use Rattle.expr_sizes.proofs.name.vector_reading.Goals as goal

pub returns : goal.returns
returns c =
    c.sized.ensures (span c.args.high c.args.low) c.args.signed true [] (λ w s. SizedName w s c.args.name.now) (c.size_within-size.ensures ∙ ap (λ n. size_within n c.args.signed) c.span.ensures)
    c.no_faults.ensures (λ w s. ap (SizedName w s) (c.in_ok-name.ensures ∙ c.as_bytes.ensures))
