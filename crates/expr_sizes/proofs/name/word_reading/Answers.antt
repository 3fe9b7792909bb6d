use Rattle.std.proofs.Common.{◌≡◌, ap, ap₂, rules, ◌∙◌}
use Rattle.v_design.specs.Sized.{span}
use Rattle.v_names.specs.OwnSizes.{size_within}
use Rattle.v_names.specs.Readings.{alone_faults, tree_alone}
use Rattle.v_names.specs.SizedTrees.{SizedWord}
use Rattle.v_width.specs.SizedViews.{sized_of}
use Rattle.expr_sizes.proofs.name.word_reading.Goals as goal

pub returns : goal.returns
returns c at h =
    let n : c.in_ok-name.name ≡ c.args.name.now = c.in_ok-name.ensures ∙ c.as_bytes.ensures in
    let i : sized_of c.in_ok-index.index.value ≡ sized_of c.tree_alone-alone.result = search rules in
    c.sized.ensures (span c.args.high c.args.low) c.args.signed at.complete (alone_faults at) (λ w s. SizedWord w s c.args.name.now (tree_alone at))
    (c.size_within-size.ensures ∙ ap (λ m. size_within m c.args.signed) c.span.ensures) (c.apart-inside.ensures at.here at.inside h.faults_are)
    (λ w s. ap₂ (SizedWord w s) n (i ∙ c.tree_alone-alone.ensures at h))
