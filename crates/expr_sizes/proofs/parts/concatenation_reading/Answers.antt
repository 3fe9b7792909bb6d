use Rattle.std.proofs.Common.{[], false, ap, sym, ◌∙◌}
use Rattle.vf_base.specs.Base.{source_place}
use Rattle.v_names.specs.OwnSizes.{size_within}
use Rattle.v_names.specs.SizedTrees.{SizedConcatenation}
use Rattle.v_width.specs.Resized.{with_size}
use Rattle.v_width.specs.ViewLaws.{sized-concatenation}
use Rattle.expr_sizes.proofs.PartLaws.{concatenation-none, concatenation-some}
use Rattle.expr_sizes.proofs.parts.concatenation_reading.Goals as goal

pub returns-in-None : goal.returns-in-None
returns-in-None c read h = concatenation-none (source_place c.args.place) read _ c.args.parts.total h.total_is c.in-None.is (c.refused.ensures [] read.inside h.faults_are)

pub returns-in-Some : goal.returns-in-Some
returns-in-Some c read h =
    let seen = sized-concatenation c.one_bit.result c.args.parts.trees in
    concatenation-some (source_place c.args.place) read _ c.args.parts.total c.in-Some.total c.size_within-size.result h.total_is c.in-Some.is
    (c.size_within-size.ensures ∙ ap (λ n. size_within n false) c.from.ensures)
    (λ width z.
    c.sized.ensures width false read.complete read.inside (λ w s. SizedConcatenation w s read.trees) z h.faults_are
    (λ w s. ap (λ t. with_size t w s) seen ∙ ap (SizedConcatenation w s) (sym h.trees_are)))
