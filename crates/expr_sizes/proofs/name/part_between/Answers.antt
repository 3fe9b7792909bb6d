use Rattle.std.proofs.Common.{◌≡◌, true, false, ap, sym, rules, ◌∙◌}
use Rattle.vf_base.specs.Base.{source_place}
use Rattle.v_design.specs.Sized.{span}
use Rattle.v_names.specs.SizedTrees.{SizedPart}
use Rattle.expr_sizes.proofs.ReadingLaws.{part-alike, part-unlike}
use Rattle.expr_sizes.proofs.name.part_between.Goals as goal

pub returns-then-not-runs_alike : goal.returns-then-not-runs_alike
returns-then-not-runs_alike c faults h =
    let e : c.runs_alike.result ≡ false = search rules in
    part-unlike _ (source_place c.args.place) c.args.name.now faults c.args.from c.args.to _ (sym c.runs_alike.ensures ∙ e) (c.misused.ensures faults h)

pub returns : goal.returns
returns c faults h =
    let e : c.runs_alike.result ≡ true = search rules in
    let n : c.in_ok-name.name ≡ c.args.name.now = c.in_ok-name.ensures ∙ c.as_bytes.ensures in
    part-alike _ (source_place c.args.place) c.args.name.now faults c.args.from c.args.to _ (sym c.runs_alike.ensures ∙ e)
    (c.sized.ensures (span c.args.from c.args.to) false true faults (λ w s. SizedPart w s c.args.name.now c.args.from c.args.to) c.width_between.ensures h
    (λ w s. ap (λ m. SizedPart w s m c.args.from c.args.to) n))
