use Rattle.std.proofs.Common.{sym, subst, ◌∙◌, ap, length, arith}
use Rattle.v_design.specs.Plain.{expression_of}
use Rattle.v_design.specs.Sized.{IsSized}
use Rattle.v_design.specs.Reads.{named_in}
use Rattle.v_design.specs.Expressions.{width_of}
use Rattle.v_design.specs.Assignments.{value_at}
use Rattle.expr_eval.specs.Operands.{AreThere}
use Rattle.expr_eval.specs.WidthLaws.{length-value_of}
use Rattle.expr_eval.specs.PartsLaws.{part_levels}
use Rattle.process_operands.specs.ChoiceLaws.{label_at}
use Rattle.node_eval.specs.RunLaws.{label-there}
use Rattle.node_eval.proofs.run.matches_label.Goals as goal

pub eval-own-requires-clause-sized : goal.eval-own-requires-clause-sized
eval-own-requires-clause-sized g c =
    subst (λ e. IsSized (expression_of e)) (sym c.label-item.is) (label_at (length c.args.value) c.requires.sized.0 c.args.labels.now c.labels.label-index c.label-item.result c.labels-test.true
    c.requires.sized.1).1

pub eval-own-requires-clause-there : goal.eval-own-requires-clause-there
eval-own-requires-clause-there g c =
    subst (λ e. AreThere (g.V.Values.values c.args.values.now) (named_in (expression_of e))) (sym c.label-item.is)
    (label-there (g.V.Values.values c.args.values.now) c.args.labels.now c.labels.label-index c.label-item.result c.labels-test.true c.requires.there)

pub eval-own-requires-clause-room : goal.eval-own-requires-clause-room
eval-own-requires-clause-room g c =
    omega (arith, part_levels c.args.labels.now c.labels.label-index c.label-item.result c.labels-test.true c.label-item.is, c.requires.levels, c.labels.invariant.levels)

pub label_matches-requires : goal.label_matches-requires
label_matches-requires g c =
    sym (ap length c.eval-own.ensures.value ∙ length-value_of (value_at (g.V.Values.values c.args.values.now)) (expression_of c.label-item.result)
    ∙ ap (λ e. width_of (expression_of e)) c.label-item.is
    ∙ (label_at (length c.args.value) c.requires.sized.0 c.args.labels.now c.labels.label-index c.label-item.result c.labels-test.true c.requires.sized.1).0.0)
