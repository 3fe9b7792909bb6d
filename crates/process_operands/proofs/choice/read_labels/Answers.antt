use Rattle.std.proofs.Common.{sym, subst, ◌∙◌, ap, length}
use Rattle.v_design.specs.Plain.{expression_of}
use Rattle.v_design.specs.Sized.{IsSized}
use Rattle.v_design.specs.Expressions.{width_of}
use Rattle.process_operands.specs.ChoiceLaws.{label_at}
use Rattle.process_operands.proofs.choice.read_labels.Goals as goal

pub read_value-requires : goal.read_value-requires
read_value-requires c =
    subst (λ e. IsSized (expression_of e)) (sym c.label-item.is) (label_at (length c.args.value) c.requires.0 c.args.labels.now c.labels.label-index c.label-item.result c.labels-test.true
    c.requires.1).1

pub label_matches-requires : goal.label_matches-requires
label_matches-requires c =
    sym (c.in_ok-own.ensures.width ∙ ap (λ e. width_of (expression_of e)) c.label-item.is
    ∙ (label_at (length c.args.value) c.requires.0 c.args.labels.now c.labels.label-index c.label-item.result c.labels-test.true c.requires.1).0.0)
