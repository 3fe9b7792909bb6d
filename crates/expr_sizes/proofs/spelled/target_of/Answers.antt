use Rattle.std.proofs.Common.{List, ap, sym, ◌∙◌}
use Rattle.vf_base.specs.Base.{source_place}
use Rattle.v_tree.specs.declared.expression.Expr.{Expr}
use Rattle.v_tree.specs.Views.{expression_of, expressions_of}
use Rattle.v_tree.specs.ViewLaws.{expression_of-Concat}
use Rattle.v_width.specs.Targets.{joined_target, selects_of_parts, target_of}
use Rattle.expr_sizes.proofs.spelled.target_of.Goals as goal

pub returns-in_ok-target-in-Concat : goal.returns-in_ok-target-in-Concat
returns-in_ok-target-in-Concat c =
    c.in_ok-target-in-Concat.ensures ∙ ap (λ (l : List Expr). joined_target (source_place c.in-Concat.place) (selects_of_parts (expressions_of l))) c.deref.ensures.value
    ∙ sym (ap (λ (e : Expr). target_of (expression_of e)) c.in-Concat.is ∙ ap target_of (expression_of-Concat c.in-Concat.place c.in-Concat.parts))
