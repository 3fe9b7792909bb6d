use Rattle.std.proofs.Common.{ap, map, sym, ◌∙◌}
use Rattle.v_tree.specs.Views.{expression_of}
use Rattle.v_tree.specs.declared.expression.Expr.{Expr}
use Rattle.v_copy.specs.Parts.{copied-concat, copied-repeat}
use Rattle.v_copy.proofs.expression.+copy_expression.Goals as goal

pub copy_expr-returns-in_ok-parts-in-Concat : goal.copy_expr-returns-in_ok-parts-in-Concat
copy_expr-returns-in_ok-parts-in-Concat t c =
    copied-concat c.in-Concat.place c.in_ok-parts-in-Concat.parts c.in-Concat.parts (c.in_ok-parts-in-Concat.ensures ∙ ap (map expression_of) c.deref-in-Concat.ensures.value)
    ∙ ap (λ (e : Expr). expression_of e) (sym c.in-Concat.is)

pub copy_expr-returns-in_ok-parts-in-Repeat : goal.copy_expr-returns-in_ok-parts-in-Repeat
copy_expr-returns-in_ok-parts-in-Repeat t c =
    copied-repeat c.in-Repeat.place c.in_ok-count-in-Repeat.count c.in-Repeat.count c.in_ok-parts-in-Repeat.parts c.in-Repeat.parts
    (c.in_ok-count-in-Repeat.ensures ∙ ap (λ (e : Expr). expression_of e) c.deref-in-Repeat.ensures)
    (c.in_ok-parts-in-Repeat.ensures ∙ ap (map expression_of) c.deref-in-Repeat-2.ensures.value)
    ∙ ap (λ (e : Expr). expression_of e) (sym c.in-Repeat.is)
