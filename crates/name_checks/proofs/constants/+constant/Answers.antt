use Rattle.std.proofs.Common.{◌≡◌, List, ap, refl, sym, ◌∙◌}
use Rattle.v_tree.specs.Views.{expression_of, expressions_of}
use Rattle.v_tree.specs.declared.expression.Expr.{Expr}
use Rattle.v_names.specs.Constants.{IndexOrCount, value_faults, constant_name_faults, constant_part_faults}
use Rattle.name_checks.specs.Noted.{noted}
use Rattle.name_checks.proofs.Trees.{constant-concat, constant-repeat}
use Rattle.name_checks.specs.Noted.{noted-three}
use Rattle.name_checks.specs.Rows.{rest-more}
use Rattle.name_checks.proofs.constants.+constant.Goals as goal

pub note_constant_names-returns-in_ok-note_constant_parts-in-Concat : goal.note_constant_names-returns-in_ok-note_constant_parts-in-Concat
note_constant_names-returns-in_ok-note_constant_parts-in-Concat t c =
    c.in_ok-note_constant_parts-in-Concat.ensures
    ∙ ap (noted c.args.first.now)
    (ap (λ (ps : List Expr). constant_part_faults c.args.scope.now (expressions_of ps)) c.deref-in-Concat.ensures.value ∙ sym (constant-concat c.args.scope.now c.in-Concat.place c.in-Concat.parts)
    ∙ ap (λ (e : Expr). constant_name_faults c.args.scope.now (expression_of e)) (sym c.in-Concat.is))

pub note_constant_names-returns-in_ok-note_constant_parts-in-Repeat : goal.note_constant_names-returns-in_ok-note_constant_parts-in-Repeat
note_constant_names-returns-in_ok-note_constant_parts-in-Repeat t c =
    noted-three c.args.first.now _ _ _ (constant_name_faults c.args.scope.now (expression_of c.deref-in-Repeat.result.now))
    (value_faults c.args.scope.now IndexOrCount (expression_of c.deref-in-Repeat-2.result.now)) (constant_part_faults c.args.scope.now (expressions_of c.deref-in-Repeat-3.result.now))
    (constant_name_faults c.args.scope.now (expression_of c.args.expr.now))
    c.in_ok-note_constant_names-in-Repeat.ensures c.in_ok-note_value-in-Repeat.ensures c.in_ok-note_constant_parts-in-Repeat.ensures
    (ap (λ (e : Expr). constant_name_faults c.args.scope.now (expression_of e)) c.in-Repeat.is
    ∙ constant-repeat c.args.scope.now c.in-Repeat.place c.in-Repeat.count c.in-Repeat.parts _ _ _ c.deref-in-Repeat.ensures c.deref-in-Repeat-2.ensures c.deref-in-Repeat-3.ensures.value)

pub note_constant_parts-parts-preserved : goal.note_constant_parts-parts-preserved
note_constant_parts-parts-preserved t c =
    rest-more (λ (e : Expr). constant_name_faults c.args.scope.now (expression_of e)) (λ (ps : List Expr). constant_part_faults c.args.scope.now (expressions_of ps)) c.args.parts.now
    c.parts.part-index c.part-item.result
    c.parts.first c.note_constant_names.new.first _ (λ y ys. refl) c.parts-test.true c.part-item.is c.in_ok-note_constant_names.ensures c.parts.invariant
