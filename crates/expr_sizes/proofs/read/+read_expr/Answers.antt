use Rattle.std.proofs.Common.{◌≡◌, [], Ok, refl, ap, sym, subst, ◌∙◌}
use Rattle.std.proofs.lemmas.Result.{IfOk-at_ok}
use Rattle.vf_base.specs.Base.{source_place}
use Rattle.v_tree.specs.declared.expression.Expr.{Expr}
use Rattle.v_tree.specs.Trees.{SourceExpression}
use Rattle.v_tree.specs.Views.{expression_of, expressions_of}
use Rattle.v_tree.specs.ViewLaws.{expression_of-Concat}
use Rattle.v_names.specs.Readings.{alone_faults, number_of_constant, reading_of, parts_reading}
use Rattle.expr_sizes.specs.ExprReadings.{IsReading}
use Rattle.expr_sizes.specs.declared.reading.ExprReading.{ExprReading}
use Rattle.expr_sizes.proofs.PartLaws.{read-start, read-end}
use Rattle.expr_sizes.proofs.ExprLaws.{read-of, parts-of, name-read, bit-read, part-read, view-Repeat, repeat-read, turn-before}
use Rattle.expr_sizes.proofs.read.+read_expr.Goals as goal

pub read_expr-returns-in_ok-read-in-Name : goal.read_expr-returns-in_ok-read-in-Name
read_expr-returns-in_ok-read-in-Name t c =
    subst (λ (e : Expr). IsReading (reading_of c.args.scope.now (expression_of e)) c.in_ok-read-in-Name.read) (sym c.in-Name.is)
    (name-read c.args.scope.now (source_place c.in-Name.place) c.in-Name.name _ c.in_ok-read-in-Name.read c.lookup.ensures c.in_ok-read-in-Name.ensures)

pub read_expr-returns-in_ok-read-in-BitSelect : goal.read_expr-returns-in_ok-read-in-BitSelect
read_expr-returns-in_ok-read-in-BitSelect t c =
    subst (λ (e : Expr). IsReading (reading_of c.args.scope.now (expression_of e)) c.in_ok-read-in-BitSelect.read) (sym c.in-BitSelect.is)
    (bit-read c.args.scope.now (source_place c.in-BitSelect.place) c.in-BitSelect.name (expression_of c.in-BitSelect.index.value) _ c.in_ok-read-in-BitSelect.read c.lookup-in-BitSelect.ensures
    (c.in_ok-read-in-BitSelect.ensures (reading_of c.args.scope.now (expression_of c.in-BitSelect.index.value))
    (read-of c.args.scope.now c.deref.result.now c.in-BitSelect.index.value c.in_ok-index-in-BitSelect.index c.deref.ensures c.in_ok-index-in-BitSelect.ensures)))

pub read_expr-returns-in_ok-read-in-PartSelect : goal.read_expr-returns-in_ok-read-in-PartSelect
read_expr-returns-in_ok-read-in-PartSelect t c =
    let scope = c.args.scope.now in
    let from = expression_of c.in-PartSelect.from.value in
    let to = expression_of c.in-PartSelect.to.value in
    let f = read-of scope c.deref-in-PartSelect.result.now c.in-PartSelect.from.value c.in_ok-first-in-PartSelect.first c.deref-in-PartSelect.ensures c.in_ok-first-in-PartSelect.ensures in
    let s = read-of scope c.deref-in-PartSelect-2.result.now c.in-PartSelect.to.value c.in_ok-second-in-PartSelect.second c.deref-in-PartSelect-2.ensures c.in_ok-second-in-PartSelect.ensures in
    subst (λ (e : Expr). IsReading (reading_of scope (expression_of e)) c.in_ok-read-in-PartSelect.read) (sym c.in-PartSelect.is)
    (part-read scope (source_place c.in-PartSelect.place) c.in-PartSelect.name from to _ c.in_ok-from-in-PartSelect.from c.in_ok-to-in-PartSelect.to c.in_ok-read-in-PartSelect.read
    c.lookup-entry.ensures
    (c.in_ok-from-in-PartSelect.ensures ∙ ap (λ (e : Expr). number_of_constant scope (expression_of e)) c.deref-in-PartSelect-3.ensures)
    (c.in_ok-to-in-PartSelect.ensures ∙ ap (λ (e : Expr). number_of_constant scope (expression_of e)) c.deref-in-PartSelect-4.ensures)
    (c.in_ok-read-in-PartSelect.ensures _
    (c.together-inside.ensures [] (alone_faults (reading_of scope from)) [] (alone_faults (reading_of scope to))
    (c.alone_faults-first_faults.ensures (reading_of scope from) f) (c.alone_faults-second_faults.ensures (reading_of scope to) s))))

pub read_expr-returns-in_ok-read-in-Unary : goal.read_expr-returns-in_ok-read-in-Unary
read_expr-returns-in_ok-read-in-Unary t c =
    let scope = c.args.scope.now in
    subst (λ (e : Expr). IsReading (reading_of scope (expression_of e)) c.in_ok-read-in-Unary.read) (sym c.in-Unary.is)
    (c.in_ok-read-in-Unary.ensures (reading_of scope (expression_of c.in-Unary.operand.value))
    (read-of scope c.deref-in-Unary.result.now c.in-Unary.operand.value c.in_ok-operand-in-Unary.operand c.deref-in-Unary.ensures c.in_ok-operand-in-Unary.ensures))

pub read_expr-returns-in_ok-read-in-Binary : goal.read_expr-returns-in_ok-read-in-Binary
read_expr-returns-in_ok-read-in-Binary t c =
    let scope = c.args.scope.now in
    let reads : Expr → ExprReading → Type 0 = λ e. IsReading (reading_of scope (expression_of e)) in
    let both = c.in_ok-operands-in-Binary.ensures in
    subst (λ (e : Expr). reads e c.in_ok-read-in-Binary.read) (sym c.in-Binary.is)
    (c.in_ok-read-in-Binary.ensures (reading_of scope (expression_of c.in-Binary.left.value)) (reading_of scope (expression_of c.in-Binary.right.value))
    (read-of scope c.deref-in-Binary.result.now c.in-Binary.left.value _ c.deref-in-Binary.ensures (IfOk-at_ok (reads c.deref-in-Binary.result.now) both.one c.read_expr-left_read.ensures))
    (read-of scope c.deref-in-Binary-2.result.now c.in-Binary.right.value _ c.deref-in-Binary-2.ensures (IfOk-at_ok (reads c.deref-in-Binary-2.result.now) both.other c.read_expr-right_read.ensures)))

pub read_expr-returns-in_ok-read-in-Conditional : goal.read_expr-returns-in_ok-read-in-Conditional
read_expr-returns-in_ok-read-in-Conditional t c =
    let scope = c.args.scope.now in
    let reads : Expr → ExprReading → Type 0 = λ e. IsReading (reading_of scope (expression_of e)) in
    let all = c.in_ok-choice-in-Conditional.ensures in
    let branches = IfOk-at_ok (λ (p : ExprReading × ExprReading). c.read_expr-first_read.result ≡ Ok p.0) all.other c.both-branches.ensures.one in
    let other = IfOk-at_ok (λ (p : ExprReading × ExprReading). c.read_expr-second_read.result ≡ Ok p.1) all.other c.both-branches.ensures.other in
    subst (λ (e : Expr). reads e c.in_ok-read-in-Conditional.read) (sym c.in-Conditional.is)
    (c.in_ok-read-in-Conditional.ensures (reading_of scope (expression_of c.in-Conditional.condition.value)) (reading_of scope (expression_of c.in-Conditional.first.value))
    (reading_of scope (expression_of c.in-Conditional.second.value))
    (read-of scope c.deref-in-Conditional.result.now c.in-Conditional.condition.value _ c.deref-in-Conditional.ensures
    (IfOk-at_ok (reads c.deref-in-Conditional.result.now) all.one c.read_expr-test_read.ensures))
    (read-of scope c.deref-in-Conditional-2.result.now c.in-Conditional.first.value _ c.deref-in-Conditional-2.ensures
    (IfOk-at_ok (reads c.deref-in-Conditional-2.result.now) branches c.read_expr-first_read.ensures))
    (read-of scope c.deref-in-Conditional-3.result.now c.in-Conditional.second.value _ c.deref-in-Conditional-3.ensures
    (IfOk-at_ok (reads c.deref-in-Conditional-3.result.now) other c.read_expr-second_read.ensures)))

pub read_expr-returns-in_ok-parts-in-Concat : goal.read_expr-returns-in_ok-parts-in-Concat
read_expr-returns-in_ok-parts-in-Concat t c =
    let scope = c.args.scope.now in
    subst (λ (e : SourceExpression). IsReading (reading_of scope e) c.concatenation_reading.result)
    (sym (ap (λ (e : Expr). expression_of e) c.in-Concat.is ∙ expression_of-Concat c.in-Concat.place c.in-Concat.parts))
    (c.concatenation_reading.ensures (parts_reading scope (expressions_of c.in-Concat.parts.items))
    (parts-of scope c.deref-in-Concat.result.now c.in-Concat.parts.items c.in_ok-parts-in-Concat.parts c.deref-in-Concat.ensures.value c.in_ok-parts-in-Concat.ensures))

pub read_expr-returns-in_ok-parts-in-Repeat : goal.read_expr-returns-in_ok-parts-in-Repeat
read_expr-returns-in_ok-parts-in-Repeat t c =
    let scope = c.args.scope.now in
    let count = expression_of c.in-Repeat.count.value in
    let parts = expressions_of c.in-Repeat.parts.items in
    let times = read-of scope c.deref-in-Repeat.result.now c.in-Repeat.count.value c.in_ok-times-in-Repeat.times c.deref-in-Repeat.ensures c.in_ok-times-in-Repeat.ensures in
    subst (λ (e : SourceExpression). IsReading (reading_of scope e) c.replication_reading.result)
    (sym (ap (λ (e : Expr). expression_of e) c.in-Repeat.is ∙ view-Repeat c.in-Repeat.place c.in-Repeat.count c.in-Repeat.parts))
    (repeat-read scope (source_place c.in-Repeat.place) count parts c.in_ok-count-in-Repeat.count c.replication_reading.result
    (c.in_ok-count-in-Repeat.ensures ∙ ap (λ (e : Expr). number_of_constant scope (expression_of e)) c.deref-in-Repeat-2.ensures)
    (c.replication_reading.ensures (parts_reading scope parts) (reading_of scope count)
    (parts-of scope c.deref-in-Repeat-3.result.now c.in-Repeat.parts.items c.in_ok-parts-in-Repeat.parts c.deref-in-Repeat-3.ensures.value c.in_ok-parts-in-Repeat.ensures)
    (c.alone_faults-times_faults.ensures (reading_of scope count) times)))

pub read_parts-parts-init : goal.read_parts-parts-init
read_parts-parts-init t c = read-start (parts_reading c.args.scope.now (expressions_of c.args.parts.now)) _ c.no_faults.ensures refl c.new.ensures.items

pub read_parts-parts-preserved : goal.read_parts-parts-preserved
read_parts-parts-preserved t c =
    let scope = c.args.scope.now in
    let whole = parts_reading scope (expressions_of c.args.parts.now) in
    c.in_ok-read.ensures whole _ (reading_of scope (expression_of c.part-item.result)) c.in_ok-one.ensures
    (turn-before scope whole c.args.parts.now c.parts.part-index c.part-item.result c.is_unsized_number.result (source_place c.place_of_expr.result) c.parts.read c.parts-test.true c.part-item.is
    c.is_unsized_number.ensures c.place_of_expr.ensures c.parts.invariant)

pub read_parts-returns : goal.read_parts-returns
read_parts-returns t c = read-end c.args.scope.now c.args.parts.now c.parts.part-index c.parts.read c.parts-test.false c.parts.invariant
