use Rattle.std.proofs.Common.{None, inl, ap, sym, subst, ◌∙◌}
use Rattle.vf_base.specs.Base.{source_place}
use Rattle.v_tree.specs.declared.expression.Expr.{Expr}
use Rattle.v_tree.specs.Views.{expression_of, expressions_of}
use Rattle.v_tree.specs.ViewLaws.{expression_of-Concat}
use Rattle.expr_eval.specs.Operands.{bits_so_far}
use Rattle.v_names.specs.SizeViews.{binary_sizing_of}
use Rattle.v_names.specs.Terms.{known_size, IsKnown, IsRead, IsLonger}
use Rattle.v_names.proofs.KnownLaws.{read-at, joined-at, view-Repeat, binary-read, choice-read, concatenation-read, concatenation-unread, parts-unread, count-unread, replication-read}
use Rattle.v_names.proofs.PartLaws.{joined-none, joined-more}
use Rattle.v_names.proofs.constant.+known.Goals as goal

pub known-returns-in_default-7 : goal.known-returns-in_default-7
known-returns-in_default-7 t c =
    ap (λ (e : Expr). known_size c.args.scope.now (expression_of e)) c.in-Repeat.is
    ∙ ap (known_size c.args.scope.now) (view-Repeat c.in-Repeat.place c.in-Repeat.count c.in-Repeat.parts)
    ∙ parts-unread c.args.scope.now (source_place c.in-Repeat.place) (expression_of c.in-Repeat.count.value) (expressions_of c.in-Repeat.parts.items)
    (joined-at c.args.scope.now c.deref-in-Repeat.result.now c.in-Repeat.parts.items c.in_ok-bits-in-Repeat.field-0 None c.deref-in-Repeat.ensures.value c.in_default-7.is
    c.in_ok-bits-in-Repeat.ensures)

pub known-returns-in_default-8 : goal.known-returns-in_default-8
known-returns-in_default-8 t c =
    ap (λ (e : Expr). known_size c.args.scope.now (expression_of e)) c.in-Repeat.is
    ∙ ap (known_size c.args.scope.now) (view-Repeat c.in-Repeat.place c.in-Repeat.count c.in-Repeat.parts)
    ∙ count-unread c.args.scope.now (source_place c.in-Repeat.place) (expression_of c.in-Repeat.count.value) (expressions_of c.in-Repeat.parts.items)
    (read-at c.args.scope.now c.deref-in-Repeat-2.result.now c.in-Repeat.count.value c.in_ok-count-in-Repeat.field-0 None c.deref-in-Repeat-2.ensures c.in_default-8.is c.in_ok-count-in-Repeat.ensures)

pub known-returns-in_ok-whole-in-Binary : goal.known-returns-in_ok-whole-in-Binary
known-returns-in_ok-whole-in-Binary t c =
    subst (λ (e : Expr). IsKnown c.args.scope.now (expression_of e) c.in_ok-whole-in-Binary.whole) (sym c.in-Binary.is)
    (binary-read c.args.scope.now (source_place c.in-Binary.place) c.in-Binary.operator (expression_of c.in-Binary.left.value) (expression_of c.in-Binary.right.value)
    (binary_sizing_of c.binary_sizing.result) c.in-Some-2.left c.in-Some-3.right c.in_ok-whole-in-Binary.whole c.binary_sizing.ensures
    (read-at c.args.scope.now c.deref-in-Binary.result.now c.in-Binary.left.value c.in_ok-left-in-Binary.field-0 _ c.deref-in-Binary.ensures c.in-Some-2.is c.in_ok-left-in-Binary.ensures)
    (read-at c.args.scope.now c.deref-in-Binary-2.result.now c.in-Binary.right.value c.in_ok-right-in-Binary.field-0 _ c.deref-in-Binary-2.ensures c.in-Some-3.is c.in_ok-right-in-Binary.ensures)
    c.in_ok-whole-in-Binary.ensures)

pub known-returns-in_ok-whole-in-Conditional : goal.known-returns-in_ok-whole-in-Conditional
known-returns-in_ok-whole-in-Conditional t c =
    subst (λ (e : Expr). IsKnown c.args.scope.now (expression_of e) c.in_ok-whole-in-Conditional.whole) (sym c.in-Conditional.is)
    (choice-read c.args.scope.now (source_place c.in-Conditional.place) (expression_of c.in-Conditional.condition.value) (expression_of c.in-Conditional.first.value)
    (expression_of c.in-Conditional.second.value)
    c.in-Some-4.condition c.in-Some-5.first c.in-Some-6.second c.in_ok-whole-in-Conditional.whole
    (read-at c.args.scope.now c.deref-in-Conditional.result.now c.in-Conditional.condition.value c.in_ok-condition-in-Conditional.field-0 _ c.deref-in-Conditional.ensures c.in-Some-4.is
    c.in_ok-condition-in-Conditional.ensures)
    (read-at c.args.scope.now c.deref-in-Conditional-2.result.now c.in-Conditional.first.value c.in_ok-first-in-Conditional.field-0 _ c.deref-in-Conditional-2.ensures c.in-Some-5.is
    c.in_ok-first-in-Conditional.ensures)
    (read-at c.args.scope.now c.deref-in-Conditional-3.result.now c.in-Conditional.second.value c.in_ok-second-in-Conditional.field-0 _ c.deref-in-Conditional-3.ensures c.in-Some-6.is
    c.in_ok-second-in-Conditional.ensures)
    c.in_ok-whole-in-Conditional.ensures)

pub known-returns-in-None : goal.known-returns-in-None
known-returns-in-None t c =
    ap (λ (e : Expr). known_size c.args.scope.now (expression_of e)) c.in-Concat.is
    ∙ ap (known_size c.args.scope.now) (expression_of-Concat c.in-Concat.place c.in-Concat.parts)
    ∙ concatenation-unread c.args.scope.now (source_place c.in-Concat.place) (expressions_of c.in-Concat.parts.items)
    (joined-at c.args.scope.now c.deref-in-Concat.result.now c.in-Concat.parts.items c.in_ok-joined-in-Concat.field-0 None c.deref-in-Concat.ensures.value c.in-None.is
    c.in_ok-joined-in-Concat.ensures)

pub known-returns-in-Some-7 : goal.known-returns-in-Some-7
known-returns-in-Some-7 t c =
    subst (λ e. IsKnown c.args.scope.now e c.alone-in-Some-7.result) (sym (ap (λ (e : Expr). expression_of e) c.in-Concat.is ∙ expression_of-Concat c.in-Concat.place c.in-Concat.parts))
    (concatenation-read c.args.scope.now (source_place c.in-Concat.place) (expressions_of c.in-Concat.parts.items) c.in-Some-7.bits c.alone-in-Some-7.result
    (joined-at c.args.scope.now c.deref-in-Concat.result.now c.in-Concat.parts.items c.in_ok-joined-in-Concat.field-0 _ c.deref-in-Concat.ensures.value c.in-Some-7.is c.in_ok-joined-in-Concat.ensures)
    c.alone-in-Some-7.ensures.known c.alone-in-Some-7.ensures.wide)

pub known-returns-in-Some-9 : goal.known-returns-in-Some-9
known-returns-in-Some-9 t c =
    subst (λ e. IsRead c.args.scope.now e c.replicated.result) (sym (ap (λ (e : Expr). expression_of e) c.in-Repeat.is ∙ view-Repeat c.in-Repeat.place c.in-Repeat.count c.in-Repeat.parts))
    (replication-read c.args.scope.now (source_place c.in-Repeat.place) (expression_of c.in-Repeat.count.value)
    (expressions_of c.in-Repeat.parts.items) c.in-Some-9.count c.natural.result c.in-Some-8.bits
    c.replicated.result
    (read-at c.args.scope.now c.deref-in-Repeat-2.result.now c.in-Repeat.count.value c.in_ok-count-in-Repeat.field-0 _ c.deref-in-Repeat-2.ensures c.in-Some-9.is c.in_ok-count-in-Repeat.ensures)
    (joined-at c.args.scope.now c.deref-in-Repeat.result.now c.in-Repeat.parts.items c.in_ok-bits-in-Repeat.field-0 _ c.deref-in-Repeat.ensures.value c.in-Some-8.is c.in_ok-bits-in-Repeat.ensures)
    c.natural.ensures c.replicated.ensures)

pub joined-returns-then-is_unsized_number : goal.joined-returns-then-is_unsized_number
joined-returns-then-is_unsized_number t c =
    joined-none c.args.scope.now c.args.parts.now c.parts.part-index c.part-item.result (bits_so_far c.parts.bits) c.parts-test.true c.part-item.is c.parts.invariant
    (inl (sym c.is_unsized_number.ensures ∙ c.if-is_unsized_number.true))

pub joined-parts-preserved : goal.joined-parts-preserved
joined-parts-preserved t c =
    joined-more c.args.scope.now c.args.parts.now c.parts.part-index c.part-item.result (bits_so_far c.parts.bits) c.value_alone-value.result c.in-Some-longer.more c.in-Some.known c.parts-test.true
    c.part-item.is c.parts.invariant (sym c.is_unsized_number.ensures ∙ c.if-is_unsized_number.false)
    (subst (IsRead c.args.scope.now (expression_of c.part-item.result)) c.in-Some.is c.in_ok-known.ensures)
    c.value_alone-value.ensures (subst (IsLonger (bits_so_far c.parts.bits) c.value_alone-value.result) c.in-Some-longer.is c.longer.ensures).0
