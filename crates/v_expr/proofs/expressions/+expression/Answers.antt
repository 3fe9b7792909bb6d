use Rattle.std.proofs.Common.{◌≡◌, true, refl, map, Some, None, Ok, ap, sym, ◌∙◌, arith}
use Rattle.std.proofs.lemmas.Result.{err_from_is_err_and}
use Rattle.v_tree.specs.declared.expression.Expr.TheBlock.{hidden-the_row-Expr-0}
use Rattle.v_tree.specs.Trees.{Concatenated, Replicated, parts_of}
use Rattle.v_tree.specs.Views.{expression_of, expressions_of_row}
use Rattle.vf_base.specs.Base.{source_place}
use Rattle.v_readers.specs.declared.class.Class.TheVariants as classes
use Rattle.v_readers.specs.Reading.{next_class, is_class}
use Rattle.v_readers.specs.Separated.{separated}
use Rattle.v_readers.specs.Reads.{element-next, element-fail, element-end}
use Rattle.v_expr.specs.Heights.{height_of, heights_of}
use Rattle.v_expr.specs.Spelling.{rank_of}
use Rattle.v_expr.specs.Expressions.{replication, concatenation, inner_of, operator_of, joining}
use Rattle.v_tree.specs.ViewLaws.{row-seen}
use Rattle.v_expr.proofs.Rows.{push-seen}
use Rattle.v_expr.proofs.Steps.{operands-next, operands-fail, operands-end, heights-append-max}
use Rattle.v_expr.proofs.expressions.+expression.Goals as goal

pub operands-returns-in_err-left-2-clause-reads : goal.operands-returns-in_err-left-2-clause-reads
operands-returns-in_err-left-2-clause-reads t c =
    let p = err_from_is_err_and c.from_residual-in_err-left-2.result c.from_residual-in_err-left-2.ensures.1 in
    let is : joining c.args.greatest (rank_of (expression_of c.operands.left.expr)) (operator_of (next_class c.operands.rest.now)) ≡ Some c.in-Some.operator =
    ap (λ w. joining c.args.greatest w (operator_of (next_class c.operands.rest.now))) (sym c.rank_of.ensures)
    ∙ ap (λ w. joining c.args.greatest c.rank_of.result (operator_of w)) (sym c.next_class.ensures) ∙ sym c.joining.ensures ∙ c.in-Some.is in
    rw (p.1, p.2, c.operands.invariant.same)
    (operands-fail c.args.levels (inner_of c.args.levels) c.args.greatest (expression_of c.operands.left.expr) c.operands.rest.now c.in-Some.operator c.in_err-left-2.field-0.0 is
    c.in_err-left-2.ensures.reads)

pub operands-operands-preserved : goal.operands-operands-preserved
operands-operands-preserved t c =
    let is : joining c.args.greatest (rank_of (expression_of c.operands.left.expr)) (operator_of (next_class c.operands.rest.now)) ≡ Some c.in-Some.operator =
    ap (λ w. joining c.args.greatest w (operator_of (next_class c.operands.rest.now))) (sym c.rank_of.ensures)
    ∙ ap (λ w. joining c.args.greatest c.rank_of.result (operator_of w)) (sym c.next_class.ensures) ∙ sym c.joining.ensures ∙ c.in-Some.is in
    record {
      same = c.operands.invariant.same ∙ operands-next c.args.levels (inner_of c.args.levels) c.args.greatest
          (expression_of c.operands.left.expr) c.operands.rest.now c.in-Some.operator _ _ is c.in_ok-left-2.ensures.reads c.in_ok-left-2.ensures.shorter;
      height = c.in_ok-left-2.ensures.height.0;
      within = c.in_ok-left-2.ensures.height.1;
      shorter = omega (arith, c.in_ok-left-2.ensures.shorter, c.operands.invariant.shorter);
    }

pub operands-returns-clause-reads : goal.operands-returns-clause-reads
operands-returns-clause-reads t c =
    let is : joining c.args.greatest (rank_of (expression_of c.operands.left.expr)) (operator_of (next_class c.operands.rest.now)) ≡ None =
    ap (λ w. joining c.args.greatest w (operator_of (next_class c.operands.rest.now))) (sym c.rank_of.ensures)
    ∙ ap (λ w. joining c.args.greatest c.rank_of.result (operator_of w)) (sym c.next_class.ensures) ∙ sym c.joining.ensures ∙ c.in_default.is in
    c.operands.invariant.same ∙ operands-end c.args.levels (inner_of c.args.levels) c.args.greatest (expression_of c.operands.left.expr) c.operands.rest.now is

pub more-returns-in_err-part-clause-reads : goal.more-returns-in_err-part-clause-reads
more-returns-in_err-part-clause-reads t c =
    let p = err_from_is_err_and c.from_residual-in_err-part.result c.from_residual-in_err-part.ensures.1 in
    let comma : is_class classes.Comma (next_class c.parts.rest.now) ≡ true = sym c.is_next.ensures ∙ c.parts-test.true in
    rw (p.1, p.2, c.parts.invariant.same)
    (element-fail classes.Comma (inner_of c.args.levels 11) (map expression_of c.parts.parts.items) c.parts.rest.now _ c.in_ok-after.after.now c.in_err-part.field-0.0 comma
    c.in_ok-after.ensures.reads c.in_err-part.ensures.reads)

pub more-parts-preserved : goal.more-parts-preserved
more-parts-preserved t c =
    let comma : is_class classes.Comma (next_class c.parts.rest.now) ≡ true = sym c.is_next.ensures ∙ c.parts-test.true in
    let pushed = push-seen c.push.new.self.items c.parts.parts.items c.in_ok-part.part.expr c.in_ok-push.ensures.items in
    let part = c.in_ok-part.ensures.height in
    rw pushed (record {
      same = c.parts.invariant.same
          ∙ element-next classes.Comma (inner_of c.args.levels 11) (map expression_of c.parts.parts.items) c.parts.rest.now _ c.in_ok-after.after.now c.in_ok-part.after.now
          (expression_of c.in_ok-part.part.expr) comma
          c.in_ok-after.ensures.reads c.in_ok-part.ensures.reads (omega (arith, c.in_ok-after.ensures.shorter, c.in_ok-part.ensures.shorter));
      height = omega (arith, heights-append-max (map expression_of c.parts.parts.items) (expression_of c.in_ok-part.part.expr), part.0, c.max-height.ensures, c.parts.invariant.height);
      within = omega (arith, part.1, c.max-height.ensures, c.parts.invariant.within);
      shorter = omega (arith, c.in_ok-after.ensures.shorter, c.in_ok-part.ensures.shorter, c.parts.invariant.shorter);
    })

pub more-returns-clause-reads : goal.more-returns-clause-reads
more-returns-clause-reads t c =
    c.parts.invariant.same ∙ element-end classes.Comma (inner_of c.args.levels 11) (map expression_of c.parts.parts.items) c.parts.rest.now (sym c.is_next.ensures ∙ c.parts-test.false)

pub replication-returns-clause-reads : goal.replication-returns-clause-reads
unfolding replication separated
replication-returns-clause-reads t c =
    let parts = c.in_ok-row.row.parts in
    let read : replication (inner_of c.args.levels) (expression_of c.args.first.expr) (source_place c.args.place) c.args.tokens.now
    ≡ Ok (Replicated (source_place c.args.place) (expression_of c.args.first.expr) (parts_of (map expression_of parts.items)), c.in_ok-rest-3.rest.now) =
    rw (c.in_ok-rest.ensures.reads, c.in_ok-part.ensures.reads, c.in_ok-row.ensures.reads, c.in_ok-rest-2.ensures.reads, c.in_ok-rest-3.ensures.reads) refl in
    let count = c.in_ok-count.ensures.made in
    read
    ∙ ap (λ w. Ok (Replicated (source_place c.args.place) w (parts_of (map expression_of parts.items)), c.in_ok-rest-3.rest.now)) (sym count)
    ∙ ap (λ w. Ok (Replicated (source_place c.args.place) (expression_of c.in_ok-count.count.expr.value) w, c.in_ok-rest-3.rest.now)) (sym (row-seen parts))

pub replication-returns-clause-height : goal.replication-returns-clause-height
replication-returns-clause-height t c =
    let parts = c.in_ok-row.row.parts in
    let seen : heights_of (expressions_of_row (hidden-the_row-Expr-0 parts)) ≡ heights_of (parts_of (map expression_of parts.items)) = ap heights_of (row-seen parts) in
    let count : height_of (expression_of c.in_ok-count.count.expr.value) ≡ height_of (expression_of c.args.first.expr) = ap height_of c.in_ok-count.ensures.made in
    let row = c.in_ok-row.ensures.height in (
      omega (arith, seen, count, c.in_ok-count.ensures.height, c.max-height.ensures, c.requires.height, row.0),
      omega (arith, c.in_ok-count.ensures.height, c.max-height.ensures, c.requires.within, row.1),
    )

pub concatenation-returns-clause-reads : goal.concatenation-returns-clause-reads
unfolding concatenation
concatenation-returns-clause-reads t c =
    let parts = c.in_ok-row.row.parts in
    let read : concatenation (inner_of c.args.levels) (expression_of c.args.first.expr) (source_place c.args.place) c.args.tokens.now
    ≡ Ok (Concatenated (source_place c.args.place) (parts_of (map expression_of parts.items)), c.in_ok-rest.rest.now) =
    rw (c.in_ok-row.ensures.reads, c.in_ok-rest.ensures.reads) refl in
    read ∙ ap (λ w. Ok (Concatenated (source_place c.args.place) w, c.in_ok-rest.rest.now)) (sym (row-seen parts))

pub concatenation-returns-clause-height : goal.concatenation-returns-clause-height
concatenation-returns-clause-height t c =
    let parts = c.in_ok-row.row.parts in
    let seen : heights_of (expressions_of_row (hidden-the_row-Expr-0 parts)) ≡ heights_of (parts_of (map expression_of parts.items)) = ap heights_of (row-seen parts) in
    let row = c.in_ok-row.ensures.height in
    (omega (arith, seen, row.0), omega (arith, row.1))
