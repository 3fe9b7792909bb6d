use Rattle.std.proofs.Common.{◌≡◌, ◌+◌, ◌^◌, ◌<◌, List, map, ap, sym, subst, ◌∙◌, arith}
use Rattle.std.proofs.lemmas.List.{take_all}
use Rattle.v_design.specs.Trees.{Concatenation, Replication}
use Rattle.v_design.specs.Plain.{expression_of}
use Rattle.v_design.specs.PlainLemmas.{expression_of-Concatenation, expression_of-Replication}
use Rattle.v_names.specs.SizedTrees.{over_objects, all_over_objects}
use Rattle.v_width.specs.declared.expression.SizedExpr.{SizedExpr}
use Rattle.v_width.specs.SizedViews.{sized_of, all_sized_of}
use Rattle.v_width.specs.ViewLaws.{sized-concatenation, sized-replication}
use Rattle.object_expr.specs.Narrow.{IsNarrowTree, AreNarrowTrees}
use Rattle.object_expr.proofs.Levels.{levels_of, levels_of_all, item-levels, item-narrow}
use Rattle.object_expr.proofs.Rows.{seen_over, rows-same, one-more}
use Rattle.object_expr.proofs.expression.+over_objects.Goals as goal

pub over_objects-returns-in_ok-parts-in-Concatenation : goal.over_objects-returns-in_ok-parts-in-Concatenation
over_objects-returns-in_ok-parts-in-Concatenation t c holders h =
    let size = c.in-Concatenation.size in
    let parts = c.in-Concatenation.parts in
    expression_of-Concatenation size.width size.signed c.in_ok-parts-in-Concatenation.parts
    ∙ ap (Concatenation size.width size.signed) (c.in_ok-parts-in-Concatenation.ensures holders h ∙ ap (λ items. all_over_objects holders (all_sized_of items)) c.deref-in-Concatenation.ensures.value)
    ∙ ap (over_objects holders) (sym (ap (λ (e : SizedExpr). sized_of e) c.in-Concatenation.is ∙ sized-concatenation size parts))

pub over_objects-returns-in_ok-parts-in-Replication : goal.over_objects-returns-in_ok-parts-in-Replication
over_objects-returns-in_ok-parts-in-Replication t c holders h =
    let size = c.in-Replication.size in
    let count = c.in-Replication.count in
    let parts = c.in-Replication.parts in
    expression_of-Replication size.width size.signed count c.in_ok-parts-in-Replication.parts
    ∙ ap (Replication size.width size.signed count)
    (c.in_ok-parts-in-Replication.ensures holders h ∙ ap (λ items. all_over_objects holders (all_sized_of items)) c.deref-in-Replication.ensures.value)
    ∙ ap (over_objects holders) (sym (ap (λ (e : SizedExpr). sized_of e) c.in-Replication.is ∙ sized-replication size count parts))

pub all_over_objects-exprs-preserved : goal.all_over_objects-exprs-preserved
all_over_objects-exprs-preserved t c holders h =
    ap (map expression_of) c.in_ok-push.ensures.items
    ∙ one-more expression_of (seen_over holders) c.exprs.flats.items c.args.exprs.now c.exprs.expr-index c.in_ok-flat.flat c.expr-item.result c.exprs-test.true c.expr-item.is
    (c.in_ok-flat.ensures holders h) (c.exprs.invariant holders h)

pub all_over_objects-returns : goal.all_over_objects-returns
all_over_objects-returns t c holders h =
    rows-same holders c.exprs.flats.items c.args.exprs.now
    (c.exprs.invariant holders h ∙ ap (map (seen_over holders)) (take_all c.exprs.expr-index c.args.exprs.now c.exprs-test.false))

-- Bounds and counts

pub all_over_objects-over_objects-requires : goal.all_over_objects-over_objects-requires
all_over_objects-over_objects-requires t c =
    let least = item-levels c.args.exprs.now c.exprs.expr-index c.expr-item.result c.exprs-test.true c.expr-item.is in
    (omega (arith, least, c.decreases), item-narrow c.args.exprs.now c.exprs.expr-index c.expr-item.result c.requires c.exprs-test.true c.expr-item.is)

pub over_objects-all_over_objects-requires : goal.over_objects-all_over_objects-requires
over_objects-all_over_objects-requires t c =
    let parts = c.in-Concatenation.parts in
    let same = ap (λ (e : SizedExpr). sized_of e) c.in-Concatenation.is ∙ sized-concatenation c.in-Concatenation.size parts in
    let whole : AreNarrowTrees (all_sized_of parts.items) = subst IsNarrowTree same c.requires in
    let level : levels_of (sized_of c.args.expr.now) ≡ levels_of_all (all_sized_of parts.items) + 1 = ap levels_of same in
    let there = ap (λ (es : List SizedExpr). levels_of_all (all_sized_of es)) c.deref-in-Concatenation.ensures.value in
    (omega (arith, level, there, c.decreases), subst (λ (es : List SizedExpr). AreNarrowTrees (all_sized_of es)) (sym c.deref-in-Concatenation.ensures.value) whole)

pub over_objects-overflow_cast-count : goal.over_objects-overflow_cast-count
over_objects-overflow_cast-count t c =
    let count = c.in-Replication.count in
    let parts = c.in-Replication.parts in
    let same = ap (λ (e : SizedExpr). sized_of e) c.in-Replication.is ∙ sized-replication c.in-Replication.size count parts in
    let whole : (count < 2 ^ 32) × AreNarrowTrees (all_sized_of parts.items) = subst IsNarrowTree same c.requires in
    let few = whole.0 in
    omega (arith, few)

pub over_objects-all_over_objects-requires-in-Replication : goal.over_objects-all_over_objects-requires-in-Replication
over_objects-all_over_objects-requires-in-Replication t c =
    let count = c.in-Replication.count in
    let parts = c.in-Replication.parts in
    let same = ap (λ (e : SizedExpr). sized_of e) c.in-Replication.is ∙ sized-replication c.in-Replication.size count parts in
    let whole : (count < 2 ^ 32) × AreNarrowTrees (all_sized_of parts.items) = subst IsNarrowTree same c.requires in
    let level : levels_of (sized_of c.args.expr.now) ≡ levels_of_all (all_sized_of parts.items) + 1 = ap levels_of same in
    let there = ap (λ (es : List SizedExpr). levels_of_all (all_sized_of es)) c.deref-in-Replication.ensures.value in
    (omega (arith, level, there, c.decreases), subst (λ (es : List SizedExpr). AreNarrowTrees (all_sized_of es)) (sym c.deref-in-Replication.ensures.value) whole.1)
