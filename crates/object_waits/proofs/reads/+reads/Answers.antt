use Rattle.std.proofs.Common.{arith, true, false, ◌≡◌, ◌+◌, ◌≤◌, ◌++◌, ◌∙◌, map, ap, sym, subst}
use Rattle.vf_base.specs.Base.{object_number}
use Rattle.v_design.specs.Trees as plain
use Rattle.v_design.specs.Plain.{expression_of, expressions_of, vector_of, piece_of}
use Rattle.v_design.specs.Expressions.{piece_objects, is_constant}
use Rattle.v_design.specs.PlainLemmas.{expression_of-Concatenation, expression_of-Replication}
use Rattle.v_design.specs.Sized.{IsSized, AreSizedAlone, levels_of, levels_of_parts}
use Rattle.v_elab.specs.Statements.{objects_in_text, part_objects_in_text}
use Rattle.expr_eval.specs.PartsLaws.{part_sized, part_levels}
use Rattle.object_waits.proofs.Texts.{added-constant, added-any}
use Rattle.object_waits.proofs.reads.+reads.Goals as goal

pub add_parts-add_objects-requires : goal.add_parts-add_objects-requires
add_parts-add_objects-requires t c =
    let sized : IsSized (expression_of c.part-item.result) = subst (λ e. IsSized (expression_of e)) (sym c.part-item.is)
    (part_sized c.args.parts.now c.parts.part-index c.part-item.result c.parts-test.true c.requires).1 in
    let least : levels_of (expression_of c.part-item.result) ≤ levels_of_parts (expressions_of c.args.parts.now) =
    part_levels c.args.parts.now c.parts.part-index c.part-item.result c.parts-test.true c.part-item.is in
    (omega (arith, least, c.decreases), sized)

pub add_objects-add_parts-requires : goal.add_objects-add_parts-requires
add_objects-add_parts-requires t c =
    let same = ap expression_of c.in-Concatenation.is ∙ expression_of-Concatenation c.in-Concatenation.width c.in-Concatenation.signed c.in-Concatenation.parts in
    let whole = subst IsSized same c.requires in
    let sized : AreSizedAlone (expressions_of c.deref-in-Concatenation.result.now) = subst (λ l. AreSizedAlone (expressions_of l)) (sym c.deref-in-Concatenation.ensures.value) whole.2 in
    let whole_levels : levels_of (expression_of c.args.expr.now) ≡ 1 + levels_of_parts (expressions_of c.in-Concatenation.parts.items) = ap levels_of same in
    let part_levels' = ap (λ l. levels_of_parts (expressions_of l)) c.deref-in-Concatenation.ensures.value in
    (omega (arith, whole_levels, part_levels', c.decreases), sized)

pub add_objects-add_parts-requires-in-Replication : goal.add_objects-add_parts-requires-in-Replication
add_objects-add_parts-requires-in-Replication t c =
    let same = ap expression_of c.in-Replication.is ∙ expression_of-Replication c.in-Replication.width c.in-Replication.signed c.in-Replication.count c.in-Replication.parts in
    let whole = subst IsSized same c.requires in
    let sized : AreSizedAlone (expressions_of c.deref-in-Replication.result.now) = subst (λ l. AreSizedAlone (expressions_of l)) (sym c.deref-in-Replication.ensures.value) whole.2 in
    let whole_levels : levels_of (expression_of c.args.expr.now) ≡ 1 + levels_of_parts (expressions_of c.in-Replication.parts.items) = ap levels_of same in
    let part_levels' = ap (λ l. levels_of_parts (expressions_of l)) c.deref-in-Replication.ensures.value in
    (omega (arith, whole_levels, part_levels', c.decreases), sized)

pub add_objects-returns-in_ok-add_parts-in-Concatenation : goal.add_objects-returns-in_ok-add_parts-in-Concatenation
add_objects-returns-in_ok-add_parts-in-Concatenation t c =
    let same = ap expression_of c.in-Concatenation.is ∙ expression_of-Concatenation c.in-Concatenation.width c.in-Concatenation.signed c.in-Concatenation.parts in
    c.in_ok-add_parts-in-Concatenation.ensures ∙ ap (λ l. map object_number c.args.objects.now.items ++ part_objects_in_text (expressions_of l)) c.deref-in-Concatenation.ensures.value
    ∙ ap (λ e. map object_number c.args.objects.now.items ++ objects_in_text e) (sym same)

pub add_objects-returns-in_ok-add_parts-in-Replication : goal.add_objects-returns-in_ok-add_parts-in-Replication
add_objects-returns-in_ok-add_parts-in-Replication t c =
    let same = ap expression_of c.in-Replication.is ∙ expression_of-Replication c.in-Replication.width c.in-Replication.signed c.in-Replication.count c.in-Replication.parts in
    c.in_ok-add_parts-in-Replication.ensures ∙ ap (λ l. map object_number c.args.objects.now.items ++ part_objects_in_text (expressions_of l)) c.deref-in-Replication.ensures.value
    ∙ ap (λ e. map object_number c.args.objects.now.items ++ objects_in_text e) (sym same)

pub add_objects-returns-in_ok-add_read-in-BitSelect : goal.add_objects-returns-in_ok-add_read-in-BitSelect
add_objects-returns-in_ok-add_read-in-BitSelect t c =
    let v = vector_of c.in-BitSelect.vector in
    let index = expression_of c.in-BitSelect.index.value in
    let same : expression_of c.args.expr.now ≡ plain.BitSelect c.in-BitSelect.width c.in-BitSelect.signed v index = ap expression_of c.in-BitSelect.is in
    let constant : is_constant index ≡ true = sym (ap (λ e. is_constant (expression_of e)) c.deref.ensures) ∙ sym c.names_nothing.ensures ∙ c.if-names_nothing.true in
    added-constant (expression_of c.args.expr.now) c.in-BitSelect.width c.in-BitSelect.signed v index _ _ same constant c.in_ok-add_read-in-BitSelect.ensures

pub add_objects-returns-in_ok-add_objects-in-BitSelect : goal.add_objects-returns-in_ok-add_objects-in-BitSelect
add_objects-returns-in_ok-add_objects-in-BitSelect t c =
    let v = vector_of c.in-BitSelect.vector in
    let index = expression_of c.in-BitSelect.index.value in
    let same : expression_of c.args.expr.now ≡ plain.BitSelect c.in-BitSelect.width c.in-BitSelect.signed v index = ap expression_of c.in-BitSelect.is in
    let other : is_constant index ≡ false = sym (ap (λ e. is_constant (expression_of e)) c.deref.ensures) ∙ sym c.names_nothing.ensures ∙ c.if-names_nothing.false in
    let before = map object_number c.args.objects.now.items in
    let between = map object_number c.add_pieces-else-names_nothing.new.objects.items in
    added-any (expression_of c.args.expr.now) c.in-BitSelect.width c.in-BitSelect.signed v index before between _ same other
    (c.in_ok-add_pieces-in-BitSelect.ensures ∙ ap (λ l. before ++ piece_objects (map piece_of l)) c.as_slice-else-names_nothing.ensures)
    (c.in_ok-add_objects-in-BitSelect.ensures ∙ ap (λ e. between ++ objects_in_text (expression_of e)) c.deref-else-names_nothing.ensures)
