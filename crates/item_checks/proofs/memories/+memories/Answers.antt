use Rattle.std.proofs.Common.{◌≡◌, List, ap, sym, ◌∙◌}
use Rattle.vf_base.specs.Base.{source_place}
use Rattle.v_tree.specs.Trees.{named_in, named_in_parts}
use Rattle.v_tree.specs.Views.{expression_of, expressions_of}
use Rattle.v_tree.specs.declared.expression.Expr.{Expr}
use Rattle.name_checks.specs.Noted.{noted, noted-two, noted-three}
use Rattle.name_checks.specs.Rows.{rest-more}
use Rattle.item_checks.specs.Memories.{memories_faults, memory_fault_of}
use Rattle.item_checks.proofs.MemoryLaws.{memories_append, part-memories, binary-memories, choice-memories, concat-memories, repeat-memories}
use Rattle.item_checks.proofs.memories.+memories.Goals as goal

pub note_memories-returns-in-PartSelect : goal.note_memories-returns-in-PartSelect
note_memories-returns-in-PartSelect t c =
    noted-three c.args.first.now _ _ _ (memory_fault_of c.args.scope.now c.in-PartSelect.name (source_place c.in-PartSelect.place))
    (memories_faults c.args.scope.now (named_in (expression_of c.deref-in-PartSelect.result.now)))
    (memories_faults c.args.scope.now (named_in (expression_of c.deref-in-PartSelect-2.result.now))) (memories_faults c.args.scope.now (named_in (expression_of c.args.expr.now)))
    c.note_memory-in-PartSelect.ensures c.note_memories-in-PartSelect.ensures c.note_memories-in-PartSelect-2.ensures
    (ap (λ (e : Expr). memories_faults c.args.scope.now (named_in (expression_of e))) c.in-PartSelect.is
    ∙ part-memories c.args.scope.now c.in-PartSelect.place c.in-PartSelect.name c.in-PartSelect.from c.in-PartSelect.to _ _ c.deref-in-PartSelect.ensures c.deref-in-PartSelect-2.ensures)

pub note_memories-returns-in-Binary : goal.note_memories-returns-in-Binary
note_memories-returns-in-Binary t c =
    noted-two c.args.first.now _ _ (memories_faults c.args.scope.now (named_in (expression_of c.deref-in-Binary.result.now)))
    (memories_faults c.args.scope.now (named_in (expression_of c.deref-in-Binary-2.result.now)))
    (memories_faults c.args.scope.now (named_in (expression_of c.args.expr.now))) c.note_memories-in-Binary.ensures c.note_memories-in-Binary-2.ensures
    (ap (λ (e : Expr). memories_faults c.args.scope.now (named_in (expression_of e))) c.in-Binary.is
    ∙ binary-memories c.args.scope.now c.in-Binary.place c.in-Binary.operator c.in-Binary.left c.in-Binary.right _ _ c.deref-in-Binary.ensures c.deref-in-Binary-2.ensures)

pub note_memories-returns-in-Conditional : goal.note_memories-returns-in-Conditional
note_memories-returns-in-Conditional t c =
    noted-three c.args.first.now _ _ _ (memories_faults c.args.scope.now (named_in (expression_of c.deref-in-Conditional.result.now)))
    (memories_faults c.args.scope.now (named_in (expression_of c.deref-in-Conditional-2.result.now)))
    (memories_faults c.args.scope.now (named_in (expression_of c.deref-in-Conditional-3.result.now))) (memories_faults c.args.scope.now (named_in (expression_of c.args.expr.now)))
    c.note_memories-in-Conditional.ensures c.note_memories-in-Conditional-2.ensures c.note_memories-in-Conditional-3.ensures
    (ap (λ (e : Expr). memories_faults c.args.scope.now (named_in (expression_of e))) c.in-Conditional.is
    ∙ choice-memories c.args.scope.now c.in-Conditional.place c.in-Conditional.condition c.in-Conditional.one c.in-Conditional.second _ _ _ c.deref-in-Conditional.ensures
    c.deref-in-Conditional-2.ensures c.deref-in-Conditional-3.ensures)

pub note_memories-returns-in-Concat : goal.note_memories-returns-in-Concat
note_memories-returns-in-Concat t c =
    c.note_memories_in_parts.ensures
    ∙ ap (noted c.args.first.now)
    (ap (λ (ps : List Expr). memories_faults c.args.scope.now (named_in_parts (expressions_of ps))) c.deref-in-Concat.ensures.value
    ∙ sym (concat-memories c.args.scope.now c.in-Concat.place c.in-Concat.parts) ∙ sym (ap (λ (e : Expr). memories_faults c.args.scope.now (named_in (expression_of e))) c.in-Concat.is))

pub note_memories-returns-in-Repeat : goal.note_memories-returns-in-Repeat
note_memories-returns-in-Repeat t c =
    noted-two c.args.first.now _ _ (memories_faults c.args.scope.now (named_in (expression_of c.deref-in-Repeat.result.now)))
    (memories_faults c.args.scope.now (named_in_parts (expressions_of c.deref-in-Repeat-2.result.now)))
    (memories_faults c.args.scope.now (named_in (expression_of c.args.expr.now))) c.note_memories-in-Repeat.ensures c.note_memories_in_parts-in-Repeat.ensures
    (ap (λ (e : Expr). memories_faults c.args.scope.now (named_in (expression_of e))) c.in-Repeat.is
    ∙ repeat-memories c.args.scope.now c.in-Repeat.place c.in-Repeat.count c.in-Repeat.parts _ _ c.deref-in-Repeat.ensures c.deref-in-Repeat-2.ensures.value)

pub note_memories_in_parts-parts-preserved : goal.note_memories_in_parts-parts-preserved
note_memories_in_parts-parts-preserved t c =
    rest-more (λ (e : Expr). memories_faults c.args.scope.now (named_in (expression_of e)))
    (λ (ps : List Expr). memories_faults c.args.scope.now (named_in_parts (expressions_of ps))) c.args.parts.now c.parts.part-index c.part-item.result
    c.parts.first c.note_memories.new.first _ (λ y ys. memories_append c.args.scope.now (named_in (expression_of y)) (named_in_parts (expressions_of ys))) c.parts-test.true c.part-item.is
    c.note_memories.ensures c.parts.invariant
