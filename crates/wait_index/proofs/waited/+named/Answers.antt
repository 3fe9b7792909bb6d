-- The parts of a concatenation, and the words of a memory.
use Rattle.std.proofs.Common.{◌≡◌, ℕ, List, [], ◌∷◌, ◌++◌, map, refl, ap, sym, ◌∙◌, append_assoc}
use Rattle.vf_base.specs.declared.ids.ObjectId.{ObjectId}
use Rattle.vf_base.specs.Base.{object_number}
use Rattle.v_design.specs.Trees.{Piece}
use Rattle.v_design.specs.Plain.{expression_of, expressions_of, memory_of}
use Rattle.v_design.specs.PlainLemmas.{expression_of-Concatenation, expression_of-Replication}
use Rattle.v_design.specs.Expressions.{piece_objects, memory_pieces}
use Rattle.v_design.specs.Reads.{named_in, named_in_parts}
use Rattle.wait_index.proofs.waited.+named.Goals as goal

-- the words of a memory as pieces are its words
words-named : (words : List ObjectId) (width : ℕ) → piece_objects (map (λ (word : ℕ). let piece : Piece = record { object = word; width = width } in piece) (map object_number words)) ≡ map
    object_number words
words-named [] width = refl
words-named (word ∷ words) width = ap (λ l. object_number word ∷ l) (words-named words width)

pieces-append : (xs ys : List Piece) → piece_objects (xs ++ ys) ≡ piece_objects xs ++ piece_objects ys
pieces-append [] ys = refl
pieces-append (x ∷ xs) ys = ap (λ l. x.object ∷ l) (pieces-append xs ys)

pub add_named-returns-in_ok-add_all-in-WordSelect : goal.add_named-returns-in_ok-add_all-in-WordSelect
add_named-returns-in_ok-add_all-in-WordSelect t c =
    let old = map object_number c.args.objects.now.items in
    let m = c.in-WordSelect.memory in
    let index = named_in (expression_of c.deref-in-WordSelect.result.now) in
    c.in_ok-add_all-in-WordSelect.ensures
    ∙ ap (λ l. map object_number c.add_named-in-WordSelect.new.objects.items ++ map object_number l) c.as_slice-in-WordSelect.ensures
    ∙ ap (λ l. l ++ map object_number m.words) c.in_ok-add_named-in-WordSelect.ensures
    ∙ append_assoc old (piece_objects index) (map object_number m.words)
    ∙ ap (λ l. old ++ (piece_objects index ++ l)) (sym (words-named m.words m.width))
    ∙ ap (λ l. old ++ l) (sym (pieces-append index (memory_pieces (memory_of m))))
    ∙ ap (λ x. old ++ piece_objects (named_in (expression_of x) ++ memory_pieces (memory_of m))) c.deref-in-WordSelect.ensures
    ∙ sym (ap (λ e. old ++ piece_objects (named_in (expression_of e))) c.in-WordSelect.is)

pub add_named-returns-in_ok-add_named_parts-in-Concatenation : goal.add_named-returns-in_ok-add_named_parts-in-Concatenation
add_named-returns-in_ok-add_named_parts-in-Concatenation t c =
    let old = map object_number c.args.objects.now.items in
    c.in_ok-add_named_parts-in-Concatenation.ensures ∙ ap (λ l. old ++ piece_objects (named_in_parts (expressions_of l))) c.deref-in-Concatenation.ensures.value
    ∙ sym (ap (λ e. old ++ piece_objects (named_in (expression_of e))) c.in-Concatenation.is
    ∙ ap (λ e. old ++ piece_objects (named_in e)) (expression_of-Concatenation c.in-Concatenation.width c.in-Concatenation.signed c.in-Concatenation.parts))

pub add_named-returns-in_ok-add_named_parts-in-Replication : goal.add_named-returns-in_ok-add_named_parts-in-Replication
add_named-returns-in_ok-add_named_parts-in-Replication t c =
    let old = map object_number c.args.objects.now.items in
    c.in_ok-add_named_parts-in-Replication.ensures ∙ ap (λ l. old ++ piece_objects (named_in_parts (expressions_of l))) c.deref-in-Replication.ensures.value
    ∙ sym (ap (λ e. old ++ piece_objects (named_in (expression_of e))) c.in-Replication.is
    ∙ ap (λ e. old ++ piece_objects (named_in e)) (expression_of-Replication c.in-Replication.width c.in-Replication.signed c.in-Replication.count c.in-Replication.parts))
