-- Reading the operands of names (IEEE 1364-2001, clause 4.2).
use Rattle.std.proofs.Common.{◌≡◌, ℕ, ◌+◌, ◌-◌, ◌<◌, ◌≤◌, List, [], ◌∷◌, ◌++◌, length, get_or, take, drop, map, refl, ap, sym, ◌∙◌, arith, inl, inr}
use Rattle.std.proofs.lemmas.Bool.{cases_lt}
use Rattle.std.proofs.lemmas.List.{drop-drop, length-drop}
use Rattle.std.proofs.Math.ListN.{drop_of_length-le}
use Rattle.four_value.specs.Values.{LogicValue}
use Rattle.vf_base.specs.Lists.{joined}
use Rattle.v_design.specs.declared.tree.PieceRef.{PieceRef}
use Rattle.v_design.specs.Plain.{piece_of}
use Rattle.v_design.specs.Expressions.{Needs, Has, then_with, read_slices, whole_slices}

-- all pieces of a name take an operand each
pub reads_whole : (pieces : List PieceRef) (operands : List LogicValue) → length pieces ≤ length operands →
    read_slices (whole_slices (map piece_of pieces)) operands ≡ Has (joined (take (length pieces) operands)) (drop (length pieces) operands)
reads_whole [] operands h = refl
reads_whole (piece ∷ pieces) [] h = absurd (omega arith)
reads_whole (piece ∷ pieces) (value ∷ operands) h =
    ap (λ p. then_with p (λ more left. Has (value ++ more) left)) (reads_whole pieces operands (omega arith))

-- the first piece without an operand is needed
pub needs_piece : (pieces : List PieceRef) (operands : List LogicValue) (d : PieceRef) → length operands < length pieces →
    read_slices (whole_slices (map piece_of pieces)) operands ≡ Needs (piece_of (get_or pieces (length operands) d)).object
needs_piece [] operands d h = absurd (omega arith)
needs_piece (piece ∷ pieces) [] d h = refl
needs_piece (piece ∷ pieces) (value ∷ operands) d h =
    ap (λ p. then_with p (λ more left. Has (value ++ more) left)) (needs_piece pieces operands d (omega arith))

-- what is left past the end is nothing
pub left_over : {A : Type 0} (used there first : ℕ) (operands : List A) → there ≡ length operands - used → first ≡ length operands - there → drop first operands ≡ drop used operands
left_over used there first operands t f =
    elim (cases_lt used (length operands)) [
      | inl h ↦ ap (λ n. drop n operands) (omega (arith, t, f, h))
      | inr h ↦ drop_of_length-le operands (omega (arith, t, f, h)) ∙ sym (drop_of_length-le operands (omega (arith, h)))
    ]

-- the operands of a name's pieces, from a place on
pub passes : (pieces : List PieceRef) (operands : List LogicValue) (used there first : ℕ) → there ≡ length operands - used → first ≡ length operands - there → length pieces ≤ there →
    read_slices (whole_slices (map piece_of pieces)) (drop used operands)
    ≡ Has (joined (take (first + length pieces - first) (drop first operands))) (drop (first + length pieces) operands)
passes pieces operands used there first t f h =
    let same : drop first operands ≡ drop used operands = left_over used there first operands t f in
    let n : first + length pieces - first ≡ length pieces = omega arith in
    ap (read_slices (whole_slices (map piece_of pieces))) (sym same)
    ∙ reads_whole pieces (drop first operands) (omega (arith, h, f, length-drop first operands, t))
    ∙ ap (λ k. Has (joined (take k (drop first operands))) (drop (length pieces) (drop first operands))) (sym n)
    ∙ ap (Has (joined (take (first + length pieces - first) (drop first operands)))) (drop-drop (length pieces) first operands)

-- the piece that is needed, from a place on
pub stops : (pieces : List PieceRef) (operands : List LogicValue) (used there : ℕ) (d : PieceRef) → there ≡ length operands - used → there < length pieces →
    read_slices (whole_slices (map piece_of pieces)) (drop used operands) ≡ Needs (piece_of (get_or pieces there d)).object
stops pieces operands used there d t h =
    let n : length (drop used operands) ≡ there = length-drop used operands ∙ sym t in
    needs_piece pieces (drop used operands) d (omega (arith, h, n)) ∙ ap (λ k. Needs (piece_of (get_or pieces k d)).object) n
