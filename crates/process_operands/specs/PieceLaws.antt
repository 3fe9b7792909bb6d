-- The pieces that an expression reads, one more at a time (nothing of the language).
use Rattle.std.proofs.Common.{◌≡◌, ℕ, ◌+◌, true, false, List, [], ◌∷◌, ◌++◌, map, Option, None, refl, ap, sym, ◌∙◌, append-nil}
use Rattle.vf_base.specs.declared.ids.ObjectId.{ObjectId}
use Rattle.vf_base.specs.Base.{object_number}
use Rattle.four_value.specs.Values.{natural_number}
use Rattle.v_design.specs.Trees.{Piece, Vector, Expression}
use Rattle.v_design.specs.Expressions.{sign_of, is_constant, index_number, no_values, place_of_number, slice_pieces, slices_at, whole_slices, bit_slices, Has, read_expression}
use Rattle.process_operands.specs.ReadLaws.{constant-value}

-- some words as pieces of a width
abbrev pub words_pieces : ℕ → List ObjectId → List Piece
words_pieces width [] = []
words_pieces width (word ∷ words) = record { object = object_number word; width = width } ∷ words_pieces width words

-- those of a memory
pub words_pieces-all : (width : ℕ) (words : List ObjectId) → words_pieces width words ≡ map (λ word. record { object = word; width = width }) (map object_number words)
words_pieces-all width [] = refl
words_pieces-all width (word ∷ words) = ap (λ (l : List Piece). record { object = object_number word; width = width } ∷ l) (words_pieces-all width words)

-- where no place is selected no piece holds one
slices-nowhere : (low : ℕ) (pieces : List Piece) → slice_pieces (slices_at (None ∷ []) low pieces) ≡ []
slices-nowhere low [] = refl
slices-nowhere low (piece ∷ pieces) = slices-nowhere (low + piece.width) pieces

pub pieces-nowhere : (before : List Piece) (place : Option ℕ) (pieces : List Piece) → place ≡ None → before ≡ before ++ slice_pieces (slices_at (place ∷ []) 0 pieces)
pieces-nowhere before place pieces e =
    sym (ap (λ (p : Option ℕ). before ++ slice_pieces (slices_at (p ∷ []) 0 pieces)) e ∙ ap (λ l. before ++ l) (slices-nowhere 0 pieces) ∙ append-nil before)

-- all pieces of a name
whole-pieces : (pieces : List Piece) → slice_pieces (whole_slices pieces) ≡ pieces
whole-pieces [] = refl
whole-pieces (piece ∷ pieces) = ap (λ l. piece ∷ l) (whole-pieces pieces)

-- an index that isn't constant
pub pieces-any : (v : Vector) (index : Expression) (before after : List Piece) → is_constant index ≡ false → after ≡ before ++ v.pieces →
    after ≡ before ++ slice_pieces (bit_slices (is_constant index) v (index_number no_values index))
pieces-any v index before after h e =
    e ∙ ap (λ l. before ++ l) (sym (whole-pieces v.pieces)) ∙ ap (λ b. before ++ slice_pieces (bit_slices b v (index_number no_values index))) (sym h)

-- a constant index
pub pieces-constant : (v : Vector) (index : Expression) (operands left value : List _) (number : Option ℕ) (before after : List Piece) → is_constant index ≡ true →
    read_expression index operands ≡ Has value left →
    number ≡ natural_number (sign_of index) value → after ≡ before ++ slice_pieces (slices_at (place_of_number v.high v.low number ∷ []) 0 v.pieces) →
    after ≡ before ++ slice_pieces (bit_slices (is_constant index) v (index_number no_values index))
pieces-constant v index operands left value number before after h has is e =
    e
    ∙ ap (λ (n : Option ℕ). before ++ slice_pieces (slices_at (place_of_number v.high v.low n ∷ []) 0 v.pieces))
    (is ∙ ap (natural_number (sign_of index)) (sym (constant-value index value operands left h has)))
    ∙ ap (λ b. before ++ slice_pieces (bit_slices b v (index_number no_values index))) (sym h)
