-- The pieces of a name, one after another.
use Rattle.std.proofs.Common.{◌≡◌, ℕ, zero, suc, ◌+◌, ◌<◌, ◌≤◌, List, [], ◌∷◌, map, take, length, get_or, refl, arith}
use Rattle.std.proofs.lemmas.List.Sums.{sum_by-cons}
use Rattle.v_design.specs.Trees.{Piece}
use Rattle.v_design.specs.Plain.{piece_of}
use Rattle.v_design.specs.Sized.{pieces_width}
use Rattle.v_design.specs.declared.tree.PieceRef.{PieceRef}

abbrev width_of : Piece → ℕ
width_of piece = piece.width

-- those up to one of them have no more bits than all
pub width-within : (pieces : List PieceRef) (i : ℕ) (none : PieceRef) → i < length pieces →
    pieces_width (map piece_of (take i pieces)) + (get_or pieces i none).width ≤ pieces_width (map piece_of pieces)
width-within [] i none low = absurd (omega arith)
width-within (piece ∷ pieces) zero none low =
    let empty : pieces_width [] ≡ 0 = refl in
    let all : pieces_width (map piece_of (piece ∷ pieces)) ≡ piece.width + pieces_width (map piece_of pieces) = sum_by-cons width_of (piece_of piece) (map piece_of pieces) in
    omega (arith, empty, all)
width-within (piece ∷ pieces) (suc i) none low =
    let rest = width-within pieces i none (omega arith) in
    let front : pieces_width (map piece_of (piece ∷ take i pieces)) ≡ piece.width + pieces_width (map piece_of (take i pieces)) = sum_by-cons width_of (piece_of piece) (map piece_of (take i pieces)) in
    let all : pieces_width (map piece_of (piece ∷ pieces)) ≡ piece.width + pieces_width (map piece_of pieces) = sum_by-cons width_of (piece_of piece) (map piece_of pieces) in
    omega (arith, rest, front, all)
