-- The widths of values: that of each part of a sized expression is the part's (IEEE 1364-2001, clause 4.4).
use Rattle.std.proofs.Common.{◌≡◌, ℕ, zero, suc, ◌+◌, ◌*◌, ◌-◌, ◌<◌, ◌≤◌, min, Bool, List, [], ◌∷◌, ◌++◌, length, get_or, take, drop, replicate, map, refl, ap, sym, ◌∙◌, subst, arith, length-append}
use Rattle.std.proofs.Common.{length-take}
use Rattle.std.proofs.lemmas.List.{length-replicate, take_more, map_push, length-map, append-nil, append_assoc, get_or-map, take-map, drop_more, get_or_append_left, get_or-append_right}
use Rattle.four_value.specs.declared.logic.Bit.TheVariants.{X}
use Rattle.v_design.specs.declared.tree.PieceRef.{PieceRef}
use Rattle.v_design.specs.Plain.{piece_of}
use Rattle.std.proofs.lemmas.List.Sums.{sum_by-take-le}
use Rattle.std.proofs.lemmas.List.Sums.{sum_by-cons}
use Rattle.four_value.specs.Values.{LogicValue, resized, fill_bit, bit_at, natural_number, truth_of, chosen_value}
use Rattle.four_value.specs.Operators.{unary_value, binary_value}
use Rattle.vf_base.specs.Lists.{AllHold}
use Rattle.v_design.specs.Trees.{Piece, Expression, Constant, Name, BitSelect, PartSelect, WordSelect, Unary, Binary, Conditional, Concatenation, Replication, Expressions, no_expressions}
use Rattle.v_design.specs.Trees.{more_expressions}
use Rattle.v_design.specs.Expressions.{width_of, sign_of, value_of, parts_value, vector_value, repeated, bit_at_place, place_of_number, part_places, object_value, word_at}
use Rattle.v_design.specs.Sized.{AreSizedAlone, own_width, own_width_of_parts, pieces_width}
use Rattle.v_design.specs.Assignments.{value_at}
use Rattle.expr_eval.specs.Operands.{IsThere, AreThere}

pub length-resized : (signed : Bool) (width : ℕ) (bits : LogicValue) → length (resized signed width bits) ≡ width
length-resized signed width bits =
    length-take width (bits ++ replicate width (fill_bit signed bits))
    ∙ (let e : min width (length (bits ++ replicate width (fill_bit signed bits))) ≡ width =
    omega (arith, length-append bits (replicate width (fill_bit signed bits)), length-replicate width (fill_bit signed bits)) in e)

-- a value has the width of its part
pub length-value_of : (values : ℕ → LogicValue) (e : Expression) → length (value_of values e) ≡ width_of e
length-value_of values (Constant width signed value) = length-resized signed width value
length-value_of values (Name width signed v) = length-resized signed width (vector_value values v.pieces)
length-value_of values (BitSelect width signed v index) =
    length-resized signed width (bit_at_place (vector_value values v.pieces) (place_of_number v.high v.low (natural_number (sign_of index) (value_of values index))) ∷ [])
length-value_of values (PartSelect width signed v from to) = length-resized signed width (map (bit_at_place (vector_value values v.pieces)) (part_places v.high v.low from to))
length-value_of values (WordSelect width signed m index) = length-resized signed width (object_value values m.width (word_at m (natural_number (sign_of index) (value_of values index))))
length-value_of values (Unary width signed operator a) = length-resized signed width (unary_value operator (value_of values a))
length-value_of values (Binary width signed operator a b) = length-resized signed width (binary_value operator (sign_of a) (value_of values a) (value_of values b))
length-value_of values (Conditional width signed c a b) = length-resized signed width (chosen_value (truth_of (value_of values c)) (value_of values a) (value_of values b))
length-value_of values (Concatenation width signed parts) = length-resized signed width (parts_value values parts)
length-value_of values (Replication width signed count parts) = length-resized signed width (repeated count (parts_value values parts))

-- parts that are sized alone have the bits of their own sizes
pub length-parts_value : (values : ℕ → LogicValue) (parts : Expressions) → AreSizedAlone parts → length (parts_value values parts) ≡ own_width_of_parts parts
length-parts_value values no_expressions sized = refl
length-parts_value values (more_expressions part rest) sized =
    let own : width_of part ≡ own_width part = sized.0 in
    omega (arith, length-append (parts_value values rest) (value_of values part), length-value_of values part, length-parts_value values rest sized.2)

pub length-repeated : (count : ℕ) (bits : LogicValue) → length (repeated count bits) ≡ count * length bits
length-repeated zero bits = omega arith
length-repeated (suc count) bits = omega (arith, length-append bits (repeated count bits), length-repeated count bits)

-- the pieces of a name have the bits of their widths
pub length-vector_value : (values : List LogicValue) (pieces : List Piece) → AreThere values pieces → length (vector_value (value_at values) pieces) ≡ pieces_width pieces
length-vector_value values [] there = refl
length-vector_value values (piece ∷ pieces) there =
    let here : length (value_at values piece.object) ≡ piece.width = there.0.1 in
    omega (arith, length-append (value_at values piece.object) (vector_value (value_at values) pieces), length-vector_value values pieces there.1, sum_by-cons (λ (p : Piece). p.width) piece pieces)

-- a fact of each of two lists
pub AllHold-left : {A : Type 0} (P : A → Type 0) (xs ys : List A) → AllHold P (xs ++ ys) → AllHold P xs
AllHold-left P [] ys h = tt
AllHold-left P (x ∷ xs) ys h = (h.0, AllHold-left P xs ys h.1)

pub AllHold-right : {A : Type 0} (P : A → Type 0) (xs ys : List A) → AllHold P (xs ++ ys) → AllHold P ys
AllHold-right P [] ys h = h
AllHold-right P (x ∷ xs) ys h = AllHold-right P xs ys h.1

pub AllHold-take : {A : Type 0} (P : A → Type 0) (k : ℕ) (xs : List A) → AllHold P xs → AllHold P (take k xs)
AllHold-take P zero xs h = tt
AllHold-take P (suc k) [] h = tt
AllHold-take P (suc k) (x ∷ xs) h = (h.0, AllHold-take P k xs h.1)

pub AllHold-get_or : {A : Type 0} (P : A → Type 0) (xs : List A) (k : ℕ) (d : A) → AllHold P xs → k < length xs → P (get_or xs k d)
AllHold-get_or P [] k d h low = absurd (omega arith)
AllHold-get_or P (x ∷ xs) zero d h low = h.0
AllHold-get_or P (x ∷ xs) (suc k) d h low = AllHold-get_or P xs k d h.1 (omega arith)

-- one more piece
pub vector_value-push : (values : ℕ → LogicValue) (pieces : List Piece) (piece : Piece) → vector_value values (pieces ++ piece ∷ []) ≡ vector_value values pieces ++ values piece.object
vector_value-push values [] piece = append-nil (values piece.object)
vector_value-push values (first ∷ pieces) piece =
    ap (λ bits. values first.object ++ bits) (vector_value-push values pieces piece) ∙ sym (append_assoc (values first.object) (vector_value values pieces) (values piece.object))

piece_at : (pieces : List PieceRef) (i : ℕ) (d : PieceRef) → i < length pieces → map piece_of (take (i + 1) pieces) ≡ map piece_of (take i pieces) ++ piece_of (get_or pieces i d) ∷ []
piece_at pieces i d low = ap (map piece_of) (take_more pieces i d low) ∙ map_push piece_of (take i pieces) (get_or pieces i d)

-- a piece of a name has a value
pub piece_there : (values : List LogicValue) (pieces : List PieceRef) (i : ℕ) (d : PieceRef) → AreThere values (map piece_of pieces) → i < length pieces → IsThere values (piece_of (get_or pieces i d))
piece_there values pieces i d there low =
    subst (IsThere values) (get_or-map piece_of pieces i d (piece_of d) low) (AllHold-get_or (IsThere values) (map piece_of pieces) i (piece_of d) there (omega (arith, length-map pieces piece_of)))

-- the bits of the first so many pieces and one more
pub vector_value-more : (values : ℕ → LogicValue) (pieces : List PieceRef) (i : ℕ) (d : PieceRef) → i < length pieces →
    vector_value values (map piece_of (take (i + 1) pieces)) ≡ vector_value values (map piece_of (take i pieces)) ++ values (piece_of (get_or pieces i d)).object
vector_value-more values pieces i d low = ap (vector_value values) (piece_at pieces i d low) ∙ vector_value-push values (map piece_of (take i pieces)) (piece_of (get_or pieces i d))

-- the bits of the first so many pieces are no more than those of all
pub vector_value-fits : (values : List LogicValue) (pieces : List PieceRef) (i : ℕ) → AreThere values (map piece_of pieces) →
    length (vector_value (value_at values) (map piece_of (take i pieces))) ≤ pieces_width (map piece_of pieces)
vector_value-fits values pieces i there =
    let same : map piece_of (take i pieces) ≡ take i (map piece_of pieces) = sym (take-map piece_of i pieces) in
    let some : length (vector_value (value_at values) (take i (map piece_of pieces))) ≡ pieces_width (take i (map piece_of pieces)) =
    length-vector_value values (take i (map piece_of pieces)) (AllHold-take (IsThere values) i (map piece_of pieces) there) in
    let less : pieces_width (take i (map piece_of pieces)) ≤ pieces_width (map piece_of pieces) = sum_by-take-le (λ (p : Piece). p.width) (map piece_of pieces) i in
    subst (λ l. length (vector_value (value_at values) l) ≤ pieces_width (map piece_of pieces)) (sym same) (omega arith)

-- there is room for one piece more
pub vector_value-room : (values : List LogicValue) (pieces : List PieceRef) (i : ℕ) (d : PieceRef) (low : LogicValue) (high : LogicValue) → AreThere values (map piece_of pieces) → i < length pieces →
    pieces_width (map piece_of pieces) ≤ 128 → low ≡ vector_value (value_at values) (map piece_of (take i pieces)) → high ≡ value_at values (piece_of (get_or pieces i d)).object →
    length low + length high ≤ 128
vector_value-room values pieces i d low high there within few is_low is_high =
    let more : length (vector_value (value_at values) (map piece_of (take (i + 1) pieces))) ≡ length (vector_value (value_at values) (map piece_of (take i pieces))) + length
    (value_at values (piece_of (get_or pieces i d)).object) =
    ap length (vector_value-more (value_at values) pieces i d within) ∙ length-append (vector_value (value_at values) (map piece_of (take i pieces)))
    (value_at values (piece_of (get_or pieces i d)).object) in
    let fits : length (vector_value (value_at values) (map piece_of (take (i + 1) pieces))) ≤ pieces_width (map piece_of pieces) = vector_value-fits values pieces (i + 1) there in
    let a : length low ≡ length (vector_value (value_at values) (map piece_of (take i pieces))) = ap length is_low in
    let b : length high ≡ length (value_at values (piece_of (get_or pieces i d)).object) = ap length is_high in
    omega arith

-- once more
pub repeated-more : (count : ℕ) (bits : LogicValue) → repeated (count + 1) bits ≡ repeated count bits ++ bits
repeated-more zero bits = append-nil bits
repeated-more (suc count) bits =
    ap (λ n. repeated n bits) (let e : suc count + 1 ≡ suc (count + 1) = omega arith in e)
    ∙ ap (λ l. bits ++ l) (repeated-more count bits) ∙ sym (append_assoc bits (repeated count bits) bits)

products : (a b n : ℕ) → a + 1 ≤ b → a * n + n ≤ b * n
products a b n h = grind arith

-- there is room for the bits once more
pub repeated-room : (count done : ℕ) (bits all : LogicValue) → done < count → count * length bits ≤ 128 → all ≡ repeated done bits → length all + length bits ≤ 128
repeated-room count done bits all less few is =
    let some : length all ≡ done * length bits = ap length is ∙ length-repeated done bits in
    let most : done * length bits + length bits ≤ count * length bits = products done count (length bits) (omega arith) in
    omega arith

-- the bit at a place of the first piece
pub bit_at-here : (bits rest : LogicValue) (place : ℕ) → place < length bits → bit_at (bits ++ rest) place ≡ bit_at bits place
bit_at-here bits rest place low = get_or_append_left bits rest X place low

-- the bit at a place past the first piece
pub bit_at-later : (bits rest : LogicValue) (place : ℕ) → length bits ≤ place → bit_at (bits ++ rest) place ≡ bit_at rest (place - length bits)
bit_at-later bits rest place past = get_or-append_right bits rest (length bits) place X refl past

-- the pieces from a number on
pub pieces_from : (values : ℕ → LogicValue) (pieces : List PieceRef) (i : ℕ) (d : PieceRef) → i < length pieces →
    vector_value values (map piece_of (drop i pieces)) ≡ values (piece_of (get_or pieces i d)).object ++ vector_value values (map piece_of (drop (i + 1) pieces))
pieces_from values pieces i d low = ap (λ l. vector_value values (map piece_of l)) (drop_more pieces i d low)
