-- The value of an expression rests on the objects that it reads alone, where the other pieces that it names have their widths.
use Rattle.std.proofs.Common.{◌≡◌, ℕ, zero, suc, ◌+◌, ◌<◌, ◌≤◌, List, [], ◌∷◌, ◌++◌, map, length, Bool, true, false, ◌&&◌, ◌||◌, refl, sym, ap, subst, ◌∙◌, ◌⊎◌, inl, inr, arith}
use Rattle.std.specs.Prelude.{Option, Some, None, nat_le, nat_lt, if◌then◌else◌}
use Rattle.std.proofs.lemmas.Bool.{le-leb, lt-ltb}
use Rattle.std.proofs.lemmas.List.{get_or_append_left, get_or-append-add}
use Rattle.four_value.specs.Values.{LogicValue, resized, bit_at, natural_number, truth_of, chosen_value}
use Rattle.four_value.specs.Operators.{unary_value, binary_value}
use Rattle.v_design.specs.Trees.{Piece, Expression, Constant, Name, BitSelect, PartSelect, WordSelect, Unary, Binary, Conditional, Concatenation, Replication, Expressions, no_expressions}
use Rattle.v_design.specs.Trees.{more_expressions}
use Rattle.v_design.specs.Expressions.{sign_of, is_constant, are_constant, place_of_number, part_places, word_at, bit_at_place, whole_slices, some_place_within, slices_at, vector_value}
use Rattle.v_design.specs.Expressions.{object_value, repeated, value_of, parts_value, slice_piece, slice_pieces, no_values, bit_slices, index_number, memory_pieces, pieces_read, parts_read}
use Rattle.v_design.specs.Expressions.{piece_objects}
use Rattle.v_design.specs.Assignments.{label_values}
use Rattle.v_design.specs.Reads.{named_in, named_in_parts}
use Rattle.four_value.specs.declared.logic.Bit.TheVariants.{X}
use Rattle.order_laws.proofs.Conflicts.{In}
use Rattle.order_laws.proofs.WritersStay.{Clear, word_at-clear}

-- the pieces have their widths
abbrev pub PiecesFit : (ℕ → LogicValue) → List Piece → Type 0
PiecesFit v [] = Unit {0}
PiecesFit v (piece ∷ pieces) = (length (v piece.object) ≡ piece.width) × PiecesFit v pieces

pub fit-left : (v : ℕ → LogicValue) (ps qs : List Piece) → PiecesFit v (ps ++ qs) → PiecesFit v ps
fit-left v [] qs h = tt
fit-left v (p ∷ ps) qs h = (h.0, fit-left v ps qs h.1)

pub fit-right : (v : ℕ → LogicValue) (ps qs : List Piece) → PiecesFit v (ps ++ qs) → PiecesFit v qs
fit-right v [] qs h = h
fit-right v (p ∷ ps) qs h = fit-right v ps qs h.1

-- of two readings the second may also hold nothing at all
abbrev pub FitOrEmpty : (ℕ → LogicValue) → List Piece → Type 0
FitOrEmpty w pieces = PiecesFit w pieces ⊎ ((object : ℕ) → w object ≡ [])

either-left : (w : ℕ → LogicValue) (ps qs : List Piece) → FitOrEmpty w (ps ++ qs) → FitOrEmpty w ps
either-left w ps qs (inl h) = inl (fit-left w ps qs h)
either-left w ps qs (inr h) = inr h

either-right : (w : ℕ → LogicValue) (ps qs : List Piece) → FitOrEmpty w (ps ++ qs) → FitOrEmpty w qs
either-right w ps qs (inl h) = inl (fit-right w ps qs h)
either-right w ps qs (inr h) = inr h

either-tail : (w : ℕ → LogicValue) (p : Piece) (ps : List Piece) → FitOrEmpty w (p ∷ ps) → FitOrEmpty w ps
either-tail w p ps (inl h) = inl h.1
either-tail w p ps (inr h) = inr h

-- the readings agree on the objects of some pieces
abbrev pub Agree : (ℕ → LogicValue) → (ℕ → LogicValue) → List Piece → Type 0
Agree v w [] = Unit {0}
Agree v w (piece ∷ pieces) = (v piece.object ≡ w piece.object) × Agree v w pieces

agree-left : (v w : ℕ → LogicValue) (ps qs : List Piece) → Agree v w (ps ++ qs) → Agree v w ps
agree-left v w [] qs h = tt
agree-left v w (p ∷ ps) qs h = (h.0, agree-left v w ps qs h.1)

agree-right : (v w : ℕ → LogicValue) (ps qs : List Piece) → Agree v w (ps ++ qs) → Agree v w qs
agree-right v w [] qs h = h
agree-right v w (p ∷ ps) qs h = agree-right v w ps qs h.1

agree-append : (v w : ℕ → LogicValue) (ps qs : List Piece) → Agree v w ps → Agree v w qs → Agree v w (ps ++ qs)
agree-append v w [] qs h i = i
agree-append v w (p ∷ ps) qs h i = (h.0, agree-append v w ps qs h.1 i)

-- that is, on the numbers of the objects
pub agree_objects : (v w : ℕ → LogicValue) (pieces : List Piece) → Clear (λ object. v object ≡ w object) (piece_objects pieces) → Agree v w pieces
agree_objects v w [] h = tt
agree_objects v w (piece ∷ pieces) h = (h.0, agree_objects v w pieces h.1)

words-agree : (v w : ℕ → LogicValue) (width : ℕ) (words : List ℕ) → Agree v w (map (λ word. record { object = word; width = width }) words) → Clear (λ object. v object ≡ w object) words
words-agree v w width [] h = tt
words-agree v w width (word ∷ words) h = (h.0, words-agree v w width words h.1)

vector-same : (v w : ℕ → LogicValue) (pieces : List Piece) → Agree v w pieces → vector_value v pieces ≡ vector_value w pieces
vector-same v w [] h = refl
vector-same v w (piece ∷ pieces) h = λ i. h.0 i ++ vector-same v w pieces h.1 i

whole-same : (v w : ℕ → LogicValue) (pieces : List Piece) → Agree v w (slice_pieces (whole_slices pieces)) → vector_value v pieces ≡ vector_value w pieces
whole-same v w [] h = refl
whole-same v w (piece ∷ pieces) h = λ i. h.0 i ++ whole-same v w pieces h.1 i

vector-empty : (w : ℕ → LogicValue) (pieces : List Piece) → ((object : ℕ) → w object ≡ []) → vector_value w pieces ≡ []
vector-empty w [] h = refl
vector-empty w (piece ∷ pieces) h = ap (λ x. x ++ vector_value w pieces) (h piece.object) ∙ vector-empty w pieces h

-- a place that is asked for lies in a piece that is read
within : (places : List (Option ℕ)) (low high place : ℕ) → In (Some place) places → low ≤ place → place < high → some_place_within low high places ≡ true
within [] low high place i a b = absurd i
within (None ∷ places) low high place (inl e) a b = cc
within (None ∷ places) low high place (inr i) a b = within places low high place i a b
within (Some p ∷ places) low high place (inl e) a b =
    ap (λ c. c || some_place_within low high places)
    (ap (λ o. here o) (sym e) ∙ (λ i. le-leb low place a i && lt-ltb place high b i))
  where
    here : Option ℕ → Bool
    here None = true
    here (Some q) = nat_le low q && nat_lt q high
within (Some p ∷ places) low high place (inr i) a b = or-right (nat_le low p && nat_lt p high) (some_place_within low high places) (within places low high place i a b)
  where
    or-right : (b c : Bool) → c ≡ true → (b || c) ≡ true
    or-right true c e = refl
    or-right false c e = e

split : (width k : ℕ) → (k < width) ⊎ ((j : ℕ) × (k ≡ width + j))
split zero k = inr (k, omega arith)
split (suc width) zero = inl (omega arith)
split (suc width) (suc k) = elim (split width k) [ inl a ↦ inl (omega (arith, a)) | inr b ↦ inr (b.0, (let e : k ≡ width + b.0 = b.1 in omega (arith, e))) ]

at-left : (x rest : LogicValue) (width k : ℕ) → length x ≡ width → k < width → bit_at (x ++ rest) k ≡ bit_at x k
at-left x rest width k e h = get_or_append_left x rest X k (subst (λ n. k < n) (sym e) h)

at-right : (x rest : LogicValue) (width k j : ℕ) → length x ≡ width → k ≡ width + j → bit_at (x ++ rest) k ≡ bit_at rest j
at-right x rest width k j e h = ap (bit_at (x ++ rest)) (h ∙ ap (λ n. n + j) (sym e)) ∙ get_or-append-add x rest j X

-- a bit at a place that is asked for is the same, whatever the pieces hold that are not read
select-same : (v w : ℕ → LogicValue) (places : List (Option ℕ)) (place offset k : ℕ) (pieces : List Piece) → offset + k ≡ place → In (Some place) places →
    PiecesFit v pieces → FitOrEmpty w pieces → Agree v w (slice_pieces (slices_at places offset pieces)) → bit_at (vector_value v pieces) k ≡ bit_at (vector_value w pieces) k
select-same v w places place offset k [] at i f g h = refl
select-same v w places place offset k (piece ∷ pieces) at i f g h = elim (split piece.width k) [
  | inl low ↦ inside low g
  | inr high ↦
      at-right (v piece.object) (vector_value v pieces) piece.width k high.0 f.0 high.1
      ∙ select-same v w places place (offset + piece.width) high.0 pieces (moved high.0 high.1) i f.1 (either-tail w piece pieces g)
      (agree-right v w (slice_piece (if some_place_within offset (offset + piece.width) places then Some piece.object else None) piece.width)
      (slice_pieces (slices_at places (offset + piece.width) pieces)) h)
      ∙ sym (beyond high.0 high.1 g)
]
  where
    moved : (j : ℕ) → k ≡ piece.width + j → (offset + piece.width) + j ≡ place
    moved j e = omega (arith, at, e)

    beyond : (j : ℕ) → k ≡ piece.width + j → FitOrEmpty w (piece ∷ pieces) → bit_at (vector_value w (piece ∷ pieces)) k ≡ bit_at (vector_value w pieces) j
    beyond j e (inl fit) = at-right (w piece.object) (vector_value w pieces) piece.width k j fit.0 e
    beyond j e (inr empty) = ap (λ x. bit_at x k) (vector-empty w (piece ∷ pieces) empty) ∙ sym (ap (λ x. bit_at x j) (vector-empty w pieces empty))

    read : k < piece.width → v piece.object ≡ w piece.object
    read low =
        (subst (λ b. Agree v w (slice_piece (if b then Some piece.object else None) piece.width))
        (within places offset (offset + piece.width) place i (omega (arith, at)) (omega (arith, at, low)))
        (agree-left v w (slice_piece (if some_place_within offset (offset + piece.width) places then Some piece.object else None) piece.width)
        (slice_pieces (slices_at places (offset + piece.width) pieces)) h)).0

    inside : k < piece.width → FitOrEmpty w (piece ∷ pieces) → bit_at (vector_value v (piece ∷ pieces)) k ≡ bit_at (vector_value w (piece ∷ pieces)) k
    inside low (inl fit) =
        at-left (v piece.object) (vector_value v pieces) piece.width k f.0 low ∙ ap (λ x. bit_at x k) (read low) ∙ sym (at-left (w piece.object) (vector_value w pieces) piece.width k fit.0 low)
    inside low (inr empty) =
        let none : length (v piece.object) ≡ 0 = ap length (read low ∙ empty piece.object) in
        let wide : length (v piece.object) ≡ piece.width = f.0 in
        absurd (omega (arith, none, wide, low))

place-same : (v w : ℕ → LogicValue) (places : List (Option ℕ)) (place : Option ℕ) (pieces : List Piece) → In place places →
    PiecesFit v pieces → FitOrEmpty w pieces → Agree v w (slice_pieces (slices_at places 0 pieces)) → bit_at_place (vector_value v pieces) place ≡ bit_at_place (vector_value w pieces) place
place-same v w places None pieces i f g h = refl
place-same v w places (Some place) pieces i f g h = select-same v w places place 0 place pieces (omega arith) i f g h

places-same : (v w : ℕ → LogicValue) (places some : List (Option ℕ)) (pieces : List Piece) → ((place : Option ℕ) → In place some → In place places) →
    PiecesFit v pieces → FitOrEmpty w pieces → Agree v w (slice_pieces (slices_at places 0 pieces)) → map (bit_at_place (vector_value v pieces)) some ≡ map (bit_at_place (vector_value w pieces)) some
places-same v w places [] pieces i f g h = refl
places-same v w places (place ∷ some) pieces i f g h =
    λ k. place-same v w places place pieces (i place (inl refl)) f g h k ∷ places-same v w places some pieces (λ p j. i p (inr j)) f g h k

and-parts : (b c : Bool) → (b && c) ≡ true → (b ≡ true) × (c ≡ true)
and-parts true c e = (refl, e)
and-parts false c e = cc

mutual
  -- a constant expression reads nothing
  constant-agree : (v w : ℕ → LogicValue) (e : Expression) → is_constant e ≡ true → Agree v w (pieces_read e)
  constant-agree v w (Constant width signed value) h = tt
  constant-agree v w (Name width signed vector) h = cc
  constant-agree v w (BitSelect width signed vector index) h = cc
  constant-agree v w (PartSelect width signed vector from to) h = cc
  constant-agree v w (WordSelect width signed memory index) h = cc
  constant-agree v w (Unary width signed operator a) h = constant-agree v w a h
  constant-agree v w (Binary width signed operator a b) h =
      let both : (is_constant a ≡ true) × (is_constant b ≡ true) = and-parts (is_constant a) (is_constant b) h in
      agree-append v w (pieces_read a) (pieces_read b) (constant-agree v w a both.0) (constant-agree v w b both.1)
  constant-agree v w (Conditional width signed c a b) h =
      let last : ((is_constant c && is_constant a) ≡ true) × (is_constant b ≡ true) = and-parts (is_constant c && is_constant a) (is_constant b) h in
      let both : (is_constant c ≡ true) × (is_constant a ≡ true) = and-parts (is_constant c) (is_constant a) last.0 in
      agree-append v w (pieces_read c) (pieces_read a ++ pieces_read b) (constant-agree v w c both.0)
      (agree-append v w (pieces_read a) (pieces_read b) (constant-agree v w a both.1) (constant-agree v w b last.1))
  constant-agree v w (Concatenation width signed parts) h = constants-agree v w parts h
  constant-agree v w (Replication width signed count parts) h = constants-agree v w parts h

  constants-agree : (v w : ℕ → LogicValue) (parts : Expressions) → are_constant parts ≡ true → Agree v w (parts_read parts)
  constants-agree v w no_expressions h = tt
  constants-agree v w (more_expressions part rest) h =
      let both : (is_constant part ≡ true) × (are_constant rest ≡ true) = and-parts (is_constant part) (are_constant rest) h in
      agree-append v w (pieces_read part) (parts_read rest) (constant-agree v w part both.0) (constants-agree v w rest both.1)

object-same : (v w : ℕ → LogicValue) (width : ℕ) (found : Option ℕ) → ((object : ℕ) → found ≡ Some object → v object ≡ w object) → object_value v width found ≡ object_value w width found
object-same v w width None h = refl
object-same v w width (Some object) h = h object refl

bit-same : (v w : ℕ → LogicValue) (signed : Bool) (width high low : ℕ) (pieces : List Piece) (sign : Bool) (a b n : LogicValue) (constant : Bool) → a ≡ b → (constant ≡ true → a ≡ n) →
    PiecesFit v pieces → FitOrEmpty w pieces →
    Agree v w (slice_pieces (bit_slices constant (record { high = high; low = low; pieces = pieces }) (natural_number sign n))) →
    resized signed width (bit_at_place (vector_value v pieces) (place_of_number high low (natural_number sign a)) ∷ [])
    ≡ resized signed width (bit_at_place (vector_value w pieces) (place_of_number high low (natural_number sign b)) ∷ [])
bit-same v w signed width high low pieces sign a b n true same none f g h =
    let at : a ≡ n = none refl in
    ap (λ x. resized signed width (bit_at_place (vector_value v pieces) (place_of_number high low (natural_number sign x)) ∷ [])) at
    ∙ ap (λ x. resized signed width (x ∷ []))
    (place-same v w (place_of_number high low (natural_number sign n) ∷ []) (place_of_number high low (natural_number sign n)) pieces (inl refl) f g h)
    ∙ ap (λ x. resized signed width (bit_at_place (vector_value w pieces) (place_of_number high low (natural_number sign x)) ∷ [])) (sym at ∙ same)
bit-same v w signed width high low pieces sign a b n false same none f g h =
    λ i. resized signed width (bit_at_place (whole-same v w pieces h i) (place_of_number high low (natural_number sign (same i))) ∷ [])

mutual
  pub value-same : (v w : ℕ → LogicValue) (e : Expression) → PiecesFit v (named_in e) → FitOrEmpty w (named_in e) → Agree v w (pieces_read e) → value_of v e ≡ value_of w e
  value-same v w (Constant width signed value) f g h = refl
  value-same v w (Name width signed vector) f g h = ap (resized signed width) (vector-same v w vector.pieces h)
  value-same v w (BitSelect width signed vector index) f g h =
      bit-same v w signed width vector.high vector.low vector.pieces (sign_of index) (value_of v index) (value_of w index) (value_of no_values index) (is_constant index)
      (value-same v w index (fit-right v vector.pieces (named_in index) f) (either-right w vector.pieces (named_in index) g)
      (agree-right v w (slice_pieces (bit_slices (is_constant index) vector (index_number no_values index))) (pieces_read index) h))
      (λ constant. value-same v no_values index (fit-right v vector.pieces (named_in index) f) (inr (λ object. refl)) (constant-agree v no_values index constant))
      (fit-left v vector.pieces (named_in index) f) (either-left w vector.pieces (named_in index) g)
      (agree-left v w (slice_pieces (bit_slices (is_constant index) vector (index_number no_values index))) (pieces_read index) h)
  value-same v w (PartSelect width signed vector from to) f g h =
      ap (resized signed width) (places-same v w (part_places vector.high vector.low from to) (part_places vector.high vector.low from to) vector.pieces (λ place i. i) f g h)
  value-same v w (WordSelect width signed memory index) f g h =
      ap (λ n. resized signed width (object_value v memory.width (word_at memory (natural_number (sign_of index) n))))
      (value-same v w index (fit-left v (named_in index) (memory_pieces memory) f) (either-left w (named_in index) (memory_pieces memory) g)
      (agree-left v w (pieces_read index) (memory_pieces memory) h))
      ∙ ap (resized signed width)
      (object-same v w memory.width (word_at memory (index_number w index))
      (λ object e. word_at-clear (λ o. v o ≡ w o) memory (index_number w index) object
      (words-agree v w memory.width memory.words (agree-right v w (pieces_read index) (memory_pieces memory) h)) e))
  value-same v w (Unary width signed operator a) f g h = ap (λ x. resized signed width (unary_value operator x)) (value-same v w a f g h)
  value-same v w (Binary width signed operator a b) f g h =
      let one : value_of v a ≡ value_of w a = value-same v w a (fit-left v (named_in a) (named_in b) f) (either-left w (named_in a) (named_in b) g)
      (agree-left v w (pieces_read a) (pieces_read b) h) in
      let two : value_of v b ≡ value_of w b = value-same v w b (fit-right v (named_in a) (named_in b) f) (either-right w (named_in a) (named_in b) g)
      (agree-right v w (pieces_read a) (pieces_read b) h) in
      λ i. resized signed width (binary_value operator (sign_of a) (one i) (two i))
  value-same v w (Conditional width signed c a b) f g h =
      let zero' : value_of v c ≡ value_of w c =
      value-same v w c (fit-left v (named_in c) (named_in a ++ named_in b) f) (either-left w (named_in c) (named_in a ++ named_in b) g)
      (agree-left v w (pieces_read c) (pieces_read a ++ pieces_read b) h) in
      let f' : PiecesFit v (named_in a ++ named_in b) = fit-right v (named_in c) (named_in a ++ named_in b) f in
      let g' : FitOrEmpty w (named_in a ++ named_in b) = either-right w (named_in c) (named_in a ++ named_in b) g in
      let h' : Agree v w (pieces_read a ++ pieces_read b) = agree-right v w (pieces_read c) (pieces_read a ++ pieces_read b) h in
      let one : value_of v a ≡ value_of w a = value-same v w a (fit-left v (named_in a) (named_in b) f') (either-left w (named_in a) (named_in b) g')
      (agree-left v w (pieces_read a) (pieces_read b) h') in
      let two : value_of v b ≡ value_of w b = value-same v w b (fit-right v (named_in a) (named_in b) f') (either-right w (named_in a) (named_in b) g')
      (agree-right v w (pieces_read a) (pieces_read b) h') in
      λ i. resized signed width (chosen_value (truth_of (zero' i)) (one i) (two i))
  value-same v w (Concatenation width signed parts) f g h = ap (resized signed width) (parts-same v w parts f g h)
  value-same v w (Replication width signed count parts) f g h = ap (λ x. resized signed width (repeated count x)) (parts-same v w parts f g h)

  pub parts-same : (v w : ℕ → LogicValue) (parts : Expressions) → PiecesFit v (named_in_parts parts) → FitOrEmpty w (named_in_parts parts) → Agree v w (parts_read parts) →
      parts_value v parts ≡ parts_value w parts
  parts-same v w no_expressions f g h = refl
  parts-same v w (more_expressions part rest) f g h =
      let one : value_of v part ≡ value_of w part =
      value-same v w part (fit-left v (named_in part) (named_in_parts rest) f) (either-left w (named_in part) (named_in_parts rest) g) (agree-left v w (pieces_read part) (parts_read rest) h) in
      let two : parts_value v rest ≡ parts_value w rest =
      parts-same v w rest (fit-right v (named_in part) (named_in_parts rest) f) (either-right w (named_in part) (named_in_parts rest) g) (agree-right v w (pieces_read part) (parts_read rest) h) in
      λ i. two i ++ one i

-- and so do the values of several expressions
pub labels-same : (v w : ℕ → LogicValue) (labels : Expressions) → PiecesFit v (named_in_parts labels) → PiecesFit w (named_in_parts labels) → Agree v w (parts_read labels) →
    label_values v labels ≡ label_values w labels
labels-same v w no_expressions f g h = refl
labels-same v w (more_expressions first rest) f g h =
    λ i. value-same v w first (fit-left v (named_in first) (named_in_parts rest) f) (inl (fit-left w (named_in first) (named_in_parts rest) g))
    (agree-left v w (pieces_read first) (parts_read rest) h) i
    ∷ labels-same v w rest (fit-right v (named_in first) (named_in_parts rest) f) (fit-right w (named_in first) (named_in_parts rest) g) (agree-right v w (pieces_read first) (parts_read rest) h) i
