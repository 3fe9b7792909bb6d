-- The objects of a select in text order are those of the pieces that it reads.
use Rattle.std.proofs.Common.{◌≡◌, ℕ, Bool, true, false, ◌&&◌, List, [], ◌∷◌, ◌++◌, refl, sym, ap, ap₂, ◌∙◌}
use Rattle.std.proofs.lemmas.List.{map-append, append_assoc}
use Rattle.v_design.specs.Trees.{Piece, Vector, Expression, Constant, Name, BitSelect, PartSelect, WordSelect, Unary, Binary, Conditional, Concatenation, Replication, Expressions, no_expressions}
use Rattle.v_design.specs.Trees.{more_expressions}
use Rattle.v_design.specs.Expressions.{is_constant, are_constant, pieces_read, parts_read, piece_objects, objects_of, slice_pieces, whole_slices, bit_slices, index_number, no_values}
use Rattle.v_elab.specs.Statements.{objects_in_text, part_objects_in_text}

both-true : (a b : Bool) → (a && b) ≡ true → (a ≡ true) × (b ≡ true)
both-true true b h = (refl, h)
both-true false b h = absurd (cc)

none-more : {A : Type 0} (xs ys : List A) → xs ≡ [] → ys ≡ [] → xs ++ ys ≡ []
none-more xs ys h k = ap₂ (λ l m. l ++ m) h k

mutual
  -- what names no object reads none
  constant-reads : (e : Expression) → is_constant e ≡ true → pieces_read e ≡ []
  constant-reads (Constant width signed value) h = refl
  constant-reads (Name width signed v) h = absurd (cc)
  constant-reads (BitSelect width signed v index) h = absurd (cc)
  constant-reads (PartSelect width signed v from to) h = absurd (cc)
  constant-reads (WordSelect width signed m index) h = absurd (cc)
  constant-reads (Unary width signed operator a) h = constant-reads a h
  constant-reads (Binary width signed operator a b) h =
      let hs = both-true (is_constant a) (is_constant b) h in
      none-more (pieces_read a) (pieces_read b) (constant-reads a hs.0) (constant-reads b hs.1)
  constant-reads (Conditional width signed c a b) h =
      let hs = both-true (is_constant c && is_constant a) (is_constant b) h in
      let ks = both-true (is_constant c) (is_constant a) hs.0 in
      none-more (pieces_read c) (pieces_read a ++ pieces_read b) (constant-reads c ks.0) (none-more (pieces_read a) (pieces_read b) (constant-reads a ks.1) (constant-reads b hs.1))
  constant-reads (Concatenation width signed parts) h = constants-read parts h
  constant-reads (Replication width signed count parts) h = constants-read parts h

  constants-read : (parts : Expressions) → are_constant parts ≡ true → parts_read parts ≡ []
  constants-read no_expressions h = refl
  constants-read (more_expressions part rest) h =
      let hs = both-true (is_constant part) (are_constant rest) h in
      none-more (pieces_read part) (parts_read rest) (constant-reads part hs.0) (constants-read rest hs.1)

mutual
  constant-text : (e : Expression) → is_constant e ≡ true → objects_in_text e ≡ []
  constant-text (Constant width signed value) h = refl
  constant-text (Name width signed v) h = absurd (cc)
  constant-text (BitSelect width signed v index) h = absurd (cc)
  constant-text (PartSelect width signed v from to) h = absurd (cc)
  constant-text (WordSelect width signed m index) h = absurd (cc)
  constant-text (Unary width signed operator a) h = constant-text a h
  constant-text (Binary width signed operator a b) h =
      let hs = both-true (is_constant a) (is_constant b) h in
      none-more (objects_in_text a) (objects_in_text b) (constant-text a hs.0) (constant-text b hs.1)
  constant-text (Conditional width signed c a b) h =
      let hs = both-true (is_constant c && is_constant a) (is_constant b) h in
      let ks = both-true (is_constant c) (is_constant a) hs.0 in
      none-more (objects_in_text c) (objects_in_text a ++ objects_in_text b) (constant-text c ks.0) (none-more (objects_in_text a) (objects_in_text b) (constant-text a ks.1) (constant-text b hs.1))
  constant-text (Concatenation width signed parts) h = constants-text parts h
  constant-text (Replication width signed count parts) h = constants-text parts h

  constants-text : (parts : Expressions) → are_constant parts ≡ true → part_objects_in_text parts ≡ []
  constants-text no_expressions h = refl
  constants-text (more_expressions part rest) h =
      let hs = both-true (is_constant part) (are_constant rest) h in
      none-more (objects_in_text part) (part_objects_in_text rest) (constant-text part hs.0) (constants-text rest hs.1)

-- a bit-select with a constant index
pub bit_constant : (width : ℕ) (signed : Bool) (v : Vector) (index : Expression) → is_constant index ≡ true →
    objects_of (BitSelect width signed v index) ≡ objects_in_text (BitSelect width signed v index)
bit_constant width signed v index h =
    let own = slice_pieces (bit_slices (is_constant index) v (index_number no_values index)) in
    map-append (λ (piece : Piece). piece.object) own (pieces_read index)
    ∙ ap (λ l. piece_objects own ++ piece_objects l) (constant-reads index h)
    ∙ ap (λ l. piece_objects own ++ l) (sym (constant-text index h))

-- all pieces of a name
whole-pieces : (pieces : List Piece) → slice_pieces (whole_slices pieces) ≡ pieces
whole-pieces [] = refl
whole-pieces (piece ∷ pieces) = ap (λ l. piece ∷ l) (whole-pieces pieces)

-- one with another index
pub bit_any : (width : ℕ) (signed : Bool) (v : Vector) (index : Expression) → is_constant index ≡ false →
    piece_objects v.pieces ++ objects_in_text index ≡ objects_in_text (BitSelect width signed v index)
bit_any width signed v index h =
    ap (λ l. piece_objects l ++ objects_in_text index) (sym (whole-pieces v.pieces))
    ∙ ap (λ b. piece_objects (slice_pieces (bit_slices b v (index_number no_values index))) ++ objects_in_text index) (sym h)

-- what is added for one, to the objects so far
pub added-constant : (e : Expression) (width : ℕ) (signed : Bool) (v : Vector) (index : Expression) (before after : List ℕ) → e ≡ BitSelect width signed v index → is_constant index ≡ true →
    after ≡ before ++ objects_of e →
    after ≡ before ++ objects_in_text e
added-constant e width signed v index before after is h had =
    had ∙ ap (λ l. before ++ l) (ap objects_of is ∙ bit_constant width signed v index h ∙ sym (ap objects_in_text is))

pub added-any : (e : Expression) (width : ℕ) (signed : Bool) (v : Vector) (index : Expression) (before between after : List ℕ) → e ≡ BitSelect width signed v index → is_constant index ≡ false →
    between ≡ before ++ piece_objects v.pieces → after ≡ between ++ objects_in_text index → after ≡ before ++ objects_in_text e
added-any e width signed v index before between after is h first had =
    had ∙ ap (λ l. l ++ objects_in_text index) first ∙ append_assoc before (piece_objects v.pieces) (objects_in_text index)
    ∙ ap (λ l. before ++ l) (bit_any width signed v index h ∙ sym (ap objects_in_text is))
