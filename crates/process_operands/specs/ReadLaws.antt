-- What each form of an expression gets from its operands (IEEE 1364-2001, clause 4).
use Rattle.std.proofs.Common.{◌≡◌, ℕ, zero, suc, ◌+◌, ◌-◌, ◌<◌, ◌≤◌, Bool, true, false, List, [], ◌∷◌, ◌++◌, length, get_or, take, drop, replicate, map, inl, inr, None, refl, ap, sym, ◌∙◌, subst}
use Rattle.std.proofs.Common.{arith, append_assoc}
use Rattle.std.specs.Prelude.{if◌then◌else◌, ◌&&◌}
use Rattle.std.proofs.lemmas.Bool.{le-leb, cases_lt}
use Rattle.v_design.specs.declared.tree.FlatExpr.{FlatExpr}
use Rattle.v_design.specs.Plain.{expression_of, expressions_of}
use Rattle.v_design.specs.Sized.{own_width, own_width_of_parts}
use Rattle.std.proofs.lemmas.List.{drop_more, take-append-le, take_all, length-take-le}
use Rattle.four_value.specs.declared.logic.Bit.{Bit}
use Rattle.four_value.specs.declared.logic.Bit.TheVariants.{X}
use Rattle.four_value.specs.Values.{LogicValue, resized, fill_bit, natural_number}
use Rattle.v_design.specs.Trees.{Piece, Vector, Expression, Constant, Name, BitSelect, PartSelect, WordSelect, Unary, Binary, Conditional, Concatenation, Replication, Expressions, no_expressions}
use Rattle.v_design.specs.Trees.{more_expressions}
use Rattle.v_design.specs.Expressions.{sign_of, is_constant, are_constant, place_of, place_of_number, part_places, part_indexes, up_from, down_from, bit_at_place, whole_slices, slices_at}
use Rattle.v_design.specs.Expressions.{bit_slices, index_number, no_values, value_of, parts_value, Progress, Needs, Has, then_with, read_slices, read_expression, read_parts}
use Rattle.process_operands.specs.Sought.{got}
use Rattle.process_operands.specs.PartReads.{piece-unread, got-same}

-- Answers

-- an answer that is got in two ways
pub finish : {A B C : Type 0} (f : A → C) (g : A → B) (h : B → C) (p : Progress A) (b : B) (left : List LogicValue) → ((a : A) → f a ≡ h (g a)) → got g p ≡ Has b left →
    then_with p (λ a l. Has (f a) l) ≡ Has (h b) left
finish f g h (Needs object) b left same has = absurd (cc)
finish f g h (Has a l) b left same has =
    let one : g a ≡ b = cc in
    let two : l ≡ left = cc in
    ap (λ c. Has c l) (same a) ∙ ap (λ x. Has (h x) l) one ∙ ap (Has (h b)) two

-- the answer of the first goes on
pub then-has : {A B : Type 0} (p : Progress A) (k : A → List LogicValue → Progress B) (a : A) (left : List LogicValue) → p ≡ Has a left → then_with p k ≡ k a left
then-has p k a left h = ap (λ q. then_with q k) h

-- what the first needs is needed
pub then-needs : {A B : Type 0} (p : Progress A) (k : A → List LogicValue → Progress B) (object : ℕ) → p ≡ Needs object → then_with p k ≡ Needs object
then-needs p k object h = ap (λ q. then_with q k) h

pub got-got : {A B C : Type 0} (f : B → C) (g : A → B) (p : Progress A) → got f (got g p) ≡ got (λ a. f (g a)) p
got-got f g (Needs object) = refl
got-got f g (Has a l) = refl

pub got-own : {A : Type 0} (f : A → A) (p : Progress A) → ((a : A) → f a ≡ a) → got f p ≡ p
got-own f (Needs object) h = refl
got-own f (Has a l) h = ap (λ x. Has x l) (h a)

pub then_with-is : {A B : Type 0} (f : A → B) (p : Progress A) → then_with p (λ a l. Has (f a) l) ≡ got f p
then_with-is f (Needs object) = refl
then_with-is f (Has a l) = refl

-- Names

-- a value at a width is that of its first bits
pub resized-cut : (signed : Bool) (width most : ℕ) (bits : LogicValue) → width ≤ most → resized signed width bits ≡ resized signed width (take most bits)
resized-cut signed width most bits h =
    elim (cases_lt most (length bits)) [
      | inl over ↦
          take-append-le width bits (replicate width (fill_bit signed bits)) (omega (arith, h, over))
          ∙ sym (take-cut width most bits h)
          ∙ sym (take-append-le width (take most bits) (replicate width (fill_bit signed (take most bits))) (omega (arith, h, length-take-le most bits (omega (arith, over)))))
      | inr fits ↦ ap (resized signed width) (sym (take_all most bits fits))
    ]
  where
    take-cut : {A : Type 0} (n m : ℕ) (xs : List A) → n ≤ m → take n (take m xs) ≡ take n xs
    take-cut zero m xs h = refl
    take-cut (suc n) zero xs h = absurd (omega (arith, h))
    take-cut (suc n) (suc m) [] h = refl
    take-cut (suc n) (suc m) (x ∷ xs) h = ap (λ rest. x ∷ rest) (take-cut n m xs (omega (arith, h)))

pub reads-name : (width : ℕ) (signed : Bool) (v : Vector) (operands bits left : List _) → width ≤ 128 → got (take 128) (read_slices (whole_slices v.pieces) operands) ≡ Has bits left →
    read_expression (Name width signed v) operands ≡ Has (resized signed width bits) left
reads-name width signed v operands bits left few has =
    finish (resized signed width) (take 128) (resized signed width) (read_slices (whole_slices v.pieces) operands) bits left (λ a. resized-cut signed width 128 a few) has

-- Constants

both-true : (a b : Bool) → (a && b) ≡ true → (a ≡ true) × (b ≡ true)
both-true true b h = (refl, h)
both-true false b h = absurd (cc)

all-three : (a b c : Bool) → ((a && b) && c) ≡ true → (a && (b && c)) ≡ true
all-three true b c h = h
all-three false b c h = h

mutual
  -- an expression that names no object takes no operand
  pub reads-constant : (e : Expression) (operands : List LogicValue) → is_constant e ≡ true → read_expression e operands ≡ Has (value_of no_values e) operands
  reads-constant (Constant width signed value) operands h = refl
  reads-constant (Name width signed v) operands h = absurd (cc)
  reads-constant (BitSelect width signed v index) operands h = absurd (cc)
  reads-constant (PartSelect width signed v from to) operands h = absurd (cc)
  reads-constant (WordSelect width signed m index) operands h = absurd (cc)
  reads-constant (Unary width signed operator a) operands h = then-has (read_expression a operands) _ _ _ (reads-constant a operands h)
  reads-constant (Binary width signed operator a b) operands h =
      let hs = both-true (is_constant a) (is_constant b) h in
      then-has (read_expression a operands) _ _ _ (reads-constant a operands hs.0) ∙ then-has (read_expression b operands) _ _ _ (reads-constant b operands hs.1)
  reads-constant (Conditional width signed c a b) operands h =
      let hs = both-true (is_constant c) (is_constant a && is_constant b) (all-three (is_constant c) (is_constant a) (is_constant b) h) in
      let ks = both-true (is_constant a) (is_constant b) hs.1 in
      then-has (read_expression c operands) _ _ _ (reads-constant c operands hs.0) ∙ then-has (read_expression a operands) _ _ _ (reads-constant a operands ks.0)
      ∙ then-has (read_expression b operands) _ _ _ (reads-constant b operands ks.1)
  reads-constant (Concatenation width signed parts) operands h = then-has (read_parts parts operands) _ _ _ (reads-constant_parts parts operands h)
  reads-constant (Replication width signed count parts) operands h = then-has (read_parts parts operands) _ _ _ (reads-constant_parts parts operands h)

  pub reads-constant_parts : (parts : Expressions) (operands : List LogicValue) → are_constant parts ≡ true → read_parts parts operands ≡ Has (parts_value no_values parts) operands
  reads-constant_parts no_expressions operands h = refl
  reads-constant_parts (more_expressions part rest) operands h =
      let hs = both-true (is_constant part) (are_constant rest) h in
      then-has (read_expression part operands) _ _ _ (reads-constant part operands hs.0) ∙ then-has (read_parts rest operands) _ _ _ (reads-constant_parts rest operands hs.1)

-- A bit of a name

-- the places of one index
one-index : (i : ℕ) → part_indexes i i ≡ i ∷ []
one-index i =
    let n : i - i + 1 ≡ 1 = omega arith in
    ap (λ b. if b then up_from i (i - i + 1) else down_from i (i - i + 1)) (le-leb i i (omega arith)) ∙ ap (up_from i) n

pub one-place : (high low i : ℕ) → part_places high low i i ≡ place_of high low i ∷ []
one-place high low i = ap (map (place_of high low)) (one-index i)

pub one-width : (i : ℕ) → length (part_indexes i i) ≡ 1
one-width i = ap length (one-index i)

-- an index that selects no bit takes no operand
pub reads-nowhere : (low : ℕ) (pieces : List Piece) (operands : List LogicValue) → got (λ (bits : LogicValue). X) (read_slices (slices_at (None ∷ []) low pieces) operands) ≡ Has X operands
reads-nowhere low [] operands = refl
reads-nowhere low (piece ∷ pieces) operands = piece-unread (λ (bits : LogicValue). X) (None ∷ []) low piece pieces operands refl ∙ reads-nowhere (low + piece.width) pieces operands

pub constant-value : (index : Expression) (value : LogicValue) (operands left : List LogicValue) → is_constant index ≡ true → read_expression index operands ≡ Has value left →
    value_of no_values index ≡ value
constant-value index value operands left h has = let own = reads-constant index operands h in cc

constant-left : (index : Expression) (value : LogicValue) (operands left : List LogicValue) → is_constant index ≡ true → read_expression index operands ≡ Has value left → left ≡ operands
constant-left index value operands left h has = let own = reads-constant index operands h in cc

-- a constant index never needs an operand
pub constant-needs : (index : Expression) (operands : List LogicValue) (object : ℕ) → is_constant index ≡ true → read_expression index operands ≡ Needs object → ⊥
constant-needs index operands object h needs = let own = reads-constant index operands h in absurd (cc)

-- what a constant index needs
pub bit-needs : (v : Vector) (index : Expression) (operands left value : List _) (object : ℕ) → is_constant index ≡ true → read_expression index operands ≡ Has value left →
    read_slices (slices_at (place_of_number v.high v.low (natural_number (sign_of index) value) ∷ []) 0 v.pieces) left ≡ Needs object →
    (width : ℕ) (signed : Bool) → read_expression (BitSelect width signed v index) operands ≡ Needs object
bit-needs v index operands left value object h has needs width signed =
    let here : read_slices (bit_slices (is_constant index) v (index_number no_values index)) operands ≡ Needs object =
    ap (λ b. read_slices (bit_slices b v (index_number no_values index)) operands) h
    ∙ ap (λ x. read_slices (slices_at (place_of_number v.high v.low (natural_number (sign_of index) x) ∷ []) 0 v.pieces) operands) (constant-value index value operands left h has)
    ∙ ap (read_slices (slices_at (place_of_number v.high v.low (natural_number (sign_of index) value) ∷ []) 0 v.pieces)) (sym (constant-left index value operands left h has))
    ∙ needs in
    then-needs (read_slices (bit_slices (is_constant index) v (index_number no_values index)) operands) _ object here

bit-finish : (v : Vector) (index : Expression) (bit : Bit) (left : List LogicValue) (width : ℕ) (signed : Bool) (progress : Progress LogicValue) → is_constant index ≡ true →
    got (λ bits. bit_at_place bits (place_of_number v.high v.low (index_number no_values index))) progress ≡ Has bit left →
    then_with progress (λ bits rest. then_with (read_expression index rest)
    (λ number l. Has (resized signed width (bit_at_place bits (place_of_number v.high v.low (natural_number (sign_of index) number)) ∷ [])) l)) ≡ Has (resized signed width (bit ∷ [])) left
bit-finish v index bit left width signed (Needs object) h has = absurd (cc)
bit-finish v index bit left width signed (Has bits rest) h has =
    let one : bit_at_place bits (place_of_number v.high v.low (index_number no_values index)) ≡ bit = cc in
    let two : rest ≡ left = cc in
    then-has (read_expression index rest) _ _ _ (reads-constant index rest h)
    ∙ ap (λ b. Has (resized signed width (b ∷ [])) rest) one ∙ ap (Has (resized signed width (bit ∷ []))) two

-- the bit that a constant index selects
pub bit-has : (v : Vector) (index : Expression) (operands left rest value : List _) (bit : Bit) → is_constant index ≡ true → read_expression index operands ≡ Has value left →
    got (λ bits. bit_at_place bits (place_of_number v.high v.low (natural_number (sign_of index) value)))
    (read_slices (slices_at (place_of_number v.high v.low (natural_number (sign_of index) value) ∷ []) 0 v.pieces) left) ≡ Has bit rest →
    (width : ℕ) (signed : Bool) → read_expression (BitSelect width signed v index) operands ≡ Has (resized signed width (bit ∷ [])) rest
bit-has v index operands left rest value bit h has own width signed =
    let P : List LogicValue → LogicValue → Type 0 = λ l x. got (λ bits. bit_at_place bits (place_of_number v.high v.low (natural_number (sign_of index) x)))
    (read_slices (slices_at (place_of_number v.high v.low (natural_number (sign_of index) x) ∷ []) 0 v.pieces) l) ≡ Has bit rest in
    let one : P operands value = subst (λ l. P l value) (constant-left index value operands left h has) own in
    let two : P operands (value_of no_values index) = subst (P operands) (sym (constant-value index value operands left h has)) one in
    bit-finish v index bit rest width signed (read_slices (bit_slices (is_constant index) v (index_number no_values index)) operands) h
    (ap (λ b. got (λ bits. bit_at_place bits (place_of_number v.high v.low (index_number no_values index))) (read_slices (bit_slices b v (index_number no_values index)) operands)) h ∙ two)

-- Concatenations

-- one part more
pub parts-more : (part : Expression) (rest : Expressions) (operands left value bits : List _) → read_expression part operands ≡ Has value left →
    got (λ (lower : LogicValue). lower ++ bits) (read_parts (more_expressions part rest) operands) ≡ got (λ (lower : LogicValue). lower ++ (value ++ bits)) (read_parts rest left)
parts-more part rest operands left value bits has =
    ap (got (λ (lower : LogicValue). lower ++ bits)) (then-has (read_expression part operands) _ value left has ∙ then_with-is (λ (lower : LogicValue). lower ++ value) (read_parts rest left))
    ∙ got-got (λ (lower : LogicValue). lower ++ bits) (λ (lower : LogicValue). lower ++ value) (read_parts rest left)
    ∙ got-same (λ (lower : LogicValue). (lower ++ value) ++ bits) (λ lower. lower ++ (value ++ bits)) (read_parts rest left) (λ lower. append_assoc lower value bits)

-- the parts from a number on
pub read_parts-at : (parts : List FlatExpr) (i : ℕ) (d : FlatExpr) → i < length parts → expressions_of (drop i parts) ≡ more_expressions (expression_of (get_or parts i d))
    (expressions_of (drop (i + 1) parts))
read_parts-at parts i d low = ap expressions_of (drop_more parts i d low)

-- their width
pub own_width-at : (parts : List FlatExpr) (i : ℕ) (d : FlatExpr) → i < length parts →
    own_width_of_parts (expressions_of (drop i parts)) ≡ own_width (expression_of (get_or parts i d)) + own_width_of_parts (expressions_of (drop (i + 1) parts))
own_width-at parts i d low = ap own_width_of_parts (read_parts-at parts i d low)
