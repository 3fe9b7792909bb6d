-- Reading the pieces that hold some bits of a name (IEEE 1364-2001, clause 4.2.1).
use Rattle.std.proofs.Common.{◌≡◌, ℕ, zero, suc, ◌+◌, ◌<◌, ◌≤◌, Bool, true, false, List, [], ◌∷◌, ◌++◌, length, get_or, take, map, Option, Some, None, refl, ap, sym, ◌∙◌, arith}
use Rattle.std.specs.Prelude.{if◌then◌else◌}
use Rattle.std.proofs.lemmas.List.{take_more, map_push}
use Rattle.four_value.specs.Values.{LogicValue, unknown}
use Rattle.v_design.specs.Trees.{Piece}
use Rattle.v_design.specs.Expressions.{Slice, Progress, Needs, Has, then_with, read_slices, slices_at, some_place_within}
use Rattle.process_operands.specs.Sought.{got}

-- Answers

-- equal functions get equal answers
pub got-same : {A B : Type 0} (f g : A → B) (p : Progress A) → ((x : A) → f x ≡ g x) → got f p ≡ got g p
got-same f g (Needs object) h = refl
got-same f g (Has answer left) h = ap (λ x. Has x left) (h answer)

-- what is needed is needed whatever is got of the answer
pub got-needs : {A B : Type 0} (f : A → B) (p : Progress A) (object : ℕ) → got f p ≡ Needs object → p ≡ Needs object
got-needs f (Needs o) object h = let e : o ≡ object = cc in ap Needs e
got-needs f (Has answer left) object h = absurd (cc)

pub got-then : {A B C : Type 0} (f : B → C) (p : Progress A) (k : A → List LogicValue → Progress B) → got f (then_with p k) ≡ then_with p (λ a left. got f (k a left))
got-then f (Needs object) k = refl
got-then f (Has answer left) k = refl

-- an answer goes on as what is got of it does
pub then_with-got : {A B C : Type 0} (f : A → B) (p : Progress A) (k : B → List LogicValue → Progress C) → then_with (got f p) k ≡ then_with p (λ a left. k (f a) left)
then_with-got f (Needs object) k = refl
then_with-got f (Has answer left) k = refl

-- one answer more of the same operands
pub got-push : {A B : Type 0} (f : A → List B) (g : A → B) (p : Progress A) (xs : List B) (b : B) (left rest : List LogicValue) → got f p ≡ Has xs left → got g p ≡ Has b rest →
    got (λ a. f a ++ (g a ∷ [])) p ≡ Has (xs ++ (b ∷ [])) rest
got-push f g (Needs object) xs b left rest h k = absurd (cc)
got-push f g (Has a l) xs b left rest h k =
    let one : f a ≡ xs = cc in
    let two : g a ≡ b = cc in
    let three : l ≡ rest = cc in
    ap (λ x. Has (x ++ (g a ∷ [])) l) one ∙ ap (λ x. Has (xs ++ (x ∷ [])) l) two ∙ ap (Has (xs ++ (b ∷ []))) three

-- the first answer of some operands
pub got-first : {A B : Type 0} (f : A → List B) (g : A → B) (p : Progress A) (b : B) (rest : List LogicValue) → ((a : A) → f a ≡ []) → got g p ≡ Has b rest →
    got (λ a. f a ++ (g a ∷ [])) p ≡ Has (b ∷ []) rest
got-first f g (Needs object) b rest h k = absurd (cc)
got-first f g (Has a l) b rest h k =
    let two : g a ≡ b = cc in
    let three : l ≡ rest = cc in
    ap (λ x. Has (x ++ (g a ∷ [])) l) (h a) ∙ ap (λ x. Has (x ∷ []) l) two ∙ ap (Has (b ∷ [])) three

-- one place more
pub got-place : {A : Type 0} {P : Type 0} {B : Type 0} (f : A → P → B) (p : Progress A) (places : List P) (i : ℕ) (d : P) (xs : List B) (b : B) (left rest : List LogicValue) → i < length places →
    (1 ≤ i → got (λ a. map (f a) (take i places)) p ≡ Has xs left) → (i ≡ 0 → xs ≡ []) → got (λ a. f a (get_or places i d)) p ≡ Has b rest →
    got (λ a. map (f a) (take (i + 1) places)) p ≡ Has (xs ++ (b ∷ [])) rest
got-place f p places i d xs b left rest low some none here =
    got-same (λ a. map (f a) (take (i + 1) places)) (λ a. map (f a) (take i places) ++ (f a (get_or places i d) ∷ [])) p
    (λ a. ap (map (f a)) (take_more places i d low) ∙ map_push (f a) (take i places) (get_or places i d))
    ∙ (first_or_more i some none)
  where
    first_or_more : (n : ℕ) → (1 ≤ n → got (λ a. map (f a) (take n places)) p ≡ Has xs left) → (n ≡ 0 → xs ≡ []) →
        got (λ a. map (f a) (take n places) ++ (f a (get_or places i d) ∷ [])) p ≡ Has (xs ++ (b ∷ [])) rest
    first_or_more zero s z = got-first (λ a. []) (λ a. f a (get_or places i d)) p b rest (λ a. refl) here ∙ ap (λ x. Has (x ++ (b ∷ [])) rest) (sym (z refl))
    first_or_more (suc n) s z = got-push (λ a. map (f a) (take (suc n) places)) (λ a. f a (get_or places i d)) p xs b left rest (s (omega arith)) here

-- Pieces

-- a piece that holds one of the places takes an operand
pub piece-read : {B : Type 0} (f : LogicValue → B) (places : List (Option ℕ)) (low : ℕ) (piece : Piece) (pieces : List Piece) (value : LogicValue) (operands left : List LogicValue) →
    some_place_within low (low + piece.width) places ≡ true → operands ≡ value ∷ left →
    got f (read_slices (slices_at places low (piece ∷ pieces)) operands) ≡ got (λ bits. f (value ++ bits)) (read_slices (slices_at places (low + piece.width) pieces) left)
piece-read f places low piece pieces value operands left within is =
    let here : Bool → Slice = λ b. record { object = if b then Some piece.object else None; width = piece.width } in
    let rest = slices_at places (low + piece.width) pieces in
    ap (λ b. got f (read_slices (here b ∷ rest) operands)) within
    ∙ ap (λ ops. got f (read_slices (here true ∷ rest) ops)) is
    ∙ got-then f (read_slices rest left) (λ more l. Has (value ++ more) l)
    ∙ sym (got-of (λ bits. f (value ++ bits)) (read_slices rest left))
  where
    got-of : {A C : Type 0} (g : A → C) (p : Progress A) → got g p ≡ then_with p (λ a l. Has (g a) l)
    got-of g (Needs object) = refl
    got-of g (Has a l) = refl

-- a piece that holds none of them takes none
pub piece-unread : {B : Type 0} (f : LogicValue → B) (places : List (Option ℕ)) (low : ℕ) (piece : Piece) (pieces : List Piece) (operands : List LogicValue) →
    some_place_within low (low + piece.width) places ≡ false →
    got f (read_slices (slices_at places low (piece ∷ pieces)) operands) ≡ got (λ bits. f (unknown piece.width ++ bits)) (read_slices (slices_at places (low + piece.width) pieces) operands)
piece-unread f places low piece pieces operands within =
    let here : Bool → Slice = λ b. record { object = if b then Some piece.object else None; width = piece.width } in
    let rest = slices_at places (low + piece.width) pieces in
    ap (λ b. got f (read_slices (here b ∷ rest) operands)) within
    ∙ got-then f (read_slices rest operands) (λ more l. Has (unknown piece.width ++ more) l)
    ∙ sym (got-of (λ bits. f (unknown piece.width ++ bits)) (read_slices rest operands))
  where
    got-of : {A C : Type 0} (g : A → C) (p : Progress A) → got g p ≡ then_with p (λ a l. Has (g a) l)
    got-of g (Needs object) = refl
    got-of g (Has a l) = refl

-- without an operand it is needed
pub piece-needed : (places : List (Option ℕ)) (low : ℕ) (piece : Piece) (pieces : List Piece) (operands : List LogicValue) →
    some_place_within low (low + piece.width) places ≡ true → operands ≡ [] → read_slices (slices_at places low (piece ∷ pieces)) operands ≡ Needs piece.object
piece-needed places low piece pieces operands within is =
    let here : Bool → Slice = λ b. record { object = if b then Some piece.object else None; width = piece.width } in
    let rest = slices_at places (low + piece.width) pieces in
    ap (λ b. read_slices (here b ∷ rest) operands) within ∙ ap (read_slices (here true ∷ rest)) is

-- a list of no length is empty
pub length_none : {A : Type 0} (xs : List A) → length xs ≡ 0 → xs ≡ []
length_none [] h = refl
length_none (x ∷ xs) h = absurd (omega (arith, h))
