-- Lists whose elements differ by a relation, each from all later ones (nothing of the language).
use Rattle.std.proofs.Common.{◌≡◌, ℕ, zero, suc, ◌+◌, ◌<◌, ◌≤◌, List, [], ◌∷◌, ◌++◌, map, Some, refl, ap, ◌∙◌, subst, arith}
use Rattle.std.specs.Prelude.{◌≢◌, slice_get, flat_map}
use Rattle.vf_base.specs.Lists.{AllHold, joined, map_numbered}
use Rattle.v_design.specs.Expressions.{up_from}
use Rattle.v_design.specs.Sites.{AllDiffer}
use Rattle.graph_order.specs.ListLaws.{AllHold-slice_get}
use Rattle.flat_laws.specs.Lists.{same_some, AllHold-from}
use Rattle.flat_laws.specs.Numbered.{at-numbered, AllHold-each, AllHold-append, AllHold-flat_map, AllHold-map}

-- each element stands so to all later ones
abbrev pub AllApart : {A : Type 0} → (A → A → Type 0) → List A → Type 0
AllApart R [] = Unit {0}
AllApart R (x ∷ xs) = AllHold (R x) xs × AllApart R xs

-- each element of one list stands so to each of another
abbrev pub Across : {A : Type 0} → (A → A → Type 0) → List A → List A → Type 0
Across R xs ys = AllHold (λ x. AllHold (R x) ys) xs

pub across-from : {A : Type 0} (R : A → A → Type 0) (xs ys : List A) → ((i j : ℕ) (x y : A) → slice_get xs i ≡ Some x → slice_get ys j ≡ Some y → R x y) → Across R xs ys
across-from R xs ys each = AllHold-from (λ x. AllHold (R x) ys) xs (λ i x at_x. AllHold-from (R x) ys (λ j y at_y. each i j x y at_x at_y))

pub apart-from : {A : Type 0} (R : A → A → Type 0) (xs : List A) → ((i j : ℕ) (x y : A) → slice_get xs i ≡ Some x → slice_get xs j ≡ Some y → i < j → R x y) → AllApart R xs
apart-from R [] each = tt
apart-from R (x ∷ xs) each =
    (AllHold-from (R x) xs (λ j y at. each 0 (suc j) x y refl at (omega arith)), apart-from R xs (λ i j y z at_y at_z less. each (suc i) (suc j) y z at_y at_z (omega (arith, less))))

pub apart-at : {A : Type 0} (R : A → A → Type 0) (xs : List A) → AllApart R xs → (i j : ℕ) (x y : A) → slice_get xs i ≡ Some x → slice_get xs j ≡ Some y → i < j → R x y
apart-at R [] h i j x y at_x at_y less = absurd (cc)
apart-at R (first ∷ xs) h i zero x y at_x at_y less = absurd (omega (arith, less))
apart-at R (first ∷ xs) h zero (suc j) x y at_x at_y less = subst (λ z. R z y) (same_some first x at_x) (AllHold-slice_get (R first) xs j y h.0 at_y)
apart-at R (first ∷ xs) h (suc i) (suc j) x y at_x at_y less = apart-at R xs h.1 i j x y at_x at_y (omega (arith, less))

pub apart-each : {A : Type 0} (R S : A → A → Type 0) (xs : List A) → ((x y : A) → R x y → S x y) → AllApart R xs → AllApart S xs
apart-each R S [] each h = tt
apart-each R S (x ∷ xs) each h = (AllHold-each (R x) (S x) xs (each x) h.0, apart-each R S xs each h.1)

pub apart-map : {A B : Type 0} (R : B → B → Type 0) (f : A → B) (xs : List A) → AllApart (λ x y. R (f x) (f y)) xs → AllApart R (map f xs)
apart-map R f [] h = tt
apart-map R f (x ∷ xs) h = (AllHold-map (R (f x)) f xs h.0, apart-map R f xs h.1)

pub apart-append : {A : Type 0} (R : A → A → Type 0) (xs ys : List A) → AllApart R xs → AllApart R ys → Across R xs ys → AllApart R (xs ++ ys)
apart-append R [] ys h k each = k
apart-append R (x ∷ xs) ys h k each = (AllHold-append (R x) xs ys h.0 each.0, apart-append R xs ys h.1 k each.1)

pub AllHold-joined : {A : Type 0} (P : A → Type 0) (lists : List (List A)) → AllHold (AllHold P) lists → AllHold P (joined lists)
AllHold-joined P [] h = tt
AllHold-joined P (xs ∷ lists) h = AllHold-append P xs (joined lists) h.0 (AllHold-joined P lists h.1)

-- of lists that are joined each is so within, and each to all later ones
pub apart-joined : {A : Type 0} (R : A → A → Type 0) (lists : List (List A)) → AllHold (AllApart R) lists → AllApart (Across R) lists → AllApart R (joined lists)
apart-joined R [] h k = tt
apart-joined R (xs ∷ lists) h k =
    apart-append R xs (joined lists) h.0 (apart-joined R lists h.1 k.1)
    (AllHold-from (λ x. AllHold (R x) (joined lists)) xs
    (λ i x at. AllHold-joined (R x) lists (AllHold-each (Across R xs) (AllHold (R x)) lists (λ ys each. AllHold-slice_get (λ y. AllHold (R y) ys) xs i x each at) k.0)))

pub apart-flat_map : {A B : Type 0} (R : B → B → Type 0) (f : A → List B) (xs : List A) → AllHold (λ x. AllApart R (f x)) xs → AllApart (λ x y. Across R (f x) (f y)) xs → AllApart R (flat_map f xs)
apart-flat_map R f [] h k = tt
apart-flat_map R f (x ∷ xs) h k =
    apart-append R (f x) (flat_map f xs) h.0 (apart-flat_map R f xs h.1 k.1)
    (AllHold-from (λ b. AllHold (R b) (flat_map f xs)) (f x)
    (λ i b at. AllHold-flat_map (R b) f xs (AllHold-each (λ y. Across R (f x) (f y)) (λ y. AllHold (R b) (f y)) xs (λ y each. AllHold-slice_get (λ c. AllHold (R c) (f y)) (f x) i b each at) k.0)))

-- the same of lists that are made of numbered elements
pub apart-numbered : {A B : Type 0} (R : B → B → Type 0) (f : ℕ → A → List B) (xs : List A) → ((i : ℕ) (x : A) → slice_get xs i ≡ Some x → AllApart R (f i x)) →
    ((i j : ℕ) (x y : A) → slice_get xs i ≡ Some x → slice_get xs j ≡ Some y → i < j → Across R (f i x) (f j y)) → AllApart R (joined (map_numbered f 0 xs))
apart-numbered R f xs own each =
    apart-joined R (map_numbered f 0 xs)
    (AllHold-from (AllApart R) (map_numbered f 0 xs) (λ i list at. let r = at-numbered f 0 xs i list at in subst (AllApart R) (moved i r.0 list r.2) (own i r.0 r.1)))
    (apart-from (Across R) (map_numbered f 0 xs)
    (λ i j one other at_one at_other less.
    let r = at-numbered f 0 xs i one at_one in
    let s = at-numbered f 0 xs j other at_other in
    subst (Across R one) (moved j s.0 other s.2) (subst (λ l. Across R l (f j s.0)) (moved i r.0 one r.2) (each i j r.0 s.0 r.1 s.1 less))))
  where
    moved : (i : ℕ) (x : _) (list : _) → f (0 + i) x ≡ list → f i x ≡ list
    moved i x list e = let same : i ≡ 0 + i = omega arith in ap (λ k. f k x) same ∙ e

pub AllHold-numbered : {A B : Type 0} (P : B → Type 0) (f : ℕ → A → List B) (xs : List A) → ((i : ℕ) (x : A) → slice_get xs i ≡ Some x → AllHold P (f i x)) → AllHold P (joined (map_numbered f 0 xs))
AllHold-numbered P f xs each =
    AllHold-joined P (map_numbered f 0 xs)
    (AllHold-from (AllHold P) (map_numbered f 0 xs)
    (λ i list at. let r = at-numbered f 0 xs i list at in let same : i ≡ 0 + i = omega arith in subst (AllHold P) (ap (λ k. f k r.0) same ∙ r.2) (each i r.0 r.1)))

-- Numbers upwards

pub AllHold-upwards : (P : ℕ → Type 0) (start count : ℕ) → ((n : ℕ) → start ≤ n → n < start + count → P n) → AllHold P (up_from start count)
AllHold-upwards P start zero each = tt
AllHold-upwards P start (suc count) each = (each start (omega arith) (omega arith), AllHold-upwards P (start + 1) count (λ n low high. each n (omega (arith, low)) (omega (arith, high))))

pub apart-upwards : (R : ℕ → ℕ → Type 0) (start count : ℕ) → ((m n : ℕ) → start ≤ m → m < n → n < start + count → R m n) → AllApart R (up_from start count)
apart-upwards R start zero each = tt
apart-upwards R start (suc count) each = (
  AllHold-upwards (R start) (start + 1) count (λ n low high. each start n (omega arith) (omega (arith, low)) (omega (arith, high))),
  apart-upwards R (start + 1) count (λ m n low less high. each m n (omega (arith, low)) less (omega (arith, high))),
)

-- Names

-- names of which no two are the same
pub differ-from : (names : List (List ℕ)) → AllApart (λ one other. one ≢ other) names → AllDiffer names
differ-from [] h = tt
differ-from (name ∷ names) h = (h.0, differ-from names h.1)
