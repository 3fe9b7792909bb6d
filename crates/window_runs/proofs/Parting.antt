-- Elements in parts that are numbered from one on, one part after another (nothing of the language).
use Rattle.std.proofs.Common.{◌≡◌, ℕ, zero, suc, ◌+◌, ◌≤◌, Bool, true, false, ◌&&◌, cond, List, [], ◌∷◌, ◌++◌, map, length, refl, sym, ap, subst, ◌∙◌, arith, append-nil, zero-add}
use Rattle.std.specs.Prelude.{◌≢◌, Some, filter, nat_eq, slice_get}
use Rattle.std.proofs.lemmas.Bool.{eqb-true, eq-eqb}
use Rattle.std.proofs.lemmas.List.{map-append}
use Rattle.std.proofs.lemmas.List.Elements.{filter-append}
use Rattle.vf_base.specs.Lists.{joined, map_numbered, AllHold}

-- Lists cut as the images of their elements are

pub record IsCut {A B : Type 0} (f : A → B) (ys zs : List B) (xs : List A) : Type 0 where
  pub front : List A
  pub rest : List A
  pub is : xs ≡ front ++ rest
  pub front_is : map f front ≡ ys
  pub rest_is : map f rest ≡ zs

cut : {A B : Type 0} (f : A → B) (ys zs : List B) (xs : List A) → map f xs ≡ ys ++ zs → IsCut f ys zs xs
cut f [] zs xs e = record { front = []; rest = xs; is = refl; front_is = refl; rest_is = e }
cut f (y ∷ ys) zs [] e = cc
cut f (y ∷ ys) zs (x ∷ xs) e =
    let first : f x ≡ y = cc in
    let others : map f xs ≡ ys ++ zs = cc in
    let c = cut f ys zs xs others in
    record { front = x ∷ c.front; rest = c.rest; is = ap (λ l. x ∷ l) c.is; front_is = λ i. first i ∷ c.front_is i; rest_is = c.rest_is }

all-mapped : {A B : Type 0} (P : B → Type 0) (f : A → B) (xs : List A) → AllHold P (map f xs) → AllHold (λ x. P (f x)) xs
all-mapped P f [] h = tt
all-mapped P f (x ∷ xs) h = (h.0, all-mapped P f xs h.1)

pub all-weaken : {A : Type 0} (P Q : A → Type 0) (xs : List A) → ((x : A) → P x → Q x) → AllHold P xs → AllHold Q xs
all-weaken P Q [] from h = tt
all-weaken P Q (x ∷ xs) from h = (from x h.0, all-weaken P Q xs from h.1)

pub all-append : {A : Type 0} (P : A → Type 0) (xs ys : List A) → AllHold P xs → AllHold P ys → AllHold P (xs ++ ys)
all-append P [] ys h k = k
all-append P (x ∷ xs) ys h k = (h.0, all-append P xs ys h.1 k)

-- Parts

-- so many parts, the first of which has a number
abbrev pub AreParted : {A : Type 0} → (A → ℕ) → ℕ → ℕ → List A → Type 0
AreParted key first zero xs = xs ≡ []
AreParted {A} key first (suc count) xs = (front : List A) × ((rest : List A) × ((xs ≡ front ++ rest) × AllHold (λ x. key x ≡ first) front × AreParted key (first + 1) count rest))

pub parted : {A E C : Type 0} (told : A → E) (key : E → ℕ) (part : ℕ → C → List E) → ((n : ℕ) (c : C) → AllHold (λ e. key e ≡ n) (part n c)) →
    (first : ℕ) (cs : List C) (xs : List A) → map told xs ≡ joined (map_numbered part first cs) → AreParted (λ x. key (told x)) first (length cs) xs
parted told key part keys first [] [] e = refl
parted told key part keys first [] (x ∷ xs) e = cc
parted {A} {E} told key part keys first (c ∷ cs) xs e =
    let k = cut told (part first c) (joined (map_numbered part (first + 1) cs)) xs e in (
      k.front,
      (
        k.rest,
        (
          k.is,
          all-mapped (λ e. key e ≡ first) told k.front (subst (AllHold (λ (e : E). key e ≡ first)) (sym k.front_is) (keys first c)),
          parted told key part keys (first + 1) cs k.rest k.rest_is,
        ),
      ),
    )

-- the numbers of the elements
pub parted-from : {A : Type 0} (key : A → ℕ) (first count : ℕ) (xs : List A) → AreParted key first count xs → AllHold (λ x. first ≤ key x) xs
parted-from {A} key first zero xs h = subst (AllHold (λ (x : A). first ≤ key x)) (sym h) tt
parted-from {A} key first (suc count) xs h =
    subst (AllHold (λ (x : A). first ≤ key x)) (sym h.1.1.0)
    (all-append (λ x. first ≤ key x) h.0 h.1.0 (all-weaken (λ x. key x ≡ first) (λ x. first ≤ key x) h.0 (λ x e. omega (arith, e)) h.1.1.1)
    (all-weaken (λ x. first + 1 ≤ key x) (λ x. first ≤ key x) h.1.0 (λ x e. omega (arith, e)) (parted-from key (first + 1) count h.1.0 h.1.1.2)))

-- Elements of one part that pass a test

abbrev pub of_part : {A : Type 0} → (A → ℕ) → ℕ → (A → Bool) → List A → List A
of_part key number test xs = filter (λ x. nat_eq (key x) number && test x) xs

part-all : {A : Type 0} (key : A → ℕ) (number : ℕ) (test : A → Bool) (xs : List A) → AllHold (λ x. key x ≡ number) xs → of_part key number test xs ≡ filter test xs
part-all key number test [] h = refl
part-all {A} key number test (x ∷ xs) h =
    let here : nat_eq (key x) number ≡ true = eq-eqb (key x) number h.0 in
    λ i. cond (here i && test x) (x ∷ part-all key number test xs h.1 i) (part-all key number test xs h.1 i)

not-same : (a b : ℕ) → a ≢ b → nat_eq a b ≡ false
not-same a b apart = go (nat_eq a b) refl
  where
    go : (t : Bool) → nat_eq a b ≡ t → t ≡ false
    go true e = absurd (apart (eqb-true a b e))
    go false e = refl

pub part-none : {A : Type 0} (key : A → ℕ) (number : ℕ) (test : A → Bool) (xs : List A) → AllHold (λ x. key x ≢ number) xs → of_part key number test xs ≡ []
part-none key number test [] h = refl
part-none {A} key number test (x ∷ xs) h =
    let here : nat_eq (key x) number ≡ false = not-same (key x) number h.0 in
    let rest = part-none key number test xs h.1 in
    ap (λ b. cond (b && test x) (x ∷ of_part key number test xs) (of_part key number test xs)) here ∙ rest

-- what is told of each part is told of all
pub parted-told : {A B C : Type 0} (key : A → ℕ) (test : A → Bool) (f : A → B) (g : C → List B) (first : ℕ) (cs : List C) (xs : List A) → AreParted key first (length cs) xs →
    ((k : ℕ) (c : C) → slice_get cs k ≡ Some c → map f (of_part key (k + first) test xs) ≡ g c) → map f (filter test xs) ≡ joined (map g cs)
parted-told key test f g first [] xs h told = ap (λ l. map f (filter test l)) h
parted-told {A} {B} {C} key test f g first (c ∷ cs) xs h told =
    let more = λ (told : (k : ℕ) (d : C) → slice_get cs k ≡ Some d → map f (of_part key (k + (first + 1)) test h.1.0) ≡ g d). parted-told key test f g (first + 1) cs h.1.0 h.1.1.2 told in
    ap (λ l. map f (filter test l)) h.1.1.0
    ∙ ap (map f) (filter-append test h.0 h.1.0)
    ∙ map-append f (filter test h.0) (filter test h.1.0)
    ∙ (λ i. front i ++ more later i)
  where
    us : List A
    us = h.0

    vs : List A
    vs = h.1.0

    front : map f (filter test us) ≡ g c
    front =
        ap (map f) (sym (part-all key first test us h.1.1.1))
        ∙ ap (map f) (sym (append-nil (of_part key first test us)))
        ∙ ap (λ l. map f (of_part key first test us ++ l))
        (sym (part-none key first test vs (all-weaken (λ x. first + 1 ≤ key x) (λ x. key x ≢ first) vs (λ x low same. absurd (omega (arith, low, same)))
        (parted-from key (first + 1) (length cs) vs h.1.1.2))))
        ∙ ap (map f) (sym (filter-append (λ x. nat_eq (key x) first && test x) us vs))
        ∙ ap (λ l. map f (of_part key first test l)) (sym h.1.1.0)
        ∙ ap (λ n. map f (of_part key n test xs)) (sym (zero-add first)) ∙ told 0 c refl

    later : (k : ℕ) (d : C) → slice_get cs k ≡ Some d → map f (of_part key (k + (first + 1)) test vs) ≡ g d
    later k d here =
        (let e : k + (first + 1) ≡ suc k + first = omega arith in ap (λ n. map f (of_part key n test vs)) e)
        ∙ ap (λ l. map f (l ++ of_part key (suc k + first) test vs))
        (sym (part-none key (suc k + first) test us (all-weaken (λ x. key x ≡ first) (λ x. key x ≢ suc k + first) us (λ x low same. absurd (omega (arith, low, same))) h.1.1.1)))
        ∙ ap (map f) (sym (filter-append (λ x. nat_eq (key x) (suc k + first) && test x) us vs))
        ∙ ap (λ l. map f (of_part key (suc k + first) test l)) (sym h.1.1.0)
        ∙ told (suc k) d here
