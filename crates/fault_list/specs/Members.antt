-- Membership in lists, ranges and searches, as far as the laws on sites and names need it (nothing of the language).
use Rattle.std.proofs.Common.{◌≡◌, ℕ, zero, suc, ◌+◌, ◌<◌, ◌≤◌, Bool, true, false, List, [], ◌∷◌, ◌++◌, length, map, filter, get_or, Option, Some, None, refl, ap, sym, ◌∙◌, subst, arith, ◌⊎◌, inl}
use Rattle.std.proofs.Common.{inr, ⊎_elim, cond, find}
use Rattle.std.specs.Prelude.{slice_get, nat_eq}
use Rattle.std.specs.List.{Contains}
use Rattle.std.proofs.lemmas.Bool.{or_cases, or_left, or_right, eqb-true, eq-eqb, false≢true}
use Rattle.vf_base.specs.Lists.{joined, map_numbered, has, first_place, earlier_place, AllHold}
use Rattle.v_design.specs.Expressions.{up_from}
use Rattle.v_design.specs.Paths.{numbers_of}
use Rattle.v_design.specs.Designs.{FlatObject, FlatNode}
use Rattle.fault_list.specs.Spelled.{or_else, first_answer}

-- Membership

-- an element stands in a list
pub data In {A : Type 0} (x : A) : List A → Type 0 where
  here : (xs : List A) → In x (x ∷ xs)
  there : (y : A) (xs : List A) → In x xs → In x (y ∷ xs)

pub in-left : {A : Type 0} (x : A) (xs ys : List A) → In x xs → In x (xs ++ ys)
in-left x _ ys (here xs) = here (xs ++ ys)
in-left x _ ys (there y xs h) = there y (xs ++ ys) (in-left x xs ys h)

pub in-right : {A : Type 0} (x : A) (xs ys : List A) → In x ys → In x (xs ++ ys)
in-right x [] ys h = h
in-right x (y ∷ xs) ys h = there y (xs ++ ys) (in-right x xs ys h)

pub in-append : {A : Type 0} (x : A) (xs ys : List A) → In x (xs ++ ys) → (In x xs) ⊎ (In x ys)
in-append x [] ys h = inr h
in-append x (y ∷ xs) ys (here _) = inl (here xs)
in-append x (y ∷ xs) ys (there _ _ h) = ⊎_elim (λ (l : In x xs). inl (there y xs l)) (λ (r : In x ys). inr r) (in-append x xs ys h)

pub in-map : {A B : Type 0} (f : A → B) (x : A) (xs : List A) → In x xs → In (f x) (map f xs)
in-map f x _ (here xs) = here (map f xs)
in-map f x _ (there y xs h) = there (f y) (map f xs) (in-map f x xs h)

pub in-cons : {A : Type 0} (x y : A) (xs : List A) → In x (y ∷ xs) → (y ≡ x) ⊎ (In x xs)
in-cons x _ _ (here xs) = inl refl
in-cons x y xs (there _ _ h) = inr h

-- what stands in a mapped list comes of an element
pub map-in : {A B : Type 0} (f : A → B) (y : B) (xs : List A) → In y (map f xs) → (x : A) × (In x xs) × (f x ≡ y)
map-in f y [] h = elim h [ ]
map-in f y (x ∷ xs) (here _) = (x, here xs, refl)
map-in f y (x ∷ xs) (there _ _ h) = let r = map-in f y xs h in (r.0, there x xs r.1, r.2)

pub in-joined : {A : Type 0} (x : A) (l : List A) (lists : List (List A)) → In x l → In l lists → In x (joined lists)
in-joined x l _ h (here rest) = in-left x l (joined rest) h
in-joined x l _ h (there m rest at) = in-right x m (joined rest) (in-joined x l rest h at)

pub joined-in : {A : Type 0} (x : A) (lists : List (List A)) → In x (joined lists) → (l : List A) × (In x l) × (In l lists)
joined-in x [] h = elim h [ ]
joined-in x (l ∷ lists) h =
    ⊎_elim (λ (a : In x l). (l, a, here lists)) (λ (b : In x (joined lists)). let r = joined-in x lists b in (r.0, r.1, there l lists r.2)) (in-append x l (joined lists) h)

-- numbered lists
pub in-numbered : {A B : Type 0} (f : ℕ → A → List B) (y : B) (n i : ℕ) (x : A) (xs : List A) → slice_get xs i ≡ Some x → In y (f (n + i) x) → In y (joined (map_numbered f n xs))
in-numbered f y n i x [] at h = absurd (cc)
in-numbered f y n zero x (z ∷ zs) at h =
    let same : z ≡ x = cc in let e : n + 0 ≡ n = omega arith in
    in-left y (f n z) (joined (map_numbered f (n + 1) zs)) (subst (λ w. In y (f n w)) (sym same) (subst (λ k. In y (f k x)) e h))
in-numbered f y n (suc i) x (z ∷ zs) at h =
    let e : n + suc i ≡ n + 1 + i = omega arith in
    in-right y (f n z) (joined (map_numbered f (n + 1) zs)) (in-numbered f y (n + 1) i x zs at (subst (λ k. In y (f k x)) e h))

pub numbered-in : {A B : Type 0} (f : ℕ → A → List B) (y : B) (n : ℕ) (xs : List A) → In y (joined (map_numbered f n xs)) → (i : ℕ) × (x : A) × (slice_get xs i ≡ Some x) × In y (f (n + i) x)
numbered-in f y n [] h = elim h [ ]
numbered-in f y n (z ∷ zs) h =
    ⊎_elim (λ (a : In y (f n z)). let e : n ≡ n + 0 = omega arith in (0, z, refl, subst (λ k. In y (f k z)) e a))
    (λ (b : In y (joined (map_numbered f (n + 1) zs))).
    let r = numbered-in f y (n + 1) zs b in let e : n + 1 + r.0 ≡ n + suc r.0 = omega arith in
    (suc r.0, r.1, r.2, subst (λ k. In y (f k r.1)) e r.3))
    (in-append y (f n z) (joined (map_numbered f (n + 1) zs)) h)

pub in-contains : {A : Type 0} (xs : List A) (x : A) → Contains xs x → In x xs
in-contains {A} xs x c = by xs c.0 c.1 c.2
  where
    by : (ys : List A) (i : ℕ) → i < length ys → get_or ys i x ≡ x → In x ys
    by [] i low at = absurd (omega arith)
    by (y ∷ ys) zero low at = subst (λ z. In x (z ∷ ys)) (sym at) (here ys)
    by (y ∷ ys) (suc i) low at = there y ys (by ys i (omega arith) at)

pub contains-in : {A : Type 0} (x : A) (xs : List A) → In x xs → Contains xs x
contains-in x _ (here xs) = (0, omega arith, refl)
contains-in x _ (there y xs h) = let r = contains-in x xs h in (suc r.0, omega (arith, r.1), r.2)

-- Ranges

pub up-in : (start count n : ℕ) → In n (up_from start count) → (start ≤ n) × (n < start + count)
up-in start zero n h = elim h [ ]
up-in start (suc count) n (here _) = (omega arith, omega arith)
up-in start (suc count) n (there _ _ h) = let r = up-in (start + 1) count n h in (omega arith, omega arith)

pub in-up : (start count n : ℕ) → start ≤ n → n < start + count → In n (up_from start count)
in-up start zero n low high = absurd (omega arith)
in-up start (suc count) n low high =
    ⊎_elim (λ (e : start ≡ n). subst (λ k. In k (start ∷ up_from (start + 1) count)) e (here (up_from (start + 1) count)))
    (λ (l : start + 1 ≤ n). there start (up_from (start + 1) count) (in-up (start + 1) count n l (omega arith))) (first-or-later start n low)
  where
    first-or-later : (a b : ℕ) → a ≤ b → (a ≡ b) ⊎ (a + 1 ≤ b)
    first-or-later a b le = grind arith

-- Searches

pub find-sound : (p : ℕ → Bool) (xs : List ℕ) (n : ℕ) → find p xs ≡ Some n → (In n xs) × (p n ≡ true)
find-sound p [] n e = absurd (cc)
find-sound p (x ∷ xs) n e =
    elim (p x) as (λ b. p x ≡ b → cond b (Some x) (find p xs) ≡ Some n → (In n (x ∷ xs)) × (p n ≡ true)) [
      | true ↦ λ passes h. let same : x ≡ n = cc in (subst (λ k. In k (x ∷ xs)) same (here xs), ap p (sym same) ∙ passes)
      | false ↦ λ fails h. let r = find-sound p xs n h in (there x xs r.0, r.1)
    ] refl e

pub find-complete : (p : ℕ → Bool) (xs : List ℕ) (n : ℕ) → In n xs → p n ≡ true → (m : ℕ) × (find p xs ≡ Some m)
find-complete p [] n h passes = elim h [ ]
find-complete p (x ∷ xs) n h passes =
    elim (p x) as (λ b. p x ≡ b → (m : ℕ) × (cond b (Some x) (find p xs) ≡ Some m)) [
      | true ↦ λ is. (x, refl)
      | false ↦ λ is. ⊎_elim (λ (a : x ≡ n). absurd (false≢true (sym is ∙ (ap p a ∙ passes)))) (λ (b : In n xs). find-complete p xs n b passes) (in-cons n x xs h)
    ] refl

-- the first answer comes of an element
pub answer-sound : {A B : Type 0} (f : ℕ → A → Option B) (n : ℕ) (xs : List A) (y : B) → first_answer f n xs ≡ Some y → (i : ℕ) × (x : A) × (slice_get xs i ≡ Some x) × (f (n + i) x ≡ Some y)
answer-sound f n [] y e = absurd (cc)
answer-sound {A} {B} f n (x ∷ xs) y e =
    elim (f n x) as (λ o. f n x ≡ o → or_else o (first_answer f (n + 1) xs) ≡ Some y → (i : ℕ) × (z : A) × (slice_get (x ∷ xs) i ≡ Some z) × (f (n + i) z ≡ Some y)) [
      | None ↦ λ is h. let r = answer-sound f (n + 1) xs y h in let e' : n + 1 + r.0 ≡ n + suc r.0 = omega arith in (suc r.0, r.1, r.2, subst (λ k. f k r.1 ≡ Some y) e' r.3)
      | Some w ↦ λ is h. let same : w ≡ y = cc in let e' : n ≡ n + 0 = omega arith in (0, x, refl, subst (λ k. f k x ≡ Some y) e' (is ∙ ap (λ v. Some v) same))
    ] refl e

pub answer-complete : {A B : Type 0} (f : ℕ → A → Option B) (n i : ℕ) (x : A) (xs : List A) (y : B) → slice_get xs i ≡ Some x → f (n + i) x ≡ Some y → (z : B) × (first_answer f n xs ≡ Some z)
answer-complete f n i x [] y at e = absurd (cc)
answer-complete f n zero x (w ∷ ws) y at e =
    let same : w ≡ x = cc in let k : n + 0 ≡ n = omega arith in
    let first : f n w ≡ Some y = subst (λ v. f n v ≡ Some y) (sym same) (subst (λ m. f m x ≡ Some y) k e) in
    (y, ap (λ o. or_else o (first_answer f (n + 1) ws)) first)
answer-complete {A} {B} f n (suc i) x (w ∷ ws) y at e =
    let k : n + suc i ≡ n + 1 + i = omega arith in
    let r = answer-complete f (n + 1) i x ws y at (subst (λ m. f m x ≡ Some y) k e) in
    elim (f n w) as (λ o. (z : B) × (or_else o (first_answer f (n + 1) ws) ≡ Some z)) [ None ↦ r | Some v ↦ (v, refl) ]

pub AllHold-in : {A : Type 0} (P : A → Type 0) (xs : List A) (x : A) → AllHold P xs → In x xs → P x
AllHold-in P [] x all h = elim h [ ]
AllHold-in P (y ∷ ys) x all h = ⊎_elim (λ (e : y ≡ x). subst P e all.0) (λ (l : In x ys). AllHold-in P ys x all.1 l) (in-cons x y ys h)

pub in-has : (xs : List ℕ) (n : ℕ) → has xs n ≡ true → In n xs
in-has [] n e = absurd (false≢true e)
in-has (x ∷ xs) n e =
    ⊎_elim (λ (a : nat_eq x n ≡ true). subst (λ k. In k (x ∷ xs)) (eqb-true x n a) (here xs)) (λ (b : has xs n ≡ true). there x xs (in-has xs n b)) (or_cases (nat_eq x n) (has xs n) e)

pub has-in : (xs : List ℕ) (n : ℕ) → In n xs → has xs n ≡ true
has-in [] n h = elim h [ ]
has-in (x ∷ xs) n h = ⊎_elim (λ (a : x ≡ n). or_left (nat_eq x n) (has xs n) (eq-eqb x n a)) (λ (b : In n xs). or_right (nat_eq x n) (has xs n) (has-in xs n b)) (in-cons n x xs h)

-- Filters

pub has-filter : (test : ℕ → Bool) (xs : List ℕ) (n : ℕ) → has (filter test xs) n ≡ true → (has xs n ≡ true) × (test n ≡ true)
has-filter test [] n e = absurd (false≢true e)
has-filter test (x ∷ xs) n e =
    elim (test x) as (λ b. test x ≡ b → has (cond b (x ∷ filter test xs) (filter test xs)) n ≡ true → (has (x ∷ xs) n ≡ true) × (test n ≡ true)) [
      | true ↦ λ passes h. elim (or_cases (nat_eq x n) (has (filter test xs) n) h) [
        | inl same ↦ (or_left (nat_eq x n) (has xs n) same, ap test (sym (eqb-true x n same)) ∙ passes)
        | inr after ↦ let r = has-filter test xs n after in (or_right (nat_eq x n) (has xs n) r.0, r.1)
      ]
      | false ↦ λ fails h. let r = has-filter test xs n h in (or_right (nat_eq x n) (has xs n) r.0, r.1)
    ] refl e

pub filter-has : (test : ℕ → Bool) (xs : List ℕ) (n : ℕ) → has xs n ≡ true → test n ≡ true → has (filter test xs) n ≡ true
filter-has test [] n e passes = absurd (false≢true e)
filter-has test (x ∷ xs) n e passes =
    elim (test x) as (λ b. test x ≡ b → has (cond b (x ∷ filter test xs) (filter test xs)) n ≡ true) [
      | true ↦ λ is. elim (or_cases (nat_eq x n) (has xs n) e) [
        | inl same ↦ or_left (nat_eq x n) (has (filter test xs) n) same
        | inr after ↦ or_right (nat_eq x n) (has (filter test xs) n) (filter-has test xs n after passes)
      ]
      | false ↦ λ is. elim (or_cases (nat_eq x n) (has xs n) e) [
        | inl same ↦ absurd (false≢true (sym is ∙ (ap test (eqb-true x n same) ∙ passes)))
        | inr after ↦ filter-has test xs n after passes
      ]
    ] refl

-- Objects and nodes

pub numbers-has : (test : FlatObject → Bool) (n i : ℕ) (object : FlatObject) (objects : List FlatObject) → slice_get objects i ≡ Some object → test object ≡ true →
    has (numbers_of test n objects) (n + i) ≡ true
numbers-has test n i object [] at e = absurd (cc)
numbers-has test n zero object (o ∷ os) at e =
    let same : o ≡ object = cc in let k : n ≡ n + 0 = omega arith in
    subst (λ b. has (elim b [ true ↦ n ∷ numbers_of test (n + 1) os | false ↦ numbers_of test (n + 1) os ]) (n + 0) ≡ true) (sym (ap test same ∙ e))
    (or_left (nat_eq n (n + 0)) (has (numbers_of test (n + 1) os) (n + 0)) (eq-eqb n (n + 0) k))
numbers-has test n (suc i) object (o ∷ os) at e =
    let k : n + 1 + i ≡ n + suc i = omega arith in
    let rest : has (numbers_of test (n + 1) os) (n + suc i) ≡ true = subst (λ m. has (numbers_of test (n + 1) os) m ≡ true) k (numbers-has test (n + 1) i object os at e) in
    elim (test o) as (λ b. has (elim b [ true ↦ n ∷ numbers_of test (n + 1) os | false ↦ numbers_of test (n + 1) os ]) (n + suc i) ≡ true) [
      | true ↦ or_right (nat_eq n (n + suc i)) (has (numbers_of test (n + 1) os) (n + suc i)) rest
      | false ↦ rest
    ]

pub one-later : (test : FlatObject → Bool) (n m : ℕ) (o : FlatObject) (os : List FlatObject) →
    ((i : ℕ) × (object : FlatObject) × (m ≡ n + 1 + i) × (slice_get os i ≡ Some object) × (test object ≡ true)) →
    (i : ℕ) × (object : FlatObject) × (m ≡ n + i) × (slice_get (o ∷ os) i ≡ Some object) × (test object ≡ true)
one-later test n m o os r = let k : m ≡ n + suc r.0 = omega (arith, r.2) in (suc r.0, r.1, k, r.3, r.4)

pub has-number : (test : FlatObject → Bool) (n m : ℕ) (objects : List FlatObject) → has (numbers_of test n objects) m ≡ true →
    (i : ℕ) × (object : FlatObject) × (m ≡ n + i) × (slice_get objects i ≡ Some object) × (test object ≡ true)
has-number test n m [] e = absurd (false≢true e)
has-number test n m (o ∷ os) e =
    elim (test o) as (λ b. test o ≡ b → has (elim b [ true ↦ n ∷ numbers_of test (n + 1) os | false ↦ numbers_of test (n + 1) os ]) m ≡ true →
    (i : ℕ) × (object : FlatObject) × (m ≡ n + i) × (slice_get (o ∷ os) i ≡ Some object) × (test object ≡ true)) [
      | true ↦ λ is h. ⊎_elim (λ (a : nat_eq n m ≡ true). let k : n ≡ m = eqb-true n m a in (0, o, omega arith, refl, is))
          (λ (b : has (numbers_of test (n + 1) os) m ≡ true). one-later test n m o os (has-number test (n + 1) m os b)) (or_cases (nat_eq n m) (has (numbers_of test (n + 1) os) m) h)
      | false ↦ λ is h. one-later test n m o os (has-number test (n + 1) m os h)
    ] refl e

pub width-at : (objects : List FlatObject) (o : ℕ) (object : FlatObject) → slice_get objects o ≡ Some object → get_or (map (λ (x : FlatObject). x.width) objects) o 0 ≡ object.width
width-at [] o object at = absurd (cc)
width-at (x ∷ xs) zero object at = let same : x ≡ object = cc in ap (λ (y : FlatObject). y.width) same
width-at (x ∷ xs) (suc o) object at = width-at xs o object at

pub first-is : (o : Option ℕ) (n : ℕ) → earlier_place true o ≡ Some n → 0 ≡ n
first-is o n e = cc

pub driver-later : (object : ℕ) (x : FlatNode) (xs : List FlatNode) (n : ℕ) (o : Option ℕ) →
    ((k : ℕ) → first_place (λ (node : FlatNode). has node.outputs object) xs ≡ Some k → (node : FlatNode) × (slice_get xs k ≡ Some node) × (has node.outputs object ≡ true)) →
    first_place (λ (node : FlatNode). has node.outputs object) xs ≡ o → earlier_place false o ≡ Some n → (node : FlatNode) × (slice_get (x ∷ xs) n ≡ Some node) × (has node.outputs object ≡ true)
driver-later object x xs n None more is h = absurd (cc)
driver-later object x xs n (Some k) more is h =
    let r = more k is in let next : k + 1 ≡ n = cc in let e : suc k ≡ n = omega (arith, next) in
    (r.0, subst (λ m. slice_get (x ∷ xs) m ≡ Some r.0) e r.1, r.2)

pub driver-sound : (object : ℕ) (nodes : List FlatNode) (n : ℕ) → first_place (λ (node : FlatNode). has node.outputs object) nodes ≡ Some n →
    (node : FlatNode) × (slice_get nodes n ≡ Some node) × (has node.outputs object ≡ true)
driver-sound object [] n e = absurd (cc)
driver-sound object (x ∷ xs) n e =
    elim (has x.outputs object) as (λ b. has x.outputs object ≡ b → earlier_place b (first_place (λ (node : FlatNode). has node.outputs object) xs) ≡ Some n →
    (node : FlatNode) × (slice_get (x ∷ xs) n ≡ Some node) × (has node.outputs object ≡ true)) [
      | true ↦ λ is h. let same : 0 ≡ n = first-is (first_place (λ (node : FlatNode). has node.outputs object) xs) n h in (x, subst (λ k. slice_get (x ∷ xs) k ≡ Some x) same refl, is)
      | false ↦ λ is h. driver-later object x xs n (first_place (λ (node : FlatNode). has node.outputs object) xs) (λ k at. driver-sound object xs k at) refl h
    ] refl e

pub driver-complete : (object : ℕ) (nodes : List FlatNode) (n : ℕ) (node : FlatNode) → slice_get nodes n ≡ Some node → has node.outputs object ≡ true →
    (k : ℕ) × (first_place (λ (m : FlatNode). has m.outputs object) nodes ≡ Some k)
driver-complete object [] n node at e = absurd (cc)
driver-complete object (x ∷ xs) zero node at e =
    let same : x ≡ node = cc in (0, ap (λ b. earlier_place b (first_place (λ (m : FlatNode). has m.outputs object) xs)) (ap (λ (m : FlatNode). has m.outputs object) same ∙ e))
driver-complete object (x ∷ xs) (suc n) node at e =
    let r = driver-complete object xs n node at e in
    elim (has x.outputs object) as (λ b. (k : ℕ) × (earlier_place b (first_place (λ (m : FlatNode). has m.outputs object) xs) ≡ Some k)) [
      | true ↦ (0, refl)
      | false ↦ (r.0 + 1, ap (earlier_place false) r.1)
    ]
