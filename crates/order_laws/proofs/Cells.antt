-- A part of the state that some events of a run touch: after those that are done, which stand before a place, it is as the run has it at that place.
use Rattle.std.proofs.Common.{◌≡◌, ℕ, zero, suc, ◌+◌, ◌<◌, ◌≤◌, List, [], ◌∷◌, Bool, true, false, refl, sym, ap, subst, ◌∙◌, ◌⊎◌, inl, inr, arith}
use Rattle.std.specs.Prelude.{nat_eq}
use Rattle.std.proofs.lemmas.Bool.{eqb-true}
use Rattle.vf_base.specs.Lists.{has}
use Rattle.order_laws.proofs.PathLaws.{decided, true-false, or-either, or-second, has-self}

-- of the events that touch it those that are done are those before a place, and it holds what it holds there
pub record Cell {X : Type 0} (touches : ℕ → Bool) (content : ℕ → X) (done : List ℕ) (x : X) : Type 0 where
  pub place : ℕ
  pub before : (k : ℕ) → touches k ≡ true → has done k ≡ true → k < place
  pub known : (k : ℕ) → touches k ≡ true → k < place → has done k ≡ true
  pub same : x ≡ content place

pub le_or : (n m : ℕ) → (n ≤ m) ⊎ (m < n)
le_or zero m = inl (omega arith)
le_or (suc n) zero = inr (omega arith)
le_or (suc n) (suc m) = elim (le_or n m) [ inl a ↦ inl (omega (arith, a)) | inr b ↦ inr (omega (arith, b)) ]

pub below_or_same : (n m : ℕ) → n < suc m → (n < m) ⊎ (n ≡ m)
below_or_same n m h = elim (le_or m n) [ inl a ↦ inr (omega (arith, a, h)) | inr b ↦ inl b ]

pub difference : (n m : ℕ) → n ≤ m → (d : ℕ) × (n + d ≡ m)
difference zero m h = (m, omega arith)
difference (suc n) zero h = absurd (omega (arith, h))
difference (suc n) (suc m) h = let r = difference n m (omega (arith, h)) in (r.0, (let e : n + r.0 ≡ m = r.1 in omega (arith, e)))

-- what isn't touched stays
abbrev pub Stays : {X : Type 0} → (ℕ → Bool) → (ℕ → X) → Type 0
Stays touches content = (k : ℕ) → touches k ≡ false → content (suc k) ≡ content k

-- nothing touches it from one place up to another
abbrev pub NoneBetween : (ℕ → Bool) → ℕ → ℕ → Type 0
NoneBetween touches a b = (k : ℕ) → a ≤ k → k < b → touches k ≡ false

stays-for : {X : Type 0} (touches : ℕ → Bool) (content : ℕ → X) → Stays touches content → (a d : ℕ) → NoneBetween touches a (a + d) → content (a + d) ≡ content a
stays-for touches content stays a zero h = ap content (let e : a + 0 ≡ a = omega arith in e)
stays-for touches content stays a (suc d) h =
    ap content (let e : a + suc d ≡ suc (a + d) = omega arith in e)
    ∙ stays (a + d) (h (a + d) (omega arith) (omega arith))
    ∙ stays-for touches content stays a d (λ k b c. h k b (omega (arith, c)))

pub stays_between : {X : Type 0} (touches : ℕ → Bool) (content : ℕ → X) → Stays touches content → (a b : ℕ) → a ≤ b → NoneBetween touches a b → content b ≡ content a
stays_between touches content stays a b le h =
    let r = difference a b le in
    ap content (sym r.1) ∙ stays-for touches content stays a r.0 (λ k l c. h k l (let e : a + r.0 ≡ b = r.1 in omega (arith, c, e)))

-- it is as the run has it before an event, and next to be touched by it
pub record IsNext {X : Type 0} (touches : ℕ → Bool) (content : ℕ → X) (place : ℕ) (x : X) (i : ℕ) : Type 0 where
  pub reaches : place ≤ i
  pub between : NoneBetween touches place i
  pub now : x ≡ content i

-- an event that is not done, and of the touching ones has those before it done, and none after it
pub record InOrder (touches : ℕ → Bool) (done : List ℕ) (i : ℕ) : Type 0 where
  pub before : (k : ℕ) → touches k ≡ true → k < i → has done k ≡ true
  pub after : (k : ℕ) → touches k ≡ true → i < k → has done k ≡ true → ⊥
  pub open_still : has done i ≡ false

-- finds it as the run has it there
pub in_order : {X : Type 0} (touches : ℕ → Bool) (content : ℕ → X) (done : List ℕ) (x : X) (i : ℕ) → Stays touches content → (c : Cell touches content done x) → InOrder touches done i →
    (x ≡ content i) × (touches i ≡ true → IsNext touches content c.place x i)
in_order touches content done x i stays c o = elim (le_or c.place i) [
  | inl le ↦
      (let none : NoneBetween touches c.place i = λ k a b. elim (decided (touches k)) [
        | inl t ↦ (let z : k < c.place = c.before k t (o.before k t b) in absurd (omega (arith, z, a)))
        | inr f ↦ f
      ] in
      let e : x ≡ content i = c.same ∙ sym (stays_between touches content stays c.place i le none) in
      (e, λ t. record { reaches = le; between = none; now = e }))
  | inr gt ↦
      (let none : NoneBetween touches i c.place = λ k a b. elim (decided (touches k)) [
        | inl t ↦ elim (below_or_same i k (omega (arith, a))) [
          | inl later ↦ absurd (o.after k t later (c.known k t b))
          | inr at ↦ true-false (has done i) (subst (λ n. has done n ≡ true) (sym at) (c.known k t b)) o.open_still
        ]
        | inr f ↦ f
      ] in (
        c.same ∙ stays_between touches content stays i c.place (omega (arith, gt)) none,
        λ t. true-false (has done i) (c.known i t gt) o.open_still,
      ))
]

-- and what it leaves is as the run has it then
pub moved_on : {X : Type 0} (touches : ℕ → Bool) (content : ℕ → X) (done : List ℕ) (x next : X) (i : ℕ) → (c : Cell touches content done x) → IsNext touches content c.place x i →
    next ≡ content (suc i) → Cell touches content (i ∷ done) next
moved_on touches content done x next i c n e = record {
  place = suc i;
  before = λ k t h. elim (or-either (nat_eq i k) (has done k) h) [
    | inl same ↦ (let z : i ≡ k = eqb-true i k same in omega (arith, z))
    | inr there ↦ (let z : k < c.place = c.before k t there in let w : c.place ≤ i = n.reaches in omega (arith, z, w))
  ];
  known = λ k t h. elim (below_or_same k i h) [
    | inl low ↦ or-second (nat_eq i k) (has done k) (elim (le_or c.place k) [
      | inl past ↦ true-false (touches k) t (n.between k past low)
      | inr early ↦ c.known k t early
    ])
    | inr same ↦ subst (λ m. has (m ∷ done) k ≡ true) same (has-self k done)
  ];
  same = e;
}

-- an event that doesn't touch it leaves it
pub kept : {X : Type 0} (touches : ℕ → Bool) (content : ℕ → X) (done : List ℕ) (x next : X) (i : ℕ) → Cell touches content done x → touches i ≡ false → next ≡ x → Cell touches content (i ∷ done) next
kept touches content done x next i c f e = record {
  place = c.place;
  before = λ k t h. elim (or-either (nat_eq i k) (has done k) h) [
    | inl same ↦ true-false (touches k) t (subst (λ m. touches m ≡ false) (eqb-true i k same) f)
    | inr there ↦ c.before k t there
  ];
  known = λ k t h. or-second (nat_eq i k) (has done k) (c.known k t h);
  same = e ∙ c.same;
}

pub unseen : {X : Type 0} (touches : ℕ → Bool) (content : ℕ → X) (done : List ℕ) (x next : X) → Cell touches content done x → next ≡ x → Cell touches content done next
unseen touches content done x next c e = record { place = c.place; before = c.before; known = c.known; same = e ∙ c.same }

-- at the beginning nothing is done
pub begun : {X : Type 0} (touches : ℕ → Bool) (content : ℕ → X) (x : X) → x ≡ content 0 → Cell touches content [] x
begun touches content x e = record {
  place = 0;
  before = λ k t h. true-false false h refl;
  known = λ k t h. absurd (omega (arith, h));
  same = e;
}
