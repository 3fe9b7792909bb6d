-- A text means one plan over a design, or one reason (the format is this program's own).
use Rattle.std.proofs.Common.{◌≡◌, ℕ, zero, suc, ◌+◌, ◌<◌, ◌≤◌, List, [], ◌∷◌, length, take, get_or, Some, None, refl, sym, ap, ◌∙◌, ◌⊎◌, inl, inr, arith}
use Rattle.std.specs.Prelude.{◌≢◌, slice_get}
use Rattle.std.specs.List.{Contains}
use Rattle.vf_base.specs.Lists.{AllHold}
use Rattle.v_design.specs.Designs.{FlatDesign, TestPlan}
use Rattle.v_design.specs.WellFormed.{IsAscending}
use Rattle.plan_read.specs.Forms.{PlanLine}
use Rattle.plan_read.specs.Spelled.{PlanReason, IsBad, IsUnknown, IsTooMany, reason_of, NoneRefused, IsFirstRefused, plan_lines, Spells, IsBadAt, bad_line, no_end, Refuses}
use Rattle.plan_read.specs.declared.fault.PlanFault.{PlanFault}
use Rattle.plan_read.specs.declared.fault.PlanFault.TheVariants.{BadLine, UnknownSite, TooMany, TooLong, NoMemory}
use Rattle.std.proofs.lemmas.Bool.{cases_order}

-- Fronts of lists

front-get : {A : Type 0} (xs : List A) (n i : ℕ) → i < n → slice_get (take n xs) i ≡ slice_get xs i
front-get [] zero i low = absurd (omega (arith, low))
front-get [] (suc n) i low = refl
front-get (x ∷ xs) zero i low = absurd (omega (arith, low))
front-get (x ∷ xs) (suc n) zero low = refl
front-get (x ∷ xs) (suc n) (suc i) low = front-get xs n i (omega (arith, low))

front-front : {A : Type 0} (xs : List A) (n i : ℕ) → i ≤ n → take i (take n xs) ≡ take i xs
front-front xs n zero low = refl
front-front xs zero (suc i) low = absurd (omega (arith, low))
front-front [] (suc n) (suc i) low = refl
front-front (x ∷ xs) (suc n) (suc i) low = ap (λ l. x ∷ l) (front-front xs n i (omega (arith, low)))

-- The first refused line

module _ (design : FlatDesign) (lines : List PlanLine) where
  not-later : (n m : ℕ) (r s : PlanReason) (one : IsFirstRefused design lines n r) (other : IsFirstRefused design lines m s) → one.place < other.place → ⊥
  not-later n m r s one other low =
      let clean : reason_of design (take one.place (take other.place lines)) one.line ≡ None = other.first one.place one.line (front-get lines other.place one.place low ∙ one.stands) in
      let same : Some r ≡ None = sym one.refused ∙ (ap (λ front. reason_of design front one.line) (sym (front-front lines other.place one.place (omega (arith, low)))) ∙ clean) in
      absurd (cc)

  -- one line is the first, for one reason
  one-first : (n m : ℕ) (r s : PlanReason) → IsFirstRefused design lines n r → IsFirstRefused design lines m s → (n ≡ m) × (r ≡ s)
  one-first n m r s one other =
      elim (cases_order one.place other.place) [
        | inl same ↦
            let line : Some one.line ≡ Some other.line = sym one.stands ∙ (ap (slice_get lines) same ∙ other.stands) in
            let told : Some r ≡ Some s = sym one.refused ∙ (ap (λ p. reason_of design (take p lines) one.line) same ∙ (ap (reason_of design (take other.place lines)) (cc) ∙ other.refused)) in
            (one.numbered ∙ (ap (λ p. p + 1) same ∙ sym other.numbered), cc)
        | inr (inl low) ↦ absurd (not-later n m r s one other low)
        | inr (inr low) ↦ absurd (not-later m n s r other one low)
      ]

  -- where no line is refused there is no first
  none-first : (n : ℕ) (r : PlanReason) → NoneRefused design lines → IsFirstRefused design lines n r → ⊥
  none-first n r none first = let same : Some r ≡ None = sym first.refused ∙ none first.place first.line first.stands in absurd (cc)

-- Reasons

module _ (design : FlatDesign) (text : List ℕ) where
  abbrev lines : List PlanLine
  lines = plan_lines text

  bad-numbers : (n m : ℕ) → IsBadAt design text n → IsBadAt design text m → n ≡ m
  bad-numbers n m (bad_line one) (bad_line other) = (one-first design lines n m IsBad IsBad one other).0
  bad-numbers n m (bad_line one) (no_end at other) = absurd (none-first design lines n IsBad other.sound one)
  bad-numbers n m (no_end at one) (bad_line other) = absurd (none-first design lines m IsBad one.sound other)
  bad-numbers n m (no_end at one) (no_end past other) = at ∙ sym past

  bad-else : (n m : ℕ) (r : PlanReason) → IsBadAt design text n → IsFirstRefused design lines m r → IsBad ≡ r
  bad-else n m r (bad_line one) other = (one-first design lines n m IsBad r one other).1
  bad-else n m r (no_end at one) other = absurd (none-first design lines m r one.sound other)

  unknown-many : (n m : ℕ) → IsFirstRefused design lines n IsUnknown → IsFirstRefused design lines m IsTooMany → ⊥
  unknown-many n m one other = let same : IsUnknown ≡ IsTooMany = (one-first design lines n m IsUnknown IsTooMany one other).1 in absurd (cc)

  bad-unknown : (n m : ℕ) → IsBadAt design text n → IsFirstRefused design lines m IsUnknown → ⊥
  bad-unknown n m one other = let same : IsBad ≡ IsUnknown = bad-else n m IsUnknown one other in absurd (cc)

  bad-many : (n m : ℕ) → IsBadAt design text n → IsFirstRefused design lines m IsTooMany → ⊥
  bad-many n m one other = let same : IsBad ≡ IsTooMany = bad-else n m IsTooMany one other in absurd (cc)

  -- a text is refused for one reason
  pub one-reason : (one other : PlanFault) → Refuses design text one → Refuses design text other → one ≢ NoMemory → other ≢ NoMemory → one ≡ other
  one-reason (BadLine n) (BadLine m) h d p q = ap BadLine (bad-numbers n m h.1 d.1)
  one-reason (BadLine n) (UnknownSite m) h d p q = absurd (bad-unknown n m h.1 d.1)
  one-reason (BadLine n) (TooMany m) h d p q = absurd (bad-many n m h.1 d.1)
  one-reason (BadLine n) TooLong h d p q = absurd (omega (arith, h.0, d))
  one-reason (UnknownSite n) (BadLine m) h d p q = absurd (bad-unknown m n d.1 h.1)
  one-reason (UnknownSite n) (UnknownSite m) h d p q = ap UnknownSite (one-first design lines n m IsUnknown IsUnknown h.1 d.1).0
  one-reason (UnknownSite n) (TooMany m) h d p q = absurd (unknown-many n m h.1 d.1)
  one-reason (UnknownSite n) TooLong h d p q = absurd (omega (arith, h.0, d))
  one-reason (TooMany n) (BadLine m) h d p q = absurd (bad-many m n d.1 h.1)
  one-reason (TooMany n) (UnknownSite m) h d p q = absurd (unknown-many m n d.1 h.1)
  one-reason (TooMany n) (TooMany m) h d p q = ap TooMany (one-first design lines n m IsTooMany IsTooMany h.1 d.1).0
  one-reason (TooMany n) TooLong h d p q = absurd (omega (arith, h.0, d))
  one-reason TooLong (BadLine m) h d p q = absurd (omega (arith, h, d.0))
  one-reason TooLong (UnknownSite m) h d p q = absurd (omega (arith, h, d.0))
  one-reason TooLong (TooMany m) h d p q = absurd (omega (arith, h, d.0))
  one-reason TooLong TooLong h d p q = refl
  one-reason NoMemory other h d p q = absurd (p refl)
  one-reason one NoMemory h d p q = absurd (q refl)

  bad-spelled : (n : ℕ) (plan : TestPlan) → Spells design text plan → IsBadAt design text n → ⊥
  bad-spelled n plan s (bad_line one) = none-first design lines n IsBad s.lines.sound one
  bad-spelled n plan s (no_end at one) = let same : Some plan.end ≡ None = sym s.lines.end ∙ one.endless in absurd (cc)

  -- a text that spells a plan isn't refused
  pub no-reason : (plan : TestPlan) (fault : PlanFault) → Spells design text plan → Refuses design text fault → fault ≢ NoMemory → ⊥
  no-reason plan (BadLine n) s h p = bad-spelled n plan s h.1
  no-reason plan (UnknownSite n) s h p = none-first design lines n IsUnknown s.lines.sound h.1
  no-reason plan (TooMany n) s h p = none-first design lines n IsTooMany s.lines.sound h.1
  no-reason plan TooLong s h p = absurd (omega (arith, s.short, h))
  no-reason plan NoMemory s h p = p refl

-- Plans

contains-cons : (x y : ℕ) (ys : List ℕ) → Contains (y ∷ ys) x → (x ≡ y) ⊎ Contains ys x
contains-cons x y ys c = by c.0 c.1 c.2
  where
    by : (i : ℕ) → i < length (y ∷ ys) → get_or (y ∷ ys) i x ≡ x → (x ≡ y) ⊎ Contains ys x
    by zero low is = inl (sym is)
    by (suc i) low is = inr (i, omega (arith, low), is)

above : (x z : ℕ) (xs : List ℕ) → AllHold (λ later. x < later) xs → Contains xs z → x < z
above x z [] all c = absurd (omega (arith, c.1))
above x z (y ∷ xs) all c =
    elim (contains-cons z y xs c) [
      | inl same ↦ omega (arith, same, all.0)
      | inr there ↦ above x z xs all.1 there
    ]

-- what ascends is known by its elements
one-ascending : (xs ys : List ℕ) → IsAscending xs → IsAscending ys → ((z : ℕ) → Contains xs z → Contains ys z) → ((z : ℕ) → Contains ys z → Contains xs z) → xs ≡ ys
one-ascending [] [] up on to from = refl
one-ascending [] (y ∷ ys) up on to from = let c : Contains [] y = from y (0, omega arith, refl) in absurd (omega (arith, c.1))
one-ascending (x ∷ xs) [] up on to from = let c : Contains [] x = to x (0, omega arith, refl) in absurd (omega (arith, c.1))
one-ascending (x ∷ xs) (y ∷ ys) up on to from =
    let first : x ≡ y =
    elim (contains-cons x y ys (to x (0, omega arith, refl))) [
      | inl same ↦ same
      | inr low ↦
          elim (contains-cons y x xs (from y (0, omega arith, refl))) [
            | inl same ↦ sym same
            | inr high ↦ let one = above y x ys on.0 low in let other = above x y xs up.0 high in absurd (omega (arith, one, other))
          ]
    ] in
    let rest = one-ascending xs ys up.1 on.1
    (λ z c. elim (contains-cons z y ys (to z (suc c.0, omega (arith, c.1), c.2))) [
      | inl same ↦ let high = above x z xs up.0 c in absurd (omega (arith, high, same, first))
      | inr there ↦ there
    ])
    (λ z c. elim (contains-cons z x xs (from z (suc c.0, omega (arith, c.1), c.2))) [
      | inl same ↦ let high = above y z ys on.0 c in absurd (omega (arith, high, same, first))
      | inr there ↦ there
    ]) in
    ap (λ z. z ∷ xs) first ∙ ap (λ zs. y ∷ zs) rest

same-plan : (one other : TestPlan) → one.end ≡ other.end → one.strobes ≡ other.strobes → one.watched ≡ other.watched → one.faults ≡ other.faults → one ≡ other
same-plan one other e s w f =
    ap (λ x. record { end = x; strobes = one.strobes; watched = one.watched; faults = one.faults }) e
    ∙ (ap (λ x. record { end = other.end; strobes = x; watched = one.watched; faults = one.faults }) s
    ∙ (ap (λ x. record { end = other.end; strobes = other.strobes; watched = x; faults = one.faults }) w
    ∙ ap (λ x. record { end = other.end; strobes = other.strobes; watched = other.watched; faults = x }) f))

-- a text spells one plan
pub one-plan : (design : FlatDesign) (text : List ℕ) (one other : TestPlan) → Spells design text one → Spells design text other → one ≡ other
one-plan design text one other h d =
    let end : Some one.end ≡ Some other.end = sym h.lines.end ∙ d.lines.end in
    same-plan one other (cc)
    (one-ascending one.strobes other.strobes h.lines.ascending d.lines.ascending (λ z c. (d.lines.strobes z).1 ((h.lines.strobes z).0 c)) (λ z c. (h.lines.strobes z).1 ((d.lines.strobes z).0 c)))
    (h.lines.watched ∙ sym d.lines.watched) (h.lines.faults ∙ sym d.lines.faults)
