-- Numbers of a list by their places (nothing of the language).
use Rattle.std.proofs.Common.{◌≡◌, ℕ, zero, suc, ◌+◌, ◌-◌, ◌<◌, ◌≤◌, List, ◌∷◌, ◌++◌, length, take, drop, get_or, refl, sym, ap, subst, ◌∙◌, arith, inl, inr, []}
use Rattle.std.specs.Prelude.{Some, slice_get}
use Rattle.std.proofs.lemmas.Bool.{cases_lt}
use Rattle.std.proofs.lemmas.List.{drop-drop, take-append-drop}
use Rattle.vf_base.specs.Lists.{AllHold}
use Rattle.v_design.specs.WellFormed.{IsAscending}
use Rattle.lockstep_shards.proofs.Laws.{some-is}
use Rattle.slot_strobes.specs.Counts.{AllBetween}

module _ (P : ℕ → Type 0) where
  -- the first so many
  pub holds-take : (xs : List ℕ) (count : ℕ) → ((place x : ℕ) → place < count → slice_get xs place ≡ Some x → P x) → AllHold P (take count xs)
  holds-take xs zero each = tt
  holds-take [] (suc count) each = tt
  holds-take (x ∷ xs) (suc count) each = (each 0 x (omega arith) refl, holds-take xs count (λ place y low here. each (suc place) y (omega (arith, low)) here))

  pub at-take : (xs : List ℕ) (count place x : ℕ) → AllHold P (take count xs) → place < count → slice_get xs place ≡ Some x → P x
  at-take xs zero place x all low here = absurd (omega (arith, low))
  at-take [] (suc count) place x all low here = cc
  at-take (y ∷ xs) (suc count) zero x all low here = subst P (some-is y x here) all.0
  at-take (y ∷ xs) (suc count) (suc place) x all low here = at-take xs count place x all.1 (omega (arith, low)) here

  -- those behind them
  pub holds-drop : (xs : List ℕ) (count : ℕ) → ((place x : ℕ) → count ≤ place → slice_get xs place ≡ Some x → P x) → AllHold P (drop count xs)
  holds-drop [] zero each = tt
  holds-drop (x ∷ xs) zero each = (each 0 x (omega arith) refl, holds-drop xs zero (λ place y low here. each (suc place) y (omega arith) here))
  holds-drop [] (suc count) each = tt
  holds-drop (x ∷ xs) (suc count) each = holds-drop xs count (λ place y low here. each (suc place) y (omega (arith, low)) here)

  pub at-drop : (xs : List ℕ) (count place x : ℕ) → AllHold P (drop count xs) → count ≤ place → slice_get xs place ≡ Some x → P x
  at-drop [] zero place x all low here = cc
  at-drop (y ∷ xs) zero zero x all low here = subst P (some-is y x here) all.0
  at-drop (y ∷ xs) zero (suc place) x all low here = at-drop xs zero place x all.1 (omega arith) here
  at-drop [] (suc count) place x all low here = cc
  at-drop (y ∷ xs) (suc count) zero x all low here = absurd (omega (arith, low))
  at-drop (y ∷ xs) (suc count) (suc place) x all low here = at-drop xs count place x all (omega (arith, low)) here

  -- so many from a place on
  pub holds-from : (xs : List ℕ) (from count : ℕ) → ((place x : ℕ) → from ≤ place → place < from + count → slice_get xs place ≡ Some x → P x) → AllHold P (take count (drop from xs))
  holds-from xs zero count each = holds-take xs count (λ place x low here. each place x (omega arith) (omega (arith, low)) here)
  holds-from [] (suc from) zero each = tt
  holds-from [] (suc from) (suc count) each = tt
  holds-from (x ∷ xs) (suc from) count each = holds-from xs from count (λ place y low before here. each (suc place) y (omega (arith, low)) (omega (arith, before)) here)

  -- one more
  pub between-more : (xs : List ℕ) (first end x : ℕ) → slice_get xs end ≡ Some x → AllBetween xs first end P → P x → AllBetween xs first (end + 1) P
  between-more xs first end x here all p place y low before there = elim (cases_lt place end) [
    | inl less ↦ all place y low less there
    | inr late ↦
        let same : end ≡ place = omega (arith, late, before) in
        subst P (some-is x y (sym here ∙ ap (slice_get xs) same ∙ there)) p
  ]

pub between-none : (xs : List ℕ) (first : ℕ) (P : ℕ → Type 0) → AllBetween xs first first P
between-none xs first P place x low before here = absurd (omega (arith, low, before))

-- from a place on
pub drop-at : (xs : List ℕ) (place x : ℕ) → slice_get xs place ≡ Some x → drop place xs ≡ x ∷ drop (suc place) xs
drop-at [] place x here = cc
drop-at (y ∷ xs) zero x here = ap (λ z. z ∷ xs) (some-is y x here)
drop-at (y ∷ xs) (suc place) x here = drop-at xs place x here

pub take-at : (xs : List ℕ) (place x : ℕ) → slice_get xs place ≡ Some x → take (suc place) xs ≡ take place xs ++ x ∷ []
take-at [] place x here = cc
take-at (y ∷ xs) zero x here = ap (λ z. z ∷ []) (some-is y x here)
take-at (y ∷ xs) (suc place) x here = ap (λ l. y ∷ l) (take-at xs place x here)

-- of an ascending list each is before those behind it
pub at-ascending : (xs : List ℕ) (place later x y : ℕ) → IsAscending xs → place < later → slice_get xs place ≡ Some x → slice_get xs later ≡ Some y → x < y
at-ascending [] place later x y up low here there = cc
at-ascending (z ∷ xs) place zero x y up low here there = absurd (omega (arith, low))
at-ascending (z ∷ xs) zero (suc later) x y up low here there = subst (λ (w : ℕ). w < y) (some-is z x here) (at-all (λ w. z < w) xs later y up.0 there)
  where
    at-all : (P : ℕ → Type 0) (xs : List ℕ) (place x : ℕ) → AllHold P xs → slice_get xs place ≡ Some x → P x
    at-all P [] place x all here = cc
    at-all P (w ∷ xs) zero x all here = subst P (some-is w x here) all.0
    at-all P (w ∷ xs) (suc place) x all here = at-all P xs place x all.1 here
at-ascending (z ∷ xs) (suc place) (suc later) x y up low here there = at-ascending xs place later x y up.1 (omega (arith, low)) here there

-- a list from one place on, up to another
pub drop-between : (xs : List ℕ) (first end : ℕ) → first ≤ end → drop first xs ≡ take (end - first) (drop first xs) ++ drop end xs
drop-between xs first end low =
    let all : first + (end - first) ≡ end = omega (arith, low) in
    sym (take-append-drop (end - first) (drop first xs)) ∙ ap (λ l. take (end - first) (drop first xs) ++ l) (drop-drop (end - first) first xs ∙ ap (λ n. drop n xs) all)

-- what is read at a place
pub at-read : (xs : List ℕ) (place : ℕ) → place < length xs → slice_get xs place ≡ Some (get_or xs place 0)
at-read [] place low = absurd (omega (arith, low))
at-read (x ∷ xs) zero low = refl
at-read (x ∷ xs) (suc place) low = at-read xs place (omega (arith, low))

-- and at a place of an equal list
pub read-at : (xs read : List ℕ) (place : ℕ) → xs ≡ read → place < length read → slice_get xs place ≡ Some (get_or read place 0)
read-at xs read place same low = ap (λ (l : List ℕ). slice_get l place) same ∙ at-read read place low
