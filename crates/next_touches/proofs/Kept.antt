-- The entries of a copy that are kept, one after the other, and lesser moments.
use Rattle.std.proofs.Common.{◌≡◌, ℕ, suc, ◌-◌, ◌<◌, ◌≤◌, List, true, false, refl, sym, ap, subst, ◌∙◌, inl, inr, arith}
use Rattle.std.specs.Prelude.{Option, Some, None, is_some}
use Rattle.std.proofs.lemmas.Bool.{cases_lt}
use Rattle.copy_laws.specs.Differences.{Ascend, own_of}
use Rattle.copy_state.specs.Entries.{first_from}
use Rattle.copy_skip.specs.Entries.{next-kept, none-from}

-- something holds of each number below one that is kept, from a moment up to a limit
abbrev pub AreAlone : {A : Type 0} → (ℕ → ℕ → ℕ → Type 0) → List (ℕ × A) → ℕ → ℕ → ℕ → Type 0
AreAlone Alone entries below first limit = (number : ℕ) → number < below → is_some (own_of entries number) ≡ true → Alone number first limit

module _ {A : Type 0} (Alone : ℕ → ℕ → ℕ → Type 0) (lower : (number first limit less : ℕ) → less ≤ limit → Alone number first limit → Alone number first less) (entries : List (ℕ × A)) where
  -- one entry more
  pub alone-more : (from next first limit less : ℕ) → Ascend entries → first_from from entries ≡ Some next → less ≤ limit → AreAlone Alone entries from first limit → Alone next first less →
      AreAlone Alone entries (suc next) first less
  alone-more from next first limit less up is low alone one number below own = elim (cases_lt number from) [
    | inl before ↦ lower number first limit less low (alone number before own)
    | inr more ↦ elim (cases_lt number next) [
      | inl between ↦ absurd (let no : true ≡ false = sym own ∙ ap is_some ((next-kept from next entries up is).none number more between) in cc)
      | inr late ↦ let same : next ≡ number = omega (arith, late, below) in subst (λ n. Alone n first less) same one
    ]
  ]

  -- and no further one
  pub alone-all : (from below first limit : ℕ) → first_from from entries ≡ None → AreAlone Alone entries from first limit → AreAlone Alone entries below first limit
  alone-all from below first limit none alone number low own = elim (cases_lt number from) [
    | inl before ↦ alone number before own
    | inr more ↦ absurd (let no : true ≡ false = sym own ∙ ap is_some (none-from from entries none number more) in cc)
  ]

-- how many numbers are left from the next one on
abbrev pub numbers_left : ℕ → Option ℕ → ℕ
numbers_left count None = 0
numbers_left count (Some number) = suc count - number

-- fewer are left behind the next one
pub left-falls : (count : ℕ) (old : Option ℕ) (number : ℕ) (new : Option ℕ) → old ≡ Some number → number < count → ((later : ℕ) → new ≡ Some later → number < later) →
    numbers_left count new < numbers_left count old
left-falls count old number new is low later = subst (λ o. numbers_left count new < numbers_left count o) (sym is) (go new later)
  where
    go : (next : Option ℕ) → ((more : ℕ) → next ≡ Some more → number < more) → numbers_left count next < suc count - number
    go None h = omega (arith, low)
    go (Some more) h = let less : number < more = h more refl in omega (arith, low, less)
