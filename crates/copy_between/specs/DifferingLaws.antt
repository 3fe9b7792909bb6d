-- What is kept, one number after another (nothing of the language).
use Rattle.std.proofs.Common.{◌≡◌, ℕ, ◌+◌, List, refl, sym, subst, ◌∙◌, arith, inl, inr}
use Rattle.std.specs.Prelude.{Option, None}
use Rattle.std.proofs.lemmas.Bool.{cases_eq}
use Rattle.four_value.specs.Values.{LogicValue}
use Rattle.copy_laws.specs.Differences.{own_of}
use Rattle.copy_state.specs.Kept.{with_own_value}
use Rattle.copy_state.specs.KeptLaws.{found-set, own-set_other, own-set_differs}
use Rattle.copy_between.specs.Differing.{IsDifference, IsKeptAt, AreKeptBelow}

-- at first
pub kept-first : {A : Type 0} (R : ℕ → Option A → Type 0) (old : List (ℕ × A)) → AreKeptBelow R 0 old old
kept-first R old = record { each = λ number low. absurd (omega arith); others = λ number low. refl }

-- one number more
pub kept-more : {A : Type 0} (R : ℕ → Option A → Type 0) (count : ℕ) (old new later : List (ℕ × A)) → AreKeptBelow R count old new → IsKeptAt (R count) count new later →
    AreKeptBelow R (count + 1) old later
kept-more R count old new later had at = record {
  each = λ number low. elim (cases_eq count number) [
    | inl equal ↦ subst (λ n. R n (own_of later n)) equal at.here
    | inr other ↦ subst (R number) (sym (at.others number other)) (had.each number (omega (arith, low, other)))
  ];
  others = λ number low. at.others number (λ same. omega (arith, same, low)) ∙ had.others number (omega (arith, low));
}

-- nothing is kept of what is the same
pub none-differs : {A : Type 0} (good own : A) → own ≡ good → IsDifference good own None
none-differs good own same = record { tells = same; differs = λ kept is. cc }

-- a value that is set is kept where it isn't the good one
pub kept-value : (object : ℕ) (good own : LogicValue) (old : List (ℕ × LogicValue)) → IsKeptAt (IsDifference good own) object old (with_own_value object good own old)
kept-value object good own old = record {
  here = record { tells = sym (found-set object good own old); differs = λ kept is. own-set_differs object good own kept old is };
  others = λ other differ. own-set_other object other good own old differ;
}

-- the same of what is equal
pub two-same : {A : Type 0} (good good' own own' : A) (found found' : Option A) → good ≡ good' → own ≡ own' → found ≡ found' → IsDifference good' own' found' → IsDifference good own found
two-same {A} good good' own own' found found' first second third is =
    subst (λ (a : A). IsDifference a own found) (sym first) (subst (λ (a : A). IsDifference good' a found) (sym second) (subst (IsDifference good' own') (sym third) is))
