-- Words that are cut before a byte.
use Rattle.std.proofs.Common.{◌≡◌, ℕ, zero, suc, ◌+◌, ◌<◌, ◌≤◌, Bool, true, false, cond, ◌||◌, List, [], ◌∷◌, ◌++◌, length, get_or, take, drop, refl, ap, sym, ◌∙◌, subst, arith}
use Rattle.std.specs.Prelude.{nat_eq}
use Rattle.std.proofs.lemmas.Bool.{eq-eqb, ne_eqb, eqb-true, or_right}
use Rattle.vf_base.specs.Lists.{has}
use Rattle.plan_read.specs.Stems.{stem, front}

-- a byte after which there is no point
pub front-at : (word : List ℕ) (i : ℕ) → i < length word → has (drop (i + 1) word) 46 ≡ false → get_or word i 0 ≡ 46 → front word ≡ take i word
front-at [] i low none at = absurd (omega arith)
front-at (b ∷ bs) zero low none at = ap (λ t. cond t (b ∷ front bs) []) none
front-at (b ∷ bs) (suc i) low none at =
    let inside : has bs 46 ≡ true = point bs i (omega arith) at in
    ap (λ t. cond t (b ∷ front bs) []) inside ∙ ap (λ l. b ∷ l) (front-at bs i (omega arith) (subst (λ n. has (drop n (b ∷ bs)) 46 ≡ false) next none) at)
  where
    next : suc i + 1 ≡ suc (i + 1)
    next = omega arith

    point : (bytes : List ℕ) (k : ℕ) → k < length bytes → get_or bytes k 0 ≡ 46 → has bytes 46 ≡ true
    point [] k low here = absurd (omega arith)
    point (c ∷ cs) zero low here = ap (λ t. t || has cs 46) (eq-eqb c 46 here)
    point (c ∷ cs) (suc k) low here = or_right (nat_eq c 46) (has cs 46) (point cs k (omega arith) here)

-- one byte more that is no point
pub none-more : (word : List ℕ) (i : ℕ) → i < length word → has (drop (i + 1) word) 46 ≡ false → (get_or word i 0 ≡ 46 → ⊥) → has (drop i word) 46 ≡ false
none-more [] i low none other = absurd (omega arith)
none-more (b ∷ bs) zero low none other = ap (λ t. t || has bs 46) (ne_eqb b 46 other) ∙ none
none-more (b ∷ bs) (suc i) low none other =
    let next : suc i + 1 ≡ suc (i + 1) = omega arith in none-more bs i (omega arith) (subst (λ n. has (drop n (b ∷ bs)) 46 ≡ false) next none) other

-- no point at all
pub front-none : (word : List ℕ) → has word 46 ≡ false → front word ≡ []
front-none [] none = refl
front-none (b ∷ bs) none = ap (λ t. cond t (b ∷ front bs) []) (rest (nat_eq b 46) (has bs 46) none)
  where
    rest : (x y : Bool) → (x || y) ≡ false → y ≡ false
    rest true y e = absurd (cc)
    rest false y e = e

-- nothing is left to look at
pub none-left : (word : List ℕ) (i : ℕ) → length word ≤ i → has (drop i word) 46 ≡ false
none-left [] zero high = refl
none-left [] (suc i) high = refl
none-left (b ∷ bs) zero high = absurd (omega arith)
none-left (b ∷ bs) (suc i) high = none-left bs i (omega arith)
