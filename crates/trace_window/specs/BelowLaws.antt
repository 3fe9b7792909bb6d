-- An index of occurrences of numbers below a count, made of those alone (nothing of the language).
use Rattle.std.proofs.Common.{◌≡◌, ℕ, ◌<◌, ◌≤◌, Bool, true, false, cond, List, [], ◌∷◌, map, refl, ap, ◌∙◌, arith}
use Rattle.std.specs.Prelude.{All, filter, nat_eq, nat_lt}
use Rattle.std.specs.List.Sorted.{IsNonDecreasingBy}
use Rattle.std.proofs.lemmas.Bool.{eqb-true, ltb-true, ltb-false}
use Rattle.std.proofs.lemmas.List.Elements.{filter_passes}
use Rattle.std.proofs.lemmas.List.Kept.{IsNonDecreasingBy-filter}
use Rattle.window_index.specs.declared.occurrence.Occurrence.{Occurrence}
use Rattle.window_index.specs.Moments.{moment_of, is_of, moments_of, IsIndexOf}
use Rattle.trace_window.specs.Occurring.{below}

-- they are below the count, and ascend where all do
pub below-low : (count : ℕ) (occurrences : List Occurrence) → All (λ (o : Occurrence). o.number < count) (below count occurrences)
below-low count occurrences = λ k d low. ltb-true _ _ (filter_passes (λ (o : Occurrence). nat_lt o.number count) occurrences k d low)

pub below-ascend : (count : ℕ) (occurrences : List Occurrence) → IsNonDecreasingBy moment_of occurrences → IsNonDecreasingBy moment_of (below count occurrences)
below-ascend count occurrences up = IsNonDecreasingBy-filter moment_of (λ (o : Occurrence). nat_lt o.number count) occurrences up

-- what is left out isn't asked for
pub index-below : (count : ℕ) (occurrences : List Occurrence) (index : List (List ℕ)) → IsIndexOf count (below count occurrences) index →
    IsIndexOf count occurrences index
index-below count occurrences index had = record { numbers = had.numbers; moments = λ number low. had.moments number low ∙ within number low occurrences }
  where
    within : (number : ℕ) → number < count → (xs : List Occurrence) → moments_of (filter (λ (o : Occurrence). nat_lt o.number count) xs) number ≡ moments_of xs number
    within number low [] = refl
    within number low (x ∷ xs) = go (nat_lt x.number count) (nat_eq x.number number) refl refl (within number low xs)
      where
        go : (in_count own : Bool) → nat_lt x.number count ≡ in_count → nat_eq x.number number ≡ own →
            moments_of (filter (λ (o : Occurrence). nat_lt o.number count) xs) number ≡ moments_of xs number →
            moments_of (cond in_count (x ∷ filter (λ (o : Occurrence). nat_lt o.number count) xs) (filter (λ (o : Occurrence). nat_lt o.number count) xs)) number
            ≡ map moment_of (cond own (x ∷ filter (is_of number) xs) (filter (is_of number) xs))
        go true true a b rest =
            ap (λ t. map moment_of (cond t (x ∷ filter (is_of number) (filter (λ (o : Occurrence). nat_lt o.number count) xs))
            (filter (is_of number) (filter (λ (o : Occurrence). nat_lt o.number count) xs)))) b
            ∙ ap (λ l. x.moment ∷ l) rest
        go true false a b rest =
            ap (λ t. map moment_of (cond t (x ∷ filter (is_of number) (filter (λ (o : Occurrence). nat_lt o.number count) xs))
            (filter (is_of number) (filter (λ (o : Occurrence). nat_lt o.number count) xs)))) b
            ∙ rest
        go false true a b rest = let same : x.number ≡ number = eqb-true x.number number b in let past : count ≤ x.number = ltb-false x.number count a in absurd (omega arith)
        go false false a b rest = rest
