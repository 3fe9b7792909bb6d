-- Occurrences of numbers in some things in a row, each of which has a moment (nothing of the language).
use Rattle.std.specs.Prelude.{◌≡◌, ℕ, ◌+◌, Bool, true, false, List, [], ◌∷◌, ◌++◌, Some, None, Contains, filter, nat_lt, slice_get}
use Rattle.window_index.specs.declared.occurrence.Occurrence.{Occurrence}
use Rattle.window_index.specs.Moments.{moments_of}

-- the occurrences in some things, the first of which has a moment
abbrev pub occurrences_from : {X : Type 0} → (ℕ → X → List Occurrence) → ℕ → List X → List Occurrence
occurrences_from each moment [] = []
occurrences_from each moment (x ∷ rest) = each moment x ++ occurrences_from each (moment + 1) rest

-- some occurrences but for those of numbers past a count
abbrev pub below : ℕ → List Occurrence → List Occurrence
below count occurrences = filter (λ (occurrence : Occurrence). nat_lt occurrence.number count) occurrences

-- whether a number occurs in the thing at a place, if there is one
abbrev pub occurs_at : {X : Type 0} → (ℕ → X → Bool) → List X → ℕ → ℕ → Bool
occurs_at occurs xs number place = elim (slice_get xs place) [ None ↦ false | Some x ↦ occurs number x ]

-- a thing has just the occurrences, at its moment, of the numbers that pass a test
pub record Occurs {X : Type 0} (each : ℕ → X → List Occurrence) (occurs : ℕ → X → Bool) : Type 0 where
  pub forth : (number moment : ℕ) (x : X) (found : ℕ) → Contains (moments_of (each moment x) number) found → (found ≡ moment) × (occurs number x ≡ true)
  pub back : (number moment : ℕ) (x : X) → occurs number x ≡ true → Contains (moments_of (each moment x) number) moment
