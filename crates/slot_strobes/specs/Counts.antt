-- Strobes of a plan up to a time, and samples at some strobes (strobes by the plan).
use Rattle.std.specs.Prelude.{◌≡◌, ℕ, ◌<◌, ◌≤◌, List, length, map, Some, slice_get}
use Rattle.four_value.specs.declared.logic.Bit.{Bit}
use Rattle.v_design.specs.Grades.{Sample}

-- a fact of each of some numbers from one place on and before another
abbrev pub AllBetween : List ℕ → ℕ → ℕ → (ℕ → Type 0) → Type 0
AllBetween numbers first end P = (place number : ℕ) → first ≤ place → place < end → slice_get numbers place ≡ Some number → P number

-- so many of some strobes come up to a time, of which some were counted before
pub record CountsBy (strobes : List ℕ) (from count time : ℕ) : Type 0 where
  pub since : from ≤ count
  pub within : count ≤ length strobes
  pub by : AllBetween strobes from count (λ strobe. strobe ≤ time)
  pub later : (place strobe : ℕ) → count ≤ place → slice_get strobes place ≡ Some strobe → time < strobe

-- a sample with the same bits at each of some strobes
abbrev pub samples_of : List Bit → List ℕ → List Sample
samples_of bits strobes = map (λ strobe. record { time = strobe; bits = bits }) strobes
