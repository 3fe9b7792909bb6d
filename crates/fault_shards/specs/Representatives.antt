-- The faults that stand for their classes (gates by IEEE 1364-2001, clause 7).
use Rattle.std.specs.Prelude.{◌≡◌, ℕ, ◌<◌, ◌↔◌, List, Some, slice_get}
use Rattle.std.specs.List.{Contains}
use Rattle.std.specs.List.Sorted.{IsStrictlyIncreasing}
use Rattle.v_design.specs.Designs.{FlatDesign, StuckAt}
use Rattle.v_design.specs.Sites.{AreOneClass}

-- the number is that of a listed fault, and no earlier listed fault is of its class
pub record IsRepresentative (design : FlatDesign) (faults : List StuckAt) (number : ℕ) : Type 0 where
  pub fault : StuckAt
  pub listed : slice_get faults number ≡ Some fault
  pub least : (earlier : ℕ) (other : StuckAt) → earlier < number → slice_get faults earlier ≡ Some other → AreOneClass design other fault → ⊥

-- all representatives, in list order
pub record AreRepresentatives (design : FlatDesign) (faults : List StuckAt) (numbers : List ℕ) : Type 0 where
  pub ascend : IsStrictlyIncreasing numbers
  pub each : (number : ℕ) → Contains numbers number ↔ IsRepresentative design faults number

-- of a list that tells for each number which one stands for it, those that stand for themselves, in order
pub record StandForThemselves (standing own : List ℕ) : Type 0 where
  pub ascend : IsStrictlyIncreasing own
  pub each : (number : ℕ) → Contains own number ↔ (slice_get standing number ≡ Some number)
