-- What is kept of what differs, number by number (nothing of the language).
use Rattle.std.specs.Prelude.{◌≡◌, ◌≢◌, ℕ, ◌<◌, ◌≤◌, List, Option, Some, option_map}
use Rattle.v_design.specs.States.{found_or}
use Rattle.process_code.specs.Points.{activity_of}
use Rattle.process_code.specs.StatesOf.{IsStateOf}
use Rattle.process_code.specs.declared.code.Code.{Code}
use Rattle.process_code.specs.declared.state.ProcState.{ProcState}
use Rattle.copy_laws.specs.Differences.{own_of}
use Rattle.copy_state.specs.Kept.{AreOfCode}

-- what is kept, if something is, tells the own one beside the good one, and isn't the good one
pub record IsDifference {A : Type 0} (good own : A) (found : Option A) : Type 0 where
  pub tells : own ≡ found_or good found
  pub differs : (kept : A) → found ≡ Some kept → kept ≢ good

-- the same of what a process does in two states of a code in which no two statements stand at one place; and a state that is kept is one of each code that the own one is of
pub record IsOwnState (good own : ProcState) (found : Option ProcState) : Type 0 where
  pub does : (code : Code) → AreOfCode code good own → IsDifference (activity_of code good) (activity_of code own) (option_map (activity_of code) found)
  pub state_of : (code : Code) (state : ProcState) → IsStateOf code own → found ≡ Some state → IsStateOf code state

-- what is kept under a number is as wanted, and what is kept under each other is what was kept
pub record IsKeptAt {A : Type 0} (R : Option A → Type 0) (number : ℕ) (old new : List (ℕ × A)) : Type 0 where
  pub here : R (own_of new number)
  pub others : (other : ℕ) → number ≢ other → own_of new other ≡ own_of old other

-- what is kept under each number below a count is as wanted, and what is kept under each other is what was kept
pub record AreKeptBelow {A : Type 0} (R : ℕ → Option A → Type 0) (count : ℕ) (old new : List (ℕ × A)) : Type 0 where
  pub each : (number : ℕ) → number < count → R number (own_of new number)
  pub others : (number : ℕ) → count ≤ number → own_of new number ≡ own_of old number
