-- The own steps of a plan's faults as numbers (steps by IEEE 1364-2001, clause 9; slots by clause 5).
use Rattle.std.specs.Prelude.{◌≡◌, ℕ, ◌+◌, ◌≤◌, Bool, List, Option, None, Some, slice_get, sum}
use Rattle.std.specs.List.{AllZip}
use Rattle.v_design.specs.Designs.{FlatDesign, StuckAt, TestPlan}
use Rattle.v_design.specs.OwnSteps.{CountsOwn, ProcessRun, TakesOwnSteps, runs_beside}
use Rattle.copy_laws.specs.Windows.{runs_between, time_at}
use Rattle.fault_strobes.specs.Said.{plan_by}

-- some runs, each beside the good machine's of its number, take so many own steps
pub record AreOwnSteps (pairs : List (Option ProcessRun × ProcessRun)) (steps : ℕ) : Type 0 where
  pub counts : List ℕ
  pub each : AllZip CountsOwn pairs counts
  pub total : sum counts ≡ steps

-- the runs of a fault, judged or with its samples kept, up to behind so many slots of the good first run, and not after its grading ended
abbrev pub runs_to : FlatDesign → TestPlan → Bool → ℕ → StuckAt → List (Option ProcessRun × ProcessRun)
runs_to design plan kept gone fault = runs_between design (plan_by kept plan) None (time_at design plan gone) fault

-- the own steps that each listed fault takes up to behind so many slots, and to the end of its grading
pub record OwnStepsOf (design : FlatDesign) (plan : TestPlan) : Type 0 where
  pub steps : ℕ → Bool → ℕ → ℕ
  pub are : (number : ℕ) (fault : StuckAt) (kept : Bool) (gone : ℕ) → slice_get plan.faults number ≡ Some fault → AreOwnSteps (runs_to design plan kept gone fault) (steps number kept gone)
  pub all : ℕ → Bool → ℕ
  pub in_all : (number : ℕ) (fault : StuckAt) (kept : Bool) → slice_get plan.faults number ≡ Some fault → AreOwnSteps (runs_beside design (plan_by kept plan) fault) (all number kept)

-- the listed fault of a number, judged or with its samples kept, takes so many own steps to the end of its grading
abbrev pub TakesOwn : FlatDesign → TestPlan → Bool → ℕ → ℕ → Type 0
TakesOwn design plan kept number steps = (fault : StuckAt) → slice_get plan.faults number ≡ Some fault → TakesOwnSteps design (plan_by kept plan) fault steps

-- a counter rose by no more than one number is above another, both made of the own steps of faults
abbrev pub RisesOwn : (design : FlatDesign) (plan : TestPlan) → (OwnStepsOf design plan → ℕ) → (OwnStepsOf design plan → ℕ) → ℕ → ℕ → Type 0
RisesOwn design plan from to before after = (tally : OwnStepsOf design plan) → after + from tally ≤ before + to tally
