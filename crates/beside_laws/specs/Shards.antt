-- What stands of a fault of a shard that has gone through so many slots of the good first run (slots by IEEE 1364-2001, clause 5).
use Rattle.std.specs.Prelude.{◌≡◌, ℕ, ◌≤◌, List, Some, None}
use Rattle.v_design.specs.Designs.{FlatDesign, StuckAt, TestPlan}
use Rattle.v_design.specs.Grades.{FaultGrade}
use Rattle.v_design.specs.WellFormed.{KeepsRules, IsPlan}
use Rattle.strobe_detect.specs.Graders.{GraderState}
use Rattle.copy_laws.specs.Differences.{Differences}
use Rattle.copy_laws.specs.Windows.{IsCopyAt, FaultBeside, IsBesideAt, time_at}
use Rattle.beside_laws.specs.Gradings.{GradingGoesOn, HasNotEnded, EndsAt}
use Rattle.beside_laws.specs.GoodRuns.{IsOpenAt, IsAllAt}

-- a fault of which nothing was found, with these differences; and one with a finding
abbrev pub open_fault : StuckAt → Differences → FaultBeside
open_fault fault d = record { fault = fault; differences = d; found = None }

abbrev pub found_fault : StuckAt → Differences → FaultGrade → FaultBeside
found_fault fault d found = record { fault = fault; differences = d; found = Some found }

pub record FaultsGoOn : Type 0 where
  -- before the first slot nothing was found of a fault, and nothing is said of its differences
  pub begins : (design : FlatDesign) (plan : TestPlan) (fault : StuckAt) (d : Differences) → KeepsRules design → IsBesideAt design plan 0 (open_fault fault d)
  -- a fault of which nothing was found up to a time: its grading hasn't ended there
  pub is_open : (design : FlatDesign) (plan : TestPlan) (at time : ℕ) (fault : FaultBeside) → IsBesideAt design plan at fault → fault.found ≡ None → time_at design plan at ≡ Some time →
      HasNotEnded design plan fault.fault time
  -- its grading goes on through a window after which slots come, and its copy there is the faulty machine's state: it stays open
  pub goes_on : (design : FlatDesign) (plan : TestPlan) (fault : StuckAt) (through time : ℕ) (passed next : List ℕ) (grader : GraderState) (d : Differences) → IsOpenAt design plan through time →
      GradingGoesOn design plan fault (Some time) passed next grader → IsCopyAt design plan fault time d → IsBesideAt design plan through (open_fault fault d)
  -- its grading ended up to the time of a window after which slots come: this is its finding, and its copy isn't kept up
  pub ends : (design : FlatDesign) (plan : TestPlan) (fault : StuckAt) (through time ended : ℕ) (found : FaultGrade) (d : Differences) → IsOpenAt design plan through time →
      EndsAt design plan fault ended found → ended ≤ time → IsBesideAt design plan through (found_fault fault d found)
  -- the good first run has no further slot: whatever the grade is, it is the finding
  pub ends_all : (design : FlatDesign) (plan : TestPlan) (fault : StuckAt) (through ended : ℕ) (found : FaultGrade) (d : Differences) → KeepsRules design → IsPlan plan →
      IsAllAt design plan through → EndsAt design plan fault ended found → IsBesideAt design plan through (found_fault fault d found)
  -- a finding stays
  pub stays : (design : FlatDesign) (plan : TestPlan) (at through : ℕ) (fault : FaultBeside) (found : FaultGrade) → KeepsRules design → at ≤ through →
      IsBesideAt design plan at fault → fault.found ≡ Some found → IsBesideAt design plan through fault
