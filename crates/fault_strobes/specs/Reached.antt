-- The full grade of a fault as far as it goes up to a time (strobes and slots by IEEE 1364-2001, clause 5).
use Rattle.std.specs.Prelude.{◌≡◌, ℕ, ◌<◌, ◌≤◌, true, List, ◌++◌, Option, Some, None, filter, nat_le, if◌then◌else◌}
use Rattle.vf_base.specs.Lists.{AllHold}
use Rattle.v_design.specs.Designs.{FlatDesign, StuckAt, TestPlan}
use Rattle.v_design.specs.Grades.{Stop, FullGrade, full_grade, full_of, samples_at}
use Rattle.v_design.specs.WellFormed.{IsPlan, KeepsRules}
use Rattle.kept_samples.specs.Plain.{IsKeptOf}
use Rattle.kept_samples.specs.declared.kept.Kept.{Kept}
use Rattle.copy_laws.specs.Windows.{HasEnded}
use Rattle.grade_laws.specs.Ahead.{StopsAfter}
use Rattle.grade_laws.specs.Grading.{good_seen, faulty_seen, good_stop, faulty_stop}
use Rattle.fault_strobes.specs.Said.{plan_by}

-- a stop, if it comes by a time
abbrev pub stop_to : ℕ → Option Stop → Option Stop
stop_to time None = None
stop_to time (Some stop) = if nat_le stop.time time then Some stop else None

-- the full grade by the stops and the strobes up to a time
abbrev pub full_grade_to : FlatDesign → TestPlan → StuckAt → ℕ → Option FullGrade
full_grade_to design plan fault time =
    full_of (stop_to time (good_stop design plan)) (stop_to time (faulty_stop design plan fault)) (faulty_seen design plan fault) (filter (λ strobe. nat_le strobe time) plan.strobes)

-- so much of it is kept
abbrev pub KeepsTo : FlatDesign → TestPlan → StuckAt → ℕ → Kept → Type 0
KeepsTo design plan fault time kept = (full : FullGrade) × (full_grade_to design plan fault time ≡ Some full) × IsKeptOf (good_seen design plan) full kept

pub record FullGradesReach : Type 0 where
  -- as long as neither machine stops it has no end, and its samples are those at the strobes so far
  pub is_open : (design : FlatDesign) (plan : TestPlan) (fault : StuckAt) (time : ℕ) (passed next : List ℕ) → StopsAfter time (good_stop design plan) →
      StopsAfter time (faulty_stop design plan fault) → plan.strobes ≡ passed ++ next → AllHold (λ strobe. strobe ≤ time) passed → AllHold (λ strobe. time < strobe) next →
      full_grade_to design plan fault time ≡ Some (record { end = None; samples = samples_at (faulty_seen design plan fault) passed })
  -- where the faulty machine stopped by then, before the good one, it is the whole one
  pub ended : (design : FlatDesign) (plan : TestPlan) (fault : StuckAt) (time : ℕ) → StopsAfter time (good_stop design plan) → time < plan.end → HasEnded design (plan_by true plan) fault time →
      full_grade_to design plan fault time ≡ full_grade design plan fault
  -- so it is at the plan's end
  pub whole : (design : FlatDesign) (plan : TestPlan) (fault : StuckAt) → KeepsRules design → IsPlan plan → full_grade_to design plan fault plan.end ≡ full_grade design plan fault
