-- What gradings answer (grades over first runs, and over all legal orders, by IEEE 1364-2001, clause 5).
use Rattle.std.specs.Prelude.{◌≡◌, ℕ, ◌<◌, List, Some, None}
use Rattle.v_design.specs.Designs.{FlatDesign, TestPlan, StuckAt, good_machine, faulty_machine}
use Rattle.v_design.specs.Runs.{Move, IsLegal}
use Rattle.v_design.specs.States.{State}
use Rattle.v_design.specs.Grades.{Verdict, FaultGrade, Judged, is_hard, first_strobe}
use Rattle.v_design.specs.Laws.{run_samples, strobes_until}
use Rattle.order_laws.specs.Reports.{HasOrder, verdict_time, stop_of}
use Rattle.grade_laws.specs.Grading.{good_stop}
use Rattle.fault_grade.specs.Stops.{loop_stop}

-- the good machine's first run is hyperactive at a time up to the plan's end, before a race of its own
abbrev pub LoopsAt : FlatDesign → TestPlan → ℕ → Type 0
LoopsAt design plan time = good_stop design plan ≡ Some (loop_stop time)

-- where a line is a verdict, both machines have orders of which it speaks; and before the time of a race or a loop no pair of legal orders has a hard detection
pub record SpeaksOfOrders (design : FlatDesign) (plan : TestPlan) (fault : StuckAt) (line : FaultGrade) : Type 0 where
  pub orders : (given : Verdict) → line ≡ Judged given → HasOrder (good_machine design) (verdict_time plan given) × HasOrder (faulty_machine design fault) (verdict_time plan given)
  pub nothing_before : (stop time : ℕ) → stop_of line ≡ Some stop → time < stop →
      (good faulty : List Move) (good_end faulty_end : State) → IsLegal (good_machine design) time good good_end → IsLegal (faulty_machine design fault) time faulty faulty_end →
      first_strobe is_hard (run_samples (good_machine design) plan.watched good) (run_samples (faulty_machine design fault) plan.watched faulty) (strobes_until time plan) ≡ None
