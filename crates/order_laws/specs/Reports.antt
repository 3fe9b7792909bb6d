-- What stands behind the lines of a report: that there are orders of which a verdict speaks, and that no hard detection comes before a race or a loop (runs by IEEE 1364-2001, clause 5).
use Rattle.std.specs.Prelude.{◌≡◌, ℕ, ◌<◌, List, Option, Some, None}
use Rattle.std.specs.List.{AllZip}
use Rattle.v_design.specs.Designs.{FlatDesign, Machine, StuckAt, TestPlan, good_machine, faulty_machine}
use Rattle.v_design.specs.States.{State}
use Rattle.v_design.specs.Runs.{Move, IsLegal}
use Rattle.v_design.specs.Grades.{is_hard, Verdict, Detected, Possible, Undetected, first_strobe, FaultGrade, Judged, Raced, Looped, grade}
use Rattle.v_design.specs.WellFormed.{IsPlan, KeepsRules}
use Rattle.v_design.specs.Laws.{run_samples, strobes_until, ReportHolds}

-- the time up to which a verdict speaks: that of the detection, else the plan's end
abbrev pub verdict_time : TestPlan → Verdict → ℕ
verdict_time plan (Detected time) = time
verdict_time plan (Possible time) = plan.end
verdict_time plan Undetected = plan.end

-- a machine has a run that is legal to a time
abbrev pub HasOrder : Machine → ℕ → Type 0
HasOrder machine time = (moves : List Move) × (final : State) × IsLegal machine time moves final

-- both machines have a run that is legal to the time up to which their verdict speaks
abbrev pub OrdersExist : Type 0
OrdersExist =
    (design : FlatDesign) (plan : TestPlan) (fault : StuckAt) (given : Verdict) → KeepsRules design → IsPlan plan → grade design plan fault ≡ Some (Judged given) →
    HasOrder (good_machine design) (verdict_time plan given) × HasOrder (faulty_machine design fault) (verdict_time plan given)

-- the time of a race or a loop
abbrev pub stop_of : FaultGrade → Option ℕ
stop_of (Judged given) = None
stop_of (Raced side pair) = Some pair.time
stop_of (Looped time) = Some time

-- before the time of a race or a loop no pair of legal runs has a hard detection
abbrev pub NothingBefore : Type 0
NothingBefore =
    (design : FlatDesign) (plan : TestPlan) (fault : StuckAt) (line : FaultGrade) (stop time : ℕ) → KeepsRules design → IsPlan plan → grade design plan fault ≡ Some line → stop_of line ≡ Some stop →
    time < stop →
    (good faulty : List Move) (good_end faulty_end : State) → IsLegal (good_machine design) time good good_end → IsLegal (faulty_machine design fault) time faulty faulty_end →
    first_strobe is_hard (run_samples (good_machine design) plan.watched good) (run_samples (faulty_machine design fault) plan.watched faulty) (strobes_until time plan) ≡ None

-- each listed fault has a grade, in list order
abbrev pub AreGrades : FlatDesign → TestPlan → List FaultGrade → Type 0
AreGrades design plan lines = AllZip (λ fault line. grade design plan fault ≡ Some line) plan.faults lines

-- what the grades of the listed faults say holds of every legal order
abbrev pub ReportsHold : Type 0
ReportsHold = (design : FlatDesign) (plan : TestPlan) (lines : List FaultGrade) → KeepsRules design → IsPlan plan → AreGrades design plan lines → ReportHolds design plan lines
