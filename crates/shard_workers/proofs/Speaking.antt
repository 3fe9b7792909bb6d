-- What each finding says holds of every order.
use Rattle.std.specs.Prelude.{◌≡◌, List, [], ◌∷◌, Some}
use Rattle.std.proofs.Common.{ap, ◌∙◌}
use Rattle.std.specs.List.{AllZip}
use Rattle.v_design.specs.Designs.{FlatDesign, TestPlan, StuckAt}
use Rattle.v_design.specs.Grades.{FaultGrade, grade}
use Rattle.v_design.specs.Laws.{ReportHolds}
use Rattle.v_design.specs.WellFormed.{KeepsRules, IsPlan}
use Rattle.order_laws.specs.Reports.{AreGrades, OrdersExist, NothingBefore, ReportsHold}
use Rattle.v_design.specs.Findings.{grades_of}
use Rattle.shard_rounds.specs.fault_grade.Results.{SpeaksOfOrders}
use Rattle.shard_workers.specs.Results.{IsGraded, StandsInEveryOrder}
use Rattle.shard_workers.specs.declared.plan.PlanGrades.{PlanGrades}
use Rattle.shard_workers.specs.declared.plan.PlanGrades.TheVariants.{Findings, GoodLoop}

speaks-all : (design : FlatDesign) (plan : TestPlan) → OrdersExist → NothingBefore → KeepsRules design → IsPlan plan → (faults : List StuckAt) (lines : List FaultGrade) →
    AllZip (λ fault line. grade design plan fault ≡ Some line) faults lines →
    AllZip (SpeaksOfOrders design plan) faults lines
speaks-all design plan exist before rules plan_rules [] [] h = tt
speaks-all design plan exist before rules plan_rules [] (line ∷ lines) h = absurd h
speaks-all design plan exist before rules plan_rules (fault ∷ faults) [] h = absurd h
speaks-all design plan exist before rules plan_rules (fault ∷ faults) (line ∷ lines) h = (
  record {
    orders = λ given is. exist design plan fault given rules plan_rules (h.0 ∙ ap (λ l. Some l) is);
    nothing_before = λ stop time is early. before design plan fault line stop time rules plan_rules h.0 is early;
  },
  speaks-all design plan exist before rules plan_rules faults lines h.1,
)

pub stands-all : (design : FlatDesign) (plan : TestPlan) (lines : List FaultGrade) → ReportsHold → OrdersExist → NothingBefore → KeepsRules design → IsPlan plan → AreGrades design plan lines →
    ReportHolds design plan lines × AllZip (SpeaksOfOrders design plan) plan.faults lines
stands-all design plan lines law exist before rules plan_rules grades = (law design plan lines rules plan_rules grades, speaks-all design plan exist before rules plan_rules plan.faults lines grades)

-- the same of an answer
pub stands-graded : (design : FlatDesign) (plan : TestPlan) (grades : PlanGrades) → ReportsHold → OrdersExist → NothingBefore → KeepsRules design → IsPlan plan → IsGraded design plan grades →
    StandsInEveryOrder design plan grades
stands-graded design plan (Findings findings) law exist before rules plan_rules graded = stands-all design plan (grades_of findings.items) law exist before rules plan_rules graded.0
stands-graded design plan (GoodLoop time) law exist before rules plan_rules graded = tt
