-- What a plan's text means over a design: a report, or the reason why there is none (grades over first runs, and over all legal orders, by IEEE 1364-2001, clause 5).
use Rattle.std.specs.Prelude.{◌≡◌, ◌≢◌, ℕ, List, Result, Ok, Err}
use Rattle.std.specs.List.{AllZip}
use Rattle.v_design.specs.Designs.{FlatDesign, TestPlan, StuckAt}
use Rattle.v_design.specs.Grades.{FaultGrade}
use Rattle.v_design.specs.Laws.{ReportHolds}
use Rattle.order_laws.specs.Reports.{AreGrades}
use Rattle.plan_read.specs.Spelled.{Spells, Refuses}
use Rattle.plan_read.specs.declared.fault.PlanFault.{PlanFault}
use Rattle.plan_read.specs.declared.fault.PlanFault.TheVariants as plans
use Rattle.grade_report.specs.Report.{total_line, report_text}
use Rattle.shard_workers.specs.fault_grade.Results.{LoopsAt, SpeaksOfOrders}
use Rattle.plan_report.specs.declared.extent.Extent.{Extent}
use Rattle.plan_report.specs.declared.extent.Extent.TheVariants.{Lines, Totals}
use Rattle.plan_report.specs.declared.fault.ReportFault.{ReportFault}
use Rattle.plan_report.specs.declared.fault.ReportFault.TheVariants.{Plan, GoodLoop, NoMemory}

-- what is wanted of the report on some faults: the whole, or the line of its totals
abbrev pub wanted_text : Extent → FlatDesign → List StuckAt → List FaultGrade → List ℕ
wanted_text Lines design faults grades = report_text design faults grades
wanted_text Totals design faults grades = total_line grades

-- the report on the plan that the text spells: a line with its grade for each listed fault, in list order; the good machine doesn't loop up to the plan's end before a race of its own
pub record IsReport (extent : Extent) (design : FlatDesign) (text report : List ℕ) : Type 0 where
  pub plan : TestPlan
  pub spelled : Spells design text plan
  pub lines : List FaultGrade
  pub grades : AreGrades design plan lines
  pub no_loop : (time : ℕ) → LoopsAt design plan time → ⊥
  pub report_is : report ≡ wanted_text extent design plan.faults lines

-- the good machine loops at this time, up to the end of the plan that the text spells and before a race of its own
pub record IsGoodLoop (design : FlatDesign) (text : List ℕ) (time : ℕ) : Type 0 where
  pub plan : TestPlan
  pub spelled : Spells design text plan
  pub loops : LoopsAt design plan time

-- the reason is that of the text; want of memory is none
abbrev pub IsFaultOf : FlatDesign → List ℕ → ReportFault → Type 0
IsFaultOf design text (Plan fault) = Refuses design text fault × (fault ≢ plans.NoMemory)
IsFaultOf design text (GoodLoop time) = IsGoodLoop design text time
IsFaultOf design text NoMemory = ⊥

-- what the text means over the design
abbrev pub Means : Extent → FlatDesign → List ℕ → Result (List ℕ) ReportFault → Type 0
Means extent design text (Ok report) = IsReport extent design text report
Means extent design text (Err fault) = IsFaultOf design text fault

-- this is what the text means over the design, and it means nothing else
pub record IsTheMeaning (extent : Extent) (design : FlatDesign) (text : List ℕ) (meaning : Result (List ℕ) ReportFault) : Type 0 where
  pub means : Means extent design text meaning
  pub only : (other : Result (List ℕ) ReportFault) → Means extent design text other → other ≡ meaning

-- The lines of the report, one for each listed fault of the plan that the text spells, hold in every order: a verdict is that of every pair of legal orders of
-- the good and the faulty machine, run apart to the time of which it speaks, and such orders exist; a race names two conflicting accesses of one legal
-- order; a loop is one of the faulty machine; and no pair of legal orders has a hard detection before a race or a loop.
pub record HoldsInEveryOrder (extent : Extent) (design : FlatDesign) (text report : List ℕ) : Type 0 where
  pub plan : TestPlan
  pub spelled : Spells design text plan
  pub lines : List FaultGrade
  pub report_is : report ≡ wanted_text extent design plan.faults lines
  pub every_order : ReportHolds design plan lines
  pub speaks : AllZip (SpeaksOfOrders design plan) plan.faults lines

-- the fault of a text that spells no plan
abbrev pub plan_fault : PlanFault → ReportFault
plan_fault (plans.BadLine line) = Plan (plans.BadLine line)
plan_fault (plans.UnknownSite line) = Plan (plans.UnknownSite line)
plan_fault (plans.TooMany line) = Plan (plans.TooMany line)
plan_fault plans.TooLong = Plan plans.TooLong
plan_fault plans.NoMemory = NoMemory
