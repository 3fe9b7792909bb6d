-- What grading a plan answers (grades over first runs, and over all legal orders, by IEEE 1364-2001, clause 5).
use Rattle.std.specs.Prelude.{ℕ, ◌+◌, ◌*◌, ◌≤◌, false, List, length, sum}
use Rattle.std.specs.List.{AllZip}
use Rattle.v_design.specs.Designs.{FlatDesign, TestPlan}
use Rattle.v_design.specs.Laws.{ReportHolds}
use Rattle.order_laws.specs.Reports.{AreGrades}
use Rattle.v_design.specs.Findings.{grades_of, AreInOrder}
use Rattle.v_design.specs.OwnSteps.{good_steps}
use Rattle.fault_shards.specs.Representatives.{AreRepresentatives}
use Rattle.own_gradings.specs.Numbers.{TakesOwn}
use Rattle.shard_rounds.specs.fault_grade.Results.{LoopsAt, SpeaksOfOrders}
use Rattle.shard_workers.specs.declared.plan.PlanGrades.{PlanGrades}
use Rattle.shard_workers.specs.declared.plan.PlanGrades.TheVariants.{Findings, GoodLoop}

-- the findings are the grades of all listed faults, in list order, where the good machine never loops before a race of its own; else the time of that loop is answered
abbrev pub IsGraded : FlatDesign → TestPlan → PlanGrades → Type 0
IsGraded design plan (Findings findings) =
    AreGrades design plan (grades_of findings.items) × AreInOrder (length plan.faults) findings.items × ((time : ℕ) → LoopsAt design plan time → ⊥)
IsGraded design plan (GoodLoop time) = LoopsAt design plan time

-- what each finding says holds of every pair of legal orders, and none is empty
abbrev pub StandsInEveryOrder : FlatDesign → TestPlan → PlanGrades → Type 0
StandsInEveryOrder design plan (Findings findings) = ReportHolds design plan (grades_of findings.items) × AllZip (SpeaksOfOrders design plan) plan.faults (grades_of findings.items)
StandsInEveryOrder design plan (GoodLoop time) = Unit {0}

-- counters rose by no more than the process steps of the good first run, and twice all own steps of each fault that stands for its class
pub record RoseByOwn (design : FlatDesign) (plan : TestPlan) (before after : ℕ) : Type 0 where
  pub representatives : List ℕ
  pub are_all : AreRepresentatives design plan.faults representatives
  pub within : (steps : List ℕ) → AllZip (TakesOwn design plan false) representatives steps → after ≤ before + (good_steps design plan + 2 * sum steps)

-- so they rose where all faults were graded
abbrev pub PlanTicks : FlatDesign → TestPlan → ℕ → ℕ → PlanGrades → Type 0
PlanTicks design plan before after (Findings findings) = RoseByOwn design plan before after
PlanTicks design plan before after (GoodLoop time) = Unit {0}
