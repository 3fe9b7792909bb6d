-- What each step of reporting tells of the plan's text (nothing of the language).
use Rattle.std.proofs.Common.{◌≡◌, ℕ, List, [], ◌∷◌, Option, Some, None, Result, Ok, Err, refl, sym, ap, subst, ◌∙◌, ◌⊎◌, inl, inr}
use Rattle.std.specs.Prelude.{◌≢◌}
use Rattle.std.specs.List.{AllZip}
use Rattle.v_design.specs.Designs.{FlatDesign, TestPlan, StuckAt}
use Rattle.v_design.specs.Grades.{FaultGrade, Stop, grade}
use Rattle.v_design.specs.Laws.{ReportHolds}
use Rattle.order_laws.specs.Reports.{AreGrades}
use Rattle.plan_read.specs.Spelled.{Spells, Refuses}
use Rattle.plan_read.specs.declared.fault.PlanFault.{PlanFault}
use Rattle.plan_read.specs.declared.fault.PlanFault.TheVariants as plans
use Rattle.plan_report.specs.declared.extent.Extent.{Extent}
use Rattle.shard_workers.specs.fault_grade.Results.{LoopsAt, SpeaksOfOrders}
use Rattle.plan_report.specs.declared.fault.ReportFault.{ReportFault}
use Rattle.plan_report.specs.declared.fault.ReportFault.TheVariants.{Plan, GoodLoop, NoMemory}
use Rattle.plan_report.specs.Reports.{wanted_text, IsGoodLoop, Means, IsTheMeaning, HoldsInEveryOrder, plan_fault}
use Rattle.plan_report.specs.OneMeaning.{one-reason, no-reason, one-plan}

-- the answer is want of memory, or what the text means
abbrev pub Answers : Extent → FlatDesign → List ℕ → ReportFault → Type 0
Answers extent design text fault = (fault ≡ NoMemory) ⊎ IsTheMeaning extent design text (Err fault)

-- grades are known by their faults
one-grades : (design : FlatDesign) (plan : TestPlan) (faults : List StuckAt) (one other : List FaultGrade) →
    AllZip (λ fault line. grade design plan fault ≡ Some line) faults one → AllZip (λ fault line. grade design plan fault ≡ Some line) faults other → one ≡ other
one-grades design plan [] [] [] h d = refl
one-grades design plan [] [] (y ∷ other) h d = absurd d
one-grades design plan [] (x ∷ one) other h d = absurd h
one-grades design plan (f ∷ faults) [] other h d = absurd h
one-grades design plan (f ∷ faults) (x ∷ one) [] h d = absurd d
one-grades design plan (f ∷ faults) (x ∷ one) (y ∷ other) h d =
    let told : Some x ≡ Some y = sym h.0 ∙ d.0 in let same : x ≡ y = cc in
    ap (λ l. l ∷ one) same ∙ ap (λ ls. y ∷ ls) (one-grades design plan faults one other h.1 d.1)

abbrev time_or : ℕ → Option Stop → ℕ
time_or t None = t
time_or t (Some stop) = stop.time

module _ (extent : Extent) (design : FlatDesign) (text : List ℕ) where
  loop-of : (plan : TestPlan) (time : ℕ) → Spells design text plan → IsGoodLoop design text time → LoopsAt design plan time
  loop-of plan time s h = subst (λ p. LoopsAt design p time) (one-plan design text h.plan plan h.spelled s) h.loops

  -- The plan

  plan-means : (fault : PlanFault) → Refuses design text fault → fault ≢ plans.NoMemory → IsTheMeaning extent design text (Err (Plan fault))
  plan-means fault is told = record { means = (is, told); only = only }
    where
      only : (other : Result (List ℕ) ReportFault) → Means extent design text other → other ≡ Err (Plan fault)
      only (Ok report) m = absurd (no-reason design text m.plan fault m.spelled is told)
      only (Err (Plan other)) m = ap (λ f. Err (Plan f)) (one-reason design text other fault m.0 is m.1 told)
      only (Err (GoodLoop time)) m = absurd (no-reason design text m.plan fault m.spelled is told)
      only (Err NoMemory) m = absurd m

  pub plan-told : (fault : PlanFault) → Refuses design text fault → Answers extent design text (plan_fault fault)
  plan-told (plans.BadLine line) is = inr (plan-means (plans.BadLine line) is (λ e. cc))
  plan-told (plans.UnknownSite line) is = inr (plan-means (plans.UnknownSite line) is (λ e. cc))
  plan-told (plans.TooMany line) is = inr (plan-means (plans.TooMany line) is (λ e. cc))
  plan-told plans.TooLong is = inr (plan-means plans.TooLong is (λ e. cc))
  plan-told plans.NoMemory is = inl refl

  -- The grades

  pub loop-told : (plan : TestPlan) (time : ℕ) → Spells design text plan → LoopsAt design plan time → Answers extent design text (GoodLoop time)
  loop-told plan time s loops = inr (record { means = record { plan = plan; spelled = s; loops = loops }; only = only })
    where
      only : (other : Result (List ℕ) ReportFault) → Means extent design text other → other ≡ Err (GoodLoop time)
      only (Ok report) m = absurd (m.no_loop time (subst (λ p. LoopsAt design p time) (one-plan design text plan m.plan s m.spelled) loops))
      only (Err (Plan other)) m = absurd (no-reason design text plan other s m.0 m.1)
      only (Err (GoodLoop other)) m = ap (λ t. Err (GoodLoop t)) (ap (time_or time) (sym (loop-of plan other s m) ∙ loops))
      only (Err NoMemory) m = absurd m

  pub report-told : (plan : TestPlan) (lines : List FaultGrade) (report : List ℕ) → Spells design text plan → AreGrades design plan lines → ((time : ℕ) → LoopsAt design plan time → ⊥) →
      report ≡ wanted_text extent design plan.faults lines → IsTheMeaning extent design text (Ok report)
  report-told plan lines report s grades no_loop is = record { means = record { plan = plan; spelled = s; lines = lines; grades = grades; no_loop = no_loop; report_is = is }; only = only }
    where
      only : (other : Result (List ℕ) ReportFault) → Means extent design text other → other ≡ Ok report
      only (Ok other) m =
          let same : m.plan ≡ plan = one-plan design text m.plan plan m.spelled s in
          let same_lines : m.lines ≡ lines = one-grades design plan plan.faults m.lines lines (subst (λ p. AreGrades design p m.lines) same m.grades) grades in
          ap (λ t. Ok t) (m.report_is ∙ (ap (λ (p : TestPlan). wanted_text extent design p.faults m.lines) same ∙ (ap (wanted_text extent design plan.faults) same_lines ∙ sym is)))
      only (Err (Plan other)) m = absurd (no-reason design text plan other s m.0 m.1)
      only (Err (GoodLoop time)) m = absurd (no_loop time (loop-of plan time s m))
      only (Err NoMemory) m = absurd m

  pub every-order : (plan : TestPlan) (lines : List FaultGrade) (report : List ℕ) → Spells design text plan → report ≡ wanted_text extent design plan.faults lines → ReportHolds design plan lines →
      AllZip (SpeaksOfOrders design plan) plan.faults lines → HoldsInEveryOrder extent design text report
  every-order plan lines report s is holds speaks = record { plan = plan; spelled = s; lines = lines; report_is = is; every_order = holds; speaks = speaks }
