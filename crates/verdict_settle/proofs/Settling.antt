-- A finding has its fault's code.
use Rattle.std.proofs.Common.{◌<◌, ◌≤◌, ◌^◌, length, sym, subst, arith}
use Rattle.std.proofs.lemmas.Option.{slice_get_within}
use Rattle.vf_base.specs.Base.{fault_number}
use Rattle.vf_base.specs.declared.finding.Finding.{Finding}
use Rattle.v_design.specs.Designs.{FlatDesign, TestPlan}
use Rattle.v_design.specs.Grades.{FaultGrade}
use Rattle.v_design.specs.Plain.{grade_of}
use Rattle.v_design.specs.WellFormed.{KeepsRules, IsPlan}
use Rattle.order_laws.specs.FirstRuns.{FirstRunsGoOn}
use Rattle.verdict_words.specs.Codes.{grade_of_end, time_of_grade, code_of_grade, IsCode}
use Rattle.verdict_words.specs.CodeLaws.{IsCode-grade}
use Rattle.fault_shards.specs.Found.{IsFinding}
use Rattle.verdict_settle.proofs.GradeTimes.{grade-within, grade-of-end}

module _ (design : FlatDesign) (plan : TestPlan) (finding : Finding) (is : IsFinding design plan finding) where
  pub listed-below : fault_number finding.fault < length plan.faults
  listed-below = slice_get_within plan.faults (fault_number finding.fault) is.fault is.listed

  pub code-fits : FirstRunsGoOn → KeepsRules design → IsPlan plan → time_of_grade (grade_of_end finding.end) < 2 ^ 61
  code-fits law rules p =
      let t : time_of_grade (grade_of finding.end) ≤ plan.end = grade-within design plan is.fault (grade_of finding.end) law rules p is.graded in
      let last : plan.end ≤ 1000000000000 = p.end in
      subst (λ (g : FaultGrade). time_of_grade g < 2 ^ 61) (sym (grade-of-end finding.end)) (omega (arith, t, last))

  pub code-is : IsCode design plan (fault_number finding.fault) (code_of_grade (grade_of_end finding.end))
  code-is =
      subst (λ (g : FaultGrade). IsCode design plan (fault_number finding.fault) (code_of_grade g)) (sym (grade-of-end finding.end))
      (IsCode-grade design plan (fault_number finding.fault) is.fault (grade_of finding.end) is.listed is.graded)
