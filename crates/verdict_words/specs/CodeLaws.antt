-- A code isn't 0, fits 64 bits where its time is below 2^61, and is that of the listed fault's grade (nothing of the language).
use Rattle.std.proofs.Common.{◌≡◌, ◌≢◌, ℕ, zero, suc, ◌^◌, ◌<◌, ◌↔◌, List, [], ◌∷◌, map, Option, Some, None, slice_get, slice_index, IsSomeAnd, refl, ap, sym, ◌∙◌, subst, arith}
use Rattle.vf_base.specs.declared.finding.Side.TheVariants.{Good, Faulty}
use Rattle.v_design.specs.Designs.{FlatDesign, StuckAt, TestPlan}
use Rattle.v_design.specs.Grades.{Detected, Possible, Undetected, FaultGrade, Judged, Raced, Looped, grade}
use Rattle.verdict_words.specs.Codes.{code_of_grade, time_of_grade, code_if_graded, codes_of, code_of, grade_if_listed, listed_grade, IsCode}

-- a code isn't 0
pub code_of_grade-positive : (g : FaultGrade) → 0 < code_of_grade g
code_of_grade-positive (Judged (Detected time)) = omega arith
code_of_grade-positive (Judged (Possible time)) = omega arith
code_of_grade-positive (Judged Undetected) = omega arith
code_of_grade-positive (Raced Good pair) = omega arith
code_of_grade-positive (Raced Faulty pair) = omega arith
code_of_grade-positive (Looped time) = omega arith

-- a code fits 64 bits exactly where its time is below 2^61
pub code_of_grade-fits : (g : FaultGrade) → (code_of_grade g < 2 ^ 64) ↔ (time_of_grade g < 2 ^ 61)
code_of_grade-fits (Judged (Detected time)) = (λ h. omega arith, λ h. omega arith)
code_of_grade-fits (Judged (Possible time)) = (λ h. omega arith, λ h. omega arith)
code_of_grade-fits (Judged Undetected) = (λ h. omega arith, λ h. omega arith)
code_of_grade-fits (Raced Good pair) = (λ h. omega arith, λ h. omega arith)
code_of_grade-fits (Raced Faulty pair) = (λ h. omega arith, λ h. omega arith)
code_of_grade-fits (Looped time) = (λ h. omega arith, λ h. omega arith)

-- the code at a place of the list is that of the grade there
code_at : (graded : StuckAt → Option FaultGrade) (faults : List StuckAt) (f : ℕ) →
    slice_index (map (λ fault. code_if_graded (graded fault)) faults) f ≡ code_if_graded (grade_if_listed graded (slice_get faults f))
code_at graded [] f = refl
code_at graded (fault ∷ faults) zero = refl
code_at graded (fault ∷ faults) (suc f) = code_at graded faults f

-- the same of a plan
pub code_of-codes_of : (design : FlatDesign) (plan : TestPlan) (f : ℕ) → code_of (codes_of design plan) f ≡ code_if_graded (listed_grade design plan f)
unfolding codes_of listed_grade
code_of-codes_of design plan f = code_at (grade design plan) plan.faults f

-- by the grade, if there is one: its code is what stands in the list, and isn't 0
is_code : (o : Option FaultGrade) (c n : ℕ) → n ≡ code_if_graded o → IsSomeAnd o (λ g. c ≡ code_of_grade g) → (c ≡ n) × (c ≢ 0)
is_code None c n same h = absurd h
is_code (Some g) c n same h = (h ∙ sym same, λ z. (let p = code_of_grade-positive g in omega arith))

-- and the other way round
code_is : (o : Option FaultGrade) (c n : ℕ) → n ≡ code_if_graded o → c ≡ n → c ≢ 0 → IsSomeAnd o (λ g. c ≡ code_of_grade g)
code_is None c n same h positive = absurd (positive (h ∙ same))
code_is (Some g) c n same h positive = h ∙ same

-- the code of a fault's grade stands in the list of codes, and isn't 0
pub IsCode-code_of : (design : FlatDesign) (plan : TestPlan) (f c : ℕ) → IsCode design plan f c → (c ≡ code_of (codes_of design plan) f) × (c ≢ 0)
IsCode-code_of design plan f c h = is_code (listed_grade design plan f) c (code_of (codes_of design plan) f) (code_of-codes_of design plan f) h

-- what stands in the list of codes and isn't 0 is the code of the fault's grade
pub code_of-IsCode : (design : FlatDesign) (plan : TestPlan) (f c : ℕ) → c ≡ code_of (codes_of design plan) f → c ≢ 0 → IsCode design plan f c
code_of-IsCode design plan f c h positive = code_is (listed_grade design plan f) c (code_of (codes_of design plan) f) (code_of-codes_of design plan f) h positive

-- a grade that is there has its code
has_code : (o : Option FaultGrade) (g : FaultGrade) → o ≡ Some g → IsSomeAnd o (λ h. code_of_grade g ≡ code_of_grade h)
has_code o g graded = subst (λ (p : Option FaultGrade). IsSomeAnd p (λ h. code_of_grade g ≡ code_of_grade h)) (sym graded) refl

-- a listed fault that has a grade has its code
pub IsCode-grade : (design : FlatDesign) (plan : TestPlan) (f : ℕ) (fault : StuckAt) (g : FaultGrade) →
    slice_get plan.faults f ≡ Some fault → grade design plan fault ≡ Some g → IsCode design plan f (code_of_grade g)
unfolding listed_grade
IsCode-grade design plan f fault g listed graded =
    has_code (grade_if_listed (grade design plan) (slice_get plan.faults f)) g (ap (grade_if_listed (grade design plan)) listed ∙ graded)
