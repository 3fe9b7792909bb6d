-- Where full grades exist: only a loop of the good machine that comes first gives none.
use Rattle.std.proofs.Common.{◌≡◌, ℕ, List, Bool, true, false, refl, ap, ◌∙◌, ◌⊎◌, inl, inr}
use Rattle.std.specs.Prelude.{Option, Some, None}
use Rattle.v_design.specs.Designs.{FlatDesign, StuckAt, TestPlan, good_machine}
use Rattle.v_design.specs.Runs.{first_run}
use Rattle.v_design.specs.Grades.{Samples, FaultGrade, Stop, stop_time, by_then, good_ending, FullGrade, ended_in_full, ended_by_good, full_faulty, full_of, full_grade}
use Rattle.grade_laws.specs.Grading.{faulty_seen, good_stop, faulty_stop}
use Rattle.grade_laws.specs.Decisions.{NotBefore}
use Rattle.fault_grade.specs.Stops.{loop_stop}
use Rattle.fault_grade.specs.Results.{LoopsAt}
use Rattle.grades_exist.specs.Existing.{FullGradesExist, FullGradesMissing, FullGradeListsExist}
use Rattle.grades_exist.proofs.Stops.{Has, has-some, NotFine, stop-not-fine, stop-since, since-stop, list-has}
use Rattle.grades_exist.proofs.LineGrades.{good-has}

-- Decisions

-- a loop of the good machine comes first
abbrev LoopsFirst : Option Stop → Option Stop → Type 0
LoopsFirst good faulty = (time : ℕ) × (good ≡ Some (loop_stop time)) × NotBefore time faulty

ended-has : (time : ℕ) (end : Option FaultGrade) (seen : Samples) (strobes : List ℕ) → Has end → Has (ended_by_good time end seen strobes)
ended-has time end seen strobes h = (ended_in_full time (Some h.0) seen strobes, ap (λ found. ended_by_good time found seen strobes) h.1)

-- the full grade by whether the good machine's stop comes first
abbrev full_by : Stop → Option Stop → Samples → List ℕ → Bool → Option FullGrade
full_by stop faulty seen strobes first = elim first [ true ↦ ended_by_good stop.time (good_ending stop.outcome) seen strobes | false ↦ Some (full_faulty faulty seen strobes) ]

full-or-loop : (good faulty : Option Stop) (seen : Samples) (strobes : List ℕ) → NotFine good → Has (full_of good faulty seen strobes) ⊎ LoopsFirst good faulty
full-or-loop None faulty seen strobes n = inl (full_faulty faulty seen strobes, refl)
full-or-loop (Some stop) faulty seen strobes n = go (by_then stop.time (stop_time faulty)) refl
  where
    go : (first : Bool) → by_then stop.time (stop_time faulty) ≡ first → Has (full_by stop faulty seen strobes first) ⊎ LoopsFirst (Some stop) faulty
    go false e = inl (full_faulty faulty seen strobes, refl)
    go true e = elim (good-has stop n) [
      | inl h ↦ inl (ended-has stop.time (good_ending stop.outcome) seen strobes h)
      | inr loops ↦ inr (stop.time, loops, stop-since stop.time faulty e)
    ]

no-full : (good faulty : Option Stop) (seen : Samples) (strobes : List ℕ) → LoopsFirst good faulty → full_of good faulty seen strobes ≡ None
no-full good faulty seen strobes l =
    ap (λ (g : Option Stop). full_of g faulty seen strobes) l.1 ∙ ap (full_by (loop_stop l.0) faulty seen strobes) (since-stop l.0 faulty l.2)

-- The laws

its-full : (design : FlatDesign) (plan : TestPlan) (fault : StuckAt) →
    Has (full_grade design plan fault) ⊎ ((time : ℕ) × LoopsAt design plan time × NotBefore time (faulty_stop design plan fault))
its-full design plan fault =
    full-or-loop (good_stop design plan) (faulty_stop design plan fault) (faulty_seen design plan fault) plan.strobes
    (stop-not-fine (good_machine design) (first_run (good_machine design) plan.end))

pub full_grades_exist : FullGradesExist
full_grades_exist design plan fault never = elim (its-full design plan fault) [ inl h ↦ h | inr l ↦ absurd (never l.0 l.1) ]

pub full_grades_missing : FullGradesMissing
full_grades_missing design plan fault = (
  λ none. elim (its-full design plan fault) [ inl h ↦ has-some (full_grade design plan fault) h none | inr l ↦ l ],
  λ l. no-full (good_stop design plan) (faulty_stop design plan fault) (faulty_seen design plan fault) plan.strobes l,
)

pub full_grade_lists_exist : FullGradeListsExist
full_grade_lists_exist design plan never = list-has (full_grade design plan) (λ fault. full_grades_exist design plan fault never) plan.faults
