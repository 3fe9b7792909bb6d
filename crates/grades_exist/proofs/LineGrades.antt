-- Where the grades of a report's lines exist: what comes first decides, and only a loop of the good machine gives none.
use Rattle.std.proofs.Common.{◌≡◌, ℕ, ◌≤◌, Bool, true, false, ◌&&◌, refl, ap, ◌∙◌, ◌⊎◌, inl, inr}
use Rattle.std.specs.Prelude.{Option, Some, None}
use Rattle.vf_base.specs.declared.finding.Side.TheVariants.{Good, Faulty}
use Rattle.v_design.specs.Designs.{FlatDesign, StuckAt, TestPlan, good_machine, faulty_machine}
use Rattle.v_design.specs.Runs.{first_run}
use Rattle.v_design.specs.Grades.{SlotOutcome, Fine, Race, Hyper, is_hard, first_strobe, Verdict, verdict, Judged, Raced, Looped, Stop, stop_time, by_then, good_ending, faulty_ending}
use Rattle.v_design.specs.Grades.{good_or, faulty_or, graded_faulty, graded, grade}
use Rattle.grade_laws.specs.Grading.{good_seen, faulty_seen, good_stop, faulty_stop}
use Rattle.grade_laws.specs.Decisions.{NotBefore, graded-good}
use Rattle.fault_grade.specs.Stops.{loop_stop}
use Rattle.fault_grade.specs.Results.{LoopsAt}
use Rattle.grades_exist.specs.Existing.{NoneHardBefore, GradesExist, GradesMissing, GradeListsExist}
use Rattle.grades_exist.proofs.Stops.{Has, has-some, NotFine, stop-not-fine, stop-since, strobe-since, since-strobe, list-has}

-- Endings

pub faulty-has : (time : ℕ) (outcome : SlotOutcome) → (outcome ≡ Fine → ⊥) → Has (faulty_ending time outcome)
faulty-has time Fine n = absurd (n refl)
faulty-has time (Race pair) n = (Raced Faulty pair, refl)
faulty-has time Hyper n = (Looped time, refl)

-- a stop of the good machine that isn't fine ends the grading, or is a loop
pub good-has : (stop : Stop) → (stop.outcome ≡ Fine → ⊥) → Has (good_ending stop.outcome) ⊎ (Some stop ≡ Some (loop_stop stop.time))
good-has stop n = go stop.outcome refl
  where
    go : (outcome : SlotOutcome) → stop.outcome ≡ outcome → Has (good_ending outcome) ⊎ (Some stop ≡ Some (loop_stop stop.time))
    go Fine e = absurd (n e)
    go (Race pair) e = inl (Raced Good pair, refl)
    go Hyper e = inr (ap (λ (o : SlotOutcome). Some (record { time = stop.time; outcome = o })) e)

graded-has : (faulty : Option Stop) (hard : Option ℕ) (otherwise : Verdict) → NotFine faulty → Has (graded_faulty faulty hard otherwise)
graded-has None hard otherwise n = (Judged otherwise, refl)
graded-has (Some stop) hard otherwise n = go (by_then stop.time hard)
  where
    go : (first : Bool) → Has (faulty_or first stop (Some (Judged otherwise)))
    go true = faulty-has stop.time stop.outcome n
    go false = (Judged otherwise, refl)

-- Decisions

-- a loop of the good machine comes first
abbrev LoopsFirst : Option Stop → Option Stop → Option ℕ → Type 0
LoopsFirst good faulty hard = (time : ℕ) × (good ≡ Some (loop_stop time)) × NotBefore time faulty × ((strobe : ℕ) → hard ≡ Some strobe → time ≤ strobe)

grade-or-loop : (good faulty : Option Stop) (hard : Option ℕ) (otherwise : Verdict) → NotFine good → NotFine faulty → Has (graded good faulty hard otherwise) ⊎ LoopsFirst good faulty hard
grade-or-loop None faulty hard otherwise n m = inl (graded-has faulty hard otherwise m)
grade-or-loop (Some stop) faulty hard otherwise n m = go (by_then stop.time (stop_time faulty)) (by_then stop.time hard) refl refl
  where
    go : (a b : Bool) → by_then stop.time (stop_time faulty) ≡ a → by_then stop.time hard ≡ b →
        Has (good_or (a && b) stop (graded_faulty faulty hard otherwise)) ⊎ LoopsFirst (Some stop) faulty hard
    go false b e f = inl (graded-has faulty hard otherwise m)
    go true false e f = inl (graded-has faulty hard otherwise m)
    go true true e f = elim (good-has stop n) [
      | inl h ↦ inl h
      | inr loops ↦ inr (stop.time, loops, stop-since stop.time faulty e, strobe-since stop.time hard f)
    ]

no-grade : (good faulty : Option Stop) (hard : Option ℕ) (otherwise : Verdict) → LoopsFirst good faulty hard → graded good faulty hard otherwise ≡ None
no-grade good faulty hard otherwise l =
    ap (λ (g : Option Stop). graded g faulty hard otherwise) l.1 ∙ graded-good (loop_stop l.0) faulty hard otherwise l.2 (since-strobe l.0 hard l.3)

-- The laws

its-grade : (design : FlatDesign) (plan : TestPlan) (fault : StuckAt) →
    Has (grade design plan fault) ⊎ ((time : ℕ) × LoopsAt design plan time × NotBefore time (faulty_stop design plan fault) × NoneHardBefore design plan fault time)
its-grade design plan fault =
    grade-or-loop (good_stop design plan) (faulty_stop design plan fault) (first_strobe is_hard (good_seen design plan) (faulty_seen design plan fault) plan.strobes)
    (verdict (good_seen design plan) (faulty_seen design plan fault) plan.strobes)
    (stop-not-fine (good_machine design) (first_run (good_machine design) plan.end))
    (stop-not-fine (faulty_machine design fault) (first_run (faulty_machine design fault) plan.end))

pub grades_exist : GradesExist
grades_exist design plan fault never = elim (its-grade design plan fault) [ inl h ↦ h | inr l ↦ absurd (never l.0 l.1) ]

pub grades_missing : GradesMissing
grades_missing design plan fault = (
  λ none. elim (its-grade design plan fault) [ inl h ↦ has-some (grade design plan fault) h none | inr l ↦ l ],
  λ l. no-grade (good_stop design plan) (faulty_stop design plan fault) (first_strobe is_hard (good_seen design plan) (faulty_seen design plan fault) plan.strobes)
      (verdict (good_seen design plan) (faulty_seen design plan fault) plan.strobes) l,
)

pub grade_lists_exist : GradeListsExist
grade_lists_exist design plan never = list-has (grade design plan) (λ fault. grades_exist design plan fault never) plan.faults
