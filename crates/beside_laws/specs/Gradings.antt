-- The grading of a fault on its way, and the time at which it ends (strobes and slots by IEEE 1364-2001, clause 5).
use Rattle.std.specs.Prelude.{◌≡◌, ℕ, ◌<◌, ◌≤◌, List, [], ◌∷◌, ◌++◌, Option, Some, None}
use Rattle.four_value.specs.declared.logic.Bit.{Bit}
use Rattle.vf_base.specs.Lists.{AllHold}
use Rattle.v_design.specs.Designs.{FlatDesign, StuckAt, TestPlan}
use Rattle.v_design.specs.Grades.{Stop, Detected, verdict_by, FaultGrade, Judged, good_ending, faulty_ending, grade}
use Rattle.v_design.specs.WellFormed.{IsPlan, KeepsRules}
use Rattle.strobe_detect.specs.Graders.{GraderState, IsShown, shown_at}
use Rattle.copy_laws.specs.Windows.{HasEnded}
use Rattle.grade_laws.specs.Ahead.{StopsAfter}
use Rattle.grade_laws.specs.Decisions.{NotBefore}
use Rattle.grade_laws.specs.Grading.{good_seen, faulty_seen, good_stop, faulty_stop}
use Rattle.beside_laws.specs.Stands.{IsAfter}

-- a first stop comes after a time, if that is there
abbrev pub GoesPast : Option ℕ → Option Stop → Type 0
GoesPast None stop = Unit {0}
GoesPast (Some now) stop = StopsAfter now stop

-- neither machine stops up to a time, if that is there; of the plan's strobes those up to it were shown to the grader, which found no hard detection, and the others are next
pub record GradingGoesOn (design : FlatDesign) (plan : TestPlan) (fault : StuckAt) (now : Option ℕ) (passed next : List ℕ) (grader : GraderState) : Type 0 where
  pub strobes : plan.strobes ≡ passed ++ next
  pub later : AllHold (λ strobe. IsAfter now strobe) next
  pub good : GoesPast now (good_stop design plan)
  pub faulty : GoesPast now (faulty_stop design plan fault)
  pub watched : grader.watched ≡ plan.watched
  pub shown : IsShown (good_seen design plan) (faulty_seen design plan fault) passed grader
  pub none_hard : grader.hard ≡ None

-- the grading of a fault doesn't end up to a time
abbrev pub HasNotEnded : FlatDesign → TestPlan → StuckAt → ℕ → Type 0
HasNotEnded design plan fault time = HasEnded design plan fault time → ⊥

-- The laws

pub record GradingsGoOn : Type 0 where
  -- at the start of both machines
  pub begins : (design : FlatDesign) (plan : TestPlan) (fault : StuckAt) (grader : GraderState) → grader ≡ record { watched = plan.watched; hard = None; possible = None } →
      GradingGoesOn design plan fault None [] plan.strobes grader
  -- a strobe up to which neither machine stops is shown to the grader: nothing hard is found there
  pub strobe : (design : FlatDesign) (plan : TestPlan) (fault : StuckAt) (now : Option ℕ) (passed next : List ℕ) (strobe : ℕ) (grader new : GraderState) (good faulty : List Bit) → IsPlan plan →
      GradingGoesOn design plan fault now passed (strobe ∷ next) grader → StopsAfter strobe (good_stop design plan) → StopsAfter strobe (faulty_stop design plan fault) →
      good ≡ good_seen design plan strobe → faulty ≡ faulty_seen design plan fault strobe → new ≡ shown_at strobe good faulty grader → new.hard ≡ None →
      GradingGoesOn design plan fault (Some strobe) (passed ++ strobe ∷ []) next new
  -- both machines go on to a time before the next strobe
  pub passes : (design : FlatDesign) (plan : TestPlan) (fault : StuckAt) (now : Option ℕ) (passed next : List ℕ) (grader : GraderState) (time : ℕ) →
      GradingGoesOn design plan fault now passed next grader → AllHold (λ strobe. time < strobe) next → StopsAfter time (good_stop design plan) →
      StopsAfter time (faulty_stop design plan fault) → GradingGoesOn design plan fault (Some time) passed next grader
  -- so far it hasn't ended
  pub not_ended : (design : FlatDesign) (plan : TestPlan) (fault : StuckAt) (time : ℕ) (passed next : List ℕ) (grader : GraderState) →
      GradingGoesOn design plan fault (Some time) passed next grader → time < plan.end → HasNotEnded design plan fault time
  -- and where it hasn't ended up to a time it goes on there, with a grader to which the strobes up to then were shown
  pub again : (design : FlatDesign) (plan : TestPlan) (fault : StuckAt) (time : ℕ) (passed next : List ℕ) (grader : GraderState) → HasNotEnded design plan fault time →
      plan.strobes ≡ passed ++ next → AllHold (λ strobe. strobe ≤ time) passed → AllHold (λ strobe. time < strobe) next → grader.watched ≡ plan.watched →
      IsShown (good_seen design plan) (faulty_seen design plan fault) passed grader → GradingGoesOn design plan fault (Some time) passed next grader

-- a grading that ended by a time, with this grade
pub record EndsAt (design : FlatDesign) (plan : TestPlan) (fault : StuckAt) (time : ℕ) (found : FaultGrade) : Type 0 where
  pub grade_is : grade design plan fault ≡ Some found
  pub ended : HasEnded design plan fault time

pub record GradingsEnd : Type 0 where
  -- the grader finds a hard detection at a strobe up to which neither machine stops
  pub hard : (design : FlatDesign) (plan : TestPlan) (fault : StuckAt) (now : Option ℕ) (passed next : List ℕ) (strobe found : ℕ) (grader new : GraderState) (good faulty : List Bit) →
      GradingGoesOn design plan fault now passed (strobe ∷ next) grader → StopsAfter strobe (good_stop design plan) → StopsAfter strobe (faulty_stop design plan fault) →
      good ≡ good_seen design plan strobe → faulty ≡ faulty_seen design plan fault strobe → new ≡ shown_at strobe good faulty grader → new.hard ≡ Some found →
      EndsAt design plan fault strobe (Judged (Detected strobe))
  -- the faulty machine stops before the good one, and not after the next strobe
  pub faulty : (design : FlatDesign) (plan : TestPlan) (fault : StuckAt) (now : Option ℕ) (passed next : List ℕ) (grader : GraderState) (stop : Stop) (found : FaultGrade) →
      GradingGoesOn design plan fault now passed next grader → faulty_stop design plan fault ≡ Some stop → AllHold (λ strobe. stop.time ≤ strobe) next →
      StopsAfter stop.time (good_stop design plan) → faulty_ending stop.time stop.outcome ≡ Some found → EndsAt design plan fault stop.time found
  -- the good machine stops, not after the next strobe, and the faulty one doesn't before it
  pub good : (design : FlatDesign) (plan : TestPlan) (fault : StuckAt) (now : Option ℕ) (passed next : List ℕ) (grader : GraderState) (stop : Stop) (found : FaultGrade) →
      GradingGoesOn design plan fault now passed next grader → good_stop design plan ≡ Some stop → AllHold (λ strobe. stop.time ≤ strobe) next →
      NotBefore stop.time (faulty_stop design plan fault) → good_ending stop.outcome ≡ Some found → EndsAt design plan fault stop.time found
  -- no strobe is left and neither machine stops
  pub verdict : (design : FlatDesign) (plan : TestPlan) (fault : StuckAt) (now : Option ℕ) (passed : List ℕ) (grader : GraderState) → KeepsRules design → IsPlan plan →
      GradingGoesOn design plan fault now passed [] grader → good_stop design plan ≡ None → faulty_stop design plan fault ≡ None →
      EndsAt design plan fault plan.end (Judged (verdict_by grader.hard grader.possible))
  -- by the plan's end each grading ended
  pub by_end : (design : FlatDesign) (plan : TestPlan) (fault : StuckAt) → KeepsRules design → IsPlan plan → HasEnded design plan fault plan.end
