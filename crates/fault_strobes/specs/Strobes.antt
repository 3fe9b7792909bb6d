-- The grading of a fault from strobe to strobe, whether it is judged or its samples are kept (strobes and slots by IEEE 1364-2001, clause 5).
use Rattle.std.specs.Prelude.{◌≡◌, ℕ, ◌<◌, ◌≤◌, true, false, Bool, List, [], ◌∷◌, ◌++◌, Option, Some, None}
use Rattle.four_value.specs.declared.logic.Bit.{Bit}
use Rattle.vf_base.specs.Lists.{AllHold}
use Rattle.v_design.specs.Designs.{FlatDesign, StuckAt, TestPlan}
use Rattle.v_design.specs.Grades.{Stop, Detected, FaultGrade, Judged, good_ending, faulty_ending}
use Rattle.v_design.specs.WellFormed.{IsPlan, KeepsRules}
use Rattle.copy_laws.specs.Differences.{Differences}
use Rattle.copy_laws.specs.Windows.{IsBesideAt, IsCopyAt}
use Rattle.grade_laws.specs.Ahead.{StopsAfter}
use Rattle.grade_laws.specs.Decisions.{NotBefore}
use Rattle.grade_laws.specs.Grading.{good_seen, faulty_seen, good_stop, faulty_stop}
use Rattle.beside_laws.specs.Stands.{IsAfter}
use Rattle.beside_laws.specs.Gradings.{EndsAt, GoesPast, HasNotEnded}
use Rattle.beside_laws.specs.GoodRuns.{IsAllAt, IsOpenAt}
use Rattle.beside_laws.specs.Shards.{found_fault, open_fault}
use Rattle.fault_strobes.specs.Said.{IsSaid, Said, SaysNothing, ends_there, keeps, plan_by, said_at, verdict_said}
use Rattle.fault_strobes.specs.Full.{IsFull}

-- neither machine stops up to a time, if that is there; of the plan's strobes those up to it ended nothing and said this, and the others are next
pub record StrobesGoOn (design : FlatDesign) (plan : TestPlan) (fault : StuckAt) (now : Option ℕ) (passed next : List ℕ) (said : Said) : Type 0 where
  pub strobes : plan.strobes ≡ passed ++ next
  pub later : AllHold (λ strobe. IsAfter now strobe) next
  pub good : GoesPast now (good_stop design plan)
  pub faulty : GoesPast now (faulty_stop design plan fault)
  -- each that was passed comes before both machines' stops
  pub good_later : AllHold (λ strobe. StopsAfter strobe (good_stop design plan)) passed
  pub faulty_later : AllHold (λ strobe. StopsAfter strobe (faulty_stop design plan fault)) passed
  pub so_far : IsSaid (good_seen design plan) (faulty_seen design plan fault) passed said

-- a grading that ended by a time, by the strobes that may end it, with this grade; where the samples are kept they are those of the full grade
pub record EndsWith (design : FlatDesign) (plan : TestPlan) (fault : StuckAt) (time : ℕ) (found : FaultGrade) (said : Said) : Type 0 where
  pub ends : EndsAt design (plan_by (keeps said) plan) fault time found
  pub full : IsFull design plan fault found said

-- The laws

pub record StrobedGradingsGoOn : Type 0 where
  -- at the start of both machines
  pub begins : (design : FlatDesign) (plan : TestPlan) (fault : StuckAt) (said : Said) → SaysNothing said → StrobesGoOn design plan fault None [] plan.strobes said
  -- a strobe up to which neither machine stops ends nothing
  pub strobe : (design : FlatDesign) (plan : TestPlan) (fault : StuckAt) (now : Option ℕ) (passed next : List ℕ) (strobe : ℕ) (said new : Said) (good faulty : List Bit) → IsPlan plan →
      StrobesGoOn design plan fault now passed (strobe ∷ next) said → StopsAfter strobe (good_stop design plan) → StopsAfter strobe (faulty_stop design plan fault) →
      good ≡ good_seen design plan strobe → faulty ≡ faulty_seen design plan fault strobe → ends_there good faulty said ≡ false → new ≡ said_at strobe good faulty said →
      StrobesGoOn design plan fault (Some strobe) (passed ++ strobe ∷ []) next new
  -- both machines go on to a time before the next strobe
  pub passes : (design : FlatDesign) (plan : TestPlan) (fault : StuckAt) (now : Option ℕ) (passed next : List ℕ) (said : Said) (time : ℕ) →
      StrobesGoOn design plan fault now passed next said → AllHold (λ strobe. time < strobe) next → StopsAfter time (good_stop design plan) →
      StopsAfter time (faulty_stop design plan fault) → StrobesGoOn design plan fault (Some time) passed next said
  -- so far it hasn't ended
  pub not_ended : (design : FlatDesign) (plan : TestPlan) (fault : StuckAt) (time : ℕ) (passed next : List ℕ) (said : Said) →
      StrobesGoOn design plan fault (Some time) passed next said → time < plan.end → HasNotEnded design (plan_by (keeps said) plan) fault time
  -- and where it hasn't ended up to a time it goes on there, with what the strobes up to then said
  pub again : (design : FlatDesign) (plan : TestPlan) (fault : StuckAt) (time : ℕ) (passed next : List ℕ) (said : Said) → HasNotEnded design (plan_by (keeps said) plan) fault time →
      plan.strobes ≡ passed ++ next → AllHold (λ strobe. strobe ≤ time) passed → AllHold (λ strobe. time < strobe) next →
      IsSaid (good_seen design plan) (faulty_seen design plan fault) passed said → StrobesGoOn design plan fault (Some time) passed next said

pub record StrobedGradingsEnd : Type 0 where
  -- a strobe up to which neither machine stops ends it
  pub hard : (design : FlatDesign) (plan : TestPlan) (fault : StuckAt) (now : Option ℕ) (passed next : List ℕ) (strobe : ℕ) (said new : Said) (good faulty : List Bit) →
      StrobesGoOn design plan fault now passed (strobe ∷ next) said → StopsAfter strobe (good_stop design plan) → StopsAfter strobe (faulty_stop design plan fault) →
      good ≡ good_seen design plan strobe → faulty ≡ faulty_seen design plan fault strobe → ends_there good faulty said ≡ true → new ≡ said_at strobe good faulty said →
      EndsWith design plan fault strobe (Judged (Detected strobe)) new
  -- the faulty machine stops before the good one, and not after the next strobe
  pub faulty : (design : FlatDesign) (plan : TestPlan) (fault : StuckAt) (now : Option ℕ) (passed next : List ℕ) (said : Said) (stop : Stop) (found : FaultGrade) →
      StrobesGoOn design plan fault now passed next said → faulty_stop design plan fault ≡ Some stop → AllHold (λ strobe. stop.time ≤ strobe) next →
      StopsAfter stop.time (good_stop design plan) → faulty_ending stop.time stop.outcome ≡ Some found → EndsWith design plan fault stop.time found said
  -- the good machine stops, not after the next strobe, and the faulty one doesn't before it
  pub good : (design : FlatDesign) (plan : TestPlan) (fault : StuckAt) (now : Option ℕ) (passed next : List ℕ) (said : Said) (stop : Stop) (found : FaultGrade) →
      StrobesGoOn design plan fault now passed next said → good_stop design plan ≡ Some stop → AllHold (λ strobe. stop.time ≤ strobe) next →
      NotBefore stop.time (faulty_stop design plan fault) → good_ending stop.outcome ≡ Some found → EndsWith design plan fault stop.time found said
  -- no strobe is left and neither machine stops
  pub verdict : (design : FlatDesign) (plan : TestPlan) (fault : StuckAt) (now : Option ℕ) (passed : List ℕ) (said : Said) → KeepsRules design → IsPlan plan →
      StrobesGoOn design plan fault now passed [] said → good_stop design plan ≡ None → faulty_stop design plan fault ≡ None →
      EndsWith design plan fault plan.end (Judged (verdict_said said)) said

-- a fault of a shard, by the strobes that may end its grading
pub record StrobedFaultsGoOn : Type 0 where
  -- its grading goes on through a window after which slots come, and its copy there is the faulty machine's state: it stays open
  pub goes_on : (design : FlatDesign) (plan : TestPlan) (fault : StuckAt) (through time : ℕ) (passed next : List ℕ) (said : Said) (d : Differences) → IsOpenAt design plan through time →
      StrobesGoOn design plan fault (Some time) passed next said → IsCopyAt design plan fault time d → IsBesideAt design (plan_by (keeps said) plan) through (open_fault fault d)
  -- its grading ended up to the time of a window after which slots come: this is its finding
  pub ends : (design : FlatDesign) (plan : TestPlan) (fault : StuckAt) (kept : Bool) (through time ended : ℕ) (found : FaultGrade) (d : Differences) → IsOpenAt design plan through time →
      EndsAt design (plan_by kept plan) fault ended found → ended ≤ time → IsBesideAt design (plan_by kept plan) through (found_fault fault d found)
  -- the good first run has no further slot: whatever the grade is, it is the finding
  pub ends_all : (design : FlatDesign) (plan : TestPlan) (fault : StuckAt) (kept : Bool) (through ended : ℕ) (found : FaultGrade) (d : Differences) → KeepsRules design → IsPlan plan →
      IsAllAt design plan through → EndsAt design (plan_by kept plan) fault ended found → IsBesideAt design (plan_by kept plan) through (found_fault fault d found)
  -- where nothing was found its copy is the faulty machine's state
  pub copies : (design : FlatDesign) (plan : TestPlan) (fault : StuckAt) (kept : Bool) (time : ℕ) (d : Differences) → IsCopyAt design (plan_by kept plan) fault time d →
      IsCopyAt design plan fault time d
  -- a fault that is judged is graded by the plan as it is
  pub judged : (design : FlatDesign) (plan : TestPlan) → plan_by false plan ≡ plan
