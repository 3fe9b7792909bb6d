-- A grading on its way, with its faulty machine (strobes and slots by IEEE 1364-2001, clause 5).
use Rattle.std.specs.Prelude.{◌≡◌, ℕ, zero, suc, List, [], ◌∷◌, Option, Some, None}
use Rattle.vf_base.specs.declared.finding.End.{End}
use Rattle.vf_base.specs.Lists.{AllHold}
use Rattle.vf_base.specs.declared.finding.Pair.{Pair}
use Rattle.v_design.specs.Designs.{FlatDesign, TestPlan, StuckAt, faulty_machine, good_machine}
use Rattle.v_design.specs.Grades.{Sample, grade}
use Rattle.v_design.specs.Plain.{grade_of}
use Rattle.v_design.specs.WellFormed.{IsPlan, IsPlanOf}
use Rattle.strobe_detect.specs.Graders.{GraderState}
use Rattle.grade_laws.specs.Grading.{IsGrading, StopsWithin, good_stop}
use Rattle.grade_laws.specs.Sampling.{IsSampling}
use Rattle.machine.specs.Standing.{machine_kept}
use Rattle.machine.specs.declared.parts.Machine.{Machine as Simulated}
use Rattle.fault_grade.specs.declared.good.GoodSamples.{GoodSamples}
use Rattle.fault_grade.specs.declared.stop.Stop.{Stop}
use Rattle.fault_grade.specs.Benches.{IsObjectOf}
use Rattle.fault_grade.specs.Stops.{race_if}
use Rattle.fault_grade.specs.Samples.{samples_kept}
use Rattle.fault_grade.specs.Reached.{GoesOn, Advanced}

-- the grading of a fault on its way: its machine went on, and these samples are next
pub record IsGradingAt (design : FlatDesign) (plan : TestPlan) (fault : StuckAt) (m : Simulated) (next : List Sample) (grader : GraderState) : Type 0 where
  pub same_machine : machine_kept m ≡ faulty_machine design fault
  pub now : ℕ
  pub goes : GoesOn now m
  pub grading : IsGrading design plan fault now next grader

-- a grading goes on, or it ended and this is the grade
abbrev pub LeadsTo : FlatDesign → TestPlan → StuckAt → List Sample → Option End → Simulated → GraderState → Type 0
LeadsTo design plan fault next None m grader = IsGradingAt design plan fault m next grader
LeadsTo design plan fault next (Some end) m grader = grade design plan fault ≡ Some (grade_of end)

-- a strobe of a grading was passed
abbrev pub Passes : Sample → Simulated → GraderState → Option End → Simulated → GraderState → Type 0
Passes sample old before end new after =
    (design : FlatDesign) (plan : TestPlan) (fault : StuckAt) (next : List Sample) → IsGradingAt design plan fault old (sample ∷ next) before → LeadsTo design plan fault next end new after

-- one less, where there is one
abbrev pub less_one : ℕ → Option ℕ
less_one zero = None
less_one (suc time) = Some time

-- the last time before a race that may be there, else the end
abbrev pub last_before : Option Pair → ℕ → Option ℕ
last_before None end = Some end
last_before (Some race) end = less_one race.time

-- a machine ran all slots up to a time that may be there
abbrev pub AdvancesTo : Option ℕ → Simulated → Option Stop → Simulated → Type 0
AdvancesTo None old stop new = stop ≡ None
AdvancesTo (Some until) old stop new = Advanced until old stop new

-- a grading may be ended: the samples that were kept of the good machine are next, up to its race, if there is one, else to the plan's end
pub record IsGradable (good : GoodSamples) (end : ℕ) (m : Simulated) (grader : GraderState) : Type 0 where
  pub design : FlatDesign
  pub plan : TestPlan
  pub fault : StuckAt
  pub rules : IsPlan plan
  pub watched : AllHold (IsObjectOf design) plan.watched
  pub end_is : plan.end ≡ end
  pub at : IsGradingAt design plan fault m (samples_kept good) grader
  pub stop_is : good_stop design plan ≡ race_if good.race
  pub within : StopsWithin plan.end (race_if good.race)

-- The good machine

-- the good machine went on, these samples of it were kept, and these strobes are next
pub record SamplesAt (design : FlatDesign) (plan : TestPlan) (m : Simulated) (shown : List Sample) (next : List ℕ) : Type 0 where
  pub same_machine : machine_kept m ≡ good_machine design
  pub now : ℕ
  pub goes : GoesOn now m
  pub sampling : IsSampling design plan now shown next

-- a good machine stands at the start of its run, of which a plan's strobes see what there is
pub record IsShowable (plan : TestPlan) (m : Simulated) : Type 0 where
  pub design : FlatDesign
  pub of_design : IsPlanOf design plan
  pub at : SamplesAt design plan m [] plan.strobes
