-- The grading of a fault through a window (strobes and slots by IEEE 1364-2001, clause 5).
use Rattle.std.specs.Prelude.{◌≡◌, ℕ, ◌<◌, ◌≤◌, ◌^◌, List, [], ◌∷◌, ◌++◌, map, Option, Some, None}
use Rattle.vf_base.specs.Base.{WatchedBit}
use Rattle.vf_base.specs.Lists.{AllHold}
use Rattle.vf_base.specs.declared.finding.End.{End}
use Rattle.v_design.specs.Designs.{FlatDesign, StuckAt, TestPlan}
use Rattle.v_design.specs.Grades.{Sample}
use Rattle.v_design.specs.Plain.{grade_of}
use Rattle.v_design.specs.WellFormed.{IsPlan, KeepsRules}
use Rattle.kept_samples.specs.Plain.{sample_of}
use Rattle.kept_samples.specs.declared.kept.Sample.{Sample as Kept}
use Rattle.grade_laws.specs.Ahead.{StopsAfter}
use Rattle.grade_laws.specs.Grading.{good_seen, good_stop, times}
use Rattle.machine.specs.declared.parts.Machine.{Machine as Simulated}
use Rattle.fault_grade.specs.Benches.{IsObjectOf}
use Rattle.beside_laws.specs.Stands.{IsSince}
use Rattle.fault_strobes.specs.Said.{Said, keeps, plan_by}
use Rattle.fault_strobes.specs.Strobes.{EndsWith, StrobesGoOn}
use Rattle.window_grade.specs.Beside.{IsKnownBeside}
use Rattle.window_grade.specs.Running.{IsRunningAt}
use Rattle.window_grade.specs.declared.beside.RunBeside.{RunBeside}

-- the grading of a fault is at a time: its faulty machine stands there, the strobes so far said this, these samples of the good machine are next, and behind them these strobes
pub record IsGradingAt (design : FlatDesign) (plan : TestPlan) (fault : StuckAt) (now : Option ℕ) (m : Simulated) (next : List Sample) (later : List ℕ) (said : Said) : Type 0 where
  pub design_rules : KeepsRules design
  pub rules : IsPlan plan
  pub watched : AllHold (IsObjectOf design) plan.watched
  pub passed : List ℕ
  pub at : IsRunningAt design plan fault now m
  pub grading : StrobesGoOn design plan fault now passed (times next ++ later) said
  pub bits : AllHold (λ (sample : Sample). sample.bits ≡ good_seen design plan sample.time) next
  pub before : AllHold (λ (sample : Sample). StopsAfter sample.time (good_stop design plan)) next

-- a grading that may pass a strobe
pub record CanPass (watched : List WatchedBit) (sample : Sample) (beside : RunBeside) (m : Simulated) (said : Said) : Type 0 where
  pub design : FlatDesign
  pub plan : TestPlan
  pub fault : StuckAt
  pub now : Option ℕ
  pub next : List Sample
  pub later : List ℕ
  pub watched_are : plan.watched ≡ watched
  pub at : IsGradingAt design plan fault now m (sample ∷ next) later said
  pub known : IsKnownBeside design (plan_by (keeps said) plan) fault now sample.time beside

-- it goes on at a time, or it ended by then with this grade
abbrev pub GradingLeads : FlatDesign → TestPlan → StuckAt → ℕ → List Sample → List ℕ → Option End → Simulated → Said → Type 0
GradingLeads design plan fault time next later None m said = IsGradingAt design plan fault (Some time) m next later said
GradingLeads design plan fault time next later (Some end) m said = EndsWith design plan fault time (grade_of end) said

-- a strobe was passed
abbrev pub Passes : (watched : List WatchedBit) (sample : Sample) (beside : RunBeside) (old : Simulated) (before : Said) → CanPass watched sample beside old before → Option End → Simulated →
    Said → Type 0
Passes watched sample beside old before of end new after = GradingLeads of.design of.plan of.fault sample.time of.next of.later end new after

-- a grading that may go through a window to a time: the window's samples, which come by then, are next, and the other strobes come after it
pub record CanGrade (watched : List WatchedBit) (samples : List Kept) (until : ℕ) (beside : RunBeside) (m : Simulated) (said : Said) : Type 0 where
  pub design : FlatDesign
  pub plan : TestPlan
  pub fault : StuckAt
  pub now : Option ℕ
  pub later : List ℕ
  pub watched_are : plan.watched ≡ watched
  pub at : IsGradingAt design plan fault now m (map sample_of samples) later said
  pub known : IsKnownBeside design (plan_by (keeps said) plan) fault now until beside
  pub since : IsSince now until
  pub by_then : AllHold (λ (sample : Sample). sample.time ≤ until) (map sample_of samples)
  pub after : AllHold (λ strobe. until < strobe) later
  pub goes_on : StopsAfter until (good_stop design plan)
  pub within : until ≤ plan.end
  pub early : until ≤ 2 ^ 63

-- it went through the window
abbrev pub GradesThrough : FlatDesign → TestPlan → StuckAt → List ℕ → ℕ → Option End → Simulated → Said → Type 0
GradesThrough design plan fault later until end m said = GradingLeads design plan fault until [] later end m said
