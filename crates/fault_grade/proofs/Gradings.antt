-- The faulty machine from strobe to strobe.
use Rattle.std.proofs.Common.{◌≡◌, ℕ, ◌≤◌, ◌^◌, List, [], ◌∷◌, refl, sym, ap, ◌∙◌}
use Rattle.std.specs.Prelude.{Option, Some, None, IsSome, length}
use Rattle.vf_base.specs.Base.{reported_pair}
use Rattle.vf_base.specs.declared.finding.End.{End}
use Rattle.vf_base.specs.declared.finding.Pair.{Pair}
use Rattle.vf_base.specs.declared.finding.Side.TheVariants.{Good}
use Rattle.v_design.specs.Designs.{FlatDesign, StuckAt, TestPlan, faulty_machine}
use Rattle.v_design.specs.States.{start}
use Rattle.v_design.specs.Grades.{samples, Sample, Stop, Judged, Raced, Detected, verdict_by, faulty_ending, grade}
use Rattle.v_design.specs.Plain.{grade_of}
use Rattle.v_design.specs.WellFormed.{KeepsRules, IsPlan}
use Rattle.order_laws.specs.FirstRuns.{FirstRunsGoOn}
use Rattle.strobe_detect.specs.Graders.{GraderState, shown_at}
use Rattle.grade_laws.specs.Grading.{IsGoodRun, StopsWithin, good_stop, grading-start, grading-stopped, grading-more, grading-hard, grading-ends, grading-late, grading-good}
use Rattle.machine.specs.Standing.{IsStanding, machine_kept, state_kept, begins_next}
use Rattle.machine.specs.declared.parts.Machine.{Machine as Simulated}
use Rattle.fault_grade.specs.declared.stop.Stop.{Stop as Found}
use Rattle.fault_grade.specs.Stops.{race_stop, race_if, stop_view}
use Rattle.fault_grade.specs.Reached.{IsReached, Advanced}
use Rattle.fault_grade.specs.Gradings.{IsGradingAt, AdvancesTo, last_before}
use Rattle.fault_grade.specs.Beside.{IsBesideAt, start-goes, reached-beside, early-beside, sized-beside, stops-here, shows-here, reached-late, stops-late, not-before-race, never-stops}

-- the faulty machine of a grading beside the good machine's samples
besides : (design : FlatDesign) (plan : TestPlan) (fault : StuckAt) (m : Simulated) (next : List Sample) (grader : GraderState) (at : IsGradingAt design plan fault m next grader) →
    IsBesideAt design plan fault m at.grading.compared next
besides design plan fault m next grader at = record { same_machine = at.same_machine; now = at.now; goes = at.goes; beside = at.grading.beside }

-- The start

pub grading-begins : FirstRunsGoOn → (design : FlatDesign) (plan : TestPlan) (fault : StuckAt) (m : Simulated) (shown : List Sample) (stop : Option Stop) (grader : GraderState) → KeepsRules design →
    IsPlan plan → machine_kept m ≡ faulty_machine design fault →
    begins_next m ≡ Some (start (faulty_machine design fault)) → IsStanding m → IsGoodRun design plan shown stop → grader ≡ record { watched = plan.watched; hard = None; possible = None } →
    IsGradingAt design plan fault m shown grader
grading-begins law design plan fault m shown stop grader rules plan_rules same begins standing good is =
    record {
      same_machine = same;
      now = 0;
      goes = start-goes law m (faulty_machine design fault) same rules begins standing;
      grading = grading-start design plan fault shown stop grader plan_rules good is;
    }

-- A strobe

module _ (design : FlatDesign) (plan : TestPlan) (fault : StuckAt) (m new : Simulated) (sample : Sample) (next : List Sample) (grader : GraderState)
    (at : IsGradingAt design plan fault m (sample ∷ next) grader) where
  at_sample : IsBesideAt design plan fault m at.grading.compared (sample ∷ next)
  at_sample = besides design plan fault m (sample ∷ next) grader at

  pub reached-sample : IsReached sample.time m
  reached-sample = reached-beside design plan fault m new at.grading.compared sample next at_sample

  pub early-sample : IsPlan plan → sample.time ≤ 2 ^ 63
  early-sample rules = early-beside design plan fault m new at.grading.compared sample next at_sample rules

  pub sized-sample : length sample.bits ≡ length grader.watched
  sized-sample = sized-beside design plan fault m new at.grading.compared sample next at_sample ∙ sym (ap length at.grading.watched)

  -- the faulty machine stops
  pub passes-stopped : (stop : Found) (end : End) → Advanced sample.time m (Some stop) new → Some (grade_of end) ≡ faulty_ending (stop_view stop).time (stop_view stop).outcome →
      grade design plan fault ≡ Some (grade_of end)
  passes-stopped stop end advanced is =
      let s = stops-here design plan fault m new at.grading.compared sample next at_sample stop advanced in
      grading-stopped design plan fault at.now sample next grader at.grading (stop_view stop) s.0 s.1 ∙ sym is

  -- a hard detection
  pub passes-hard : (later : GraderState) → Advanced sample.time m None new → later ≡ shown_at sample.time sample.bits (samples grader.watched (state_kept new).values) grader → IsSome later.hard →
      grade design plan fault ≡ Some (Judged (Detected sample.time))
  passes-hard later advanced is hard = go later.hard refl hard
    where
      go : (found : Option ℕ) → later.hard ≡ found → IsSome found → grade design plan fault ≡ Some (Judged (Detected sample.time))
      go None e h = cc
      go (Some time) e h = grading-hard design plan fault at.now sample next grader at.grading (state_kept new).values
          (shows-here design plan fault m new at.grading.compared sample next at_sample advanced) later is time e

  -- none
  pub passes-on : (later : GraderState) → Advanced sample.time m None new → later ≡ shown_at sample.time sample.bits (samples grader.watched (state_kept new).values) grader →
      (IsSome later.hard → ⊥) → IsGradingAt design plan fault new next later
  passes-on later advanced is none = record {
    same_machine = advanced.0 ∙ at.same_machine;
    now = advanced.1.0;
    goes = advanced.1.2;
    grading = grading-more design plan fault at.now sample next grader at.grading (state_kept new).values
        (shows-here design plan fault m new at.grading.compared sample next at_sample advanced) later is advanced.1.0 advanced.1.1 (no-hard later.hard none);
  }
    where
      no-hard : (found : Option ℕ) → (IsSome found → ⊥) → found ≡ None
      no-hard None h = refl
      no-hard (Some time) h = absurd (h refl)

-- After the last strobe

module _ (design : FlatDesign) (plan : TestPlan) (fault : StuckAt) (m new : Simulated) (grader : GraderState) (at : IsGradingAt design plan fault m [] grader) where
  at_end : IsBesideAt design plan fault m at.grading.compared []
  at_end = besides design plan fault m [] grader at

  -- how far the faulty machine runs on
  pub reached-last : (race : Option Pair) (time : ℕ) → good_stop design plan ≡ race_if race → last_before race plan.end ≡ Some time → IsReached time m
  reached-last race time e l = reached-late design plan fault m new at.grading.compared at_end race time e l

  -- the faulty machine stops
  pub ends-stopped : (race : Option Pair) (stop : Found) (end : End) → AdvancesTo (last_before race plan.end) m (Some stop) new → good_stop design plan ≡ race_if race →
      StopsWithin plan.end (race_if race) →
      Some (grade_of end) ≡ faulty_ending (stop_view stop).time (stop_view stop).outcome → grade design plan fault ≡ Some (grade_of end)
  ends-stopped race stop end advanced e within is =
      let s = stops-late design plan fault m new at.grading.compared at_end race stop advanced e within in grading-late design plan fault at.now grader at.grading (stop_view stop) s.0 s.1 ∙ sym is

  -- the good machine's race
  pub ends-race : (race : Pair) → AdvancesTo (last_before (Some race) plan.end) m None new → good_stop design plan ≡ Some (race_stop race) → race.time ≤ plan.end →
      grade design plan fault ≡ Some (Raced Good (reported_pair race))
  ends-race race advanced e within = grading-good design plan fault at.now grader at.grading (race_stop race) e
      (not-before-race design plan fault m new at.grading.compared at_end race advanced within)

  -- neither
  pub ends-judged : AdvancesTo (last_before None plan.end) m None new → good_stop design plan ≡ None → grade design plan fault ≡ Some (Judged (verdict_by grader.hard grader.possible))
  ends-judged advanced e = grading-ends design plan fault at.now grader at.grading e (never-stops design plan fault m new at.grading.compared at_end advanced)
