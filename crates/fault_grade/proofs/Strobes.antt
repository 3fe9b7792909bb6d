-- The good machine from strobe to strobe.
use Rattle.std.proofs.Common.{◌≡◌, ℕ, ◌≤◌, ◌^◌, List, [], ◌∷◌, ◌++◌, refl, ap, subst, ◌∙◌, arith}
use Rattle.std.specs.Prelude.{Option, Some, None, map}
use Rattle.four_value.specs.declared.logic.Bit.{Bit}
use Rattle.v_design.specs.Designs.{FlatDesign, Machine, TestPlan, good_machine}
use Rattle.v_design.specs.States.{start}
use Rattle.v_design.specs.Runs.{first_run}
use Rattle.v_design.specs.Grades.{samples, Sample, first_stop}
use Rattle.v_design.specs.WellFormed.{KeepsRules, IsPlan}
use Rattle.order_laws.specs.FirstRuns.{FirstRunsGoOn}
use Rattle.grade_laws.specs.Ahead.{Shows}
use Rattle.grade_laws.specs.Grading.{IsGoodRun}
use Rattle.grade_laws.specs.Sampling.{sampling-start, sampling-more, sampling-stopped, sampling-ends}
use Rattle.machine.specs.Standing.{IsStanding, machine_kept, state_kept, begins_next}
use Rattle.machine.specs.declared.parts.Machine.{Machine as Simulated}
use Rattle.fault_grade.specs.declared.stop.Stop.{Stop}
use Rattle.fault_grade.specs.Stops.{stop_view}
use Rattle.fault_grade.specs.Samples.{stop_if}
use Rattle.fault_grade.specs.Beside.{early, start-goes}
use Rattle.fault_grade.specs.Reached.{IsReached, Advanced}
use Rattle.fault_grade.specs.Gradings.{SamplesAt}

pub map-more : {A B : Type 0} (f : A → B) (xs : List A) (x : A) → map f (xs ++ x ∷ []) ≡ map f xs ++ f x ∷ []
map-more f [] x = refl
map-more f (y ∷ xs) x = ap (λ ys. f y ∷ ys) (map-more f xs x)

-- The start

pub samples-start : FirstRunsGoOn → (design : FlatDesign) (plan : TestPlan) (m : Simulated) → KeepsRules design → IsPlan plan → machine_kept m ≡ good_machine design →
    begins_next m ≡ Some (start (good_machine design)) → IsStanding m →
    SamplesAt design plan m [] plan.strobes
samples-start law design plan m rules plan_rules same begins standing =
    record { same_machine = same; now = 0; goes = start-goes law m (good_machine design) same rules begins standing; sampling = sampling-start design plan plan_rules }

-- A strobe

module _ (design : FlatDesign) (plan : TestPlan) (m new : Simulated) (shown : List Sample) (strobe : ℕ) (next : List ℕ) (at : SamplesAt design plan m shown (strobe ∷ next)) where
  pub reached-strobe : IsReached strobe m
  reached-strobe = (at.now, at.sampling.since.0, at.goes)

  pub early-strobe : IsPlan plan → strobe ≤ 2 ^ 63
  early-strobe rules = early plan strobe rules at.sampling.in_time.0

  pub same-after : Advanced strobe m None new → machine_kept new ≡ good_machine design
  same-after advanced = advanced.0 ∙ at.same_machine

  pub samples-more : (bits : List Bit) → Advanced strobe m None new → bits ≡ samples plan.watched (state_kept new).values →
      SamplesAt design plan new (shown ++ record { time = strobe; bits = bits } ∷ []) next
  samples-more bits advanced is = record {
    same_machine = same-after advanced;
    now = advanced.1.0;
    goes = advanced.1.2;
    sampling =
        sampling-more design plan at.now shown strobe next at.sampling advanced.1.0 (state_kept new).values bits advanced.1.1
        (subst (λ (machine : Machine). Shows machine plan.end strobe (state_kept new).values) at.same_machine (advanced.2 plan.end at.sampling.in_time.0)) is;
  }

  pub samples-stopped : (stop : Stop) → Advanced strobe m (Some stop) new → IsGoodRun design plan shown (Some (stop_view stop))
  samples-stopped stop advanced =
      sampling-stopped design plan at.now shown strobe next at.sampling (stop_view stop) (subst
      (λ (machine : Machine). first_stop machine (first_run machine plan.end) ≡ Some (stop_view stop)) at.same_machine (advanced.1 plan.end at.sampling.in_time.0)) advanced.0

-- After the last strobe

pub reached-end : (design : FlatDesign) (plan : TestPlan) (m : Simulated) (shown : List Sample) (next : List ℕ) → SamplesAt design plan m shown next → IsReached plan.end m
reached-end design plan m shown next at = (at.now, at.sampling.within, at.goes)

pub samples-end : (design : FlatDesign) (plan : TestPlan) (m new : Simulated) (shown : List Sample) (stop : Option Stop) → SamplesAt design plan m shown [] → Advanced plan.end m stop new →
    IsGoodRun design plan shown (stop_if stop)
samples-end design plan m new shown None at advanced =
    sampling-ends design plan at.now shown None at.sampling (subst (λ (machine : Machine). first_stop machine (first_run machine plan.end) ≡ None) at.same_machine advanced.3) tt
samples-end design plan m new shown (Some stop) at advanced =
    sampling-ends design plan at.now shown (Some (stop_view stop)) at.sampling
    (subst (λ (machine : Machine). first_stop machine (first_run machine plan.end) ≡ Some (stop_view stop)) at.same_machine (advanced.1 plan.end (omega arith))) advanced.0
