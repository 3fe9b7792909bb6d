-- Strobes that show nothing new (strobes by the plan; bits by IEEE 1364-2001, clause 3.1).
use Rattle.std.proofs.Common.{◌≡◌, ℕ, ◌<◌, ◌≤◌, List, [], ◌∷◌, ◌++◌, append_assoc, refl, sym, subst, arith}
use Rattle.std.specs.Prelude.{Option, Some, None}
use Rattle.std.proofs.lemmas.List.{append-nil}
use Rattle.vf_base.specs.Lists.{AllHold}
use Rattle.v_design.specs.Designs.{FlatDesign, StuckAt, TestPlan}
use Rattle.v_design.specs.Grades.{Stop}
use Rattle.v_design.specs.WellFormed.{IsPlan}
use Rattle.grade_laws.specs.Ahead.{StopsAfter}
use Rattle.grade_laws.specs.Grading.{good_seen, faulty_seen, good_stop, faulty_stop}
use Rattle.fault_strobes.specs.Said.{Said}
use Rattle.fault_strobes.specs.Strobes.{StrobesGoOn, StrobedGradingsGoOn}
use Rattle.fault_strobes.proofs.Samples.{nothing-ends, said-same}

stops-earlier : (low time : ℕ) (stop : Option Stop) → low ≤ time → StopsAfter time stop → StopsAfter low stop
stops-earlier low time None h a = tt
stops-earlier low time (Some stop) h a = omega (arith, h, a)

-- a grading goes on somewhere, behind so many strobes
pub record GoesOnBehind (design : FlatDesign) (plan : TestPlan) (fault : StuckAt) (passed later : List ℕ) (said : Said) : Type 0 where
  pub now : Option ℕ
  pub goes : StrobesGoOn design plan fault now passed later said

module _ (law : StrobedGradingsGoOn) (design : FlatDesign) (plan : TestPlan) (of_plan : IsPlan plan) (fault : StuckAt) (said : Said) (from until : ℕ)
    (good_on : StopsAfter until (good_stop design plan)) (own_on : StopsAfter until (faulty_stop design plan fault))
    (same : (time : ℕ) → from ≤ time → time ≤ until → faulty_seen design plan fault time ≡ good_seen design plan time) where
  -- it goes on through strobes at which both machines are seen alike
  pub alike-strobes : (strobes : List ℕ) (now : Option ℕ) (passed later : List ℕ) → StrobesGoOn design plan fault now passed (strobes ++ later) said →
      AllHold (λ strobe. from < strobe) strobes → AllHold (λ strobe. strobe ≤ until) strobes → GoesOnBehind design plan fault (passed ++ strobes) later said
  alike-strobes [] now passed later goes since by =
      record { now = now; goes = subst (λ (l : List ℕ). StrobesGoOn design plan fault now l later said) (sym (append-nil passed)) goes }
  alike-strobes (strobe ∷ strobes) now passed later goes since by =
      let late : from < strobe = since.0 in
      let low : strobe ≤ until = by.0 in
      let step : StrobesGoOn design plan fault (Some strobe) (passed ++ strobe ∷ []) (strobes ++ later) said =
      law.strobe design plan fault now passed (strobes ++ later) strobe said said (good_seen design plan strobe) (faulty_seen design plan fault strobe) of_plan goes
      (stops-earlier strobe until (good_stop design plan) low good_on) (stops-earlier strobe until (faulty_stop design plan fault) low own_on) refl refl
      (nothing-ends (good_seen design plan strobe) (faulty_seen design plan fault strobe) said (same strobe (omega (arith, late)) low))
      (said-same strobe (good_seen design plan strobe) (faulty_seen design plan fault strobe) said (same strobe (omega (arith, late)) low)) in
      let rest = alike-strobes strobes (Some strobe) (passed ++ strobe ∷ []) later step since.1 by.1 in
      record {
        now = rest.now;
        goes =
            subst (λ (l : List ℕ). StrobesGoOn design plan fault rest.now l later said) (append_assoc passed (strobe ∷ []) strobes) rest.goes;
      }
