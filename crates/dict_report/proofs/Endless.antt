-- Faults without an end: the good samples, with those that differ in their stead, are those of every legal run (orders by IEEE 1364-2001, clause 5).
use Rattle.std.proofs.Common.{◌≡◌, ℕ, List, [], ◌∷◌, filter, refl, sym, ap, ◌∙◌}
use Rattle.std.specs.Prelude.{Some, None, ◌↔◌}
use Rattle.v_design.specs.Designs.{FlatDesign, Machine, StuckAt, TestPlan}
use Rattle.v_design.specs.Grades.{Sample, samples_at, FullGrade, full_grade}
use Rattle.kept_samples.specs.Plain.{differing}
use Rattle.kept_samples.specs.Kept.{good_seen, good_stop, is_before, good_samples}
use Rattle.dict_laws.specs.Responses.{Fit, fit}
use Rattle.dict_laws.specs.Known.{AreItsSamples, FitsHold}
use Rattle.dict_laws.specs.Filled.{faulty_seen}
use Rattle.dict_laws.specs.Endless.{neither_stops}
use Rattle.dict_text.specs.Patched.{PatchedBack}
use Rattle.dict_text.specs.Texts.{patched}
use Rattle.dict_report.specs.Orders.{FitsInEachOrder}

all-before : (strobes : List ℕ) → filter (is_before None) strobes ≡ strobes
all-before [] = refl
all-before (strobe ∷ strobes) = ap (λ ss. strobe ∷ ss) (all-before strobes)

-- where the good machine doesn't stop its samples are those at all strobes
pub good-whole : (design : FlatDesign) (plan : TestPlan) → good_stop design plan ≡ None → good_samples design plan ≡ samples_at (good_seen design plan) plan.strobes
good-whole design plan none = ap (λ stop. samples_at (good_seen design plan) (filter (is_before stop) plan.strobes)) none ∙ ap (samples_at (good_seen design plan)) (all-before plan.strobes)

-- what is told of a fault without an end gives its samples back
pub told-back : PatchedBack → (design : FlatDesign) (plan : TestPlan) (fault : StuckAt) (full : FullGrade) → full_grade design plan fault ≡ Some full → full.end ≡ None →
    patched (good_samples design plan) (differing (good_seen design plan) full.samples) ≡ full.samples
told-back back design plan fault full e n =
    let none = neither_stops design plan fault full e n in
    let good = good-whole design plan none.good in
    (λ i. patched (good i) (differing (good_seen design plan) (none.samples i))) ∙ (back (good_seen design plan) (faulty_seen design plan fault) plan.strobes ∙ sym none.samples)

-- how samples fit that every legal run of a machine has
pub fits-each : FitsHold → (machine : Machine) (plan : TestPlan) (samples response : List Sample) (how : Fit) → AreItsSamples machine plan samples →
    (fit response samples ≡ how) ↔ FitsInEachOrder machine plan response how
fits-each fits machine plan samples response how its =
    let law = fits machine plan samples response how its in (λ same. record { each = law.0 same; some = its.some }, λ held. law.1 held.each)
