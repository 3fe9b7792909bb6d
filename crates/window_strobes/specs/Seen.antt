-- What strobes see of the good machine (strobes by the plan; slots by IEEE 1364-2001, clause 5).
use Rattle.std.specs.Prelude.{◌≡◌, ℕ, ◌<◌, ◌≤◌, List, [], ◌++◌, map, drop, length, Option, Some, None}
use Rattle.vf_base.specs.Lists.{AllHold}
use Rattle.v_design.specs.Designs.{FlatDesign, TestPlan}
use Rattle.v_design.specs.Grades.{Sample}
use Rattle.kept_samples.specs.Plain.{sample_of}
use Rattle.kept_samples.specs.declared.kept.Sample.{Sample as Kept}
use Rattle.grade_laws.specs.Grading.{good_seen, times}

-- the good machine's sample at a strobe
pub record IsSeenAt (design : FlatDesign) (plan : TestPlan) (strobe : ℕ) (sample : Kept) : Type 0 where
  pub time_is : sample.time ≡ strobe
  pub bits_are : sample.bits ≡ good_seen design plan strobe

-- the good machine's samples at those of some strobes, the first ones, that come up to a time; the others come after it
pub record AreSeen (design : FlatDesign) (plan : TestPlan) (until : ℕ) (strobes : List ℕ) (samples : List Kept) : Type 0 where
  pub next_are : strobes ≡ times (map sample_of samples) ++ drop (length samples) strobes
  pub bits : AllHold (λ (sample : Sample). sample.bits ≡ good_seen design plan sample.time) (map sample_of samples)
  pub by_then : AllHold (λ (sample : Sample). sample.time ≤ until) (map sample_of samples)
  pub after : AllHold (λ strobe. until < strobe) (drop (length samples) strobes)

-- the same, where there is such a time; else none
abbrev pub AreSeenIf : FlatDesign → TestPlan → Option ℕ → List ℕ → List Kept → Type 0
AreSeenIf design plan None strobes samples = samples ≡ []
AreSeenIf design plan (Some until) strobes samples = AreSeen design plan until strobes samples
