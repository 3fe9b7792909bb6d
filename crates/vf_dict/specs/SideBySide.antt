-- Good samples, and beside them a fault's samples that differ (bits by IEEE 1364-2001, clause 3.1).
use Rattle.std.specs.Prelude.{◌≡◌, ℕ, ◌∷◌, ◌++◌, Bool, List, map, filter}
use Rattle.v_design.specs.Grades.{Samples, samples_at}
use Rattle.v_design.specs.WellFormed.{IsAscending}
use Rattle.pick_laws.specs.Hard.{hard_of}
use Rattle.strobe_detect.specs.declared.hard.Hard.{Hard}
use Rattle.kept_samples.specs.Plain.{sample_of}
use Rattle.kept_samples.specs.declared.kept.Sample.{Sample}
use Rattle.kept_samples.specs.declared.kept.Kept.{Kept}

-- these are the good samples of some strobes, and those of a fault at the strobes of them that pass a test
pub record AreBeside (good differs : List Sample) (seen own : Samples) (strobes : List ℕ) (test : ℕ → Bool) : Type 0 where
  pub ascending : IsAscending strobes
  pub good_are : map sample_of good ≡ samples_at seen strobes
  pub differs_are : map sample_of differs ≡ samples_at own (filter test strobes)

-- the strobes among those that pass the test at which the fault is detected
abbrev pub hard_among : Samples → Samples → (ℕ → Bool) → List ℕ → List ℕ
hard_among seen own test strobes = hard_of seen (samples_at own (filter test strobes))

-- the first strobe was passed: the other samples are beside each other, and its time was put behind the others where it detects the fault
pub record PassesStrobe (good : Sample) (differs : List Sample) (before : List ℕ) (left : List Sample) (after : List ℕ) : Type 0 where
  pub beside : (rest : List Sample) (seen own : Samples) (strobe : ℕ) (strobes : List ℕ) (test : ℕ → Bool) → AreBeside (good ∷ rest) differs seen own (strobe ∷ strobes) test →
      AreBeside rest left seen own strobes test
  pub times : (rest : List Sample) (seen own : Samples) (strobe : ℕ) (strobes : List ℕ) (test : ℕ → Bool) → AreBeside (good ∷ rest) differs seen own (strobe ∷ strobes) test →
      after ++ hard_among seen own test strobes ≡ before ++ hard_among seen own test (strobe ∷ strobes)

-- these are the hard strobes of a fault of which this is kept
pub record IsHardOf (good : List Sample) (kept : Kept) (one : Hard) : Type 0 where
  pub fault : one.fault ≡ kept.fault
  pub times : (seen own : Samples) (strobes : List ℕ) (test : ℕ → Bool) → AreBeside good kept.differs seen own strobes test → one.times ≡ hard_among seen own test strobes
