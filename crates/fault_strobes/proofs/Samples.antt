-- What one strobe more says (strobes by the plan; bits by IEEE 1364-2001, clause 3.1).
use Rattle.std.proofs.Common.{◌≡◌, ℕ, List, [], ◌∷◌, ◌++◌, Bool, true, false, map, append-nil, refl, sym, ap, ◌∙◌}
use Rattle.std.specs.Prelude.{Option, Some, None, not, cond}
use Rattle.std.proofs.lemmas.List.{map_push}
use Rattle.std.proofs.lemmas.List.Elements.{filter-append}
use Rattle.four_value.specs.declared.logic.Bit.{Bit}
use Rattle.four_value.specs.declared.logic.Bit.TheVariants.{Zero, One, X, Z}
use Rattle.four_value.specs.Values.{same_value}
use Rattle.v_design.specs.Grades.{Samples, Sample, samples_at, is_hard, is_possible, some_sample}
use Rattle.strobe_detect.specs.Firsts.{first_time}
use Rattle.strobe_detect.specs.Graders.{GraderState, IsShown, shown_at, shown-next}
use Rattle.kept_samples.specs.Plain.{sample_of, differing}
use Rattle.kept_samples.specs.declared.kept.Sample.{Sample as SampleKept}
use Rattle.fault_strobes.specs.Said.{IsSaid, Said, Judging, Keeping, ends_there, said_at, keeps}

-- Samples that differ

abbrev one_sample : ℕ → List Bit → Sample
one_sample time bits = record { time = time; bits = bits }

abbrev sample_at : Samples → ℕ → Sample
sample_at seen time = record { time = time; bits = seen time }

differing-more : (good faulty : Samples) (passed : List ℕ) (time : ℕ) →
    differing good (samples_at faulty (passed ++ time ∷ [])) ≡ differing good (samples_at faulty passed) ++ differing good (samples_at faulty (time ∷ []))
differing-more good faulty passed time =
    ap (differing good) (map_push (sample_at faulty) passed time)
    ∙ filter-append (λ (sample : Sample). not (same_value sample.bits (good sample.time))) (samples_at faulty passed) (samples_at faulty (time ∷ []))

-- the sample of one strobe, where its bits are known
differing-one : (good faulty : Samples) (time : ℕ) (kept shown : List Bit) → kept ≡ good time → shown ≡ faulty time →
    differing (λ at. kept) (one_sample time shown ∷ []) ≡ differing good (samples_at faulty (time ∷ []))
differing-one good faulty time kept shown k s = λ i. cond (not (same_value (s i) (k i))) (one_sample time (s i) ∷ []) []

-- a strobe at which nothing differs, and one at which something does
pub same-kept : (time : ℕ) (kept shown : List Bit) (before : List Sample) → same_value shown kept ≡ true → before ≡ before ++ differing (λ at. kept) (one_sample time shown ∷ [])
same-kept time kept shown before e = sym (ap (λ b. before ++ cond (not b) (one_sample time shown ∷ []) []) e ∙ append-nil before)

pub other-kept : (time : ℕ) (kept shown : List Bit) (items : List SampleKept) (own : SampleKept) → same_value shown kept ≡ false → own.bits ≡ shown → own.time ≡ time →
    map sample_of (items ++ own ∷ []) ≡ map sample_of items ++ differing (λ at. kept) (one_sample time shown ∷ [])
other-kept time kept shown items own e b t =
    map_push sample_of items own ∙ (λ i. map sample_of items ++ one_sample (t i) (b i) ∷ []) ∙ sym (ap (λ d. map sample_of items ++ cond (not d) (one_sample time shown ∷ []) []) e)

-- One strobe more

abbrev grader_of : Option ℕ → GraderState
grader_of possible = record { watched = []; hard = None; possible = possible }

pub said-more : (good faulty : Samples) (passed : List ℕ) (time : ℕ) (g f : List Bit) (said : Said) → IsSaid good faulty passed said → g ≡ good time → f ≡ faulty time →
    ends_there g f said ≡ false → IsSaid good faulty (passed ++ time ∷ []) (said_at time g f said)
said-more good faulty passed time g f (Judging possible) s eg ef none =
    let shown : IsShown good faulty (passed ++ time ∷ []) (shown_at time g f (grader_of possible)) =
    shown-next good faulty passed time g f (grader_of possible) (shown_at time g f (grader_of possible)) refl (record { hard_is = sym s.0; possible_is = s.1 }) eg ef in
    (sym shown.hard_is ∙ ap (λ (b : Bool). first_time None b time) none, shown.possible_is)
said-more good faulty passed time g f (Keeping differs) s eg ef none =
    (λ i. s i ++ differing-one good faulty time g f eg ef i) ∙ sym (differing-more good faulty passed time)

-- the kind stays
pub kind-stays : (time : ℕ) (g f : List Bit) (said : Said) → keeps (said_at time g f said) ≡ keeps said
kind-stays time g f (Judging possible) = refl
kind-stays time g f (Keeping differs) = refl

-- A strobe at which both machines show the same bits ends nothing and says nothing new

not-hard : (bits : List Bit) → some_sample is_hard bits bits ≡ false
not-hard [] = refl
not-hard (Zero ∷ bits) = not-hard bits
not-hard (One ∷ bits) = not-hard bits
not-hard (X ∷ bits) = not-hard bits
not-hard (Z ∷ bits) = not-hard bits

not-possible : (bits : List Bit) → some_sample is_possible bits bits ≡ false
not-possible [] = refl
not-possible (Zero ∷ bits) = not-possible bits
not-possible (One ∷ bits) = not-possible bits
not-possible (X ∷ bits) = not-possible bits
not-possible (Z ∷ bits) = not-possible bits

same-bits : (bits : List Bit) → same_value bits bits ≡ true
same-bits [] = refl
same-bits (Zero ∷ bits) = same-bits bits
same-bits (One ∷ bits) = same-bits bits
same-bits (X ∷ bits) = same-bits bits
same-bits (Z ∷ bits) = same-bits bits

first-stays : (first : Option ℕ) (time : ℕ) → first ≡ first_time first false time
first-stays None time = refl
first-stays (Some first) time = refl

pub nothing-ends : (good faulty : List Bit) (said : Said) → faulty ≡ good → ends_there good faulty said ≡ false
nothing-ends good faulty (Judging possible) same = ap (some_sample is_hard good) same ∙ not-hard good
nothing-ends good faulty (Keeping differs) same = refl

pub said-same : (time : ℕ) (good faulty : List Bit) (said : Said) → faulty ≡ good → said ≡ said_at time good faulty said
said-same time good faulty (Judging possible) same =
    ap Judging (first-stays possible time ∙ ap (λ (b : Bool). first_time possible b time) (sym (ap (some_sample is_possible good) same ∙ not-possible good)))
said-same time good faulty (Keeping differs) same = ap Keeping (same-kept time good faulty differs (ap (λ (bits : List Bit). same_value bits good) same ∙ same-bits good))
