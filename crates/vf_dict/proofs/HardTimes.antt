-- The hard strobes of a full grade are those of its samples that differ.
use Rattle.std.proofs.Common.{◌≡◌, ℕ, List, [], ◌∷◌, Bool, true, false, ◌&&◌, map, filter, refl, sym, ap, subst, ◌∙◌}
use Rattle.std.specs.Prelude.{Option, Some, None, IsTrue, not, cond, nat_eq}
use Rattle.std.specs.List.{AllZip}
use Rattle.std.proofs.lemmas.Bool.{lt-ltb, eq-eqb}
use Rattle.std.proofs.lemmas.List.{length-map}
use Rattle.vf_base.specs.Base.{fault_number}
use Rattle.vf_base.specs.Lists.{has, AllHold}
use Rattle.four_value.specs.ValueLaws.{from_same_value}
use Rattle.four_value.specs.Values.{same_value}
use Rattle.four_value.specs.declared.logic.Bit.{Bit}
use Rattle.four_value.specs.declared.logic.Bit.TheVariants.{Zero, One, X, Z}
use Rattle.v_design.specs.Designs.{FlatDesign, StuckAt, TestPlan}
use Rattle.v_design.specs.Expressions.{up_from}
use Rattle.v_design.specs.Grades.{Samples, Sample, samples_at, is_hard, some_sample, Stop, FullGrade, full_grade}
use Rattle.v_design.specs.WellFormed.{IsAscending, IsPlan}
use Rattle.grade_laws.specs.Grading.{good_seen, faulty_seen, good_stop, faulty_stop}
use Rattle.strobe_detect.specs.declared.hard.Hard.{Hard}
use Rattle.pick_laws.specs.Hard.{hard_of, hard_in, hard_times, hard_lists}
use Rattle.pick_laws.proofs.Covers.{true-false, both-true, or-left, or-right, filter-has, filter-ascends}
use Rattle.pick_laws.proofs.Strobes.{After, limited, hard-filter}
use Rattle.kept_samples.specs.Plain.{sample_of, differing}
use Rattle.kept_samples.specs.Kept.{is_before, good_samples, Keeps}
use Rattle.kept_samples.specs.declared.kept.Sample.{Sample as SampleKept}
use Rattle.kept_samples.specs.declared.kept.Kept.{Kept}
use Rattle.dict_text.specs.Dictionaries.{IsDictionary}
use Rattle.dict_text.specs.declared.dictionary.Dictionary.{Dictionary}
use Rattle.vf_dict.specs.SideBySide.{AreBeside, hard_among, IsHardOf}
use Rattle.vf_dict.specs.HardStrobes.{times_of, AreHard, ArePartsOf}

-- Lists that are filtered

filter-both : (p q : ℕ → Bool) (xs : List ℕ) → filter q (filter p xs) ≡ filter (λ t. p t && q t) xs
filter-both p q [] = refl
filter-both p q (x ∷ xs) = go (p x) (filter-both p q xs)
  where
    go : (b : Bool) → filter q (filter p xs) ≡ filter (λ t. p t && q t) xs → filter q (cond b (x ∷ filter p xs) (filter p xs)) ≡ cond (b && q x) (x ∷ filter (λ t. p t && q t) xs)
        (filter (λ t. p t && q t) xs)
    go true e = ap (λ ys. cond (q x) (x ∷ ys) ys) e
    go false e = e

-- what passes one test passes a wider one
filter-within : (p q : ℕ → Bool) → ((t : ℕ) → p t ≡ true → q t ≡ true) → (xs : List ℕ) → filter p (filter q xs) ≡ filter p xs
filter-within p q within [] = refl
filter-within p q within (x ∷ xs) = go (q x) refl (filter-within p q within xs)
  where
    out : (c : Bool) → p x ≡ c → q x ≡ false → p x ≡ false
    out true e f = true-false (q x) (within x e) f
    out false e f = e

    go : (b : Bool) → q x ≡ b → filter p (filter q xs) ≡ filter p xs → filter p (cond b (x ∷ filter q xs) (filter q xs)) ≡ cond (p x) (x ∷ filter p xs) (filter p xs)
    go true e rest = ap (λ ys. cond (p x) (x ∷ ys) ys) rest
    go false e rest = rest ∙ sym (ap (λ c. cond c (x ∷ filter p xs) (filter p xs)) (out (p x) refl e))

-- Samples that differ

abbrev differ_at : Samples → Samples → ℕ → Bool
differ_at good own time = not (same_value (own time) (good time))

abbrev sample_at : Samples → ℕ → Sample
sample_at seen time = record { time = time; bits = seen time }

differing-filter : (good own : Samples) (xs : List ℕ) → differing good (samples_at own xs) ≡ samples_at own (filter (differ_at good own) xs)
differing-filter good own [] = refl
differing-filter good own (x ∷ xs) = go (not (same_value (own x) (good x))) (differing-filter good own xs)
  where
    go : (b : Bool) → differing good (samples_at own xs) ≡ samples_at own (filter (differ_at good own) xs) →
        cond b (sample_at own x ∷ differing good (samples_at own xs)) (differing good (samples_at own xs)) ≡ samples_at own
        (cond b (x ∷ filter (differ_at good own) xs) (filter (differ_at good own) xs))
    go true e = ap (λ samples. sample_at own x ∷ samples) e
    go false e = e

-- a bit isn't opposite to itself
none-hard : (bits : List Bit) → some_sample is_hard bits bits ≡ false
none-hard [] = refl
none-hard (Zero ∷ bits) = none-hard bits
none-hard (One ∷ bits) = none-hard bits
none-hard (X ∷ bits) = none-hard bits
none-hard (Z ∷ bits) = none-hard bits

-- bits that detect a fault differ
hard-differs : (good own : List Bit) → some_sample is_hard good own ≡ true → not (same_value own good) ≡ true
hard-differs good own h = go (same_value own good) refl
  where
    go : (b : Bool) → same_value own good ≡ b → not b ≡ true
    go true e = true-false (some_sample is_hard good own) h (ap (some_sample is_hard good) (from_same_value own good e) ∙ none-hard good)
    go false e = refl

-- the samples of the strobes before a limit that differ stand beside the good ones of more strobes
module _ (good own : Samples) (strobes : List ℕ) (before limit : ℕ → Bool) (within : (t : ℕ) → limit t ≡ true → before t ≡ true) where
  abbrev kept_test : ℕ → Bool
  kept_test = λ t. limit t && differ_at good own t

  kept-within : (t : ℕ) → (limit t && differ_at good own t) ≡ true → before t ≡ true
  kept-within t e = within t (both-true (limit t) (differ_at good own t) e).0

  kept-strobes : filter kept_test (filter before strobes) ≡ filter (differ_at good own) (filter limit strobes)
  kept-strobes = filter-within kept_test before kept-within strobes ∙ sym (filter-both limit (differ_at good own) strobes)

  are-beside : (gs ds : List SampleKept) → IsAscending strobes → map sample_of gs ≡ samples_at good (filter before strobes) →
      map sample_of ds ≡ differing good (samples_at own (filter limit strobes)) →
      AreBeside gs ds good own (filter before strobes) kept_test
  are-beside gs ds a g d = record {
    ascending = filter-ascends before strobes a;
    good_are = g;
    differs_are = d ∙ differing-filter good own (filter limit strobes) ∙ ap (samples_at own) (sym kept-strobes);
  }

  -- and their hard strobes are those of all samples before the limit
  hard-kept : hard_among good own kept_test (filter before strobes) ≡ hard_of good (samples_at own (filter limit strobes))
  hard-kept =
      ap (λ xs. hard_of good (samples_at own xs)) kept-strobes
      ∙ hard-filter good own (filter (differ_at good own) (filter limit strobes))
      ∙ filter-within (λ t. some_sample is_hard (good t) (own t)) (differ_at good own) (λ t. hard-differs (good t) (own t)) (filter limit strobes)
      ∙ sym (hard-filter good own (filter limit strobes))

-- Faults

after-before : (stop : Option Stop) (time : ℕ) → After stop time → is_before stop time ≡ true
after-before None time h = refl
after-before (Some stop) time h = lt-ltb time stop.time h

hard-of-kept : (design : FlatDesign) (plan : TestPlan) (good : List SampleKept) (fault : StuckAt) (kept : Kept) (one : Hard) → IsAscending plan.strobes →
    map sample_of good ≡ good_samples design plan → Keeps design plan fault kept → IsHardOf good kept one →
    one.times ≡ hard_times design plan fault
hard-of-kept design plan good fault kept one ascending shown k h =
    let l = limited (good_stop design plan) (faulty_stop design plan fault) (faulty_seen design plan fault) plan.strobes k.0 k.1 in
    let within = λ (t : ℕ) (e : l.limit t ≡ true). after-before (good_stop design plan) t (l.out t e).0 in
    h.times (good_seen design plan) (faulty_seen design plan fault) (filter (is_before (good_stop design plan)) plan.strobes)
    (λ t. l.limit t && differ_at (good_seen design plan) (faulty_seen design plan fault) t)
    (are-beside (good_seen design plan) (faulty_seen design plan fault) plan.strobes (is_before (good_stop design plan)) l.limit within good kept.differs ascending shown
    (k.2.differs ∙ ap (differing (good_seen design plan)) l.samples))
    ∙ hard-kept (good_seen design plan) (faulty_seen design plan fault) plan.strobes (is_before (good_stop design plan)) l.limit within
    ∙ sym (ap (hard_of (good_seen design plan)) l.samples)
    ∙ sym (ap (hard_in (good_seen design plan)) k.1)

all-hard : (design : FlatDesign) (plan : TestPlan) (good : List SampleKept) (faults : List StuckAt) (kept : List Kept) (hard : List Hard) → IsAscending plan.strobes →
    map sample_of good ≡ good_samples design plan → AllZip (Keeps design plan) faults kept →
    AllZip (IsHardOf good) kept hard → times_of hard ≡ map (hard_times design plan) faults
all-hard design plan good [] [] [] a s k h = refl
all-hard design plan good [] [] (one ∷ hard) a s k h = absurd h
all-hard design plan good [] (own ∷ kept) hard a s k h = absurd k
all-hard design plan good (fault ∷ faults) [] hard a s k h = absurd k
all-hard design plan good (fault ∷ faults) (own ∷ kept) [] a s k h = absurd h
all-hard design plan good (fault ∷ faults) (own ∷ kept) (one ∷ hard) a s k h = λ i. hard-of-kept design plan good fault own one a s k.0 h.0 i ∷ all-hard design plan good faults kept hard a s k.1 h.1 i

all-numbered : (good : List SampleKept) (kept : List Kept) (hard : List Hard) → AllZip (IsHardOf good) kept hard →
    map (λ (one : Hard). fault_number one.fault) hard ≡ map (λ (own : Kept). fault_number own.fault) kept
all-numbered good [] [] h = refl
all-numbered good [] (one ∷ hard) h = absurd h
all-numbered good (own ∷ kept) [] h = absurd h
all-numbered good (own ∷ kept) (one ∷ hard) h = λ i. fault_number (h.0.fault i) ∷ all-numbered good kept hard h.1 i

pub are-hard : (design : FlatDesign) (plan : TestPlan) (dictionary : Dictionary) (hard : List Hard) → IsPlan plan → IsDictionary design plan dictionary →
    AllZip (IsHardOf dictionary.good) dictionary.faults hard → AreHard (hard_lists design plan) hard
are-hard design plan dictionary hard rules d h = record {
  times = all-hard design plan dictionary.good plan.faults dictionary.faults hard rules.ascending d.good d.faults h;
  numbered = all-numbered dictionary.good dictionary.faults hard h ∙ d.numbered ∙ ap (up_from 0) (sym (length-map plan.faults (hard_times design plan)));
}

-- Parts of the strobes

all-listed : (whole times : List ℕ) → ((t : ℕ) → has times t ≡ true → has whole t ≡ true) → AllHold (λ time. IsTrue (has whole time)) times
all-listed whole [] w = tt
all-listed whole (x ∷ times) w = (w x (or-left (nat_eq x x) (has times x) (eq-eqb x x refl)), all-listed whole times (λ t h. w t (or-right (nat_eq x t) (has times t) h)))

record IsPart (strobes times : List ℕ) : Type 0 where
  ascend : IsAscending times
  listed : AllHold (λ time. IsTrue (has strobes time)) times

filtered-part : (p q : ℕ → Bool) (strobes : List ℕ) → IsAscending strobes → IsPart strobes (filter q (filter p strobes))
filtered-part p q strobes a = record {
  ascend = filter-ascends q (filter p strobes) (filter-ascends p strobes a);
  listed = all-listed strobes (filter q (filter p strobes)) (λ t h. (filter-has p strobes t (filter-has q (filter p strobes) t h).0).0);
}

hard-part : (design : FlatDesign) (plan : TestPlan) (fault : StuckAt) → IsAscending plan.strobes → IsPart plan.strobes (hard_times design plan fault)
hard-part design plan fault a = go (full_grade design plan fault) refl
  where
    go : (found : Option FullGrade) → full_grade design plan fault ≡ found → IsPart plan.strobes (hard_in (good_seen design plan) found)
    go None e = record { ascend = tt; listed = tt }
    go (Some full) e =
        let l = limited (good_stop design plan) (faulty_stop design plan fault) (faulty_seen design plan fault) plan.strobes full e in
        subst (IsPart plan.strobes) (sym (ap (hard_of (good_seen design plan)) l.samples ∙ hard-filter (good_seen design plan) (faulty_seen design plan fault) (filter l.limit plan.strobes)))
        (filtered-part l.limit (λ t. some_sample is_hard (good_seen design plan t) (faulty_seen design plan fault t)) plan.strobes a)

all-of-each : (P : List ℕ → Type 0) (f : StuckAt → List ℕ) → ((fault : StuckAt) → P (f fault)) → (faults : List StuckAt) → AllHold P (map f faults)
all-of-each P f each [] = tt
all-of-each P f each (fault ∷ faults) = (each fault, all-of-each P f each faults)

pub are-parts : (design : FlatDesign) (plan : TestPlan) (hard : List Hard) → IsPlan plan → times_of hard ≡ hard_lists design plan → ArePartsOf plan.strobes hard
are-parts design plan hard rules e = record {
  ascend = subst (AllHold IsAscending) (sym e) (all-of-each IsAscending (hard_times design plan) (λ fault. (hard-part design plan fault rules.ascending).ascend) plan.faults);
  listed =
      subst (AllHold (λ times. AllHold (λ time. IsTrue (has plan.strobes time)) times)) (sym e)
      (all-of-each (λ times. AllHold (λ time. IsTrue (has plan.strobes time)) times) (hard_times design plan) (λ fault. (hard-part design plan fault rules.ascending).listed) plan.faults);
}
