-- The samples of both machines, strobe by strobe.
use Rattle.std.proofs.Common.{◌≡◌, ℕ, ◌+◌, ◌<◌, ◌≤◌, min, List, [], ◌∷◌, length, get_or, drop, Bool, ◌||◌, refl, sym, ap, ◌∙◌, ◌⊎◌, inl, inr, arith, cond}
use Rattle.std.specs.Prelude.{Option, Some, None}
use Rattle.std.specs.List.{zip, list_any}
use Rattle.std.proofs.lemmas.Bool.{cases_lt}
use Rattle.std.proofs.lemmas.List.{drop_all, drop_more}
use Rattle.four_value.specs.declared.logic.Bit.{Bit}
use Rattle.v_design.specs.Grades.{Samples, is_hard, is_possible, some_sample, Sample, samples_at, first_strobe, verdict, verdict_by}
use Rattle.kept_samples.specs.Kept.{samples_kept}
use Rattle.kept_samples.specs.declared.kept.Sample.{Sample as SampleKept}
use Rattle.vf_audit.specs.Strobes.{first_sample, verdict_in}

-- a test of the bits at one strobe
pub list_any-zip : (test : Bit → Bit → Bool) (good faulty : List Bit) → list_any (λ (pair : Bit × Bit). test pair.0 pair.1) (zip good faulty) ≡ some_sample test good faulty
list_any-zip test [] faulty = refl
list_any-zip test (seen ∷ good) [] = refl
list_any-zip test (seen ∷ good) (own ∷ faulty) = ap (λ b. test seen own || b) (list_any-zip test good faulty)

-- What is left to compare

-- the first strobe that passes, from a place on
abbrev pub first_from : (Bit → Bit → Bool) → List SampleKept → List SampleKept → ℕ → Option ℕ
first_from test good faulty place = first_sample test (samples_kept (drop place good)) (samples_kept (drop place faulty))

drop-at : {A : Type 0} (xs : List A) (n : ℕ) (x : A) → n < length xs → x ≡ get_or xs n x → drop n xs ≡ x ∷ drop (n + 1) xs
drop-at xs n x low is = drop_more xs n x low ∙ ap (λ y. y ∷ drop (n + 1) xs) (sym is)

-- one strobe, and what is left behind it
pub first-more : (test : Bit → Bit → Bool) (good faulty : List SampleKept) (n : ℕ) (seen own : SampleKept) (answer : Bool) → n < length good → n < length faulty →
    seen ≡ get_or good n seen → own ≡ get_or faulty n own → answer ≡ some_sample test seen.bits own.bits →
    first_from test good faulty n ≡ cond answer (Some seen.time) (first_from test good faulty (n + 1))
first-more test good faulty n seen own answer low within is same told =
    (λ i. first_sample test (samples_kept (drop-at good n seen low is i)) (samples_kept (drop-at faulty n own within same i)))
    ∙ ap (λ b. cond b (Some seen.time) (first_from test good faulty (n + 1))) (sym told)

first-nil : (test : Bit → Bit → Bool) (good : List Sample) → first_sample test good [] ≡ None
first-nil test [] = refl
first-nil test (seen ∷ good) = refl

-- nothing is left
pub first-all : (test : Bit → Bit → Bool) (good faulty : List SampleKept) (n : ℕ) → n ≡ min (length good) (length faulty) → first_from test good faulty n ≡ None
first-all test good faulty n done = by (cases_lt n (length good))
  where
    by : (n < length good) ⊎ (length good ≤ n) → first_from test good faulty n ≡ None
    by (inl low) =
        let past : length faulty ≤ n = omega arith in
        ap (λ l. first_sample test (samples_kept (drop n good)) (samples_kept l)) (drop_all n faulty past) ∙ first-nil test (samples_kept (drop n good))
    by (inr past) = ap (λ l. first_sample test (samples_kept l) (samples_kept (drop n faulty))) (drop_all n good past)

-- The samples of two runs

first-at : (test : Bit → Bit → Bool) (seen own : Samples) (strobes : List ℕ) → first_sample test (samples_at seen strobes) (samples_at own strobes) ≡ first_strobe test seen own strobes
first-at test seen own [] = refl
first-at test seen own (strobe ∷ strobes) = ap (λ rest. cond (some_sample test (seen strobe) (own strobe)) (Some strobe) rest) (first-at test seen own strobes)

-- their verdict is that of the runs
pub verdict-at : (seen own : Samples) (strobes : List ℕ) → verdict_in (samples_at seen strobes) (samples_at own strobes) ≡ verdict seen own strobes
verdict-at seen own strobes = λ i. verdict_by (first-at is_hard seen own strobes i) (first-at is_possible seen own strobes i)
