-- How samples fit what was observed, strobe by strobe.
use Rattle.std.proofs.Common.{◌≡◌, ℕ, ◌+◌, ◌<◌, ◌≤◌, min, List, [], ◌∷◌, length, get_or, drop, Bool, true, false, ◌||◌, refl, sym, ap, ◌∙◌, ◌⊎◌, inl, inr, arith}
use Rattle.std.specs.List.{zip, list_any}
use Rattle.std.proofs.lemmas.Bool.{cases_lt}
use Rattle.std.proofs.lemmas.List.{drop_all}
use Rattle.four_value.specs.declared.logic.Bit.{Bit}
use Rattle.v_design.specs.Grades.{Sample, some_sample}
use Rattle.kept_samples.specs.Plain.{sample_of}
use Rattle.kept_samples.specs.Kept.{samples_kept}
use Rattle.kept_samples.specs.declared.kept.Sample.{Sample as SampleKept}
use Rattle.dict_laws.specs.Responses.{some_observed}
use Rattle.dict_text.specs.Merged.{sample_beside, left_beside, merged}
use Rattle.dict_text.proofs.Written.{drop-at}

-- a test of the bits at one strobe
pub list_any-zip : (test : Bit → Bit → Bool) (observed bits : List Bit) → list_any (λ (pair : Bit × Bit). test pair.0 pair.1) (zip observed bits) ≡ some_sample test observed bits
list_any-zip test [] bits = refl
list_any-zip test (seen ∷ observed) [] = refl
list_any-zip test (seen ∷ observed) (bit ∷ bits) = ap (λ b. test seen bit || b) (list_any-zip test observed bits)

-- What is left to compare

-- a test of what is left from a strobe on
abbrev pub some_from : (Bit → Bit → Bool) → List SampleKept → List SampleKept → ℕ → List Sample → Bool
some_from test observed good place left = some_observed test (samples_kept (drop place observed)) (merged (samples_kept (drop place good)) left)

-- one strobe, and what is left behind it
pub strobe-more : (test : Bit → Bit → Bool) (observed good : List SampleKept) (n m : ℕ) (seen expected sample : SampleKept) (left : List Sample) (later : List SampleKept)
    (answer : Bool) → n < length observed → n < length good → seen ≡ get_or observed n seen → expected ≡ get_or good n expected → m ≡ n + 1 →
    sample_of sample ≡ sample_beside (sample_of expected) left → samples_kept later ≡ left_beside (sample_of expected) left →
    answer ≡ list_any (λ (pair : Bit × Bit). test pair.0 pair.1) (zip seen.bits sample.bits) → some_from test observed good n left ≡ (answer || some_from test observed good m (samples_kept later))
strobe-more test observed good n m seen expected sample left later answer low within is same next beside behind told =
    let shown : answer ≡ some_sample test seen.bits (sample_beside (sample_of expected) left).bits =
    told ∙ list_any-zip test seen.bits sample.bits ∙ ap (λ (s : Sample). some_sample test seen.bits s.bits) beside in
    (λ i. some_observed test (samples_kept (drop-at observed n seen low is i)) (merged (samples_kept (drop-at good n expected within same i)) left))
    ∙ (λ i. sym shown i || some_from test observed good (sym next i) (sym behind i))

-- a test that answered no, or yes
pub no-more : (answer rest before whole : Bool) → before ≡ (answer || rest) → answer ≡ false → before ≡ whole → rest ≡ whole
no-more answer rest before whole step e had = sym (ap (λ b. b || rest) e) ∙ sym step ∙ had

pub yes-more : (answer rest before whole : Bool) → before ≡ (answer || rest) → answer ≡ true → before ≡ whole → whole ≡ true
yes-more answer rest before whole step e had = sym had ∙ step ∙ ap (λ b. b || rest) e

-- a test that once answered yes isn't made again
pub kept-yes : (kept rest before whole : Bool) → kept ≡ true → (kept || before) ≡ whole → (kept || rest) ≡ whole
kept-yes kept rest before whole e had = ap (λ b. b || rest) e ∙ sym (ap (λ b. b || before) e) ∙ had

pub kept-no : (kept answer rest before whole : Bool) → before ≡ (answer || rest) → kept ≡ false → (kept || before) ≡ whole → (answer || rest) ≡ whole
kept-no kept answer rest before whole step e had = sym step ∙ sym (ap (λ b. b || before) e) ∙ had

observed-nil : (test : Bit → Bit → Bool) (observed : List Sample) → some_observed test observed [] ≡ false
observed-nil test [] = refl
observed-nil test (seen ∷ observed) = refl

-- nothing is left
pub observed-all : (test : Bit → Bit → Bool) (observed good : List SampleKept) (n : ℕ) (left : List Sample) → n ≡ min (length observed) (length good) → some_from test observed good n left ≡ false
observed-all test observed good n left done = by (cases_lt n (length observed))
  where
    by : (n < length observed) ⊎ (length observed ≤ n) → some_from test observed good n left ≡ false
    by (inl low) =
        let past : length good ≤ n = omega arith in
        ap (λ l. some_observed test (samples_kept (drop n observed)) (merged (samples_kept l) left)) (drop_all n good past) ∙ observed-nil test (samples_kept (drop n observed))
    by (inr past) = ap (λ l. some_observed test (samples_kept l) (merged (samples_kept (drop n good)) left)) (drop_all n observed past)
