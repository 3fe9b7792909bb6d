-- Of a fault without an end, walking side by side finds what looking each time up finds: both are the fault's own samples.
use Rattle.std.proofs.Common.{◌≡◌, ℕ, ◌<◌, List, [], ◌∷◌, Bool, true, false, not, cond, refl, sym, ap, ◌∙◌, map, filter, arith}
use Rattle.std.specs.Prelude.{None, nat_eq}
use Rattle.std.specs.List.{AllZip}
use Rattle.std.proofs.lemmas.Bool.{eq-eqb, ne_eqb}
use Rattle.four_value.specs.Values.{same_value}
use Rattle.four_value.specs.ValueLaws.{from_same_value}
use Rattle.vf_base.specs.Lists.{AllHold}
use Rattle.v_design.specs.Designs.{FlatDesign, StuckAt, TestPlan}
use Rattle.v_design.specs.Grades.{Samples, Sample, samples_at, FullGrade}
use Rattle.v_design.specs.WellFormed.{IsAscending, IsPlan}
use Rattle.kept_samples.specs.Plain.{sample_of, differing}
use Rattle.kept_samples.specs.Kept.{samples_kept, good_seen, is_before, good_samples, Keeps}
use Rattle.kept_samples.specs.declared.kept.Kept.{Kept}
use Rattle.dict_laws.specs.Filled.{faulty_seen}
use Rattle.dict_laws.specs.Endless.{IsEndless, neither_stops}
use Rattle.dict_text.specs.Texts.{patched}
use Rattle.dict_text.specs.Dictionaries.{entry_kept, IsDictionary}
use Rattle.dict_text.specs.Merged.{sample_beside, left_beside, merged, Merges, AllMerge}
use Rattle.dict_text.specs.declared.dictionary.Dictionary.{Dictionary}
use Rattle.dict_text.proofs.Patches.{patched_back}

-- a good sample before all that differ stays
stays : (good : Sample) (differs : List Sample) → AllHold (λ (own : Sample). good.time < own.time) differs → (sample_beside good differs ≡ good) × (left_beside good differs ≡ differs)
stays good [] h = (refl, refl)
stays good (own ∷ differs) h =
    let apart : nat_eq own.time good.time ≡ false = ne_eqb own.time good.time (λ e. omega (arith, h.0, e)) in
    (ap (λ b. cond b own good) apart, ap (λ b. cond b differs (own ∷ differs)) apart)

module _ (good faulty : Samples) where
  abbrev own-at : ℕ → Sample
  own-at t = record { time = t; bits = faulty t }

  abbrev good-at : ℕ → Sample
  good-at t = record { time = t; bits = good t }

  abbrev differs : List ℕ → List Sample
  differs strobes = differing good (samples_at faulty strobes)

  differ-later : (t : ℕ) (strobes : List ℕ) → AllHold (λ later. t < later) strobes → AllHold (λ (own : Sample). t < own.time) (differs strobes)
  differ-later t [] h = tt
  differ-later t (x ∷ strobes) h = go (same_value (faulty x) (good x)) (differ-later t strobes h.1)
    where
      go : (b : Bool) → AllHold (λ (own : Sample). t < own.time) (differs strobes) → AllHold (λ (own : Sample). t < own.time) (cond (not b) (own-at x ∷ differs strobes) (differs strobes))
      go true rest = rest
      go false rest = (h.0, rest)

  merged-back : (strobes : List ℕ) → IsAscending strobes → merged (samples_at good strobes) (differs strobes) ≡ samples_at faulty strobes
  merged-back [] a = refl
  merged-back (t ∷ strobes) a = go (same_value (faulty t) (good t)) refl (merged-back strobes a.1)
    where
      go : (b : Bool) → same_value (faulty t) (good t) ≡ b → merged (samples_at good strobes) (differs strobes) ≡ samples_at faulty strobes →
          merged (good-at t ∷ samples_at good strobes) (cond (not b) (own-at t ∷ differs strobes) (differs strobes)) ≡ own-at t ∷ samples_at faulty strobes
      go true e rest =
          let s = stays (good-at t) (differs strobes) (differ-later t strobes a.0) in
          (λ i. s.0 i ∷ merged (samples_at good strobes) (s.1 i)) ∙ (λ i. record { time = t; bits = sym (from_same_value (faulty t) (good t) e) i } ∷ rest i)
      go false e rest =
          let same : nat_eq t t ≡ true = eq-eqb t t refl in
          (λ i. cond (same i) (own-at t) (good-at t) ∷ merged (samples_at good strobes) (cond (same i) (differs strobes) (own-at t ∷ differs strobes))) ∙ ap (λ l. own-at t ∷ l) rest

-- all strobes are before no stop
all-before : (strobes : List ℕ) → filter (is_before None) strobes ≡ strobes
all-before [] = refl
all-before (strobe ∷ strobes) = ap (λ l. strobe ∷ l) (all-before strobes)

one-merges : (design : FlatDesign) (plan : TestPlan) (found : List Sample) (fault : StuckAt) (kept : Kept) → IsPlan plan → found ≡ good_samples design plan →
    Keeps design plan fault kept → Merges found (entry_kept kept)
one-merges design plan found fault kept planned are keeps none =
    let full : FullGrade = keeps.0 in
    let endless : IsEndless design plan fault full = neither_stops design plan fault full keeps.1 (sym keeps.2.end ∙ none) in
    let good : Samples = good_seen design plan in
    let faulty : Samples = faulty_seen design plan fault in
    let whole : found ≡ samples_at good plan.strobes = are ∙ ap (λ stop. samples_at good (filter (is_before stop) plan.strobes)) endless.good ∙ ap (samples_at good) (all-before plan.strobes) in
    let own : map sample_of kept.differs ≡ differing good (samples_at faulty plan.strobes) = keeps.2.differs ∙ ap (differing good) endless.samples in
    (λ i. merged (whole i) (own i)) ∙ merged-back good faulty plan.strobes planned.ascending ∙ sym (patched_back good faulty plan.strobes) ∙ (λ i. patched (sym whole i) (sym own i))

each-merges : (design : FlatDesign) (plan : TestPlan) (found : List Sample) → IsPlan plan → found ≡ good_samples design plan →
    (faults : List StuckAt) (entries : List Kept) → AllZip (Keeps design plan) faults entries → AllMerge found entries
each-merges design plan found planned are [] [] h = tt
each-merges design plan found planned are [] (kept ∷ entries) h = absurd h
each-merges design plan found planned are (fault ∷ faults) [] h = tt
each-merges design plan found planned are (fault ∷ faults) (kept ∷ entries) h = (one-merges design plan found fault kept planned are h.0, each-merges design plan found planned are faults entries h.1)

-- the faults of a dictionary
pub dictionary-merges : (design : FlatDesign) (plan : TestPlan) (dictionary : Dictionary) → IsPlan plan → IsDictionary design plan dictionary →
    AllMerge (samples_kept dictionary.good) dictionary.faults
dictionary-merges design plan dictionary planned is = each-merges design plan (samples_kept dictionary.good) planned is.good plan.faults dictionary.faults is.faults

-- nothing differs
pub merged-nil : (good : List Sample) → merged good [] ≡ good
merged-nil [] = refl
merged-nil (sample ∷ good) = ap (λ l. sample ∷ l) (merged-nil good)
