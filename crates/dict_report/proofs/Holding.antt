-- What dictionaries and diagnoses say holds of every legal order (IEEE 1364-2001, clause 5).
use Rattle.std.proofs.Common.{◌≡◌, ℕ, List, [], ◌∷◌, true, false, map, refl, sym, ap, subst, ◌∙◌}
use Rattle.std.specs.Prelude.{◌↔◌, Option, Some, None, MatchOption, is_some}
use Rattle.std.specs.List.{AllZip}
use Rattle.v_design.specs.Designs.{FlatDesign, StuckAt, TestPlan, good_machine, faulty_machine}
use Rattle.v_design.specs.Grades.{Sample, FaultGrade, FullGrade, full_grade}
use Rattle.v_design.specs.WellFormed.{KeepsRules, IsPlan}
use Rattle.v_design.specs.Laws.{GradesHold}
use Rattle.kept_samples.specs.Plain.{differing}
use Rattle.kept_samples.specs.Kept.{good_seen, good_stop, good_samples}
use Rattle.dict_laws.specs.Responses.{Fit, fit}
use Rattle.dict_laws.specs.Known.{AreItsSamples, FullGradesHold, GoodSamplesHold, FitsHold}
use Rattle.dict_text.specs.Patched.{PatchedBack}
use Rattle.dict_text.specs.Texts.{entry_of, patched, Flagged, Fits, found_by, found_of}
use Rattle.dict_report.specs.Outputs.{entries_of, IsDictText, IsDiagnosis}
use Rattle.dict_report.specs.Orders.{EndHolds, EntryHolds, DictHolds, FitsInEachOrder, FoundHolds, DiagnosisHolds}
use Rattle.dict_report.proofs.Ends.{ends-hold}
use Rattle.dict_report.proofs.Endless.{good-whole, told-back, fits-each}

-- Words

some-full : (one other : FullGrade) → Some one ≡ Some other → one ≡ other
some-full one other e = cc

fits-is : (one other : Fit) → Fits one ≡ Fits other → one ≡ other
fits-is one other e = cc

not-flagged : {A : Type 0} (how : Fit) → Fits how ≡ Flagged → A
not-flagged how e = cc

-- an end isn't none
no-end : {A : Type 0} (one other : FullGrade) → Some one ≡ Some other → one.end ≡ None → is_some other.end ≡ true → A
no-end one other e n s = let same : false ≡ true = sym (ap is_some n) ∙ (ap (λ (f : FullGrade). is_some f.end) (some-full one other e) ∙ s) in absurd (cc)

-- the laws that dictionaries and diagnoses rest on
pub record DictionaryLaws : Type 0 where
  pub faulty : FullGradesHold
  pub good : GoodSamplesHold
  pub fits : FitsHold
  pub grades : GradesHold
  pub back : PatchedBack

module _ (laws : DictionaryLaws) (design : FlatDesign) (plan : TestPlan) (rules : KeepsRules design) (planned : IsPlan plan) where
  -- Dictionaries

  entry-holds : (fault : StuckAt) (full : FullGrade) → full_grade design plan fault ≡ Some full → EntryHolds design plan (good_samples design plan) fault (entry_of (good_seen design plan) full)
  entry-holds fault full e = go full.end refl
    where
      go : (end : Option FaultGrade) → full.end ≡ end →
          MatchOption end (AreItsSamples (faulty_machine design fault) plan (patched (good_samples design plan) (differing (good_seen design plan) full.samples))) (EndHolds design fault)
      go None n =
          subst (λ samples. AreItsSamples (faulty_machine design fault) plan samples) (sym (told-back laws.back design plan fault full e n)) (laws.faulty design plan fault full rules planned e n)
      go (Some end) n = ends-hold laws.grades design plan fault full end rules planned e n

  good-holds : good_stop design plan ≡ None → AreItsSamples (good_machine design) plan (good_samples design plan)
  good-holds none = subst (λ samples. AreItsSamples (good_machine design) plan samples) (sym (good-whole design plan none)) (laws.good design plan rules planned none)

  pub dict-holds : (text : List ℕ) → IsDictText design plan text → DictHolds design plan text
  dict-holds text is = record {
    good = good_samples design plan;
    entries = entries_of design plan is.grades;
    text_is = is.text_is;
    good_holds = good-holds;
    faults_hold = zip-entries plan.faults is.grades is.full;
  }
    where
      zip-entries : (faults : List StuckAt) (grades : List FullGrade) → AllZip (λ fault full. full_grade design plan fault ≡ Some full) faults grades →
          AllZip (EntryHolds design plan (good_samples design plan)) faults (entries_of design plan grades)
      zip-entries [] [] h = tt
      zip-entries [] (full ∷ grades) h = absurd h
      zip-entries (fault ∷ faults) [] h = absurd h
      zip-entries (fault ∷ faults) (full ∷ grades) h = (entry-holds fault full h.0, zip-entries faults grades h.1)

  -- Diagnoses

  module _ (response : List Sample) where
    found-holds : (fault : StuckAt) (full : FullGrade) → full_grade design plan fault ≡ Some full →
        FoundHolds design plan response fault (found_of response (good_samples design plan) (entry_of (good_seen design plan) full))
    found-holds fault full e = go full.end refl
      where
        each : (samples : List Sample) → AreItsSamples (faulty_machine design fault) plan samples → (how : Fit) →
            (fit response samples ≡ how) ↔ FitsInEachOrder (faulty_machine design fault) plan response how
        each samples its how = fits-each laws.fits (faulty_machine design fault) plan samples response how its

        go : (end : Option FaultGrade) → full.end ≡ end → FoundHolds design plan response fault (found_by response (good_samples design plan) (entry_of (good_seen design plan) full) end)
        go None n =
            let back = told-back laws.back design plan fault full e n in
            let its = laws.faulty design plan fault full rules planned e n in
            record {
              fits = λ how. (
                λ same. (record { full = full; is_full = e; endless = n }, (each full.samples its how).0 (ap (fit response) (sym back) ∙ fits-is _ how same)),
                λ held. ap Fits (ap (fit response) back ∙ (each full.samples its how).1 held.1),
              );
              flagged = (λ same. not-flagged _ same, λ held. no-end full held.full (sym e ∙ held.is_full) n held.ended);
            }
        go (Some end) n = record {
          fits = λ how. (λ same. not-flagged how (sym same), λ held. no-end held.0.full full (sym held.0.is_full ∙ e) held.0.endless (ap is_some n));
          flagged = (λ same. record { full = full; is_full = e; ended = ap is_some n }, λ held. refl);
        }

    pub diagnosis-holds : (text : List ℕ) → IsDiagnosis design plan response text → DiagnosisHolds design plan response text
    diagnosis-holds text is = record {
      good = good_samples design plan;
      entries = entries_of design plan is.grades;
      text_is = is.text_is;
      good_holds = λ none how. fits-each laws.fits (good_machine design) plan (good_samples design plan) response how (good-holds none);
      faults_hold = zip-found plan.faults is.grades is.full;
    }
      where
        zip-found : (faults : List StuckAt) (grades : List FullGrade) → AllZip (λ fault full. full_grade design plan fault ≡ Some full) faults grades →
            AllZip (FoundHolds design plan response) faults (map (found_of response (good_samples design plan)) (entries_of design plan grades))
        zip-found [] [] h = tt
        zip-found [] (full ∷ grades) h = absurd h
        zip-found (fault ∷ faults) [] h = absurd h
        zip-found (fault ∷ faults) (full ∷ grades) h = (found-holds fault full h.0, zip-found faults grades h.1)
