-- What a dictionary tells is what its design and its plan mean, and they mean one thing (the formats are this program's own).
use Rattle.std.proofs.Common.{◌≡◌, ℕ, List, [], ◌∷◌, map, refl, sym, ap, ◌∙◌, ◌⊎◌, inl, inr}
use Rattle.std.specs.Prelude.{Option, Some, None, Result, Ok, Err, is_some}
use Rattle.std.specs.List.{AllZip}
use Rattle.v_design.specs.Designs.{FlatDesign, StuckAt, TestPlan}
use Rattle.v_design.specs.Grades.{Sample, Stop, FullGrade, full_grade}
use Rattle.vf_dict.specs.fault_grade.Results.{LoopsAt}
use Rattle.kept_samples.specs.Kept.{samples_kept, good_seen, good_stop, good_samples, Keeps}
use Rattle.kept_samples.specs.declared.kept.Kept.{Kept}
use Rattle.dict_text.specs.Texts.{Entry, entry_of, dict_text, diagnose_text}
use Rattle.dict_text.specs.Dictionaries.{IsDictionary, entry_kept}
use Rattle.dict_text.specs.declared.dictionary.Dictionary.{Dictionary}
use Rattle.pick_laws.specs.Hard.{hard_lists}
use Rattle.vf_pick.specs.Texts.{pick_text}
use Rattle.dict_report.specs.declared.fault.OutputFault.{OutputFault}
use Rattle.dict_report.specs.declared.fault.OutputFault.TheVariants.{GoodLoop, NoMemory}
use Rattle.dict_report.specs.Outputs.{NeverLoops, entries_of, Output, DictText, Diagnosis, PickText, IsText, IsFaultOf, Means, IsTheMeaning}

-- Full grades

-- what was kept of some faults is what is told of their full grades
record AreKept (design : FlatDesign) (plan : TestPlan) (faults : List StuckAt) (kept : List Kept) : Type 0 where
  grades : List FullGrade
  full : AllZip (λ fault full. full_grade design plan fault ≡ Some full) faults grades
  entries : map entry_kept kept ≡ entries_of design plan grades

same-entry : (one other : Entry) → one.differs ≡ other.differs → one.end ≡ other.end → one ≡ other
same-entry one other d e = λ i. record { differs = d i; end = e i }

are-kept : (design : FlatDesign) (plan : TestPlan) (faults : List StuckAt) (kept : List Kept) → AllZip (Keeps design plan) faults kept → AreKept design plan faults kept
are-kept design plan [] [] h = record { grades = []; full = tt; entries = refl }
are-kept design plan [] (one ∷ kept) h = absurd h
are-kept design plan (fault ∷ faults) [] h = absurd h
are-kept design plan (fault ∷ faults) (one ∷ kept) h =
    let rest = are-kept design plan faults kept h.1 in
    let same : entry_kept one ≡ entry_of (good_seen design plan) h.0.0 = same-entry (entry_kept one) (entry_of (good_seen design plan) h.0.0) h.0.2.differs h.0.2.end in
    record {
      grades = h.0.0 ∷ rest.grades;
      full = (h.0.1, rest.full);
      entries = λ i. same i ∷ rest.entries i;
    }

-- full grades are known by their faults
one-grades : (design : FlatDesign) (plan : TestPlan) (faults : List StuckAt) (one other : List FullGrade) →
    AllZip (λ fault full. full_grade design plan fault ≡ Some full) faults one → AllZip (λ fault full. full_grade design plan fault ≡ Some full) faults other → one ≡ other
one-grades design plan [] [] [] h d = refl
one-grades design plan [] [] (y ∷ other) h d = absurd d
one-grades design plan [] (x ∷ one) other h d = absurd h
one-grades design plan (f ∷ faults) [] other h d = absurd h
one-grades design plan (f ∷ faults) (x ∷ one) [] h d = absurd d
one-grades design plan (f ∷ faults) (x ∷ one) (y ∷ other) h d =
    let told : Some x ≡ Some y = sym h.0 ∙ d.0 in let same : x ≡ y = cc in
    ap (λ l. l ∷ one) same ∙ ap (λ ls. y ∷ ls) (one-grades design plan faults one other h.1 d.1)

-- Texts

pub dict-text : (design : FlatDesign) (plan : TestPlan) (dictionary : Dictionary) (text : List ℕ) → IsDictionary design plan dictionary → NeverLoops design plan →
    text ≡ dict_text design plan.faults (samples_kept dictionary.good) (map entry_kept dictionary.faults) → IsText DictText design plan text
dict-text design plan dictionary text is calm e =
    let kept = are-kept design plan plan.faults dictionary.faults is.faults in record {
      grades = kept.grades;
      full = kept.full;
      no_loop = calm;
      text_is = e ∙ (λ i. dict_text design plan.faults (is.good i) (kept.entries i));
    }

pub diagnosis : (design : FlatDesign) (plan : TestPlan) (dictionary : Dictionary) (response : List Sample) (text : List ℕ) → IsDictionary design plan dictionary → NeverLoops design plan →
    text ≡ diagnose_text design plan.faults dictionary.raced response (samples_kept dictionary.good) (map entry_kept dictionary.faults) → IsText (Diagnosis response) design plan text
diagnosis design plan dictionary response text is calm e =
    let kept = are-kept design plan plan.faults dictionary.faults is.faults in record {
      grades = kept.grades;
      full = kept.full;
      no_loop = calm;
      text_is = e ∙ (λ i. diagnose_text design plan.faults (is.raced i) response (is.good i) (kept.entries i));
    }

pub picked : (design : FlatDesign) (plan : TestPlan) (text : List ℕ) → NeverLoops design plan → text ≡ pick_text design plan.faults plan.strobes (hard_lists design plan) →
    IsText PickText design plan text
picked design plan text calm e = record { no_loop = calm; text_is = e }

-- an output is one text
one-text : (output : Output) (design : FlatDesign) (plan : TestPlan) (one other : List ℕ) → IsText output design plan one → IsText output design plan other → one ≡ other
one-text DictText design plan one other h d =
    h.text_is ∙ (ap (λ gs. dict_text design plan.faults (good_samples design plan) (entries_of design plan gs)) (one-grades design plan plan.faults h.grades d.grades h.full d.full) ∙ sym d.text_is)
one-text (Diagnosis response) design plan one other h d =
    h.text_is
    ∙ (ap (λ gs. diagnose_text design plan.faults (is_some (good_stop design plan)) response (good_samples design plan) (entries_of design plan gs))
    (one-grades design plan plan.faults h.grades d.grades h.full d.full)
    ∙ sym d.text_is)
one-text PickText design plan one other h d = h.text_is ∙ sym d.text_is

-- where there is an output the good machine doesn't loop
goes-on : (output : Output) (design : FlatDesign) (plan : TestPlan) (text : List ℕ) → IsText output design plan text → (time : ℕ) → LoopsAt design plan time → ⊥
goes-on DictText design plan text is = is.no_loop
goes-on (Diagnosis response) design plan text is = is.no_loop
goes-on PickText design plan text is = is.no_loop

-- Meanings

abbrev time_or : ℕ → Option Stop → ℕ
time_or t None = t
time_or t (Some stop) = stop.time

module _ (output : Output) (design : FlatDesign) (plan : TestPlan) where
  pub text-told : (text : List ℕ) → IsText output design plan text → IsTheMeaning output design plan (Ok text)
  text-told text is = record { means = is; only = only }
    where
      only : (other : Result (List ℕ) OutputFault) → Means output design plan other → other ≡ Ok text
      only (Ok other) m = ap (λ t. Ok t) (one-text output design plan other text m is)
      only (Err (GoodLoop time)) m = absurd (goes-on output design plan text is time m)
      only (Err NoMemory) m = absurd m

  loop-told : (time : ℕ) → LoopsAt design plan time → IsTheMeaning output design plan (Err (GoodLoop time))
  loop-told time loops = record { means = loops; only = only }
    where
      only : (other : Result (List ℕ) OutputFault) → Means output design plan other → other ≡ Err (GoodLoop time)
      only (Ok other) m = absurd (goes-on output design plan other m time loops)
      only (Err (GoodLoop other)) m = ap (λ t. Err (GoodLoop t)) (ap (time_or time) (sym m ∙ loops))
      only (Err NoMemory) m = absurd m

  pub fault-told : (fault : OutputFault) → (fault ≡ NoMemory) ⊎ IsFaultOf design plan fault → (fault ≡ NoMemory) ⊎ IsTheMeaning output design plan (Err fault)
  fault-told (GoodLoop time) (inl want) = inl want
  fault-told (GoodLoop time) (inr loops) = inr (loop-told time loops)
  fault-told NoMemory told = inl refl
