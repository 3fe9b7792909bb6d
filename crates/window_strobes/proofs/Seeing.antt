-- The good machine's samples at some strobes, one after the other (strobes by the plan; slots by IEEE 1364-2001, clause 5).
use Rattle.std.proofs.Common.{◌≡◌, ℕ, ◌+◌, ◌<◌, ◌≤◌, List, [], ◌∷◌, ◌++◌, map, length, drop, refl, sym, ap, subst, ◌∙◌, arith, append_assoc}
use Rattle.std.proofs.lemmas.List.{drop_at, length-map, map_push}
use Rattle.vf_base.specs.Lists.{AllHold}
use Rattle.v_design.specs.Designs.{FlatDesign, TestPlan}
use Rattle.v_design.specs.Grades.{Sample}
use Rattle.v_design.specs.WellFormed.{IsAscending}
use Rattle.kept_samples.specs.Plain.{sample_of}
use Rattle.kept_samples.specs.declared.kept.Sample.{Sample as Kept}
use Rattle.grade_laws.specs.Grading.{good_seen, times}
use Rattle.window_strobes.specs.Slots.{BeginsBy, ComesTo}
use Rattle.window_strobes.specs.Seen.{IsSeenAt, AreSeen}

-- what holds of all of some and of one more
all-more : {A : Type 0} (P : A → Type 0) (xs : List A) (x : A) → AllHold P xs → P x → AllHold P (xs ++ x ∷ [])
all-more P [] x all here = (here, tt)
all-more P (y ∷ xs) x all here = (all.0, all-more P xs x all.1 here)

all-later : (P : ℕ → Type 0) (one : ℕ) (strobes : List ℕ) → ((later : ℕ) → one < later → P later) → AllHold (λ later. one < later) strobes → AllHold P strobes
all-later P one [] from all = tt
all-later P one (strobe ∷ strobes) from all = (from strobe all.0, all-later P one strobes from all.1)

-- these samples are those of the strobes so far, and these strobes are left; so many slots of the window begin by each of them
pub record IsSeeing (design : FlatDesign) (plan : TestPlan) (before through until : ℕ) (strobes : List ℕ) (samples : List Kept) (slot : ℕ) (left : List ℕ) : Type 0 where
  pub fits : before + slot ≤ through
  pub next_are : strobes ≡ times (map sample_of samples) ++ left
  pub bits : AllHold (λ (sample : Sample). sample.bits ≡ good_seen design plan sample.time) (map sample_of samples)
  pub by_then : AllHold (λ (sample : Sample). sample.time ≤ until) (map sample_of samples)
  pub begun : AllHold (BeginsBy design plan (before + slot)) left
  pub ascend : IsAscending left

module _ (design : FlatDesign) (plan : TestPlan) (before through until : ℕ) (strobes : List ℕ) where
  pub seeing-begins : before ≤ through → IsAscending strobes → AllHold (BeginsBy design plan before) strobes → IsSeeing design plan before through until strobes [] 0 strobes
  seeing-begins some ascend begun = record {
    fits = omega (arith, some);
    next_are = refl;
    bits = tt;
    by_then = tt;
    begun = (let same : before ≡ before + 0 = omega arith in subst (λ n. AllHold (BeginsBy design plan n) strobes) same begun);
    ascend = ascend;
  }

  times-length : (samples : List Kept) → length (times (map sample_of samples)) ≡ length samples
  times-length samples = length-map (map sample_of samples) (λ (sample : Sample). sample.time) ∙ length-map samples sample_of

  -- no strobe is left that comes by then
  seen-all : (samples : List Kept) (slot : ℕ) (left : List ℕ) → IsSeeing design plan before through until strobes samples slot left → AllHold (λ strobe. until < strobe) left →
      AreSeen design plan until strobes samples
  seen-all samples slot left s after =
      let left_is : drop (length samples) strobes ≡ left =
      ap (drop (length samples)) s.next_are ∙ drop_at (times (map sample_of samples)) left (length samples) (times-length samples) in
      record {
        next_are = s.next_are ∙ ap (λ l. times (map sample_of samples) ++ l) (sym left_is);
        bits = s.bits;
        by_then = s.by_then;
        after = subst (λ l. AllHold (λ strobe. until < strobe) l) (sym left_is) after;
      }

  pub seeing-ends : (samples : List Kept) (slot : ℕ) → IsSeeing design plan before through until strobes samples slot [] → AreSeen design plan until strobes samples
  seeing-ends samples slot s = seen-all samples slot [] s tt

  module _ (samples : List Kept) (slot strobe : ℕ) (left : List ℕ) (s : IsSeeing design plan before through until strobes samples slot (strobe ∷ left)) where
    pub seeing-stops : until < strobe → AreSeen design plan until strobes samples
    seeing-stops after =
        seen-all samples slot (strobe ∷ left) s (after, all-later (λ later. until < later) strobe left (λ later high. omega (arith, after, high)) s.ascend.0)

    pub seeing-more : (sample : Kept) (comes : ℕ) → strobe ≤ until → ComesTo design plan before through strobe comes → IsSeenAt design plan strobe sample →
        IsSeeing design plan before through until strobes (samples ++ sample ∷ []) comes left
    seeing-more sample comes low c seen = record {
      fits = c.fits;
      next_are =
          s.next_are
          ∙ ap (λ t. times (map sample_of samples) ++ t ∷ left) (sym seen.time_is)
          ∙ sym (append_assoc (times (map sample_of samples)) (sample.time ∷ []) left)
          ∙ ap (λ l. l ++ left)
          (sym
          (ap times (map_push sample_of samples sample) ∙ map_push (λ (one : Sample). one.time) (map sample_of samples) (sample_of sample)));
      bits =
          subst (λ (l : List Sample). AllHold (λ (one : Sample). one.bits ≡ good_seen design plan one.time) l) (sym (map_push sample_of samples sample))
          (all-more (λ (one : Sample). one.bits ≡ good_seen design plan one.time) (map sample_of samples) (sample_of sample) s.bits
          (seen.bits_are ∙ ap (good_seen design plan) (sym seen.time_is)));
      by_then =
          subst (λ (l : List Sample). AllHold (λ (one : Sample). one.time ≤ until) l) (sym (map_push sample_of samples sample))
          (all-more (λ (one : Sample). one.time ≤ until) (map sample_of samples) (sample_of sample) s.by_then (omega (arith, low, seen.time_is)));
      begun = all-later (BeginsBy design plan (before + comes)) strobe left
          (λ later high last one is here. (let by : one.begins.time ≤ strobe = c.begun last one is here in omega (arith, by, high))) s.ascend.0;
      ascend = s.ascend.1;
    }
