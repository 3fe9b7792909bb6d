-- Samples that are kept strobe by strobe.
use Rattle.std.proofs.Common.{◌≡◌, ℕ, zero, suc, ◌+◌, ◌<◌, ◌≤◌, List, [], ◌∷◌, ◌++◌, length, map, drop, get_or, refl, sym, ap, subst, ◌∙◌, append_assoc, length-append, arith}
use Rattle.std.proofs.lemmas.List.{append-nil, map-append, length-map, drop_more, drop_all}
use Rattle.four_value.specs.declared.logic.Bit.{Bit}
use Rattle.vf_base.specs.Lists.{AllHold}
use Rattle.v_design.specs.WellFormed.{IsAscending}
use Rattle.v_design.specs.Grades.{Sample as PlainSample, Samples, samples_at}
use Rattle.kept_samples.specs.Plain.{sample_of}
use Rattle.kept_samples.specs.declared.kept.Sample.{Sample}
use Rattle.cert_runs.specs.Samples.{KeepsBefore}

-- Facts of each element

pub hold-append : {A : Type 0} (P : A → Type 0) (xs ys : List A) → AllHold P xs → AllHold P ys → AllHold P (xs ++ ys)
hold-append P [] ys h k = k
hold-append P (x ∷ xs) ys h k = (h.0, hold-append P xs ys h.1 k)

pub hold-front : {A : Type 0} (P : A → Type 0) (xs ys : List A) → AllHold P (xs ++ ys) → AllHold P xs
hold-front P [] ys h = tt
hold-front P (x ∷ xs) ys h = (h.0, hold-front P xs ys h.1)

pub hold-back : {A : Type 0} (P : A → Type 0) (xs ys : List A) → AllHold P (xs ++ ys) → AllHold P ys
hold-back P [] ys h = h
hold-back P (x ∷ xs) ys h = hold-back P xs ys h.1

pub hold-each : {A : Type 0} (P Q : A → Type 0) (xs : List A) → ((x : A) → P x → Q x) → AllHold P xs → AllHold Q xs
hold-each P Q [] f h = tt
hold-each P Q (x ∷ xs) f h = (f x h.0, hold-each P Q xs f h.1)

pub hold-both : {A : Type 0} (P Q R : A → Type 0) (xs : List A) → ((x : A) → P x → Q x → R x) → AllHold P xs → AllHold Q xs → AllHold R xs
hold-both P Q R [] f h k = tt
hold-both P Q R (x ∷ xs) f h k = (f x h.0 k.0, hold-both P Q R xs f h.1 k.1)

-- Samples

-- a strobe and what it sees
abbrev seen_at : Samples → ℕ → PlainSample
seen_at seen strobe = record { time = strobe; bits = seen strobe }

pub samples-joined : (seen : Samples) (xs ys : List ℕ) → samples_at seen (xs ++ ys) ≡ samples_at seen xs ++ samples_at seen ys
samples-joined seen xs ys = map-append (seen_at seen) xs ys

pub samples-same : (seen other : Samples) (xs : List ℕ) → AllHold (λ strobe. seen strobe ≡ other strobe) xs → samples_at seen xs ≡ samples_at other xs
samples-same seen other [] h = refl
samples-same seen other (x ∷ xs) h = λ i. record { time = x; bits = h.0 i } ∷ samples-same seen other xs h.1 i

-- The loop

-- some strobes before a time were passed, and saw these bits
pub record Keeping (time : ℕ) (bits : List Bit) (strobes : List ℕ) (old new : List Sample) : Type 0 where
  pub now : List ℕ
  pub left_is : drop (length old) strobes ≡ now ++ drop (length new) strobes
  pub samples_are : map sample_of new ≡ map sample_of old ++ samples_at (λ strobe. bits) now
  pub before : AllHold (λ strobe. strobe < time) now

pub keeping-none : (time : ℕ) (bits : List Bit) (strobes : List ℕ) (kept : List Sample) → Keeping time bits strobes kept kept
keeping-none time bits strobes kept = record { now = []; left_is = refl; samples_are = sym (append-nil (map sample_of kept)); before = tt }

-- one sample more
pub one-more : (bits : List Bit) (strobe : ℕ) (old new : List Sample) → map sample_of new ≡ map sample_of old ++ record { time = strobe; bits = bits } ∷ [] → length new ≡ length old + 1
one-more bits strobe old new is =
    let s : PlainSample = record { time = strobe; bits = bits } in
    sym (length-map new sample_of) ∙ ap length is ∙ length-append (map sample_of old) (s ∷ []) ∙ ap (λ n. n + 1) (length-map old sample_of)

pub keeping-more : (time : ℕ) (bits : List Bit) (strobes : List ℕ) (old mid new : List Sample) (strobe : ℕ) → length mid < length strobes → strobe ≡ get_or strobes (length mid) 0 → strobe < time →
    map sample_of new ≡ map sample_of mid ++ record { time = strobe; bits = bits } ∷ [] → Keeping time bits strobes old mid → Keeping time bits strobes old new
keeping-more time bits strobes old mid new strobe there is low more k =
    let next : drop (length mid) strobes ≡ strobe ∷ drop (length new) strobes =
    drop_more strobes (length mid) 0 there ∙ (λ i. sym is i ∷ drop (sym (one-more bits strobe mid new more) i) strobes) in
    record {
      now = k.now ++ strobe ∷ [];
      left_is = k.left_is ∙ ap (λ xs. k.now ++ xs) next ∙ sym (append_assoc k.now (strobe ∷ []) (drop (length new) strobes));
      samples_are = more ∙ ap (λ (xs : List PlainSample). xs ++ record { time = strobe; bits = bits } ∷ []) k.samples_are
          ∙ append_assoc (map sample_of old) (samples_at (λ s. bits) k.now) (record { time = strobe; bits = bits } ∷ [])
          ∙ ap (λ xs. map sample_of old ++ xs) (sym (samples-joined (λ s. bits) k.now (strobe ∷ [])));
      before = hold-append (λ s. s < time) k.now (strobe ∷ []) k.before (low, tt);
    }

-- where a strobe isn't before a time, no later one is
later-strobes : (time : ℕ) (strobes : List ℕ) (n : ℕ) → IsAscending strobes → n < length strobes → time ≤ get_or strobes n 0 → AllHold (λ s. time ≤ s) (drop n strobes)
later-strobes time [] n rise there low = absurd (omega (arith, there))
later-strobes time (x ∷ xs) zero rise there low = (low, hold-each (λ s. x < s) (λ s. time ≤ s) xs (λ s h. omega (arith, h, low)) rise.0)
later-strobes time (x ∷ xs) (suc n) rise there low = later-strobes time xs n rise.1 (omega (arith, there)) low

-- the next strobe isn't before the time
pub keeping-stops : (time : ℕ) (bits : List Bit) (strobes : List ℕ) (old new : List Sample) → length new < length strobes → time ≤ get_or strobes (length new) 0 → Keeping time bits strobes old new →
    KeepsBefore time bits strobes old new
keeping-stops time bits strobes old new there low k = record {
  now = k.now;
  left_is = k.left_is;
  samples_are = k.samples_are;
  before = k.before;
  later = λ rise. later-strobes time strobes (length new) rise there low;
}

-- no strobe is left
pub keeping-over : (time : ℕ) (bits : List Bit) (strobes : List ℕ) (old new : List Sample) → length strobes ≤ length new → Keeping time bits strobes old new → KeepsBefore time bits strobes old new
keeping-over time bits strobes old new over k = record {
  now = k.now;
  left_is = k.left_is;
  samples_are = k.samples_are;
  before = k.before;
  later = λ rise. subst (AllHold (λ s. time ≤ s)) (sym (drop_all (length new) strobes over)) tt;
}

all-late : (strobes : List ℕ) → AllHold (λ s. 0 ≤ s) strobes
all-late [] = tt
all-late (s ∷ strobes) = (omega arith, all-late strobes)

-- no strobe is before time 0
pub keeps-nothing : (bits : List Bit) (strobes : List ℕ) (kept : List Sample) → KeepsBefore 0 bits strobes kept kept
keeps-nothing bits strobes kept =
    record { now = []; left_is = refl; samples_are = sym (append-nil (map sample_of kept)); before = tt; later = λ rise. all-late (drop (length kept) strobes) }
