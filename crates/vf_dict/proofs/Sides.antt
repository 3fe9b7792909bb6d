-- A fault's samples that differ beside the good ones, strobe by strobe.
use Rattle.std.proofs.Common.{◌≡◌, ℕ, ◌+◌, ◌<◌, ◌≤◌, List, [], ◌∷◌, ◌++◌, Bool, true, false, length, map, filter, drop, get_or, refl, sym, ap, subst, ◌∙◌, arith, append_assoc, append-nil}
use Rattle.std.specs.Prelude.{cond}
use Rattle.std.proofs.lemmas.List.{length-map, drop_all, drop_more}
use Rattle.vf_base.specs.Lists.{AllHold}
use Rattle.v_design.specs.Grades.{Samples, Sample, samples_at, is_hard, some_sample}
use Rattle.pick_laws.specs.Hard.{hard_of}
use Rattle.kept_samples.specs.Plain.{sample_of}
use Rattle.kept_samples.specs.declared.kept.Sample.{Sample as SampleKept}
use Rattle.vf_dict.specs.SideBySide.{AreBeside, hard_among, PassesStrobe}

heads : {A : Type 0} (a b : A) (xs ys : List A) → a ∷ xs ≡ b ∷ ys → (a ≡ b) × (xs ≡ ys)
heads a b xs ys e = (cc, cc)

all-filtered : (P : ℕ → Type 0) (test : ℕ → Bool) (xs : List ℕ) → AllHold P xs → AllHold P (filter test xs)
all-filtered P test [] h = tt
all-filtered P test (x ∷ xs) h = go (test x) (all-filtered P test xs h.1)
  where
    go : (b : Bool) → AllHold P (filter test xs) → AllHold P (cond b (x ∷ filter test xs) (filter test xs))
    go true rest = (h.0, rest)
    go false rest = rest

module _ (good : SampleKept) (rest : List SampleKept) (seen own : Samples) (strobe : ℕ) (strobes : List ℕ) (test : ℕ → Bool) where
  passed : test strobe ≡ true → filter test (strobe ∷ strobes) ≡ strobe ∷ filter test strobes
  passed e = ap (λ b. cond b (strobe ∷ filter test strobes) (filter test strobes)) e

  failed : test strobe ≡ false → filter test (strobe ∷ strobes) ≡ filter test strobes
  failed e = ap (λ b. cond b (strobe ∷ filter test strobes) (filter test strobes)) e

  good-head : (differs : List SampleKept) → AreBeside (good ∷ rest) differs seen own (strobe ∷ strobes) test →
      (good.time ≡ strobe) × (good.bits ≡ seen strobe) × (map sample_of rest ≡ samples_at seen strobes)
  good-head differs b =
      let h = heads (sample_of good) (record { time = strobe; bits = seen strobe }) (map sample_of rest) (samples_at seen strobes) b.good_are in
      (ap (λ (s : Sample). s.time) h.0, ap (λ (s : Sample). s.bits) h.0, h.1)

  -- the fault has no sample there
  over : (differs : List SampleKept) → AreBeside (good ∷ rest) differs seen own (strobe ∷ strobes) test → test strobe ≡ false → AreBeside rest differs seen own strobes test
  over differs b e = record { ascending = b.ascending.1; good_are = (good-head differs b).2; differs_are = b.differs_are ∙ ap (samples_at own) (failed e) }

  over-times : test strobe ≡ false → hard_among seen own test (strobe ∷ strobes) ≡ hard_among seen own test strobes
  over-times e = ap (λ xs. hard_of seen (samples_at own xs)) (failed e)

  -- it has one
  record IsTaken (first : SampleKept) (later : List SampleKept) : Type 0 where
    time : first.time ≡ strobe
    bits : first.bits ≡ own strobe
    beside : AreBeside rest later seen own strobes test

  taken : (first : SampleKept) (later : List SampleKept) → AreBeside (good ∷ rest) (first ∷ later) seen own (strobe ∷ strobes) test → test strobe ≡ true → IsTaken first later
  taken first later b e =
      let h = heads (sample_of first) (record { time = strobe; bits = own strobe }) (map sample_of later) (samples_at own (filter test strobes)) (b.differs_are ∙ ap (samples_at own) (passed e)) in
      record {
        time = ap (λ (s : Sample). s.time) h.0;
        bits = ap (λ (s : Sample). s.bits) h.0;
        beside = record { ascending = b.ascending.1; good_are = (good-head (first ∷ later) b).2; differs_are = h.1 };
      }

  -- it has none where no sample is left, or the next one is of another time
  none-there : AreBeside (good ∷ rest) [] seen own (strobe ∷ strobes) test → test strobe ≡ false
  none-there b = go (test strobe) refl
    where
      go : (c : Bool) → test strobe ≡ c → test strobe ≡ false
      go true e = no (b.differs_are ∙ ap (samples_at own) (passed e))
        where
          no : [] ≡ samples_at own (strobe ∷ filter test strobes) → test strobe ≡ false
          no f = cc
      go false e = e

  other-there : (first : SampleKept) (later : List SampleKept) → AreBeside (good ∷ rest) (first ∷ later) seen own (strobe ∷ strobes) test → (first.time ≡ good.time → ⊥) → test strobe ≡ false
  other-there first later b n = go (test strobe) refl
    where
      go : (c : Bool) → test strobe ≡ c → test strobe ≡ false
      go true e = absurd (n ((taken first later b e).time ∙ sym (good-head (first ∷ later) b).0))
      go false e = e

  -- else it has one
  same-there : (first : SampleKept) (later : List SampleKept) → AreBeside (good ∷ rest) (first ∷ later) seen own (strobe ∷ strobes) test → first.time ≡ good.time → test strobe ≡ true
  same-there first later b same = go (test strobe) refl
    where
      no-later : (xs : List ℕ) → AllHold (λ t. strobe < t) xs → sample_of first ∷ map sample_of later ≡ samples_at own xs → ⊥
      no-later [] h f = cc
      no-later (x ∷ xs) h f =
          let at : first.time ≡ x = ap (λ (s : Sample). s.time) (heads (sample_of first) (record { time = x; bits = own x }) (map sample_of later) (samples_at own xs) f).0 in
          let here : good.time ≡ strobe = (good-head (first ∷ later) b).0 in
          let past : strobe < x = h.0 in
          omega (arith, at, here, past, same)

      go : (c : Bool) → test strobe ≡ c → test strobe ≡ true
      go true e = e
      go false e = absurd (no-later (filter test strobes) (all-filtered (λ t. strobe < t) test strobes b.ascending.0) (b.differs_are ∙ ap (samples_at own) (failed e)))

  -- the hard strobes begin with this one, where the sample detects the fault
  taken-times : test strobe ≡ true → hard_among seen own test (strobe ∷ strobes) ≡ cond (some_sample is_hard (seen strobe) (own strobe)) (strobe ∷ hard_among seen own test strobes)
      (hard_among seen own test strobes)
  taken-times e = ap (λ xs. hard_of seen (samples_at own xs)) (passed e) ∙ go (some_sample is_hard (seen strobe) (own strobe))
    where
      go : (b : Bool) →
          map (λ (sample : Sample). sample.time) (cond b (record { time = strobe; bits = own strobe } ∷
          filter (λ (sample : Sample). some_sample is_hard (seen sample.time) sample.bits) (samples_at own (filter test strobes)))
          (filter (λ (sample : Sample). some_sample is_hard (seen sample.time) sample.bits) (samples_at own (filter test strobes))))
          ≡ cond b (strobe ∷ hard_among seen own test strobes) (hard_among seen own test strobes)
      go true = refl
      go false = refl

-- A strobe

pub passes-none : (good : SampleKept) (differs : List SampleKept) (before : List ℕ) → differs ≡ [] → PassesStrobe good differs before differs before
passes-none good differs before none = record {
  beside = λ rest seen own strobe strobes test b. over good rest seen own strobe strobes test differs b (failed-here rest seen own strobe strobes test b);
  times = λ rest seen own strobe strobes test b. ap (λ xs. before ++ xs) (sym (over-times good rest seen own strobe strobes test (failed-here rest seen own strobe strobes test b)));
}
  where
    failed-here : (rest : List SampleKept) (seen own : Samples) (strobe : ℕ) (strobes : List ℕ) (test : ℕ → Bool) → AreBeside (good ∷ rest) differs seen own (strobe ∷ strobes) test →
        test strobe ≡ false
    failed-here rest seen own strobe strobes test b = none-there good rest seen own strobe strobes test (subst (λ ds. AreBeside (good ∷ rest) ds seen own (strobe ∷ strobes) test) none b)

pub passes-other : (good first : SampleKept) (differs later : List SampleKept) (before : List ℕ) → differs ≡ first ∷ later → (first.time ≡ good.time → ⊥) →
    PassesStrobe good differs before differs before
passes-other good first differs later before is other = record {
  beside = λ rest seen own strobe strobes test b. over good rest seen own strobe strobes test differs b (failed-here rest seen own strobe strobes test b);
  times = λ rest seen own strobe strobes test b. ap (λ xs. before ++ xs) (sym (over-times good rest seen own strobe strobes test (failed-here rest seen own strobe strobes test b)));
}
  where
    failed-here : (rest : List SampleKept) (seen own : Samples) (strobe : ℕ) (strobes : List ℕ) (test : ℕ → Bool) → AreBeside (good ∷ rest) differs seen own (strobe ∷ strobes) test →
        test strobe ≡ false
    failed-here rest seen own strobe strobes test b = other-there good rest seen own strobe strobes test first later
        (subst (λ ds. AreBeside (good ∷ rest) ds seen own (strobe ∷ strobes) test) is b) other

pub passes-same : (good first : SampleKept) (differs later : List SampleKept) (before after : List ℕ) → differs ≡ first ∷ later → first.time ≡ good.time →
    after ≡ before ++ cond (some_sample is_hard good.bits first.bits) (first.time ∷ []) [] →
    PassesStrobe good differs before later after
passes-same good first differs later before after is same noted = record {
  beside = λ rest seen own strobe strobes test b. (found rest seen own strobe strobes test b).beside;
  times = λ rest seen own strobe strobes test b.
      let head = good-head good rest seen own strobe strobes test (first ∷ later) (first-is rest seen own strobe strobes test b) in
      let f = found rest seen own strobe strobes test b in
      ap (λ xs. xs ++ hard_among seen own test strobes) noted
      ∙ append_assoc before (cond (some_sample is_hard good.bits first.bits) (first.time ∷ []) []) (hard_among seen own test strobes)
      ∙ ap (λ xs. before ++ xs) (
      (λ i. cond (some_sample is_hard (head.1 i) (f.bits i)) (f.time i ∷ []) [] ++ hard_among seen own test strobes)
      ∙ joined (some_sample is_hard (seen strobe) (own strobe)) strobe (hard_among seen own test strobes)
      ∙ sym (taken-times good rest seen own strobe strobes test (passed-here rest seen own strobe strobes test b))
      );
}
  where
    first-is : (rest : List SampleKept) (seen own : Samples) (strobe : ℕ) (strobes : List ℕ) (test : ℕ → Bool) → AreBeside (good ∷ rest) differs seen own (strobe ∷ strobes) test →
        AreBeside (good ∷ rest) (first ∷ later) seen own (strobe ∷ strobes) test
    first-is rest seen own strobe strobes test b = subst (λ ds. AreBeside (good ∷ rest) ds seen own (strobe ∷ strobes) test) is b

    passed-here : (rest : List SampleKept) (seen own : Samples) (strobe : ℕ) (strobes : List ℕ) (test : ℕ → Bool) → AreBeside (good ∷ rest) differs seen own (strobe ∷ strobes) test →
        test strobe ≡ true
    passed-here rest seen own strobe strobes test b = same-there good rest seen own strobe strobes test first later (first-is rest seen own strobe strobes test b) same

    found : (rest : List SampleKept) (seen own : Samples) (strobe : ℕ) (strobes : List ℕ) (test : ℕ → Bool) → AreBeside (good ∷ rest) differs seen own (strobe ∷ strobes) test →
        IsTaken good rest seen own strobe strobes test first later
    found rest seen own strobe strobes test b = taken good rest seen own strobe strobes test first later (first-is rest seen own strobe strobes test b)
        (passed-here rest seen own strobe strobes test b)

    joined : (b : Bool) (time : ℕ) (more : List ℕ) → cond b (time ∷ []) [] ++ more ≡ cond b (time ∷ more) more
    joined true time more = refl
    joined false time more = refl

-- All strobes

-- so many strobes were passed
abbrev pub HasPassed : List SampleKept → List SampleKept → ℕ → List SampleKept → List ℕ → Type 0
HasPassed good differs count left times =
    (seen own : Samples) (strobes : List ℕ) (test : ℕ → Bool) → AreBeside good differs seen own strobes test →
    AreBeside (drop count good) left seen own (drop count strobes) test × (times ++ hard_among seen own test (drop count strobes) ≡ hard_among seen own test strobes)

abbrev sample_at : Samples → ℕ → Sample
sample_at seen time = record { time = time; bits = seen time }

as-long : (good differs : List SampleKept) (seen own : Samples) (strobes : List ℕ) (test : ℕ → Bool) → AreBeside good differs seen own strobes test → length good ≡ length strobes
as-long good differs seen own strobes test b = sym (length-map good sample_of) ∙ ap length b.good_are ∙ length-map strobes (sample_at seen)

pub passed-start : (good differs : List SampleKept) (times : List ℕ) → times ≡ [] → HasPassed good differs 0 (drop 0 differs) times
passed-start good differs times none = λ seen own strobes test b. (b, ap (λ xs. xs ++ hard_among seen own test strobes) none)

pub passed-more : (good differs : List SampleKept) (count : ℕ) (d : SampleKept) (left later : List SampleKept) (times more : List ℕ) → count < length good → HasPassed good differs count left times →
    PassesStrobe (get_or good count d) left times later more →
    HasPassed good differs (count + 1) later more
passed-more good differs count d left later times more below so p = λ seen own strobes test b.
    let w = so seen own strobes test b in
    let size : length good ≡ length strobes = as-long good differs seen own strobes test b in
    let next : drop count good ≡ get_or good count d ∷ drop (count + 1) good = drop_more good count d below in
    let strobe : drop count strobes ≡ get_or strobes count 0 ∷ drop (count + 1) strobes = drop_more strobes count 0 (omega (arith, below, size)) in
    let here : AreBeside (get_or good count d ∷ drop (count + 1) good) left seen own (get_or strobes count 0 ∷ drop (count + 1) strobes) test =
    subst (λ gs. AreBeside gs left seen own (get_or strobes count 0 ∷ drop (count + 1) strobes) test) next (subst (λ ss. AreBeside (drop count good) left seen own ss test) strobe w.0) in (
      p.beside (drop (count + 1) good) seen own (get_or strobes count 0) (drop (count + 1) strobes) test here,
      p.times (drop (count + 1) good) seen own (get_or strobes count 0) (drop (count + 1) strobes) test here ∙ ap (λ ss. times ++ hard_among seen own test ss) (sym strobe) ∙ w.1,
    )

pub passed-all : (good differs : List SampleKept) (count : ℕ) (left : List SampleKept) (times : List ℕ) → length good ≤ count → HasPassed good differs count left times →
    (seen own : Samples) (strobes : List ℕ) (test : ℕ → Bool) → AreBeside good differs seen own strobes test → times ≡ hard_among seen own test strobes
passed-all good differs count left times past so seen own strobes test b =
    let w = so seen own strobes test b in
    let size : length good ≡ length strobes = as-long good differs seen own strobes test b in
    sym (append-nil times) ∙ ap (λ ss. times ++ hard_among seen own test ss) (sym (drop_all count strobes (omega (arith, past, size)))) ∙ w.1
