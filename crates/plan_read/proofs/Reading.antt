-- One line more is read.
use Rattle.std.proofs.Common.{◌≡◌, ◌≢◌, ℕ, zero, suc, ◌+◌, ◌≤◌, ◌<◌, List, [], ◌∷◌, ◌++◌, map, length, take, get_or, Option, Some, None, IfSome, Result, Ok, Err, IfErr, Bool, true, false, ◌||◌}
use Rattle.std.proofs.Common.{arith, refl, sym, ◌∙◌, ap, subst, ◌⊎◌, inl, inr, ⊎_elim, add-one, Bor, append_assoc, length-append, nat_lt, All}
use Rattle.std.specs.List.{list_any, slice_get}
use Rattle.std.proofs.lemmas.List.{append-nil}
use Rattle.std.proofs.lemmas.Option.{slice_get-get_or}
use Rattle.std.specs.List.{AllByRecursion}
use Rattle.std.proofs.lemmas.List.Elements.{All-from_recursion, All-append}
use Rattle.std.proofs.lemmas.List.Folds.{list_any-append}
use Rattle.std.proofs.lemmas.Bool.{ltb-false, le-ltb}
use Rattle.std.specs.Result.{IsErrAnd}
use Rattle.vf_base.specs.Base.{WatchedBit}
use Rattle.vf_base.specs.Lists.{joined}
use Rattle.v_design.specs.Designs.{FlatDesign, FaultSite, StuckAt}
use Rattle.v_design.specs.Sites.{faults_of}
use Rattle.plan_read.specs.Watched.{bits_spelled}
use Rattle.fault_list.specs.Listed.{stuck}
use Rattle.fault_list.specs.Spelled.{site_spelled}
use Rattle.plan_read.specs.declared.draft.Draft.{Draft}
use Rattle.plan_read.specs.declared.fault.PlanFault.{PlanFault}
use Rattle.plan_read.specs.declared.fault.PlanFault.TheVariants.{BadLine, UnknownSite, TooMany, TooLong, NoMemory}
use Rattle.plan_read.specs.Forms.{PlanLine, Empty, Ends, Watches, Strobes, Lists, ListsAll, Formless, line_of, times_on}
use Rattle.text_lines.specs.Text.{words_of}
use Rattle.text_lines.specs.Plain.{plain_texts}
use Rattle.plan_read.specs.Plain.{watched_bits}
use Rattle.plan_read.specs.Spelled.{PlanReason, IsBad, IsUnknown, IsTooMany, bits_on, faults_on, fault_at, end_on, earlier_end, end_of, times_of, bits_of, listed_faults, is_bad, is_bad_first}
use Rattle.plan_read.specs.Spelled.{is_bad_after, is_unknown, are_none, is_none, are_too_many, first_reason, reason_of, lines_say, NoneRefused, IsFirstRefused, latest_end, most_strobes}
use Rattle.plan_read.specs.Spelled.{most_watched, most_faults}
use Rattle.plan_read.specs.Steps.{FaultIs, bad_if, too_many_if, strobes_reason, watched_reason, site_reason, all_reason, reason_first, reason_after, reason_at, AreKept, AreInTime, IsAdded, IsWithin}
use Rattle.plan_read.specs.Steps.{IsRead, FaultOf}

-- Lists with one element more

joined-more : {L A : Type 0} (f : L → List A) (lines : List L) (line : L) → joined (map f (lines ++ line ∷ [])) ≡ joined (map f lines) ++ f line
joined-more f [] line = append-nil (f line)
joined-more f (x ∷ xs) line = ap (λ r. f x ++ r) (joined-more f xs line) ∙ sym (append_assoc (f x) (joined (map f xs)) (f line))

earlier-none : (end : Option ℕ) → earlier_end end None ≡ end
earlier-none None = refl
earlier-none (Some time) = refl

earlier-assoc : (a b c : Option ℕ) → earlier_end a (earlier_end b c) ≡ earlier_end (earlier_end a b) c
earlier-assoc None b c = refl
earlier-assoc (Some time) b c = refl

end-more : (lines : List PlanLine) (line : PlanLine) → end_of (lines ++ line ∷ []) ≡ earlier_end (end_of lines) (end_on line)
end-more [] line = earlier-none (end_on line)
end-more (x ∷ xs) line = ap (λ e. earlier_end (end_on x) e) (end-more xs line) ∙ earlier-assoc (end_on x) (end_of xs) (end_on line)

at-last : {A : Type 0} (xs : List A) (x y : A) (place : ℕ) → slice_get (xs ++ x ∷ []) place ≡ Some y →
    ((slice_get xs place ≡ Some y) × (take place (xs ++ x ∷ []) ≡ take place xs)) ⊎ ((x ≡ y) × (take place (xs ++ x ∷ []) ≡ xs))
at-last [] x y zero h = let same : x ≡ y = cc in inr (same, refl)
at-last [] x y (suc n) h = cc
at-last (z ∷ xs) x y zero h = inl (h, refl)
at-last (z ∷ xs) x y (suc n) h = ⊎_elim (λ l. inl (l.0, ap (λ t. z ∷ t) l.1)) (λ r. inr (r.0, ap (λ t. z ∷ t) r.1)) (at-last xs x y n h)

-- no line is refused, and the next one isn't either
none-more : (design : FlatDesign) (lines : List PlanLine) (line : PlanLine) → NoneRefused design lines → reason_of design lines line ≡ None → NoneRefused design (lines ++ line ∷ [])
none-more design lines line sound fine place other h =
    ⊎_elim
    (λ l. let P : List PlanLine → Type 0 = λ before. reason_of design before other ≡ None in let here : P (take place lines) = sound place other l.0 in subst P (sym l.1) here)
    (λ r. let P : List PlanLine → Type 0 = λ before. reason_of design before other ≡ None in let Q : PlanLine → Type 0 = λ it. reason_of design lines it ≡ None in
    let here : P lines = subst Q r.0 fine in subst P (sym r.1) here)
    (at-last lines line other place h)

-- Reasons

or-none : (a : Bool) → a || false ≡ a
or-none true = refl
or-none false = refl

many-more : (design : FlatDesign) (lines : List PlanLine) (line : PlanLine) →
    are_too_many design (lines ++ line ∷ []) ≡ (nat_lt 65536 (length (times_of lines) + length (times_on line)) || nat_lt 4096 (length (bits_of design lines) + length (bits_on design line))
    || nat_lt 65536 (length (listed_faults design lines) + length (faults_on design line)))
many-more design lines line =
    let t : length (times_of (lines ++ line ∷ [])) ≡ length (times_of lines) + length (times_on line) = ap length (joined-more times_on lines line) ∙ length-append (times_of lines) (times_on line) in
    let w : length (bits_of design (lines ++ line ∷ [])) ≡ length (bits_of design lines) + length (bits_on design line) = ap length (joined-more (bits_on design) lines line)
    ∙ length-append (bits_of design lines) (bits_on design line) in
    let f : length (listed_faults design (lines ++ line ∷ [])) ≡ length (listed_faults design lines) + length (faults_on design line) = ap length (joined-more (faults_on design) lines line)
    ∙ length-append (listed_faults design lines) (faults_on design line) in
    rw (t, w, f) refl

-- the first two kinds have nothing more
three-or : (a b c a' b' c' : Bool) → a ≡ a' → b ≡ b' → c ≡ c' → (a || b || c) ≡ (a' || b' || c')
three-or a b c a' b' c' e f g = cc

few-still : (most before : ℕ) → before ≤ most → nat_lt most (before + 0) ≡ false
few-still most before h = le-ltb most (before + 0) (omega arith)

only-times : (T W F t : ℕ) → W ≤ 4096 → F ≤ 65536 → (nat_lt 65536 (T + t) || nat_lt 4096 (W + 0) || nat_lt 65536 (F + 0)) ≡ nat_lt 65536 (T + t)
only-times T W F t w f = three-or _ _ _ (nat_lt 65536 (T + t)) false false refl (few-still 4096 W w) (few-still 65536 F f) ∙ (or-none (nat_lt 65536 (T + t) || false) ∙ or-none (nat_lt 65536 (T + t)))

only-bits : (T W F w : ℕ) → T ≤ 65536 → F ≤ 65536 → (nat_lt 65536 (T + 0) || nat_lt 4096 (W + w) || nat_lt 65536 (F + 0)) ≡ nat_lt 4096 (W + w)
only-bits T W F w t f = three-or _ _ _ false (nat_lt 4096 (W + w)) false (few-still 65536 T t) refl (few-still 65536 F f) ∙ or-none (nat_lt 4096 (W + w))

only-faults : (T W F f : ℕ) → T ≤ 65536 → W ≤ 4096 → (nat_lt 65536 (T + 0) || nat_lt 4096 (W + 0) || nat_lt 65536 (F + f)) ≡ nat_lt 65536 (F + f)
only-faults T W F f t w = three-or _ _ _ false false (nat_lt 65536 (F + f)) (few-still 65536 T t) (few-still 4096 W w) refl

reason-times : (end before : ℕ) (times : List ℕ) (bad many : Bool) → list_any (nat_lt end) times ≡ bad → nat_lt 65536 (before + length times) ≡ many →
    first_reason bad false many ≡ strobes_reason end times before
reason-times end before times true many b m = rw b refl
reason-times end before times false true b m = rw (b, m) refl
reason-times end before times false false b m = rw (b, m) refl

first-by : (bad bad' unknown unknown' many many' : Bool) → bad ≡ bad' → unknown ≡ unknown' → many ≡ many' → first_reason bad unknown many ≡ first_reason bad' unknown' many'
first-by bad bad' unknown unknown' many many' b u m = rw (b, u, m) refl

-- the facts on the lines so far, and what the draft counts
pub record Counts (design : FlatDesign) (lines : List PlanLine) (T W F : ℕ) : Type 0 where
  pub times : length (times_of lines) ≡ T
  pub bits : length (bits_of design lines) ≡ W
  pub faults : length (listed_faults design lines) ≡ F
  pub few_times : T ≤ 65536
  pub few_bits : W ≤ 4096
  pub few_faults : F ≤ 65536

many-at : (design : FlatDesign) (lines : List PlanLine) (line : PlanLine) (T W F : ℕ) → Counts design lines T W F →
    are_too_many design (lines ++ line ∷ []) ≡ (nat_lt 65536 (T + length (times_on line)) || nat_lt 4096 (W + length (bits_on design line)) || nat_lt 65536 (F + length (faults_on design line)))
many-at design lines line T W F is = many-more design lines line ∙ rw (is.times, is.bits, is.faults) refl

-- no line that gives nothing is one too many
none-many : (design : FlatDesign) (lines : List PlanLine) (line : PlanLine) (T W F : ℕ) → Counts design lines T W F → length (times_on line) ≡ 0 → length (bits_on design line) ≡ 0 →
    length (faults_on design line) ≡ 0 → are_too_many design (lines ++ line ∷ []) ≡ false
none-many design lines line T W F is t w f =
    many-at design lines line T W F is ∙ (rw (t, w, f) (only-times T W F 0 is.few_bits is.few_faults) ∙ few-still 65536 T is.few_times)

watched-by : (bits : List WatchedBit) (before : ℕ) (many : Bool) → nat_lt 4096 (before + length bits) ≡ many → first_reason false (are_none bits) many ≡ watched_reason bits before
watched-by [] before many m = refl
watched-by (bit ∷ bits) before true m = rw m refl
watched-by (bit ∷ bits) before false m = rw m refl

site-by : (site : Option FaultSite) (value : Bool) (before : ℕ) (many : Bool) → nat_lt 65536 (before + length (fault_at site value)) ≡ many →
    first_reason false (is_none site) many ≡ site_reason site before
site-by None value before many m = refl
site-by (Some site) value before true m = rw m refl
site-by (Some site) value before false m = rw m refl

all-by : (all : List StuckAt) (before : ℕ) (many : Bool) → nat_lt 65536 (before + length all) ≡ many → first_reason false false many ≡ all_reason all before
all-by all before true m = rw m refl
all-by all before false m = rw m refl

bad-end : (bad many : Bool) → many ≡ false → first_reason bad false many ≡ bad_if bad
bad-end true many m = refl
bad-end false many m = rw m refl

-- why a line is refused before an end was given
reason-is-first : (design : FlatDesign) (lines : List PlanLine) (line : PlanLine) (T W F : ℕ) → Counts design lines T W F → end_of lines ≡ None → reason_of design lines line ≡ reason_first line
reason-is-first design lines Empty T W F is first = rw (first, none-many design lines Empty T W F is refl refl refl) refl
reason-is-first design lines (Ends time) T W F is first = rw first (bad-end (nat_lt latest_end time) (are_too_many design (lines ++ Ends time ∷ []))
    (none-many design lines (Ends time) T W F is refl refl refl))
reason-is-first design lines (Watches name) T W F is first = rw first refl
reason-is-first design lines (Strobes from step to) T W F is first = rw first refl
reason-is-first design lines (Lists name value) T W F is first = rw first refl
reason-is-first design lines ListsAll T W F is first = rw first refl
reason-is-first design lines Formless T W F is first = rw first refl

-- why a line is refused after it
reason-is-after : (design : FlatDesign) (lines : List PlanLine) (draft : Draft) (end : ℕ) (line : PlanLine) →
    Counts design lines (length draft.strobes.items) (length (watched_bits draft.watched.items)) (length (stuck draft.faults.items)) → end_of lines ≡ Some end →
    reason_of design lines line ≡ reason_after design draft end line
reason-is-after design lines draft end Empty is later = rw (later, none-many design lines Empty _ _ _ is refl refl refl) refl
reason-is-after design lines draft end (Ends time) is later = rw later refl
reason-is-after design lines draft end (Watches name) is later =
    rw later (watched-by (bits_spelled design name) (length (watched_bits draft.watched.items)) (are_too_many design (lines ++ Watches name ∷ []))
    (sym (many-at design lines (Watches name) _ _ _ is ∙ only-bits _ _ _ (length (bits_spelled design name)) is.few_times is.few_faults)))
reason-is-after design lines draft end (Strobes from step to) is later =
    rw later (reason-times end (length draft.strobes.items) (times_on (Strobes from step to)) (list_any (nat_lt end) (times_on (Strobes from step to)))
    (are_too_many design (lines ++ Strobes from step to ∷ [])) refl
    (sym (many-at design lines (Strobes from step to) _ _ _ is ∙ only-times _ _ _ (length (times_on (Strobes from step to))) is.few_bits is.few_faults)))
reason-is-after design lines draft end (Lists name value) is later =
    rw later (site-by (site_spelled design name) value (length (stuck draft.faults.items)) (are_too_many design (lines ++ Lists name value ∷ []))
    (sym (many-at design lines (Lists name value) _ _ _ is ∙ only-faults _ _ _ (length (fault_at (site_spelled design name) value)) is.few_times is.few_bits)))
reason-is-after design lines draft end ListsAll is later =
    rw later (all-by (faults_of design) (length (stuck draft.faults.items)) (are_too_many design (lines ++ ListsAll ∷ []))
    (sym (many-at design lines ListsAll _ _ _ is ∙ only-faults _ _ _ (length (faults_of design)) is.few_times is.few_bits)))
reason-is-after design lines draft end Formless is later = rw later refl

counts-of : (design : FlatDesign) (lines : List PlanLine) (draft : Draft) → IsRead design lines draft →
    Counts design lines (length draft.strobes.items) (length (watched_bits draft.watched.items)) (length (stuck draft.faults.items))
counts-of design lines draft is = record {
  times = ap length (sym is.strobes);
  bits = ap length (sym is.watched);
  faults = ap length (sym is.faults);
  few_times = is.within.strobes;
  few_bits = is.within.watched;
  few_faults = is.within.faults;
}

reason-at : (design : FlatDesign) (lines : List PlanLine) (draft : Draft) (line : PlanLine) (end : Option ℕ) → draft.end ≡ end → IsRead design lines draft →
    reason_of design lines line ≡ reason_at design draft end line
reason-at design lines draft line None e is = reason-is-first design lines line _ _ _ (counts-of design lines draft is) (sym is.end ∙ e)
reason-at design lines draft line (Some end) e is = reason-is-after design lines draft end line (counts-of design lines draft is) (sym is.end ∙ e)

-- why a line is refused, by the draft
pub reason-is : (design : FlatDesign) (lines : List PlanLine) (draft : Draft) (line : PlanLine) → IsRead design lines draft → reason_of design lines line ≡ reason_at design draft draft.end line
reason-is design lines draft line is = reason-at design lines draft line draft.end refl is

-- Times and ends with a line more

all-below-rec : (end : ℕ) (times : List ℕ) → list_any (nat_lt end) times ≡ false → AllByRecursion (λ time. time ≤ end) times
all-below-rec end [] h = tt
all-below-rec end (time ∷ times) h = let both = neither (nat_lt end time) (list_any (nat_lt end) times) h in (ltb-false end time both.0, all-below-rec end times both.1)
  where
    neither : (a b : Bool) → a || b ≡ false → (a ≡ false) × (b ≡ false)
    neither true b h = cc
    neither false b h = (refl, h)

all-below : (end : ℕ) (times : List ℕ) → list_any (nat_lt end) times ≡ false → All (λ time. time ≤ end) times
all-below end times h = All-from_recursion (λ time. time ≤ end) times (all-below-rec end times h)

line-in-time : (end : ℕ) (line : PlanLine) → is_bad_after end line ≡ false → All (λ time. time ≤ end) (times_on line)
line-in-time end Empty h = all-below end [] refl
line-in-time end (Ends time) h = all-below end [] refl
line-in-time end (Watches name) h = all-below end [] refl
line-in-time end (Strobes from step to) h = all-below end (times_on (Strobes from step to)) h
line-in-time end (Lists name value) h = all-below end [] refl
line-in-time end ListsAll h = all-below end [] refl
line-in-time end Formless h = all-below end [] refl

in_time-more : (end : Option ℕ) (line : PlanLine) (times : List ℕ) → AreInTime end times → is_bad end line ≡ false → AreInTime (earlier_end end (end_on line)) (times ++ times_on line)
in_time-more (Some end) line times h good = All-append (λ time. time ≤ end) times (times_on line) h (line-in-time end line good)
in_time-more None Empty times h good = append-nil times ∙ h
in_time-more None (Ends time) times h good = rw (append-nil, h) (all-below time [] refl)
in_time-more None (Watches name) times h good = cc
in_time-more None (Strobes from step to) times h good = cc
in_time-more None (Lists name value) times h good = cc
in_time-more None ListsAll times h good = cc
in_time-more None Formless times h good = cc

early-more : (end : Option ℕ) (line : PlanLine) → IfSome end (λ time. time ≤ latest_end) → is_bad end line ≡ false → IfSome (earlier_end end (end_on line)) (λ time. time ≤ latest_end)
early-more (Some end) line h good = h
early-more None Empty h good = tt
early-more None (Ends time) h good = ltb-false latest_end time good
early-more None (Watches name) h good = tt
early-more None (Strobes from step to) h good = tt
early-more None (Lists name value) h good = tt
early-more None ListsAll h good = tt
early-more None Formless h good = tt

no-reason : (bad unknown many : Bool) → first_reason bad unknown many ≡ None → (bad ≡ false) × (many ≡ false)
no-reason true unknown many h = cc
no-reason false true many h = cc
no-reason false false true h = cc
no-reason false false false h = (refl, refl)

none-of-three : (a b c : Bool) → a || b || c ≡ false → (a ≡ false) × (b ≡ false) × (c ≡ false)
none-of-three true true c h = cc
none-of-three true false c h = cc
none-of-three false true c h = cc
none-of-three false false true h = cc
none-of-three false false false h = (refl, refl, refl)

-- a line that isn't refused is read
pub read-more : (design : FlatDesign) (lines : List PlanLine) (line : PlanLine) (old new : Draft) → IsRead design lines old → reason_at design old old.end line ≡ None → IsAdded design line old new →
    IsRead design (lines ++ line ∷ []) new
read-more design lines line old new is fine added =
    let none : reason_of design lines line ≡ None = reason-is design lines old line is ∙ fine in
    let good = no-reason (is_bad (end_of lines) line) (is_unknown design line) (are_too_many design (lines ++ line ∷ [])) none in
    let few = none-of-three _ _ _ good.1 in
    let strobes : new.strobes.items ≡ times_of (lines ++ line ∷ []) = added.strobes ∙ (ap (λ l. l ++ times_on line) is.strobes ∙ sym (joined-more times_on lines line)) in
    let watched : watched_bits new.watched.items ≡ bits_of design (lines ++ line ∷ []) = added.watched
    ∙ (ap (λ l. l ++ bits_on design line) is.watched ∙ sym (joined-more (bits_on design) lines line)) in
    let faults : stuck new.faults.items ≡ listed_faults design (lines ++ line ∷ []) = added.faults
    ∙ (ap (λ l. l ++ faults_on design line) is.faults ∙ sym (joined-more (faults_on design) lines line)) in
    record {
      sound = none-more design lines line is.sound none;
      end = added.end ∙ (ap (λ e. earlier_end e (end_on line)) is.end ∙ sym (end-more lines line));
      strobes = strobes;
      watched = watched;
      faults = faults;
      early = rw end-more (early-more (end_of lines) line is.early good.0);
      in_time = rw (end-more, joined-more) (in_time-more (end_of lines) line (times_of lines) is.in_time good.0);
      within = record {
        strobes = rw strobes (ltb-false 65536 (length (times_of (lines ++ line ∷ []))) few.0);
        watched = rw watched (ltb-false 4096 (length (bits_of design (lines ++ line ∷ []))) few.1);
        faults = rw faults (ltb-false 65536 (length (listed_faults design (lines ++ line ∷ []))) few.2);
        all = added.all;
      };
    }

-- a line that is refused is the first one
pub refused-at : (design : FlatDesign) (all : List PlanLine) (place : ℕ) (line : PlanLine) (draft : Draft) (fault : PlanFault) → IsRead design (take place all) draft →
    slice_get all place ≡ Some line → FaultIs (place + 1) (reason_at design draft draft.end line) fault → FaultOf design all fault
refused-at design all place line draft (BadLine number) is there h = record {
  place = place;
  numbered = h.0;
  line = line;
  stands = there;
  refused = reason-is design (take place all) draft line is ∙ h.1;
  first = is.sound;
}
refused-at design all place line draft (UnknownSite number) is there h = record {
  place = place;
  numbered = h.0;
  line = line;
  stands = there;
  refused = reason-is design (take place all) draft line is ∙ h.1;
  first = is.sound;
}
refused-at design all place line draft (TooMany number) is there h = record {
  place = place;
  numbered = h.0;
  line = line;
  stands = there;
  refused = reason-is design (take place all) draft line is ∙ h.1;
  first = is.sound;
}
refused-at design all place line draft TooLong is there h = h
refused-at design all place line draft NoMemory is there h = tt

-- The lines of the code

pub say-take : (lines : List (Bor (List ℕ))) (i : ℕ) → take i (lines_say (plain_texts lines)) ≡ lines_say (plain_texts (take i lines))
say-take [] zero = refl
say-take [] (suc i) = refl
say-take (x ∷ xs) zero = refl
say-take (x ∷ xs) (suc i) = ap (λ l. line_of (words_of x.now) ∷ l) (say-take xs i)

pub say-at : (lines : List (Bor (List ℕ))) (i : ℕ) (line : Bor (List ℕ)) → slice_get lines i ≡ Some line → slice_get (lines_say (plain_texts lines)) i ≡ Some (line_of (words_of line.now))
say-at [] i line h = cc
say-at (x ∷ xs) zero line h = let same : x ≡ line = cc in ap (λ l. Some (line_of (words_of l.now))) same
say-at (x ∷ xs) (suc i) line h = say-at xs i line h

pub say-more : (lines : List (Bor (List ℕ))) (i : ℕ) (line : Bor (List ℕ)) → slice_get lines i ≡ Some line →
    lines_say (plain_texts (take (i + 1) lines)) ≡ lines_say (plain_texts (take i lines)) ++ line_of (words_of line.now) ∷ []
say-more [] i line h = cc
say-more (x ∷ xs) zero line h = let same : x ≡ line = cc in ap (λ l. line_of (words_of l.now) ∷ []) same
say-more (x ∷ xs) (suc i) line h = rw add-one (ap (λ l. line_of (words_of x.now) ∷ l) (rw add-one at (say-more xs i line h)))

-- the next line of the code was read
pub lines-more : (design : FlatDesign) (lines : List (Bor (List ℕ))) (i : ℕ) (d : Bor (List ℕ)) (row words : List (Bor (List ℕ))) (line : PlanLine) (old new : Draft) →
    i < length lines → plain_texts row ≡ words_of (get_or lines i d).now → words ≡ row → line ≡ line_of (plain_texts words) →
    IsRead design (lines_say (plain_texts (take i lines))) old → reason_at design old old.end line ≡ None → IsAdded design line old new →
    IsRead design (lines_say (plain_texts (take (i + 1) lines))) new
lines-more design lines i d row words line old new below r s l is fine added =
    let said : line ≡ line_of (words_of (get_or lines i d).now) = l ∙ (ap (λ w. line_of (plain_texts w)) s ∙ ap line_of r) in
    let more : lines_say (plain_texts (take (i + 1) lines)) ≡ lines_say (plain_texts (take i lines)) ++ line_of (words_of (get_or lines i d).now) ∷
    [] = say-more lines i (get_or lines i d) (slice_get-get_or lines i d below) in
    let P : List PlanLine → Type 0 = λ ls. IsRead design ls new in
    subst P (sym (more ∙ ap (λ it. lines_say (plain_texts (take i lines)) ++ it ∷ []) (sym said))) (read-more design (lines_say (plain_texts (take i lines))) line old new is fine added)

-- the next line of the code is refused
pub lines-refused : (design : FlatDesign) (lines : List (Bor (List ℕ))) (i : ℕ) (d : Bor (List ℕ)) (row words : List (Bor (List ℕ))) (line : PlanLine) (old : Draft) (fault : PlanFault) →
    i < length lines → plain_texts row ≡ words_of (get_or lines i d).now → words ≡ row → line ≡ line_of (plain_texts words) →
    IsRead design (lines_say (plain_texts (take i lines))) old → FaultIs (i + 1) (reason_at design old old.end line) fault → FaultOf design (lines_say (plain_texts lines)) fault
lines-refused design lines i d row words line old fault below r s l is h =
    let said : line ≡ line_of (words_of (get_or lines i d).now) = l ∙ (ap (λ w. line_of (plain_texts w)) s ∙ ap line_of r) in
    let P : List PlanLine → Type 0 = λ ls. IsRead design ls old in
    refused-at design (lines_say (plain_texts lines)) i line old fault (subst P (sym (say-take lines i)) is)
    (say-at lines i (get_or lines i d) (slice_get-get_or lines i d below) ∙ ap (λ it. Some it) (sym said)) h

-- what holds of an error holds of the same error
pub err-same : {A E : Type 0} (r : Result A E) (fault : E) (P : E → Type 0) → IsErrAnd r (λ e. e ≡ fault) → P fault → IfErr r P
err-same (Ok a) fault P same h = tt
err-same (Err e) fault P same h = subst P (sym same) h
