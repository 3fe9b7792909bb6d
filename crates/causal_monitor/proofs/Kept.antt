-- What a log keeps while it grows.
use Rattle.std.proofs.Common.{◌≡◌, ℕ, zero, suc, ◌+◌, ◌-◌, ◌<◌, ◌≤◌, List, [], ◌∷◌, ◌++◌, length, map, get_or, take, drop, refl, ap, ◌∙◌, arith, Some, length-append, length-drop}
use Rattle.std.specs.Prelude.{slice_range}
use Rattle.std.specs.Option.{ForSome}
use Rattle.std.proofs.lemmas.List.{take-append-le, drop-append-le, take_all}
use Rattle.std.proofs.Math.Seq.{drop-append_seam}
use Rattle.vf_base.specs.Lists.{AllHold}
use Rattle.v_design.specs.Logs.{cause_at}
use Rattle.causal_monitor.specs.declared.noted.Noted.{Noted}
use Rattle.causal_monitor.specs.declared.log.Entry.{Entry}
use Rattle.causal_monitor.specs.Notes.{IsNoted, noted_access}
use Rattle.causal_monitor.specs.Phases.{accesses_at}
use Rattle.causal_monitor.specs.Entries.{logged_event, logged_phase, StandsWithin, CausesAreEarlier, IsKept}

-- Lists of which something holds

-- one more of which it holds
pub AllHold-push : {A : Type 0} (P : A → Type 0) (xs : List A) (y : A) → AllHold P xs → P y → AllHold P (xs ++ y ∷ [])
AllHold-push P [] y h k = (k, tt)
AllHold-push P (x ∷ xs) y h k = (h.0, AllHold-push P xs y h.1 k)

-- more of which it holds
pub AllHold-append : {A : Type 0} (P : A → Type 0) (xs ys : List A) → AllHold P xs → AllHold P ys → AllHold P (xs ++ ys)
AllHold-append P [] ys h k = k
AllHold-append P (x ∷ xs) ys h k = (h.0, AllHold-append P xs ys h.1 k)

AllHold-take : {A : Type 0} (P : A → Type 0) (n : ℕ) (xs : List A) → AllHold P xs → AllHold P (take n xs)
AllHold-take P zero xs h = tt
AllHold-take P (suc n) [] h = tt
AllHold-take P (suc n) (x ∷ xs) h = (h.0, AllHold-take P n xs h.1)

AllHold-drop : {A : Type 0} (P : A → Type 0) (n : ℕ) (xs : List A) → AllHold P xs → AllHold P (drop n xs)
AllHold-drop P zero xs h = h
AllHold-drop P (suc n) [] h = tt
AllHold-drop P (suc n) (x ∷ xs) h = AllHold-drop P n xs h.1

-- a part of them
pub AllHold-range : {A : Type 0} (P : A → Type 0) (xs : List A) (start end : ℕ) → AllHold P xs → AllHold P (slice_range xs start end)
AllHold-range P xs start end h = AllHold-take P (end - start) (drop start xs) (AllHold-drop P start xs h)

-- it holds of each
pub AllHold-at : {A : Type 0} (P : A → Type 0) (xs : List A) (i : ℕ) (d : A) → i < length xs → AllHold P xs → P (get_or xs i d)
AllHold-at P [] i d low h = absurd (omega (arith, low))
AllHold-at P (x ∷ xs) zero d low h = h.0
AllHold-at P (x ∷ xs) (suc i) d low h = AllHold-at P xs i d (omega (arith, low)) h.1

-- Accesses of events

-- a part of a list that grows
range-more : {A : Type 0} (xs ys : List A) (start end : ℕ) → start ≤ end → end ≤ length xs → slice_range (xs ++ ys) start end ≡ slice_range xs start end
range-more xs ys start end some within =
    ap (take (end - start)) (drop-append-le start xs ys (omega arith))
    ∙ take-append-le (end - start) (drop start xs) ys (let rest = length-drop start xs in omega (arith, rest))

-- what came to a list
pub range-last : {A : Type 0} (xs ys : List A) → slice_range (xs ++ ys) (length xs) (length (xs ++ ys)) ≡ ys
range-last xs ys =
    ap (take (length (xs ++ ys) - length xs)) (drop-append_seam xs ys)
    ∙ take_all (length (xs ++ ys) - length xs) ys (let long = length-append xs ys in omega (arith, long))

-- events stay while accesses of others come
pub logged-same : (accesses more : List Noted) (entries : List Entry) → AllHold (StandsWithin (length accesses)) entries →
    map (logged_event (accesses ++ more)) entries ≡ map (logged_event accesses) entries
logged-same accesses more [] h = refl
logged-same accesses more (x ∷ entries) h =
    λ i. record { cause = x.cause; accesses = map noted_access (range-more accesses more x.start x.end h.0.0 h.0.1 i) } ∷ logged-same accesses more entries h.1 i

-- they stand among more accesses
pub stand-more : (count more : ℕ) (entries : List Entry) → count ≤ more → AllHold (StandsWithin count) entries → AllHold (StandsWithin more) entries
stand-more count more [] low h = tt
stand-more count more (x ∷ entries) low h = ((h.0.0, let within = h.0.1 in omega (arith, within, low)), stand-more count more entries low h.1)

-- one more event
pub CausesAreEarlier-push : (n : ℕ) (entries : List Entry) (entry : Entry) → CausesAreEarlier n entries → ForSome entry.cause (λ cause. cause < n + length entries)
    → CausesAreEarlier n (entries ++ entry ∷ [])
CausesAreEarlier-push n [] entry h k = ((λ c e. let less = k c e in omega arith), tt)
CausesAreEarlier-push n (x ∷ entries) entry h k = (h.0, CausesAreEarlier-push (n + 1) entries entry h.1 (λ c e. let less = k c e in omega arith))

-- as many events as entries
pub length-logged : (accesses : List Noted) (entries : List Entry) → length (map (logged_event accesses) entries) ≡ length entries
length-logged accesses [] = refl
length-logged accesses (x ∷ entries) = ap suc (length-logged accesses entries)

-- one more, seen by a function
pub map-push : {A B : Type 0} (f : A → B) (xs : List A) (y : A) → map f (xs ++ y ∷ []) ≡ map f xs ++ f y ∷ []
map-push f [] y = refl
map-push f (x ∷ xs) y = ap (λ ys. f x ∷ ys) (map-push f xs y)

-- the events with one more, whose accesses come to the others
pub logged-more : (accesses more : List Noted) (entries : List Entry) (entry : Entry) → AllHold (StandsWithin (length accesses)) entries → entry.start ≡ length accesses →
    entry.end ≡ length (accesses ++ more) →
    map (logged_event (accesses ++ more)) (entries ++ entry ∷ []) ≡ map (logged_event accesses) entries ++ record { cause = entry.cause; accesses = map noted_access more } ∷ []
logged-more accesses more entries entry stand start end =
    map-push (logged_event (accesses ++ more)) entries entry
    ∙ (λ i. logged-same accesses more entries stand i ++ record {
      cause = entry.cause;
      accesses =
          map noted_access ((ap (λ n. slice_range (accesses ++ more) n entry.end) start ∙ ap (slice_range (accesses ++ more) (length accesses)) end ∙ range-last accesses more) i);
    } ∷ [])

-- the cause of an event is that of its entry
pub cause_at-entry : (held accesses : List Noted) (entries : List Entry) (event : ℕ) (d : Entry) → event < length entries
    → (get_or entries event d).cause ≡ cause_at (logged_phase held accesses entries) event
cause_at-entry held accesses [] event d less = absurd (omega arith)
cause_at-entry held accesses (x ∷ entries) zero d less = refl
cause_at-entry held accesses (x ∷ entries) (suc event) d less = cause_at-entry held accesses entries event d (omega arith)

-- the accesses of an event are those of its entry
pub accesses_at-entry : (held accesses : List Noted) (entries : List Entry) (event : ℕ) (d : Entry) → event < length entries
    → map noted_access (slice_range accesses (get_or entries event d).start (get_or entries event d).end) ≡ accesses_at (logged_phase held accesses entries) event
accesses_at-entry held accesses [] event d less = absurd (omega arith)
accesses_at-entry held accesses (x ∷ entries) zero d less = refl
accesses_at-entry held accesses (x ∷ entries) (suc event) d less = accesses_at-entry held accesses entries event d (omega arith)

-- each event comes after its cause
pub causes_before : (held accesses : List Noted) (n : ℕ) (entries : List Entry) → CausesAreEarlier n entries → (event cause : ℕ) → cause_at (logged_phase held accesses entries) event ≡ Some cause
    → cause < n + event
causes_before held accesses n [] h event cause is = absurd (let none : cause_at (logged_phase held accesses []) event ≡ Some cause = is in cc)
causes_before held accesses n (x ∷ entries) h zero cause is = let less = h.0 cause is in omega arith
causes_before held accesses n (x ∷ entries) h (suc event) cause is = let less : cause < n + 1 + event = causes_before held accesses (n + 1) entries h.1 event cause is in omega arith

-- a log stays kept while accesses come
pub IsKept-more : (held accesses more : List Noted) (entries : List Entry) → IsKept held accesses entries → AllHold IsNoted more → IsKept held (accesses ++ more) entries
IsKept-more held accesses more entries had noted = record {
  held_are = had.held_are;
  accesses_are = AllHold-append IsNoted accesses more had.accesses_are noted;
  stand = stand-more (length accesses) (length (accesses ++ more)) entries (let long = length-append accesses more in omega (arith, long)) had.stand;
  causes_are = had.causes_are;
}

-- and an event
pub IsKept-event : (held accesses : List Noted) (entries : List Entry) (entry : Entry) → IsKept held accesses entries → StandsWithin (length accesses) entry →
    ForSome entry.cause (λ cause. cause < length entries) →
    IsKept held accesses (entries ++ entry ∷ [])
IsKept-event held accesses entries entry had stands earlier = record {
  held_are = had.held_are;
  accesses_are = had.accesses_are;
  stand = AllHold-push (StandsWithin (length accesses)) entries entry had.stand stands;
  causes_are = CausesAreEarlier-push 0 entries entry had.causes_are (λ cause is. let less = earlier cause is in omega (arith, less));
}
