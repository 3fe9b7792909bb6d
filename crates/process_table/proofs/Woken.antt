-- The processes that some changes make ready, one after another (IEEE 1364-2001, clause 9.7).
use Rattle.std.proofs.Common.{◌≡◌, ℕ, zero, suc, ◌+◌, ◌-◌, ◌<◌, ◌≤◌, Bool, true, false, List, [], ◌∷◌, ◌++◌, length, map, get_or, refl, sym, ap, ◌∙◌, subst, arith, append-nil}
use Rattle.std.proofs.Common.{append_assoc, inl, inr}
use Rattle.std.specs.Prelude.{slice_get}
use Rattle.std.proofs.lemmas.Bool.{cases_lt}
use Rattle.vf_base.specs.Lists.{change_at, joined, map_numbered}
use Rattle.v_design.specs.Trees.{Entry}
use Rattle.v_design.specs.Processes.{Activity, Ready, Waiting, Asleep, Postponed, Done}
use Rattle.v_design.specs.States.{ProcessState, found_or, idle_process, some_entry, ready_if}
use Rattle.v_design.specs.Accesses.{ObjectAccess, waiting_entries, waiting_line, ended_of}
use Rattle.graph_order.specs.ListLaws.{has_place}
use Rattle.value_change.specs.Changes.{ObjectChange, matches_one, ready_by, woken_by, ended_by_changes}
use Rattle.event_queue.specs.Queues.{numbers_where, number_if}
use Rattle.process_table.specs.Tables.{TableState, process_in, is_woken}
use Rattle.process_table.specs.Rows.{readied}
use Rattle.process_table.specs.Wakes.{Climbs, HasWoken, changed_below, listed_below, number_woken, IsWokenBelow, IsWoken, IsWokenAt}

-- Who isn't woken stays as it is

ready_if-no : (b : Bool) (waiting : Activity) (tasks : List _) → b ≡ false → ready_if b waiting tasks ≡ waiting
ready_if-no true waiting tasks e = absurd (cc)
ready_if-no false waiting tasks e = refl

ready_if-yes : (b : Bool) (waiting : Activity) (tasks : List _) → b ≡ true → ready_if b waiting tasks ≡ Ready tasks []
ready_if-yes true waiting tasks e = refl
ready_if-yes false waiting tasks e = absurd (cc)

stays : (test : Entry → Bool) (activity : Activity) → some_entry test (waiting_entries activity) ≡ false → ready_by test activity ≡ activity
stays test (Ready tasks operands) e = refl
stays test (Waiting place entries tasks) e = ready_if-no (some_entry test entries) (Waiting place entries tasks) tasks e
stays test (Asleep time tasks) e = refl
stays test (Postponed tasks) e = refl
stays test Done e = refl

-- who is woken is made ready
pub wakes : (test : Entry → Bool) (activity : Activity) → some_entry test (waiting_entries activity) ≡ true → ready_by test activity ≡ readied activity
wakes test (Ready tasks operands) e = absurd (cc)
wakes test (Waiting place entries tasks) e = ready_if-yes (some_entry test entries) (Waiting place entries tasks) tasks e
wakes test (Asleep time tasks) e = absurd (cc)
wakes test (Postponed tasks) e = absurd (cc)
wakes test Done e = absurd (cc)

pub woken-none : (changes : List ObjectChange) (process : ProcessState) → is_woken changes process ≡ false → woken_by changes process ≡ process
woken-none changes process e = ap (λ (a : Activity). record process { activity = a }) (stays (matches_one changes) process.activity e)

pub ended-none : (changes : List ObjectChange) (number : ℕ) (process : ProcessState) → is_woken changes process ≡ false → ended_by_changes changes number process ≡ []
ended-none changes number process e = ap (λ b. ended_of b (matches_one changes) number (waiting_line process.activity) (waiting_entries process.activity)) e

number-none : (changes : List ObjectChange) (number : ℕ) (process : ProcessState) → is_woken changes process ≡ false → number_woken changes number process ≡ []
number-none changes number process e = ap (λ b. number_if b number []) e

-- One element more

pub below-more : {A : Type 0} (f : A → A) (k : ℕ) (xs : List A) → changed_below f (suc k) xs ≡ change_at (changed_below f k xs) k f
below-more f zero [] = refl
below-more f zero (x ∷ xs) = refl
below-more f (suc k) [] = refl
below-more f (suc k) (x ∷ xs) = ap (λ ys. f x ∷ ys) (below-more f k xs)

below-found : {A : Type 0} (d : A) (f : A → A) (k : ℕ) (xs : List A) → found_or d (slice_get (changed_below f k xs) k) ≡ found_or d (slice_get xs k)
below-found d f zero xs = refl
below-found d f (suc k) [] = refl
below-found d f (suc k) (x ∷ xs) = below-found d f k xs

change-stays : {A : Type 0} (d : A) (f : A → A) (k : ℕ) (xs : List A) → f (found_or d (slice_get xs k)) ≡ found_or d (slice_get xs k) → change_at xs k f ≡ xs
change-stays d f k [] e = refl
change-stays d f zero (x ∷ xs) e = ap (λ y. y ∷ xs) e
change-stays d f (suc k) (x ∷ xs) e = ap (λ ys. x ∷ ys) (change-stays d f k xs e)

pub listed-more : {A B : Type 0} (d : A) (give : ℕ → A → List B) (n k m : ℕ) (xs : List A) → n + k ≡ m → give m d ≡ [] →
    listed_below give n (suc k) xs ≡ listed_below give n k xs ++ give m (found_or d (slice_get xs k))
listed-more d give n zero m [] e none = sym none
listed-more d give n zero m (x ∷ xs) e none = append-nil (give n x) ∙ (let same : n ≡ m = omega (arith, e) in ap (λ i. give i x) same)
listed-more d give n (suc k) m [] e none = sym none
listed-more d give n (suc k) m (x ∷ xs) e none =
    ap (λ ys. give n x ++ ys) (listed-more d give (n + 1) k m xs (omega (arith, e)) none) ∙ sym (append_assoc (give n x) (listed_below give (n + 1) k xs) (give m (found_or d (slice_get xs k))))

-- all elements

pub below-all : {A : Type 0} (f : A → A) (k : ℕ) (xs : List A) → length xs ≤ k → changed_below f k xs ≡ map f xs
below-all f zero [] past = refl
below-all f zero (x ∷ xs) past = absurd (omega (arith, past))
below-all f (suc k) [] past = refl
below-all f (suc k) (x ∷ xs) past = ap (λ ys. f x ∷ ys) (below-all f k xs (omega (arith, past)))

pub listed-all : {A B : Type 0} (give : ℕ → A → List B) (n k : ℕ) (xs : List A) → length xs ≤ k → listed_below give n k xs ≡ joined (map_numbered give n xs)
listed-all give n zero [] past = refl
listed-all give n zero (x ∷ xs) past = absurd (omega (arith, past))
listed-all give n (suc k) [] past = refl
listed-all give n (suc k) (x ∷ xs) past = ap (λ ys. give n x ++ ys) (listed-all give (n + 1) k xs (omega (arith, past)))

numbers-listed : (changes : List ObjectChange) (n : ℕ) (xs : List ProcessState) → joined (map_numbered (number_woken changes) n xs) ≡ numbers_where (is_woken changes) n xs
numbers-listed changes n [] = refl
numbers-listed changes n (x ∷ xs) = go (is_woken changes x) ∙ ap (number_if (is_woken changes x) n) (numbers-listed changes (n + 1) xs)
  where
    go : (b : Bool) → number_if b n [] ++ joined (map_numbered (number_woken changes) (n + 1) xs) ≡ number_if b n (joined (map_numbered (number_woken changes) (n + 1) xs))
    go true = refl
    go false = refl

-- The processes below a number

module _ (changes : List ObjectChange) (old : TableState) (entries0 : List ObjectAccess) (ended0 : List ℕ) where
  -- before all
  pub woken-start : IsWokenBelow changes old old entries0 entries0 ended0 ended0 0
  woken-start = record { table = refl; entries = sym (append-nil entries0); ended = sym (append-nil ended0) }

  -- a process that is woken or stays
  pub woken-step : (new next : TableState) (entries1 entries2 : List ObjectAccess) (ended1 ended2 : List ℕ) (k : ℕ) → IsWokenBelow changes old new entries0 entries1 ended0 ended1 k →
      IsWokenAt changes new next entries1 entries2 ended1 ended2 k → IsWokenBelow changes old next entries0 entries2 ended0 ended2 (k + 1)
  woken-step new next entries1 entries2 ended1 ended2 k below at =
      let same : process_in new k ≡ process_in old k =
      ap (λ (t : TableState). process_in t k) below.table ∙ below-found idle_process (woken_by changes) k old.processes in
      let e : suc k ≡ k + 1 = omega arith in
      let more : IsWokenBelow changes old next entries0 entries2 ended0 ended2 (suc k) = record {
        table =
            at.table ∙ ap (λ (t : TableState). record t { processes = change_at t.processes k (woken_by changes) }) below.table
            ∙ ap (λ ps. record old { processes = ps }) (sym (below-more (woken_by changes) k old.processes));
        entries =
            at.entries ∙ ap (λ es. es ++ ended_by_changes changes k (process_in new k)) below.entries
            ∙ ap (λ p. (entries0 ++ listed_below (ended_by_changes changes) 0 k old.processes) ++ ended_by_changes changes k p) same
            ∙ append_assoc entries0 (listed_below (ended_by_changes changes) 0 k old.processes) (ended_by_changes changes k (process_in old k))
            ∙ ap (λ es. entries0 ++ es) (sym (listed-more idle_process (ended_by_changes changes) 0 k k old.processes (omega arith) refl));
        ended =
            at.ended ∙ ap (λ es. es ++ number_woken changes k (process_in new k)) below.ended
            ∙ ap (λ p. (ended0 ++ listed_below (number_woken changes) 0 k old.processes) ++ number_woken changes k p) same
            ∙ append_assoc ended0 (listed_below (number_woken changes) 0 k old.processes) (number_woken changes k (process_in old k))
            ∙ ap (λ es. ended0 ++ es) (sym (listed-more idle_process (number_woken changes) 0 k k old.processes (omega arith) refl));
      } in
      subst (IsWokenBelow changes old next entries0 entries2 ended0 ended2) e more

  -- a process that isn't woken
  pub woken-skip : (new : TableState) (entries1 : List ObjectAccess) (ended1 : List ℕ) (k : ℕ) → is_woken changes (process_in old k) ≡ false →
      IsWokenBelow changes old new entries0 entries1 ended0 ended1 k →
      IsWokenBelow changes old new entries0 entries1 ended0 ended1 (k + 1)
  woken-skip new entries1 ended1 k none below =
      let same : process_in new k ≡ process_in old k =
      ap (λ (t : TableState). process_in t k) below.table ∙ below-found idle_process (woken_by changes) k old.processes in
      let still : is_woken changes (process_in new k) ≡ false = ap (is_woken changes) same ∙ none in
      woken-step new new entries1 entries1 ended1 ended1 k below
      (record {
        table = ap (λ ps. record new { processes = ps }) (sym (change-stays idle_process (woken_by changes) k new.processes (woken-none changes (process_in new k) still)));
        entries = sym (append-nil entries1) ∙ ap (λ es. entries1 ++ es) (sym (ended-none changes k (process_in new k) still));
        ended = sym (append-nil ended1) ∙ ap (λ es. ended1 ++ es) (sym (number-none changes k (process_in new k) still));
      })

  -- some that aren't woken
  pub woken-skips : (new : TableState) (entries1 : List ObjectAccess) (ended1 : List ℕ) (k m : ℕ) → ((n : ℕ) → k ≤ n → n < k + m → is_woken changes (process_in old n) ≡ false) →
      IsWokenBelow changes old new entries0 entries1 ended0 ended1 k → IsWokenBelow changes old new entries0 entries1 ended0 ended1 (k + m)
  woken-skips new entries1 ended1 k zero none below = let e : k ≡ k + 0 = omega arith in subst (IsWokenBelow changes old new entries0 entries1 ended0 ended1) e below
  woken-skips new entries1 ended1 k (suc m) none below =
      let e : k + m + 1 ≡ k + suc m = omega arith in
      subst (IsWokenBelow changes old new entries0 entries1 ended0 ended1) e
      (woken-skip new entries1 ended1 (k + m) (none (k + m) (omega arith) (omega arith)) (woken-skips new entries1 ended1 k m (λ n low high. none n low (omega (arith, high))) below))

  -- all processes, where no further one is woken
  pub woken-end : (new : TableState) (entries1 : List ObjectAccess) (ended1 : List ℕ) (k : ℕ) → ((n : ℕ) → k ≤ n → is_woken changes (process_in old n) ≡ false) →
      IsWokenBelow changes old new entries0 entries1 ended0 ended1 k → IsWoken changes old new entries0 entries1 ended0 ended1
  woken-end new entries1 ended1 k none below =
      let all = woken-skips new entries1 ended1 k (length old.processes) (λ n low high. none n low) below in
      let past : length old.processes ≤ k + length old.processes = omega arith in
      record {
        table = all.table ∙ ap (λ ps. record old { processes = ps }) (below-all (woken_by changes) (k + length old.processes) old.processes past);
        entries = all.entries ∙ ap (λ es. entries0 ++ es) (listed-all (ended_by_changes changes) 0 (k + length old.processes) old.processes past);
        ended = all.ended ∙ ap (λ es. ended0 ++ es) (listed-all (number_woken changes) 0 (k + length old.processes) old.processes past ∙ numbers-listed changes 0 old.processes);
      }

-- Candidates

-- what the loop has seen of the candidates: those before its place are below the next number, and those from it on aren't below the number before that
pub record Reaches (candidates : List ℕ) (place next : ℕ) : Type 0 where
  pub seen : (j : ℕ) → j < place → get_or candidates j 0 < next
  pub ahead : (j : ℕ) → place ≤ j → j < length candidates → next ≤ get_or candidates j 0 + 1

-- between them nobody is woken
pub between : (changes : List ObjectChange) (processes : List ProcessState) (candidates : List ℕ) (place next n : ℕ) → HasWoken changes processes candidates → Reaches candidates place next →
    next ≤ n → ((j : ℕ) → place ≤ j → j < length candidates → n < get_or candidates j 0) → is_woken changes (found_or idle_process (slice_get processes n)) ≡ false
between changes processes candidates place next n all reaches low ahead = by_cases (is_woken changes (found_or idle_process (slice_get processes n))) refl
  where
    by_cases : (b : Bool) → is_woken changes (found_or idle_process (slice_get processes n)) ≡ b → b ≡ false
    by_cases false e = refl
    by_cases true e =
        let found = has_place candidates n (all n e) in
        elim (cases_lt found.0 place) [
          | inl before ↦ let below = reaches.seen found.0 before in let at = found.2 in absurd (omega (arith, below, at, low))
          | inr after ↦ let above = ahead found.0 (omega (arith, after)) found.1 in let at = found.2 in absurd (omega (arith, above, at))
        ]

-- One process

-- one that isn't woken
pub one-none : (changes : List ObjectChange) (table : TableState) (entries0 entries1 : List ObjectAccess) (ended : List ℕ) (n : ℕ) → is_woken changes (process_in table n) ≡ false →
    entries1 ≡ entries0 ++ ended_by_changes changes n (process_in table n) → IsWokenAt changes table table entries0 entries1 ended ended n
one-none changes table entries0 entries1 ended n none noted = record {
  table = ap (λ ps. record table { processes = ps }) (sym (change-stays idle_process (woken_by changes) n table.processes (woken-none changes (process_in table n) none)));
  entries = noted;
  ended = sym (append-nil ended) ∙ ap (λ es. ended ++ es) (sym (number-none changes n (process_in table n) none));
}

-- a process that isn't there is done
pub nobody : (xs : List ProcessState) (n : ℕ) → length xs ≤ n → found_or idle_process (slice_get xs n) ≡ idle_process
nobody [] n past = refl
nobody (x ∷ xs) zero past = absurd (omega (arith, past))
nobody (x ∷ xs) (suc n) past = nobody xs n (omega (arith, past))

-- one that isn't there
pub one-past : (changes : List ObjectChange) (table : TableState) (entries0 : List ObjectAccess) (ended : List ℕ) (n : ℕ) → length table.processes ≤ n →
    IsWokenAt changes table table entries0 entries0 ended ended n
one-past changes table entries0 ended n past =
    let idle : process_in table n ≡ idle_process = nobody table.processes n past in
    one-none changes table entries0 entries0 ended n (ap (is_woken changes) idle) (sym (append-nil entries0) ∙ ap (λ p. entries0 ++ ended_by_changes changes n p) (sym idle))

-- one that is woken
pub one-woken : (changes : List ObjectChange) (old new : TableState) (entries0 entries1 : List ObjectAccess) (ended0 ended1 : List ℕ) (n : ℕ) → is_woken changes (process_in old n) ≡ true →
    new ≡ record old { processes = change_at old.processes n (woken_by changes) } → entries1 ≡ entries0 ++ ended_by_changes changes n (process_in old n) → ended1 ≡ ended0 ++ n ∷ [] →
    IsWokenAt changes old new entries0 entries1 ended0 ended1 n
one-woken changes old new entries0 entries1 ended0 ended1 n some becomes noted numbered = record {
  table = becomes;
  entries = noted;
  ended = numbered ∙ ap (λ b. ended0 ++ number_if b n []) (sym some);
}

-- One candidate after another

-- before the first
pub reach-start : (candidates : List ℕ) → Reaches candidates 0 0
reach-start candidates = record { seen = λ j low. absurd (omega (arith, low)); ahead = λ j low high. omega arith }

-- a candidate that was seen
pub reach-seen : (candidates : List ℕ) (place next number : ℕ) → number ≡ get_or candidates place 0 → number < next → Reaches candidates place next → Reaches candidates (place + 1) next
reach-seen candidates place next number is low reaches = record {
  seen = λ j below.
      elim (cases_lt j place) [
        | inl before ↦ reaches.seen j before
        | inr after ↦ let same : j ≡ place = omega (arith, below, after) in subst (λ k. get_or candidates k 0 < next) (sym same) (omega (arith, is, low))
      ];
  ahead = λ j above within. reaches.ahead j (omega (arith, above)) within;
}

-- the next candidate
pub reach-next : (candidates : List ℕ) (place next number : ℕ) → number ≡ get_or candidates place 0 → next ≤ number → Climbs candidates → Reaches candidates place next →
    Reaches candidates (place + 1) (number + 1)
reach-next candidates place next number is low climbs reaches = record {
  seen = λ j below.
      elim (cases_lt j place) [
        | inl before ↦ omega (arith, reaches.seen j before, low)
        | inr after ↦ let same : j ≡ place = omega (arith, below, after) in subst (λ k. get_or candidates k 0 < number + 1) (sym same) (omega (arith, is))
      ];
  ahead = λ j above within. omega (arith, is, climbs place j (omega (arith, above)) within);
}

module _ (changes : List ObjectChange) (old : TableState) (entries0 : List ObjectAccess) (ended0 : List ℕ) (candidates : List ℕ) (all : HasWoken changes old.processes candidates) where
  -- it is woken, or stays
  pub wake-next : (new next_table : TableState) (entries1 entries2 : List ObjectAccess) (ended1 ended2 : List ℕ) (place next number : ℕ) → place < length candidates →
      number ≡ get_or candidates place 0 → next ≤ number → Climbs candidates →
      Reaches candidates place next → IsWokenBelow changes old new entries0 entries1 ended0 ended1 next → IsWokenAt changes new next_table entries1 entries2 ended1 ended2 number →
      IsWokenBelow changes old next_table entries0 entries2 ended0 ended2 (number + 1)
  wake-next new next_table entries1 entries2 ended1 ended2 place next number there is low climbs reaches below at =
      let e : next + (number - next) ≡ number = omega (arith, low) in
      woken-step changes old entries0 ended0 new next_table entries1 entries2 ended1 ended2 number
      (subst (IsWokenBelow changes old new entries0 entries1 ended0 ended1) e
      (woken-skips changes old entries0 ended0 new entries1 ended1 next (number - next)
      (λ n from to. between changes old.processes candidates place next n all reaches from (λ j above within. omega (arith, climbs place j above within, is, to, e)))
      below)) at

  -- and behind the last nobody is
  pub wake-end : (new : TableState) (entries1 : List ObjectAccess) (ended1 : List ℕ) (place next : ℕ) → length candidates ≤ place → Reaches candidates place next →
      IsWokenBelow changes old new entries0 entries1 ended0 ended1 next →
      IsWoken changes old new entries0 entries1 ended0 ended1
  wake-end new entries1 ended1 place next past reaches below =
      woken-end changes old entries0 ended0 new entries1 ended1 next (λ n from. between changes old.processes candidates place next n all reaches from
      (λ j above within. absurd (omega (arith, above, within, past)))) below
