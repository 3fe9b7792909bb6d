-- Laws on a list of entries as it is kept.
use Rattle.std.proofs.Common.{◌≡◌, ℕ, cond, ◌-◌, ◌<◌, ◌≤◌, List, [], ◌∷◌, ◌++◌, length, get_or, set, take, drop, map, zero, suc, ◌+◌, refl, ap, sym, subst, ◌∙◌, arith, inl, inr}
use Rattle.std.specs.Prelude.{insert, remove, Some, None}
use Rattle.std.specs.List.Sorted.{IsNonDecreasingBy}
use Rattle.std.specs.List.{refill}
use Rattle.std.proofs.lemmas.List.{map-set, map-append, take-map, drop-map, get_or-map, length-map, length-set, take_at, take_more}
use Rattle.std.proofs.lemmas.Bool.{cases_lt, lt-ltb, le-ltb}
use Rattle.vf_base.specs.Lists.{AllHold}
use Rattle.copy_laws.specs.Differences.{own_of}
use Rattle.copy_state.specs.declared.entry.Entry.{Entry}
use Rattle.copy_state.specs.Entries.{with_entry, without_entry, first_from, numbers, Rise, IsAt, GoesTo}
use Rattle.copy_state.specs.Listed.{entry_of, numbers_of}
use Rattle.copy_state.proofs.TableLaws.{with-last}
use Rattle.copy_state.proofs.PlaceLaws.{own_of-at, own_of-none, with_entry-at, with_entry-new, without_entry-at, without_entry-none, rise-with, rise-without}

pub numbers_are : {T : Type 0} (entries : List (Entry T)) → numbers_of entries ≡ numbers (map entry_of entries)
numbers_are [] = refl
numbers_are (own ∷ entries) = ap (λ l. own.number ∷ l) (numbers_are entries)

-- the number of an entry
pub number_at : {T : Type 0} (entries : List (Entry T)) (k : ℕ) (d : Entry T) → k < length entries → get_or (numbers_of entries) k 0 ≡ (get_or entries k d).number
number_at {T} entries k d within = get_or-map (λ (own : Entry T). own.number) entries k d 0 within

pub count-numbers : {T : Type 0} (entries : List (Entry T)) → length (numbers_of entries) ≡ length entries
count-numbers {T} entries = length-map entries (λ (own : Entry T). own.number)

-- what the binary search asks
pub ascending : {T : Type 0} (entries : List (Entry T)) → Rise (numbers_of entries) → IsNonDecreasingBy (λ (own : Entry T). own.number) entries
ascending entries up i j d order within =
    let here : get_or (numbers_of entries) i 0 ≡ (get_or entries i d).number = number_at entries i d (omega arith) in
    let there : get_or (numbers_of entries) j 0 ≡ (get_or entries j d).number = number_at entries j d within in
    let long : length (numbers_of entries) ≡ length entries = count-numbers entries in
    elim (cases_lt i j) [
      | inl less ↦ let order : get_or (numbers_of entries) i 0 < get_or (numbers_of entries) j 0 = up i j less (omega arith) in omega arith
      | inr not_less ↦
          let same : i ≡ j = omega arith in
          let equal : (get_or entries i d).number ≡ (get_or entries j d).number = ap (λ k. (get_or entries k d).number) same in omega arith
    ]

map-insert : {T : Type 0} (entries : List (Entry T)) (p : ℕ) (own : Entry T) → map entry_of (insert entries p own) ≡ insert (map entry_of entries) p (entry_of own)
map-insert entries p own =
    map-append entry_of (take p entries) (own ∷ drop p entries)
    ∙ ap (λ l. l ++ entry_of own ∷ map entry_of (drop p entries)) (sym (take-map entry_of p entries))
    ∙ ap (λ l. take p (map entry_of entries) ++ entry_of own ∷ l) (sym (drop-map entry_of p entries))

map-remove : {T : Type 0} (entries : List (Entry T)) (p : ℕ) → map entry_of (remove entries p) ≡ remove (map entry_of entries) p
map-remove entries p =
    map-append entry_of (take p entries) (drop (suc p) entries)
    ∙ ap (λ l. l ++ map entry_of (drop (suc p) entries)) (sym (take-map entry_of p entries))
    ∙ ap (λ l. take p (map entry_of entries) ++ l) (sym (drop-map entry_of (suc p) entries))

-- what is kept under a number that stands there, and under one that doesn't
pub kept-at : {T : Type 0} (entries : List (Entry T)) (p n : ℕ) (d : Entry T) → IsAt (numbers_of entries) p n → own_of (map entry_of entries) n ≡ Some (get_or entries p d).kept
kept-at {T} entries p n d had =
    own_of-at (map entry_of entries) p n (entry_of d) (subst (λ l. IsAt l p n) (numbers_are entries) had)
    ∙ ap (λ (e : ℕ × T). Some e.1) (get_or-map entry_of entries p d (entry_of d) (let long = count-numbers entries in omega (arith, had.within, long)))

pub kept-none : {T : Type 0} (entries : List (Entry T)) (p n : ℕ) → GoesTo (numbers_of entries) p n → own_of (map entry_of entries) n ≡ None
kept-none entries p n had = own_of-none (map entry_of entries) p n (subst (λ l. GoesTo l p n) (numbers_are entries) had)

-- something new in place of what was kept
pub put-at : {T : Type 0} (entries : List (Entry T)) (p n : ℕ) (d : Entry T) (x : T) → IsAt (numbers_of entries) p n →
    map entry_of (set entries p (record { number = (get_or entries p d).number; kept = x })) ≡ with_entry n x (map entry_of entries)
put-at {T} entries p n d x had =
    let own : Entry T = record { number = (get_or entries p d).number; kept = x } in
    let same : own.number ≡ n = sym (number_at entries p d (let long = count-numbers entries in omega (arith, had.within, long))) ∙ had.at in
    map-set entry_of entries p own ∙ ap (λ m. set (map entry_of entries) p (m, x)) same ∙ sym (with_entry-at (map entry_of entries) p n x (subst (λ l. IsAt l p n) (numbers_are entries) had))

pub put-new : {T : Type 0} (entries : List (Entry T)) (p : ℕ) (own : Entry T) → GoesTo (numbers_of entries) p own.number →
    map entry_of (insert entries p own) ≡ with_entry own.number own.kept (map entry_of entries)
put-new entries p own had = map-insert entries p own ∙ sym (with_entry-new (map entry_of entries) p own.number own.kept (subst (λ l. GoesTo l p own.number) (numbers_are entries) had))

pub taken-at : {T : Type 0} (entries : List (Entry T)) (p n : ℕ) → IsAt (numbers_of entries) p n → map entry_of (remove entries p) ≡ without_entry n (map entry_of entries)
taken-at entries p n had = map-remove entries p ∙ sym (without_entry-at (map entry_of entries) p n (subst (λ l. IsAt l p n) (numbers_are entries) had))

pub taken-none : {T : Type 0} (entries : List (Entry T)) (p n : ℕ) → GoesTo (numbers_of entries) p n → map entry_of entries ≡ without_entry n (map entry_of entries)
taken-none entries p n had = sym (without_entry-none (map entry_of entries) p n (subst (λ l. GoesTo l p n) (numbers_are entries) had))

-- a list that is filled up from another of its length is itself
refilled : {T : Type 0} (entries written : List T) → length written ≡ length entries → refill (length entries) entries written ≡ written
refilled entries written same = take_at written (drop (length written) entries) (length entries) same

-- something that is written over what was kept, as the list is afterwards
pub put-over : {T : Type 0} (entries read : List (Entry T)) (p n : ℕ) (d : Entry T) (x : T) → read ≡ entries → IsAt (numbers_of entries) p n →
    map entry_of (refill (length entries) entries (set read p (record { number = (get_or read p d).number; kept = x }))) ≡ with_entry n x (map entry_of entries)
put-over {T} entries read p n d x is had =
    let own : Entry T = record { number = (get_or entries p d).number; kept = x } in
    subst (λ l. map entry_of (refill (length entries) entries (set l p (record { number = (get_or l p d).number; kept = x }))) ≡ with_entry n x (map entry_of entries)) (sym is)
    (ap (map entry_of) (refilled entries (set entries p own) (length-set entries p own)) ∙ put-at entries p n d x had)

-- the list ascends still
pub rise-put : {T : Type 0} (old new : List (Entry T)) (n : ℕ) (x : T) → Rise (numbers_of old) → map entry_of new ≡ with_entry n x (map entry_of old) → Rise (numbers_of new)
rise-put old new n x up is = subst Rise (sym (numbers_are new)) (subst (λ es. Rise (numbers es)) (sym is) (rise-with n x (map entry_of old) (subst Rise (numbers_are old) up)))

pub rise-taken : {T : Type 0} (old new : List (Entry T)) (n : ℕ) → Rise (numbers_of old) → map entry_of new ≡ without_entry n (map entry_of old) → Rise (numbers_of new)
rise-taken old new n up is = subst Rise (sym (numbers_are new)) (subst (λ es. Rise (numbers es)) (sym is) (rise-without n (map entry_of old) (subst Rise (numbers_are old) up)))

-- Where the binary search stops

pub each-before : {T : Type 0} (entries : List (Entry T)) (r n : ℕ) → r ≤ length entries → ((k : ℕ) (d : Entry T) → k < r → (get_or entries k d).number < n) →
    (k : ℕ) → k < r → get_or (numbers_of entries) k 0 < n
each-before [] r n within each k low = absurd (let none : r ≤ 0 = within in omega arith)
each-before {T} (first ∷ rest) r n within each k low =
    let is : get_or (numbers_of (first ∷ rest)) k 0 ≡ (get_or (first ∷ rest) k first).number = number_at (first ∷ rest) k first (omega arith) in
    let less : (get_or (first ∷ rest) k first).number < n = each k first low in omega arith

pub each-behind : {T : Type 0} (entries : List (Entry T)) (r n : ℕ) → ((k : ℕ) (d : Entry T) → r ≤ k → k < length entries → n ≤ (get_or entries k d).number) →
    (k : ℕ) → r ≤ k → k < length entries → n ≤ get_or (numbers_of entries) k 0
each-behind [] r n each k low within = absurd (let none : k < 0 = within in omega arith)
each-behind {T} (first ∷ rest) r n each k low within =
    let is : get_or (numbers_of (first ∷ rest)) k 0 ≡ (get_or (first ∷ rest) k first).number = number_at (first ∷ rest) k first within in
    let more : n ≤ (get_or (first ∷ rest) k first).number = each k first low within in omega arith

pub is_at-found : {T : Type 0} (entries : List (Entry T)) (p n : ℕ) (d : Entry T) → Rise (numbers_of entries) → p < length entries → (get_or entries p d).number ≡ n →
    ((k : ℕ) → k < p → get_or (numbers_of entries) k 0 < n) → IsAt (numbers_of entries) p n
is_at-found entries p n d up within at before =
    let long = count-numbers entries in
    let is : get_or (numbers_of entries) p 0 ≡ n = number_at entries p d within ∙ at in
    let behind : (k : ℕ) → p < k → k < length (numbers_of entries) → n < get_or (numbers_of entries) k 0 =
    λ k more low. let order : get_or (numbers_of entries) p 0 < get_or (numbers_of entries) k 0 = up p k more low in omega arith in
    record { within = omega arith; at = is; before = before; behind = behind }

pub goes_to-missed : {T : Type 0} (entries : List (Entry T)) (p n : ℕ) → Rise (numbers_of entries) → p ≤ length entries → ((k : ℕ) → k < p → get_or (numbers_of entries) k 0 < n) →
    ((k : ℕ) → p ≤ k → k < length entries → n ≤ get_or (numbers_of entries) k 0) → (p < length entries → get_or (numbers_of entries) p 0 ≡ n → ⊥) → GoesTo (numbers_of entries) p n
goes_to-missed entries p n up within before after other =
    let long = count-numbers entries in
    record {
      within = omega arith;
      before = before;
      behind = λ k low less.
          let here : p < length entries = omega arith in
          let first : n ≤ get_or (numbers_of entries) p 0 = after p (omega arith) here in
          let differs : get_or (numbers_of entries) p 0 ≡ n → ⊥ = other here in
          elim (cases_lt p k) [
            | inl more ↦ let order : get_or (numbers_of entries) p 0 < get_or (numbers_of entries) k 0 = up p k more less in omega arith
            | inr not_more ↦ let same : k ≡ p = omega arith in let equal : get_or (numbers_of entries) k 0 ≡ get_or (numbers_of entries) p 0 = ap (λ m. get_or (numbers_of entries) m 0) same in
                omega arith
          ];
    }

-- something new in place of what was read there
pub put-read : {T : Type 0} (entries : List (Entry T)) (p n : ℕ) (own : Entry T) (x : T) → own ≡ get_or entries p own → IsAt (numbers_of entries) p n →
    map entry_of (set entries p (record { number = own.number; kept = x })) ≡ with_entry n x (map entry_of entries)
put-read {T} entries p n own x is had = ap (λ (e : Entry T). map entry_of (set entries p (record { number = e.number; kept = x }))) is ∙ put-at entries p n own x had

-- A list into a table, entry by entry

all-below : {T : Type 0} (entries : List (Entry T)) (i m : ℕ) → ((k : ℕ) → k < i → k < length entries → get_or (numbers_of entries) k 0 < m) →
    AllHold (λ (before : ℕ × T). before.0 < m) (map entry_of (take i entries))
all-below [] zero m low = tt
all-below [] (suc i) m low = tt
all-below (own ∷ entries) zero m low = tt
all-below (own ∷ entries) (suc i) m low = (low zero (omega arith) (omega arith), all-below entries i m (λ k less within. low (suc k) (omega arith) (omega arith)))

pub one_more : {T : Type 0} (entries : List (Entry T)) (i : ℕ) (own : Entry T) → Rise (numbers_of entries) → i < length entries → own ≡ get_or entries i own →
    with_entry own.number own.kept (map entry_of (take i entries)) ≡ map entry_of (take (i + 1) entries)
one_more {T} entries i own up within is =
    let long = count-numbers entries in
    let number : get_or (numbers_of entries) i 0 ≡ own.number = number_at entries i own within ∙ ap (λ (e : Entry T). e.number) (sym is) in
    let below : (k : ℕ) → k < i → k < length entries → get_or (numbers_of entries) k 0 < own.number =
    λ k less low. let order : get_or (numbers_of entries) k 0 < get_or (numbers_of entries) i 0 = up k i less (omega arith) in omega arith in
    with-last own.number own.kept (map entry_of (take i entries)) (all-below entries i own.number below)
    ∙ ap (λ (e : Entry T). map entry_of (take i entries) ++ entry_of e ∷ []) is
    ∙ sym (map-append entry_of (take i entries) (get_or entries i own ∷ []))
    ∙ ap (map entry_of) (sym (take_more entries i own within))

-- The first entry from a number on

first-here : {A : Type 0} (from : ℕ) (e : ℕ × A) (es : List (ℕ × A)) → from ≤ e.0 → first_from from (e ∷ es) ≡ Some e.0
first-here from e es low = ap (λ b. cond b (first_from from es) (Some e.0)) (le-ltb e.0 from low)

first-later : {A : Type 0} (from : ℕ) (e : ℕ × A) (es : List (ℕ × A)) → e.0 < from → first_from from (e ∷ es) ≡ first_from from es
first-later from e es low = ap (λ b. cond b (first_from from es) (Some e.0)) (lt-ltb e.0 from low)

pub first-at : {T : Type 0} (entries : List (Entry T)) (p from : ℕ) (own : Entry T) → ((k : ℕ) → k < p → get_or (numbers_of entries) k 0 < from) →
    ((k : ℕ) → p ≤ k → k < length entries → from ≤ get_or (numbers_of entries) k 0) → p < length entries → own ≡ get_or entries p own → first_from from (map entry_of entries) ≡ Some own.number
first-at [] p from own before behind within is = absurd (let none : p < 0 = within in omega arith)
first-at {T} (e ∷ es) zero from own before behind within is =
    first-here from (entry_of e) (map entry_of es) (behind zero (omega arith) within) ∙ ap (λ (x : Entry T). Some x.number) (sym is)
first-at (e ∷ es) (suc p) from own before behind within is =
    first-later from (entry_of e) (map entry_of es) (before zero (omega arith))
    ∙ first-at es p from own (λ k low. before (suc k) (omega arith)) (λ k low less. behind (suc k) (omega arith) (omega arith)) (omega arith) is

pub first-none : {T : Type 0} (entries : List (Entry T)) (p from : ℕ) → ((k : ℕ) → k < p → get_or (numbers_of entries) k 0 < from) → length entries ≤ p →
    first_from from (map entry_of entries) ≡ None
first-none [] p from before past = refl
first-none (e ∷ es) zero from before past = absurd (omega arith)
first-none (e ∷ es) (suc p) from before past = first-later from (entry_of e) (map entry_of es) (before zero (omega arith)) ∙ first-none es p from (λ k low. before (suc k) (omega arith)) (omega arith)

-- Numbers beside a place

-- where the last number before it is less, all before it are
pub all-before : (numbers : List ℕ) (place number : ℕ) → Rise numbers → place ≤ length numbers → (0 < place → get_or numbers (place - 1) 0 < number) → (k : ℕ) → k < place → get_or numbers k 0 < number
all-before numbers place number up within last k low = elim (cases_lt k (place - 1)) [
  | inl less ↦
      let order : get_or numbers k 0 < get_or numbers (place - 1) 0 = up k (place - 1) less (omega (arith, low, within)) in
      let end : get_or numbers (place - 1) 0 < number = last (omega (arith, low)) in
      omega (arith, order, end)
  | inr past ↦
      let same : place - 1 ≡ k = omega (arith, low, past) in
      subst (λ j. get_or numbers j 0 < number) same (last (omega (arith, low)))
]

-- where the one at it is no less, none behind it is
pub all-behind : (numbers : List ℕ) (place number : ℕ) → Rise numbers → (place < length numbers → number ≤ get_or numbers place 0) → (k : ℕ) → place ≤ k → k < length numbers → number ≤ get_or numbers k 0
all-behind numbers place number up first k past inside = elim (cases_lt place k) [
  | inl less ↦
      let order : get_or numbers place 0 < get_or numbers k 0 = up place k less inside in
      let here : number ≤ get_or numbers place 0 = first (omega (arith, less, inside)) in
      omega (arith, order, here)
  | inr least ↦
      let same : place ≡ k = omega (arith, past, least) in
      subst (λ j. number ≤ get_or numbers j 0) same (first (omega (arith, inside, past)))
]

-- each number that rises with others stands at its place
pub rise-at : (numbers : List ℕ) (place number : ℕ) → Rise numbers → place < length numbers → get_or numbers place 0 ≡ number → IsAt numbers place number
rise-at numbers place number up within at = record {
  within = within;
  at = at;
  before = λ k less. subst (λ n. get_or numbers k 0 < n) at (up k place less within);
  behind = λ k more inside. subst (λ n. n < get_or numbers k 0) at (up place k more inside);
}
