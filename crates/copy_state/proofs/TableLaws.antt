-- Laws on tables of entries.
use Rattle.std.proofs.Common.{◌≡◌, ℕ, zero, suc, ◌+◌, ◌<◌, ◌≤◌, Bool, true, false, not, cond, List, [], ◌∷◌, ◌++◌, length, get_or, set, refl, ap, sym, ◌∙◌, arith, inl, inr}
use Rattle.std.specs.Prelude.{nat_eq, replicate, Option, Some, None, is_some}
use Rattle.std.proofs.lemmas.Bool.{eq-eqb, ne_eqb, lt-ltb, le-ltb, cases_lt}
use Rattle.vf_base.specs.Lists.{AllHold}
use Rattle.copy_laws.specs.Differences.{own_of, Ascend}
use Rattle.copy_state.specs.Entries.{with_entry, without_entry, first_from}
use Rattle.copy_state.specs.Tables.{entries_from}

-- the numbers of a table's entries are at least that of its first place
pub entries-above : {A : Type 0} (m n : ℕ) (vs : List (Option A)) → m < n → AllHold (λ (later : ℕ × A). m < later.0) (entries_from n vs)
entries-above m n [] low = tt
entries-above m n (None ∷ vs) low = entries-above m (suc n) vs (omega arith)
entries-above m n (Some x ∷ vs) low = (low, entries-above m (suc n) vs (omega arith))

pub ascend-table : {A : Type 0} (n : ℕ) (vs : List (Option A)) → Ascend (entries_from n vs)
ascend-table n [] = tt
ascend-table n (None ∷ vs) = ascend-table (suc n) vs
ascend-table n (Some x ∷ vs) = (entries-above n (suc n) vs (omega arith), ascend-table (suc n) vs)

-- a number before those of some entries
own-front : {A : Type 0} (m : ℕ) (es : List (ℕ × A)) → AllHold (λ (later : ℕ × A). m < later.0) es → own_of es m ≡ None
own-front m [] above = refl
own-front m (e ∷ es) above =
    ap (λ (b : Bool). elim b [ true ↦ Some e.1 | false ↦ own_of es m ]) (ne_eqb e.0 m (let low : m < e.0 = above.0 in λ same. omega arith)) ∙ own-front m es above.1

with-front : {A : Type 0} (m : ℕ) (x : A) (es : List (ℕ × A)) → AllHold (λ (later : ℕ × A). m < later.0) es → with_entry m x es ≡ (m, x) ∷ es
with-front m x [] above = refl
with-front m x (e ∷ es) above =
    let low : m < e.0 = above.0 in
    ap (λ b. cond b (e ∷ with_entry m x es) (cond (nat_eq e.0 m) ((m, x) ∷ es) ((m, x) ∷ e ∷ es))) (le-ltb e.0 m (omega arith))
    ∙ ap (λ b. cond b ((m, x) ∷ es) ((m, x) ∷ e ∷ es)) (ne_eqb e.0 m (λ same. omega arith))

without-front : {A : Type 0} (m : ℕ) (es : List (ℕ × A)) → AllHold (λ (later : ℕ × A). m < later.0) es → without_entry m es ≡ es
without-front m [] above = refl
without-front m (e ∷ es) above =
    let low : m < e.0 = above.0 in
    ap (λ b. cond (not b) (e ∷ without_entry m es) (without_entry m es)) (ne_eqb e.0 m (λ same. omega arith)) ∙ ap (λ l. e ∷ l) (without-front m es above.1)

-- and behind them
pub with-last : {A : Type 0} (m : ℕ) (x : A) (es : List (ℕ × A)) → AllHold (λ (before : ℕ × A). before.0 < m) es → with_entry m x es ≡ es ++ (m, x) ∷ []
with-last m x [] below = refl
with-last m x (e ∷ es) below =
    ap (λ b. cond b (e ∷ with_entry m x es) (cond (nat_eq e.0 m) ((m, x) ∷ es) ((m, x) ∷ e ∷ es))) (lt-ltb e.0 m below.0) ∙ ap (λ l. e ∷ l) (with-last m x es below.1)

-- what is kept under a number is what stands at its place
pub own-table : {A : Type 0} (n p m : ℕ) (vs : List (Option A)) → m ≡ n + p → own_of (entries_from n vs) m ≡ get_or vs p None
own-table n p m [] at = refl
own-table n zero m (None ∷ vs) at = own-front m (entries_from (suc n) vs) (entries-above m (suc n) vs (omega arith))
own-table n (suc p) m (None ∷ vs) at = own-table (suc n) p m vs (omega arith)
own-table n zero m (Some x ∷ vs) at = ap (λ (b : Bool). elim b [ true ↦ Some x | false ↦ own_of (entries_from (suc n) vs) m ]) (eq-eqb n m (omega arith))
own-table n (suc p) m (Some x ∷ vs) at =
    ap (λ (b : Bool). elim b [ true ↦ Some x | false ↦ own_of (entries_from (suc n) vs) m ]) (ne_eqb n m (λ same. omega arith)) ∙ own-table (suc n) p m vs (omega arith)

-- an entry more is written to its place
pub with-table : {A : Type 0} (n p m : ℕ) (x : A) (vs : List (Option A)) → m ≡ n + p → p < length vs → entries_from n (set vs p (Some x)) ≡ with_entry m x (entries_from n vs)
with-table n p m x [] at within = absurd (let none : p < 0 = within in omega arith)
with-table n zero m x (None ∷ vs) at within =
    let same : n ≡ m = omega arith in
    ap (λ k. (k, x) ∷ entries_from (suc n) vs) same ∙ sym (with-front m x (entries_from (suc n) vs) (entries-above m (suc n) vs (omega arith)))
with-table n (suc p) m x (None ∷ vs) at within = with-table (suc n) p m x vs (omega arith) (omega arith)
with-table n zero m x (Some y ∷ vs) at within =
    let same : n ≡ m = omega arith in
    let later = entries_from (suc n) vs in
    ap (λ k. (k, x) ∷ later) same
    ∙ sym (ap (λ b. cond b ((n, y) ∷ with_entry m x later) (cond (nat_eq n m) ((m, x) ∷ later) ((m, x) ∷ (n, y) ∷ later))) (le-ltb n m (omega arith))
    ∙ ap (λ b. cond b ((m, x) ∷ later) ((m, x) ∷ (n, y) ∷ later)) (eq-eqb n m same))
with-table n (suc p) m x (Some y ∷ vs) at within =
    let later = entries_from (suc n) vs in
    ap (λ l. (n, y) ∷ l) (with-table (suc n) p m x vs (omega arith) (omega arith))
    ∙ sym (ap (λ b. cond b ((n, y) ∷ with_entry m x later) (cond (nat_eq n m) ((m, x) ∷ later) ((m, x) ∷ (n, y) ∷ later))) (lt-ltb n m (omega arith)))

-- and one less is taken from it
pub without-table : {A : Type 0} (n p m : ℕ) (vs : List (Option A)) → m ≡ n + p → entries_from n (set vs p None) ≡ without_entry m (entries_from n vs)
without-table n p m [] at = refl
without-table n zero m (None ∷ vs) at = sym (without-front m (entries_from (suc n) vs) (entries-above m (suc n) vs (omega arith)))
without-table n (suc p) m (None ∷ vs) at = without-table (suc n) p m vs (omega arith)
without-table n zero m (Some y ∷ vs) at =
    let later = entries_from (suc n) vs in
    sym (ap (λ b. cond (not b) ((n, y) ∷ without_entry m later) (without_entry m later)) (eq-eqb n m (omega arith)) ∙ without-front m later (entries-above m (suc n) vs (omega arith)))
without-table n (suc p) m (Some y ∷ vs) at =
    let later = entries_from (suc n) vs in
    ap (λ l. (n, y) ∷ l) (without-table (suc n) p m vs (omega arith))
    ∙ sym (ap (λ b. cond (not b) ((n, y) ∷ without_entry m later) (without_entry m later)) (ne_eqb n m (λ same. omega arith)))

-- How many there are

pub count-most : {A : Type 0} (n : ℕ) (vs : List (Option A)) → length (entries_from n vs) ≤ length vs
count-most n [] = omega arith
count-most n (None ∷ vs) = let rest = count-most (suc n) vs in omega arith
count-most n (Some x ∷ vs) = let rest = count-most (suc n) vs in omega arith

pub count-more : {A : Type 0} (n p : ℕ) (x : A) (vs : List (Option A)) → p < length vs → get_or vs p None ≡ None → length (entries_from n (set vs p (Some x))) ≡ suc (length (entries_from n vs))
count-more n p x [] within at = absurd (let none : p < 0 = within in omega arith)
count-more n zero x (None ∷ vs) within at = refl
count-more n (suc p) x (None ∷ vs) within at = count-more (suc n) p x vs (omega arith) at
count-more n zero x (Some y ∷ vs) within at = cc
count-more n (suc p) x (Some y ∷ vs) within at = ap suc (count-more (suc n) p x vs (omega arith) at)

pub count-same : {A : Type 0} (n p : ℕ) (x y : A) (vs : List (Option A)) → get_or vs p None ≡ Some y → length (entries_from n (set vs p (Some x))) ≡ length (entries_from n vs)
count-same n p x y [] at = cc
count-same n zero x y (None ∷ vs) at = cc
count-same n (suc p) x y (None ∷ vs) at = count-same (suc n) p x y vs at
count-same n zero x y (Some z ∷ vs) at = refl
count-same n (suc p) x y (Some z ∷ vs) at = ap suc (count-same (suc n) p x y vs at)

pub count-less : {A : Type 0} (n p : ℕ) (y : A) (vs : List (Option A)) → get_or vs p None ≡ Some y → suc (length (entries_from n (set vs p None))) ≡ length (entries_from n vs)
count-less n p y [] at = cc
count-less n zero y (None ∷ vs) at = cc
count-less n (suc p) y (None ∷ vs) at = count-less (suc n) p y vs at
count-less n zero y (Some z ∷ vs) at = refl
count-less n (suc p) y (Some z ∷ vs) at = ap suc (count-less (suc n) p y vs at)

-- Room for more

entries-none : {A : Type 0} (n k : ℕ) → entries_from n (replicate {A = Option A} k None) ≡ []
entries-none n zero = refl
entries-none n (suc k) = entries-none (suc n) k

pub entries-room : {A : Type 0} (n k : ℕ) (vs : List (Option A)) → entries_from n (vs ++ replicate k None) ≡ entries_from n vs
entries-room n k [] = entries-none n k
entries-room n k (None ∷ vs) = entries-room (suc n) k vs
entries-room n k (Some x ∷ vs) = ap (λ l. (n, x) ∷ l) (entries-room (suc n) k vs)

-- What was read at a place

pub read-at : {A : Type 0} (p : ℕ) (vs : List (Option A)) (found : Option A) → p < length vs → found ≡ get_or vs p found → get_or vs p None ≡ found
read-at p [] found within at = absurd (let none : p < 0 = within in omega arith)
read-at zero (v ∷ vs) found within at = sym at
read-at (suc p) (v ∷ vs) found within at = read-at p vs found (omega arith) at

pub read-past : {A : Type 0} (p : ℕ) (vs : List (Option A)) → length vs ≤ p → get_or vs p None ≡ None
read-past p [] past = refl
read-past zero (v ∷ vs) past = absurd (omega arith)
read-past (suc p) (v ∷ vs) past = read-past p vs (omega arith)

none-there : {A : Type 0} (found : Option A) → is_some found ≡ false → found ≡ None
none-there None none = refl
none-there (Some y) none = cc

-- a new entry, and one in place of an old one
pub put-new : {A : Type 0} (p : ℕ) (x : A) (vs : List (Option A)) (found : Option A) → p < length vs → found ≡ get_or vs p found → is_some found ≡ false →
    length (entries_from 0 (set vs p (Some x))) ≡ suc (length (entries_from 0 vs))
put-new p x vs found within at none = count-more 0 p x vs within (read-at p vs found within at ∙ none-there found none)

pub put-old : {A : Type 0} (p : ℕ) (x : A) (vs : List (Option A)) (found : Option A) → p < length vs → found ≡ get_or vs p found → is_some found ≡ true →
    length (entries_from 0 (set vs p (Some x))) ≡ length (entries_from 0 vs)
put-old p x vs None within at some = cc
put-old p x vs (Some y) within at some = count-same 0 p x y vs (read-at p vs (Some y) within at)

pub taken : {A : Type 0} (p : ℕ) (vs : List (Option A)) (found : Option A) → p < length vs → found ≡ get_or vs p found → is_some found ≡ true →
    suc (length (entries_from 0 (set vs p None))) ≡ length (entries_from 0 vs)
taken p vs None within at some = cc
taken p vs (Some y) within at some = count-less 0 p y vs (read-at p vs (Some y) within at)

set-none : {A : Type 0} (p : ℕ) (vs : List (Option A)) → get_or vs p None ≡ None → set vs p None ≡ vs
set-none p [] at = refl
set-none zero (v ∷ vs) at = ap (λ o. o ∷ vs) (sym at)
set-none (suc p) (v ∷ vs) at = ap (λ l. v ∷ l) (set-none p vs at)

-- nothing to be taken out
pub none-taken : {A : Type 0} (p : ℕ) (vs : List (Option A)) → get_or vs p None ≡ None → entries_from 0 vs ≡ without_entry p (entries_from 0 vs)
none-taken p vs at = ap (entries_from 0) (sym (set-none p vs at)) ∙ without-table 0 p p vs (omega arith)

pub none-read : {A : Type 0} (p : ℕ) (vs : List (Option A)) (found : Option A) → p < length vs → found ≡ get_or vs p found → is_some found ≡ false → get_or vs p None ≡ None
none-read p vs found within at none = read-at p vs found within at ∙ none-there found none

-- The first entry from a number on

first-here : {A : Type 0} (from n : ℕ) (x : A) (es : List (ℕ × A)) → from ≤ n → first_from from ((n, x) ∷ es) ≡ Some n
first-here from n x es low = ap (λ b. cond b (first_from from es) (Some n)) (le-ltb n from low)

first-later : {A : Type 0} (from n : ℕ) (x : A) (es : List (ℕ × A)) → n < from → first_from from ((n, x) ∷ es) ≡ first_from from es
first-later from n x es low = ap (λ b. cond b (first_from from es) (Some n)) (lt-ltb n from low)

pub table-first : {A : Type 0} (from n p : ℕ) (y : A) (vs : List (Option A)) → ((k : ℕ) → from ≤ n + k → k < p → get_or vs k None ≡ None) → get_or vs p None ≡ Some y → from ≤ n + p →
    first_from from (entries_from n vs) ≡ Some (n + p)
table-first from n p y [] none at low = cc
table-first from n zero y (None ∷ vs) none at low = cc
table-first from n zero y (Some x ∷ vs) none at low = first-here from n x (entries_from (suc n) vs) (omega arith) ∙ ap (λ k. Some k) (let same : n ≡ n + zero = omega arith in same)
table-first from n (suc p) y (None ∷ vs) none at low =
    table-first from (suc n) p y vs (λ k high less. none (suc k) (omega arith) (omega arith)) at (omega arith) ∙ ap (λ k. Some k) (let same : suc n + p ≡ n + suc p = omega arith in same)
table-first from n (suc p) y (Some x ∷ vs) none at low = elim (cases_lt n from) [
  | inl less ↦
      first-later from n x (entries_from (suc n) vs) less ∙ table-first from (suc n) p y vs (λ k high less. none (suc k) (omega arith) (omega arith)) at (omega arith)
      ∙ ap (λ k. Some k) (let same : suc n + p ≡ n + suc p = omega arith in same)
  | inr more ↦ let absent : Some x ≡ None = none zero (omega arith) (omega arith) in cc
]

pub table-none : {A : Type 0} (from n : ℕ) (vs : List (Option A)) → ((k : ℕ) → from ≤ n + k → k < length vs → get_or vs k None ≡ None) → first_from from (entries_from n vs) ≡ None
table-none from n [] none = refl
table-none from n (None ∷ vs) none = table-none from (suc n) vs (λ k high less. none (suc k) (omega arith) (omega arith))
table-none from n (Some x ∷ vs) none = elim (cases_lt n from) [
  | inl less ↦ first-later from n x (entries_from (suc n) vs) less ∙ table-none from (suc n) vs (λ k high less. none (suc k) (omega arith) (omega arith))
  | inr more ↦ let absent : Some x ≡ None = none zero (omega arith) (omega arith) in cc
]

pub table-found : {A : Type 0} (from p : ℕ) (vs : List (Option A)) (found : Option A) → p < length vs → found ≡ get_or vs p found → is_some found ≡ true → from ≤ p →
    ((k : ℕ) → from ≤ k → k < p → get_or vs k None ≡ None) → first_from from (entries_from 0 vs) ≡ Some p
table-found from p vs None within at some low none = cc
table-found from p vs (Some y) within at some low none =
    table-first from 0 p y vs (λ k high less. none k (omega arith) less) (read-at p vs (Some y) within at) (omega arith) ∙ ap (λ k. Some k) (let same : 0 + p ≡ p = omega arith in same)
