-- The waits of the processes of a state, and what of an event hangs on them alone (IEEE 1364-2001, clause 9.7).
use Rattle.std.proofs.Common.{◌≡◌, ℕ, zero, suc, ◌+◌, ◌<◌, List, [], ◌∷◌, map, Bool, true, false, ◌||◌, refl, sym, ap, ◌∙◌, arith}
use Rattle.std.specs.Prelude.{nat_eq, slice_get}
use Rattle.std.proofs.lemmas.Bool.{ne_eqb, eq-eqb}
use Rattle.four_value.specs.Values.{LogicValue}
use Rattle.vf_base.specs.Lists.{has, joined, map_numbered, change_at}
use Rattle.v_design.specs.Trees.{Entry}
use Rattle.v_design.specs.Processes.{Activity}
use Rattle.v_design.specs.States.{ProcessState, found_or, idle_process, some_entry, entry_matches}
use Rattle.v_design.specs.Accesses.{ObjectAccess, is_waiting, waiting_line, waiting_entries, ended_of, ended_by}
use Rattle.event_queue.specs.Queues.{number_if, numbers_where}

-- the wait that a process is in, if it is in one: its line and its entries
pub record WaitSeen : Type 0 where
  pub waits : Bool
  pub line : ℕ
  pub entries : List Entry

-- what an activity shows of its wait
abbrev pub wait_in : Activity → WaitSeen
wait_in activity = record { waits = is_waiting activity; line = waiting_line activity; entries = waiting_entries activity }

-- the same of a process
abbrev pub wait_of : ProcessState → WaitSeen
wait_of process = wait_in process.activity

-- no wait
abbrev pub no_wait : WaitSeen
no_wait = record { waits = false; line = 0; entries = [] }

-- the processes of two states are in the same waits
abbrev pub AreInSameWaits : (old new : List ProcessState) → Type 0
AreInSameWaits old new = map wait_of new ≡ map wait_of old

-- Lists

map_numbered-seen : {A B C : Type 0} (give : ℕ → B → C) (see : A → B) (n : ℕ) (xs : List A) → map_numbered (λ k x. give k (see x)) n xs ≡ map_numbered give n (map see xs)
map_numbered-seen give see n [] = refl
map_numbered-seen give see n (x ∷ xs) = ap (λ l. give n (see x) ∷ l) (map_numbered-seen give see (n + 1) xs)

found-seen : {A B : Type 0} (see : A → B) (default : A) (xs : List A) (n : ℕ) → see (found_or default (slice_get xs n)) ≡ found_or (see default) (slice_get (map see xs) n)
found-seen see default [] n = refl
found-seen see default (x ∷ xs) zero = refl
found-seen see default (x ∷ xs) (suc n) = found-seen see default xs n

-- where an element is changed to one that shows the same, all show the same
pub same-seen : {A B : Type 0} (see : A → B) (default : A) (xs : List A) (n : ℕ) (f : A → A) → see (f (found_or default (slice_get xs n))) ≡ see (found_or default (slice_get xs n)) →
    map see (change_at xs n f) ≡ map see xs
same-seen see default [] n f e = refl
same-seen see default (x ∷ xs) zero f e = ap (λ y. y ∷ map see xs) e
same-seen see default (x ∷ xs) (suc n) f e = ap (λ l. see x ∷ l) (same-seen see default xs n f e)

-- an element that is changed, and any other
pub changed-here : {A : Type 0} (default : A) (xs : List A) (n : ℕ) (f : A → A) → f default ≡ default → found_or default (slice_get (change_at xs n f) n) ≡ f (found_or default (slice_get xs n))
changed-here default [] n f e = sym e
changed-here default (x ∷ xs) zero f e = refl
changed-here default (x ∷ xs) (suc n) f e = changed-here default xs n f e

pub changed-elsewhere : {A : Type 0} (default : A) (xs : List A) (n m : ℕ) (f : A → A) → (n ≡ m → ⊥) → found_or default (slice_get (change_at xs n f) m) ≡ found_or default (slice_get xs m)
changed-elsewhere default [] n m f other = refl
changed-elsewhere default (x ∷ xs) zero zero f other = absurd (other refl)
changed-elsewhere default (x ∷ xs) zero (suc m) f other = refl
changed-elsewhere default (x ∷ xs) (suc n) zero f other = refl
changed-elsewhere default (x ∷ xs) (suc n) (suc m) f other = changed-elsewhere default xs n m f (λ e. other (ap suc e))

-- The waits that a change ends

-- the accesses of a wait that a change ends
abbrev ended_seen : ℕ → LogicValue → LogicValue → ℕ → WaitSeen → List ObjectAccess
ended_seen object old new process wait = ended_of (some_entry (entry_matches object old new) wait.entries) (entry_matches object old new) process wait.line wait.entries

-- a change ends the same waits in both
pub ended-alike : (object : ℕ) (before later : LogicValue) (old new : List ProcessState) → AreInSameWaits old new →
    joined (map_numbered (ended_by object before later) 0 new) ≡ joined (map_numbered (ended_by object before later) 0 old)
ended-alike object before later old new same =
    ap joined
    (map_numbered-seen (ended_seen object before later) wait_of 0 new
    ∙ ap (map_numbered (ended_seen object before later) 0) same
    ∙ sym (map_numbered-seen (ended_seen object before later) wait_of 0 old))

-- a process waits in the one state where it waits in the other
pub waits-alike : (old new : List ProcessState) (process : ℕ) → AreInSameWaits old new →
    is_waiting (found_or idle_process (slice_get new process)).activity ≡ is_waiting (found_or idle_process (slice_get old process)).activity
waits-alike old new process same =
    ap (λ (w : WaitSeen). w.waits)
    (found-seen wait_of idle_process new process
    ∙ ap (λ ws. found_or (wait_of idle_process) (slice_get ws process)) same
    ∙ sym (found-seen wait_of idle_process old process))

-- Numbers of those that pass a test

low-number : (n m : ℕ) → m < n → nat_eq n m ≡ false
low-number n m low = ne_eqb n m (λ e. absurd (omega (arith, e, low)))

none-below : {A : Type 0} (test : A → Bool) (n m : ℕ) (xs : List A) → m < n → has (numbers_where test n xs) m ≡ false
none-below test n m [] low = refl
none-below test n m (x ∷ xs) low = go (test x) (none-below test (n + 1) m xs (omega (arith, low)))
  where
    go : (b : Bool) → has (numbers_where test (n + 1) xs) m ≡ false → has (number_if b n (numbers_where test (n + 1) xs)) m ≡ false
    go true e = λ i. low-number n m low i || e i
    go false e = e

-- a number stands among those where its element passes the test; what is past the end does not
numbered-from : {A : Type 0} (test : A → Bool) (default : A) (n m : ℕ) (xs : List A) → test default ≡ false → has (numbers_where test n xs) (n + m) ≡ test (found_or default (slice_get xs m))
numbered-from test default n m [] none = sym none
numbered-from test default n zero (x ∷ xs) none = go (test x)
  where
    go : (b : Bool) → has (number_if b n (numbers_where test (n + 1) xs)) (n + 0) ≡ b
    go true = let e : n ≡ n + 0 = omega arith in λ i. eq-eqb n (n + 0) e i || has (numbers_where test (n + 1) xs) (n + 0)
    go false = none-below test (n + 1) (n + 0) xs (omega arith)
numbered-from test default n (suc m) (x ∷ xs) none =
    go (test x)
    ∙ ap (has (numbers_where test (n + 1) xs)) (let e : n + suc m ≡ n + 1 + m = omega arith in e)
    ∙ numbered-from test default (n + 1) m xs none
  where
    go : (b : Bool) → has (number_if b n (numbers_where test (n + 1) xs)) (n + suc m) ≡ has (numbers_where test (n + 1) xs) (n + suc m)
    go true = λ i. ne_eqb n (n + suc m) (λ e. absurd (omega (arith, e))) i || has (numbers_where test (n + 1) xs) (n + suc m)
    go false = refl

pub numbered : {A : Type 0} (test : A → Bool) (default : A) (m : ℕ) (xs : List A) → test default ≡ false → has (numbers_where test 0 xs) m ≡ test (found_or default (slice_get xs m))
numbered test default m xs none = ap (has (numbers_where test 0 xs)) (let e : m ≡ 0 + m = omega arith in e) ∙ numbered-from test default 0 m xs none
