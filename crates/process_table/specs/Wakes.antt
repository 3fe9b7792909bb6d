-- The processes that some changes may make ready (IEEE 1364-2001, clause 9.7).
use Rattle.std.specs.Prelude.{◌≡◌, ℕ, zero, suc, ◌+◌, ◌≤◌, ◌<◌, true, List, [], ◌∷◌, ◌++◌, map, length, get_or, slice_get}
use Rattle.vf_base.specs.Lists.{has, AllHold, change_at, joined, map_numbered}
use Rattle.v_design.specs.States.{ProcessState, found_or, idle_process}
use Rattle.v_design.specs.Accesses.{ObjectAccess}
use Rattle.value_change.specs.Changes.{ObjectChange, woken_by, ended_by_changes}
use Rattle.event_queue.specs.Queues.{numbers_where, number_if}
use Rattle.process_table.specs.Tables.{TableState, process_in, is_woken}

-- a list of numbers that ascends, each once or more often
abbrev pub Climbs : List ℕ → Type 0
Climbs numbers = (low high : ℕ) → low ≤ high → high < length numbers → get_or numbers low 0 ≤ get_or numbers high 0

-- each process that some changes end the wait of is in a list
abbrev pub HasWoken : List ObjectChange → List ProcessState → List ℕ → Type 0
HasWoken changes processes numbers = (number : ℕ) → is_woken changes (found_or idle_process (slice_get processes number)) ≡ true → has numbers number ≡ true

-- each number in the list of the object of each of some changes is in a list
abbrev pub HasWaiters : List (List ℕ) → List ObjectChange → List ℕ → Type 0
HasWaiters index changes numbers = AllHold (λ (change : ObjectChange). (number : ℕ) → has (get_or index change.object []) number ≡ true → has numbers number ≡ true) changes

-- the elements below a number are changed
abbrev pub changed_below : {A : Type 0} → (A → A) → ℕ → List A → List A
changed_below change zero xs = xs
changed_below change (suc number) [] = []
changed_below change (suc number) (x ∷ xs) = change x ∷ changed_below change number xs

-- what the elements below a number give, the first element having the number n
abbrev pub listed_below : {A B : Type 0} → (ℕ → A → List B) → ℕ → ℕ → List A → List B
listed_below give n zero xs = []
listed_below give n (suc number) [] = []
listed_below give n (suc number) (x ∷ xs) = give n x ++ listed_below give (n + 1) number xs

-- the number of a process, if some changes end its wait
abbrev pub number_woken : List ObjectChange → ℕ → ProcessState → List ℕ
number_woken changes number process = number_if (is_woken changes process) number []

-- the processes below a number are made ready by some changes, and noted with the entries of their waits
pub record IsWokenBelow (changes : List ObjectChange) (old new : TableState) (entries_before entries_now : List ObjectAccess) (ended_before ended_now : List ℕ) (number : ℕ) : Type 0 where
  pub table : new ≡ record old { processes = changed_below (woken_by changes) number old.processes }
  pub entries : entries_now ≡ entries_before ++ listed_below (ended_by_changes changes) 0 number old.processes
  pub ended : ended_now ≡ ended_before ++ listed_below (number_woken changes) 0 number old.processes

-- the same of all processes
pub record IsWoken (changes : List ObjectChange) (old new : TableState) (entries_before entries_now : List ObjectAccess) (ended_before ended_now : List ℕ) : Type 0 where
  pub table : new ≡ record old { processes = map (woken_by changes) old.processes }
  pub entries : entries_now ≡ entries_before ++ joined (map_numbered (ended_by_changes changes) 0 old.processes)
  pub ended : ended_now ≡ ended_before ++ numbers_where (is_woken changes) 0 old.processes

-- and of one
pub record IsWokenAt (changes : List ObjectChange) (old new : TableState) (entries_before entries_now : List ObjectAccess) (ended_before ended_now : List ℕ) (number : ℕ) : Type 0 where
  pub table : new ≡ record old { processes = change_at old.processes number (woken_by changes) }
  pub entries : entries_now ≡ entries_before ++ ended_by_changes changes number (process_in old number)
  pub ended : ended_now ≡ ended_before ++ number_woken changes number (process_in old number)
