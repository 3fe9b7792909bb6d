-- What is gathered event by event comes in ascending order of its moments (nothing of the language).
use Rattle.std.proofs.Common.{◌≡◌, ℕ, zero, suc, ◌+◌, ◌<◌, ◌≤◌, List, [], ◌∷◌, ◌++◌, map, length, get_or, sym, subst, arith}
use Rattle.std.specs.Prelude.{Option, Some, None}
use Rattle.std.specs.List.Sorted.{IsNonDecreasingBy}
use Rattle.v_design.specs.States.{Event}
use Rattle.v_design.specs.Accesses.{AccessAct, Reading, Writing, Awaiting, Ending, Holding, Settling, ObjectAccess}
use Rattle.window_index.specs.declared.occurrence.Occurrence.{Occurrence}
use Rattle.window_index.specs.Moments.{moment_of}
use Rattle.trace_window.specs.declared.change.Change.{Change}
use Rattle.trace_window.specs.Acted.{node_evaluated, process_stepped, occurrence_at, evaluations_from, steps_from}
use Rattle.trace_window.specs.Occurring.{occurrences_from}
use Rattle.trace_window.specs.Writes.{Written, written_of, write_before, writes_in, writes_from}
use Rattle.trace_window.specs.Touched.{touch_before, touches_in, touches_from}
use Rattle.trace_window.specs.Tables.{change_moment}

-- the numbers of some elements ascend, from one on
abbrev pub RisesBy : {A : Type 0} → (A → ℕ) → ℕ → List A → Type 0
RisesBy key least [] = Unit {0}
RisesBy key least (x ∷ xs) = (least ≤ key x) × RisesBy key (key x) xs

pub rises-weaken : {A : Type 0} (key : A → ℕ) (least more : ℕ) (xs : List A) → least ≤ more → RisesBy key more xs → RisesBy key least xs
rises-weaken key least more [] low h = tt
rises-weaken key least more (x ∷ xs) low h = (let first : more ≤ key x = h.0 in omega arith, h.1)

rises-first : {A : Type 0} (key : A → ℕ) (least : ℕ) (xs : List A) → RisesBy key least xs → (k : ℕ) (d : A) → k < length xs → least ≤ key (get_or xs k d)
rises-first key least [] h k d within = absurd (omega arith)
rises-first key least (x ∷ xs) h zero d within = h.0
rises-first key least (x ∷ xs) h (suc k) d within = let first : least ≤ key x = h.0 in let rest : key x ≤ key (get_or xs k d) = rises-first key (key x) xs h.1 k d (omega arith) in omega arith

pub rises-by : {A : Type 0} (key : A → ℕ) (least : ℕ) (xs : List A) → RisesBy key least xs → IsNonDecreasingBy key xs
rises-by key least [] h i j d order within = absurd (omega arith)
rises-by key least (x ∷ xs) h zero zero d order within = omega arith
rises-by key least (x ∷ xs) h zero (suc j) d order within = rises-first key (key x) xs h.1 j d (omega arith)
rises-by key least (x ∷ xs) h (suc i) zero d order within = absurd (omega arith)
rises-by key least (x ∷ xs) h (suc i) (suc j) d order within = rises-by key (key x) xs h.1 i j d (omega arith) (omega arith)

abbrev written_moment : Written → ℕ
written_moment write = write.moment

writes-rise : (number : ℕ) (accesses : List ObjectAccess) (rest : List Written) → RisesBy written_moment number rest → RisesBy written_moment number (writes_in number accesses ++ rest)
writes-rise number [] rest h = h
writes-rise number (access ∷ accesses) rest h = go access.act (writes-rise number accesses rest h)
  where
    go : (act : AccessAct) → RisesBy written_moment number (writes_in number accesses ++ rest) →
        RisesBy written_moment number (write_before number access.object act (writes_in number accesses) ++ rest)
    go Reading more = more
    go (Writing old new) more = (omega arith, more)
    go (Awaiting entry) more = more
    go (Ending entry) more = more
    go (Holding entry) more = more
    go Settling more = more

all-rise : (number : ℕ) (lists : List (List ObjectAccess)) → RisesBy written_moment number (writes_from number lists)
all-rise number [] = tt
all-rise number (accesses ∷ lists) =
    writes-rise number accesses (writes_from (number + 1) lists) (rises-weaken written_moment number (number + 1) (writes_from (number + 1) lists) (omega arith) (all-rise (number + 1) lists))

changes-rise : (least : ℕ) (changes : List Change) → RisesBy written_moment least (map written_of changes) → RisesBy change_moment least changes
changes-rise least [] h = tt
changes-rise least (c ∷ changes) h = (h.0, changes-rise c.moment changes h.1)

-- the changes of a window
pub changes-ascend : (changes : List Change) (lists : List (List ObjectAccess)) → map written_of changes ≡ writes_from 0 lists → IsNonDecreasingBy change_moment changes
changes-ascend changes lists are = rises-by change_moment 0 changes (changes-rise 0 changes (subst (λ l. RisesBy written_moment 0 l) (sym are) (all-rise 0 lists)))

touches-rise : (number : ℕ) (accesses : List ObjectAccess) (rest : List Occurrence) → RisesBy moment_of number rest → RisesBy moment_of number (touches_in number accesses ++ rest)
touches-rise number [] rest h = h
touches-rise number (access ∷ accesses) rest h = go access.act (touches-rise number accesses rest h)
  where
    go : (act : AccessAct) → RisesBy moment_of number (touches_in number accesses ++ rest) → RisesBy moment_of number (touch_before number access.object act (touches_in number accesses) ++ rest)
    go Reading more = (omega arith, more)
    go (Writing old new) more = (omega arith, more)
    go (Awaiting entry) more = more
    go (Ending entry) more = more
    go (Holding entry) more = more
    go Settling more = more

touched-rise : (number : ℕ) (lists : List (List ObjectAccess)) → RisesBy moment_of number (touches_from number lists)
touched-rise number [] = tt
touched-rise number (accesses ∷ lists) =
    touches-rise number accesses (touches_from (number + 1) lists) (rises-weaken moment_of number (number + 1) (touches_from (number + 1) lists) (omega arith) (touched-rise (number + 1) lists))

-- the touches of a window
pub all-touches-ascend : (lists : List (List ObjectAccess)) → IsNonDecreasingBy moment_of (touches_from 0 lists)
all-touches-ascend lists = rises-by moment_of 0 (touches_from 0 lists) (touched-rise 0 lists)

-- what occurs in some events in a row, each at its moment alone
number-rises : (number : ℕ) (own : Option ℕ) (rest : List Occurrence) → RisesBy moment_of number rest → RisesBy moment_of number (occurrence_at number own ++ rest)
number-rises number None rest h = h
number-rises number (Some other) rest h = (omega arith, h)

keyed-rise : (key : Event → Option ℕ) (number : ℕ) (events : List Event) → RisesBy moment_of number (occurrences_from (λ moment event. occurrence_at moment (key event)) number events)
keyed-rise key number [] = tt
keyed-rise key number (event ∷ events) =
    number-rises number (key event) (occurrences_from (λ moment one. occurrence_at moment (key one)) (number + 1) events)
    (rises-weaken moment_of number (number + 1) (occurrences_from (λ moment one. occurrence_at moment (key one)) (number + 1) events) (omega arith) (keyed-rise key (number + 1) events))

-- the evaluations of a window, and its steps
pub all-evaluations-ascend : (events : List Event) → IsNonDecreasingBy moment_of (evaluations_from 0 events)
all-evaluations-ascend events = rises-by moment_of 0 (evaluations_from 0 events) (keyed-rise node_evaluated 0 events)

pub all-steps-ascend : (events : List Event) → IsNonDecreasingBy moment_of (steps_from 0 events)
all-steps-ascend events = rises-by moment_of 0 (steps_from 0 events) (keyed-rise process_stepped 0 events)
