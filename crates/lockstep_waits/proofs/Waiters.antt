-- The objects on which a process waits are awaited ones, and these are the ones with waiters.
use Rattle.std.proofs.Common.{◌≡◌, ℕ, zero, suc, ◌+◌, List, [], ◌∷◌, ◌++◌, Bool, true, false, ◌||◌, refl, ap, ◌∙◌}
use Rattle.std.specs.Prelude.{nat_eq, slice_get}
use Rattle.std.specs.List.{list_any}
use Rattle.std.proofs.lemmas.Bool.{eq-eqb, or_left, or_right}
use Rattle.vf_base.specs.Lists.{has, AllHold}
use Rattle.v_design.specs.Trees.{Entry, Null}
use Rattle.v_design.specs.Designs.{FlatProcess, FlatDesign, Machine}
use Rattle.v_design.specs.Processes.{Activity, Ready, Waiting, Asleep, Postponed, Done}
use Rattle.v_design.specs.States.{State, found_or, process_at, source_at, is_any, activity_step, step_of}
use Rattle.v_design.specs.Accesses.{waiting_entries}
use Rattle.wait_index.specs.Waits.{entry_objects, waited_objects, before_if, waiters_from, waiters_of, tasks_waits, activity_waits, WaitsAreOfBodies}
use Rattle.wait_index.specs.WaitLaws.{step-waits}
use Rattle.lockstep_waits.specs.Awaited.{is_awaited}

-- a process may wait on an object
abbrev pub IsAwaited : FlatDesign → ℕ → Type 0
IsAwaited design object = is_awaited design object ≡ true

-- an object of a body is awaited
some-body : (object : ℕ) (processes : List FlatProcess) (number : ℕ) →
    has (waited_objects (found_or (record { always = false; body = Null; place = record { line = 0; column = 0 } }) (slice_get processes number)).body) object ≡ true →
    list_any (λ (process : FlatProcess). has (waited_objects process.body) object) processes ≡ true
some-body object [] number h = cc
some-body object (process ∷ processes) zero h =
    or_left (has (waited_objects process.body) object) (list_any (λ (process : FlatProcess). has (waited_objects process.body) object) processes) h
some-body object (process ∷ processes) (suc number) h =
    or_right (has (waited_objects process.body) object) (list_any (λ (process : FlatProcess). has (waited_objects process.body) object) processes) (some-body object processes number h)

of-body : (machine : Machine) (number object : ℕ) → has (waited_objects (source_at machine number).body) object ≡ true → IsAwaited machine.design object
of-body machine number object h = some-body object machine.design.processes number h

all-has : (P : ℕ → Type 0) (xs : List ℕ) → ((x : ℕ) → has xs x ≡ true → P x) → AllHold P xs
all-has P [] h = tt
all-has P (x ∷ xs) h = (h x (or_left (nat_eq x x) (has xs x) (eq-eqb x x refl)), all-has P xs (λ y i. h y (or_right (nat_eq x y) (has xs y) i)))

weaker : (P Q : ℕ → Type 0) (xs : List ℕ) → ((x : ℕ) → P x → Q x) → AllHold P xs → AllHold Q xs
weaker P Q [] keep h = tt
weaker P Q (x ∷ xs) keep h = (keep x h.0, weaker P Q xs keep h.1)

-- what a process waits on, and may wait on yet
state-awaited : (machine : Machine) (state : State) (number : ℕ) → WaitsAreOfBodies machine state → AllHold (IsAwaited machine.design) (activity_waits (process_at state number).activity)
state-awaited machine state number h =
    weaker (λ object. has (waited_objects (source_at machine number).body) object ≡ true) (IsAwaited machine.design) (activity_waits (process_at state number).activity)
    (of-body machine number) (h number)

step-awaited : (machine : Machine) (state : State) (number : ℕ) (activity : Activity) → AllHold (IsAwaited machine.design) (activity_waits activity) →
    AllHold (IsAwaited machine.design) (activity_waits (activity_step machine state number activity).next)
step-awaited machine state number (Ready tasks operands) h =
    step-waits (IsAwaited machine.design) (source_at machine number) state.time tasks operands
    (all-has (IsAwaited machine.design) (waited_objects (source_at machine number).body) (of-body machine number)) h
step-awaited machine state number (Waiting place entries tasks) h = h
step-awaited machine state number (Asleep time tasks) h = h
step-awaited machine state number (Postponed tasks) h = h
step-awaited machine state number Done h = h

-- an entry's object is
abbrev pub IsOnAwaited : FlatDesign → Entry → Type 0
IsOnAwaited design entry = IsAwaited design entry.object

of-objects : (design : FlatDesign) (entries : List Entry) (rest : List ℕ) → AllHold (IsAwaited design) (entry_objects entries ++ rest) → AllHold (IsOnAwaited design) entries
of-objects design [] rest h = tt
of-objects design (entry ∷ entries) rest h = (h.0, of-objects design entries rest h.1)

entries-awaited : (design : FlatDesign) (activity : Activity) → AllHold (IsAwaited design) (activity_waits activity) → AllHold (IsOnAwaited design) (waiting_entries activity)
entries-awaited design (Ready tasks operands) h = tt
entries-awaited design (Waiting place entries tasks) h = of-objects design entries (tasks_waits tasks) h
entries-awaited design (Asleep time tasks) h = tt
entries-awaited design (Postponed tasks) h = tt
entries-awaited design Done h = tt

-- the entries of a process's wait, and of one that its step begins
pub waits-awaited : (machine : Machine) (state : State) (number : ℕ) → WaitsAreOfBodies machine state → AllHold (IsOnAwaited machine.design) (waiting_entries (process_at state number).activity)
waits-awaited machine state number h = entries-awaited machine.design (process_at state number).activity (state-awaited machine state number h)

pub begun-awaited : (machine : Machine) (state : State) (number : ℕ) → WaitsAreOfBodies machine state → AllHold (IsOnAwaited machine.design) (waiting_entries (step_of machine state number).next)
begun-awaited machine state number h =
    entries-awaited machine.design (step_of machine state number).next (step-awaited machine state number (process_at state number).activity (state-awaited machine state number h))

-- Waiters

any-before_if : (b : Bool) (number : ℕ) (rest : List ℕ) → is_any (before_if b number rest) ≡ (b || is_any rest)
any-before_if true number rest = refl
any-before_if false number rest = refl

any-waiters : (object number : ℕ) (processes : List FlatProcess) →
    is_any (waiters_from object number processes) ≡ list_any (λ (process : FlatProcess). has (waited_objects process.body) object) processes
any-waiters object number [] = refl
any-waiters object number (process ∷ processes) =
    any-before_if (has (waited_objects process.body) object) number (waiters_from object (number + 1) processes)
    ∙ ap (λ b. has (waited_objects process.body) object || b) (any-waiters object (number + 1) processes)

-- an object is awaited where it has waiters
pub any-waiter : (design : FlatDesign) (object : ℕ) → is_any (waiters_of design object) ≡ is_awaited design object
any-waiter design object = any-waiters object 0 design.processes
