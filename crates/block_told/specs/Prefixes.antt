-- What holds of events holds of them with more behind (nothing of the language).
use Rattle.std.proofs.Common.{◌≡◌, ℕ, zero, suc, ◌+◌, ◌≤◌, List, [], ◌∷◌, ◌++◌, length, map, take, Bool, true, false, ◌||◌}
use Rattle.std.proofs.Common.{◌&&◌, refl, sym, ap, ◌∙◌, arith, append_assoc, append-nil}
use Rattle.std.proofs.lemmas.List.{map-append}
use Rattle.vf_base.specs.Lists.{AllHold, joined}
use Rattle.v_design.specs.Designs.{Machine}
use Rattle.v_design.specs.States.{State, Event, Step, LaneStep, after, process_at, is_ready, some_in}
use Rattle.v_design.specs.Runs.{happened}
use Rattle.v_design.specs.Accesses.{ObjectAccess, is_waiting}
use Rattle.v_design.specs.Logs.{LoggedEvent}
use Rattle.v_design.specs.PhaseLogs.{is_step_of, is_lane_of, may_cause, note_of, noted_events, logged, log_of}
use Rattle.machine_laws.specs.SlotLoop.{NotesGoOn}
use Rattle.copy_laws.specs.Beside.{AreFirst}
use Rattle.block_filter.specs.Blocks.{all_accesses, may_cause_later}
use Rattle.block_told.specs.Blocks.{in_run, in_run_after, in_run_from}

-- events of the first order, and more from the state behind them
pub first-append : (machine : Machine) (state : State) (us ws : List Event) → AreFirst machine state us → AreFirst machine (happened machine state us) ws → AreFirst machine state (us ++ ws)
first-append machine state [] ws one other = other
first-append machine state (u ∷ us) ws one other = (one.0, first-append machine (after machine state u) us ws one.1 other)

pub all-append : {A : Type 0} (P : A → Type 0) (us ws : List A) → AllHold P us → AllHold P ws → AllHold P (us ++ ws)
all-append P [] ws one other = other
all-append P (u ∷ us) ws one other = (one.0, all-append P us ws one.1 other)

-- a prefix of some events with more behind
pub take-left : {A : Type 0} (count : ℕ) (us ws : List A) → count ≤ length us → take count (us ++ ws) ≡ take count us
take-left zero [] ws low = refl
take-left zero (u ∷ us) ws low = refl
take-left (suc count) [] ws low = absurd (omega (arith, low))
take-left (suc count) (u ∷ us) ws low = ap (λ l. u ∷ l) (take-left count us ws (omega (arith, low)))

pub take-right : {A : Type 0} (count : ℕ) (us ws : List A) → take (length us + count) (us ++ ws) ≡ us ++ take count ws
take-right count [] ws = let e : 0 + count ≡ count = omega arith in ap (λ n. take n ws) e
take-right count (u ∷ us) ws =
    let e : length (u ∷ us) + count ≡ suc (length us + count) = omega arith in
    ap (λ n. take n ((u ∷ us) ++ ws)) e ∙ ap (λ l. u ∷ l) (take-right count us ws)

pub take-whole : {A : Type 0} (us : List A) → take (length us) us ≡ us
take-whole [] = refl
take-whole (u ∷ us) = ap (λ l. u ∷ l) (take-whole us)

pub length-append : {A : Type 0} (us ws : List A) → length (us ++ ws) ≡ length us + length ws
length-append [] ws = let e : length ws ≡ 0 + length ws = omega arith in e
length-append (u ∷ us) ws = let r = length-append us ws in omega (arith, r)

-- who is in the midst of a run behind more events
pub in-run-append : (machine : Machine) (state : State) (us ws : List Event) (process : ℕ) (before : Bool) →
    in_run_from machine state (us ++ ws) process before ≡ in_run_from machine (happened machine state us) ws process (in_run_from machine state us process before)
in-run-append machine state [] ws process before = refl
in-run-append machine state (u ∷ us) ws process before = in-run-append machine (after machine state u) us ws process (in_run_after machine state u process before)

pub in-run-more : (machine : Machine) (state : State) (events : List Event) (event : Event) (process : ℕ) →
    in_run machine state (events ++ event ∷ []) process ≡ in_run_after machine (happened machine state events) event process (in_run machine state events process)
in-run-more machine state events event process = in-run-append machine state events (event ∷ []) process false

-- Causes

some_in-push : {A : Type 0} (test : A → Bool) (xs : List A) (x : A) → some_in test (xs ++ x ∷ []) ≡ (some_in test xs || test x)
some_in-push test [] x = elim (test x) as (λ b. (b || false) ≡ b) [ true ↦ refl | false ↦ refl ]
some_in-push test (y ∷ xs) x =
    let rest = some_in-push test xs x in
    elim (test y) as (λ b. (b || some_in test (xs ++ x ∷ [])) ≡ ((b || some_in test xs) || test x)) [ true ↦ refl | false ↦ rest ]

-- whether an event ends a process's wait
abbrev pub wait_ends : Machine → State → Event → ℕ → Bool
wait_ends machine state event process = is_waiting (process_at state process).activity && is_ready (process_at (after machine state event) process).activity

pub step-causes-more : NotesGoOn → (machine : Machine) (state : State) (events : List Event) (event : Event) (process : ℕ) →
    may_cause_later machine state (events ++ event ∷ []) (Step process)
    ≡ (may_cause_later machine state events (Step process) || (is_step_of process event || wait_ends machine (happened machine state events) event process))
step-causes-more law machine state events event process =
    ap (some_in (may_cause machine (Step process))) (law machine state events event)
    ∙ some_in-push (may_cause machine (Step process)) (noted_events machine state events) (note_of machine (noted_events machine state events) (happened machine state events) event)

pub lane-causes-more : NotesGoOn → (machine : Machine) (state : State) (events : List Event) (event : Event) (process : ℕ) →
    may_cause_later machine state (events ++ event ∷ []) (LaneStep process) ≡ (may_cause_later machine state events (LaneStep process) || is_lane_of process event)
lane-causes-more law machine state events event process =
    ap (some_in (may_cause machine (LaneStep process))) (law machine state events event)
    ∙ some_in-push (may_cause machine (LaneStep process)) (noted_events machine state events) (note_of machine (noted_events machine state events) (happened machine state events) event)

-- Accesses

joined-push : {A : Type 0} (xs : List (List A)) (x : List A) → joined (xs ++ x ∷ []) ≡ joined xs ++ x
joined-push [] x = append-nil x
joined-push (y ∷ xs) x = ap (λ l. y ++ l) (joined-push xs x) ∙ sym (append_assoc y (joined xs) x)

map-push : {A B : Type 0} (f : A → B) (xs : List A) (x : A) → map f (xs ++ x ∷ []) ≡ map f xs ++ f x ∷ []
map-push f xs x = map-append f xs (x ∷ [])

pub accesses-more : NotesGoOn → (machine : Machine) (state : State) (events : List Event) (event : Event) →
    all_accesses (log_of machine state (events ++ event ∷ []))
    ≡ all_accesses (log_of machine state events) ++ (logged machine (note_of machine (noted_events machine state events) (happened machine state events) event)).accesses
accesses-more law machine state events event =
    let noted = noted_events machine state events in
    let note = note_of machine noted (happened machine state events) event in
    let accesses : List LoggedEvent → List (List ObjectAccess) = map (λ (e : LoggedEvent). e.accesses) in
    ap joined (ap accesses (ap (map (logged machine)) (law machine state events event) ∙ map-push (logged machine) noted note)
    ∙ map-push (λ (e : LoggedEvent). e.accesses) (map (logged machine) noted) (logged machine note))
    ∙ joined-push (accesses (map (logged machine) noted)) (logged machine note).accesses
