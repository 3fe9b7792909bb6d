-- What a queue holds of a state's processes has the state's next turn (IEEE 1364-2001, clauses 5.3 and 5.4).
use Rattle.std.specs.Prelude.{◌≡◌, ℕ, zero, suc, ◌+◌, Bool, true, false, not, ◌||◌, List, [], ◌∷◌, ◌++◌, map, filter, Option, Some, None, refl, slice_get, nat_le, if◌then◌else◌}
use Rattle.std.proofs.Common.{ap, sym, ◌∙◌}
use Rattle.vf_base.specs.Lists.{change_at}
use Rattle.v_design.specs.Assignments.{ValueUpdate}
use Rattle.v_design.specs.Processes as process
use Rattle.v_design.specs.Processes.{Activity}
use Rattle.v_design.specs.States as state
use Rattle.v_design.specs.States.{State, ProcessState, LaterUpdate, TurnKind, PostponedTurn, UpdatesTurn, TimeTurn, turn_of, turned, turn_by, some_in, is_due, next_time_of, least_of, due_time}
use Rattle.v_design.specs.States.{found_or, idle_process, process_at}
use Rattle.event_queue.specs.declared.held.Holding.TheVariants.{Asleep}
use Rattle.event_queue.specs.Queues.{HeldProcess, TurnRegion, holding_of, held_of, held_at, is_postponed, wakes_by, wake_time, next_time, next_turn, region_of, next_region, held_after_turn}
use Rattle.event_queue.specs.Queues.{held_after, without_due, free_if, number_if, numbers_where, lane_if, lanes_from, updates_due}

-- What a turn activates in a state

-- whether a process sleeps until a time that has come
abbrev pub is_awake_by : ℕ → Activity → Bool
is_awake_by now (process.Ready tasks operands) = false
is_awake_by now (process.Waiting place entries tasks) = false
is_awake_by now (process.Asleep time tasks) = nat_le time now
is_awake_by now (process.Postponed tasks) = false
is_awake_by now process.Done = false

-- what a turn activates in a state: the processes that it makes ready, and what it adds to their lanes
abbrev pub region_in : TurnKind → State → TurnRegion
region_in PostponedTurn now =
    record { time = now.time; processes = numbers_where (λ (p : ProcessState). state.is_postponed p.activity) 0 now.processes; lanes = [] }
region_in UpdatesTurn now =
    record { time = now.time; processes = []; lanes = lanes_from (λ (p : ProcessState). updates_due now.time p.later) 0 now.processes }
region_in (TimeTurn time) now =
    record { time = time; processes = numbers_where (λ (p : ProcessState). is_awake_by time p.activity) 0 now.processes; lanes = [] }

-- what a turn activates, if there is one
abbrev pub region_if : Option TurnKind → State → Option TurnRegion
region_if None now = None
region_if (Some turn) now = Some (region_in turn now)

-- Lists

-- a test of the images
some_in-map : {A B : Type 0} (f : A → B) (p : B → Bool) (q : A → Bool) → ((x : A) → p (f x) ≡ q x) → (xs : List A) → some_in p (map f xs) ≡ some_in q xs
some_in-map f p q same [] = refl
some_in-map f p q same (x ∷ xs) = ap (λ b. b || some_in p (map f xs)) (same x) ∙ ap (λ b. q x || b) (some_in-map f p q same xs)

-- the numbers of the images
numbers_where-map : {A B : Type 0} (f : A → B) (p : B → Bool) (q : A → Bool) → ((x : A) → p (f x) ≡ q x) → (n : ℕ) (xs : List A) → numbers_where p n (map f xs) ≡ numbers_where q n xs
numbers_where-map f p q same n [] = refl
numbers_where-map f p q same n (x ∷ xs) =
    ap (λ b. number_if b n (numbers_where p (n + 1) (map f xs))) (same x) ∙ ap (number_if (q x) n) (numbers_where-map f p q same (n + 1) xs)

-- the lanes of the images
lanes_from-map : {A B : Type 0} (f : A → B) (lane : B → List ValueUpdate) (n : ℕ) (xs : List A) → lanes_from lane n (map f xs) ≡ lanes_from (λ x. lane (f x)) n xs
lanes_from-map f lane n [] = refl
lanes_from-map f lane n (x ∷ xs) = ap (lane_if n (lane (f x))) (lanes_from-map f lane (n + 1) xs)

-- a change of the images
map-map : {A B C : Type 0} (f : A → B) (g : B → C) (h : A → C) → ((x : A) → g (f x) ≡ h x) → (xs : List A) → map g (map f xs) ≡ map h xs
map-map f g h same [] = refl
map-map f g h same (x ∷ xs) = ap (λ y. y ∷ map g (map f xs)) (same x) ∙ ap (λ ys. h x ∷ ys) (map-map f g h same xs)

-- Processes

-- a process is postponed where it is held so
is_postponed-holding : (a : Activity) → is_postponed (holding_of a) ≡ state.is_postponed a
is_postponed-holding (process.Ready tasks operands) = refl
is_postponed-holding (process.Waiting place entries tasks) = refl
is_postponed-holding (process.Asleep time tasks) = refl
is_postponed-holding (process.Postponed tasks) = refl
is_postponed-holding process.Done = refl

-- a process wakes where it is held so
wakes_by-holding : (now : ℕ) (a : Activity) → wakes_by now (holding_of a) ≡ is_awake_by now a
wakes_by-holding now (process.Ready tasks operands) = refl
wakes_by-holding now (process.Waiting place entries tasks) = refl
wakes_by-holding now (process.Asleep time tasks) = refl
wakes_by-holding now (process.Postponed tasks) = refl
wakes_by-holding now process.Done = refl

-- and when it is held to
wake_time-holding : (a : Activity) → wake_time (holding_of a) ≡ state.wake_time a
wake_time-holding (process.Ready tasks operands) = refl
wake_time-holding (process.Waiting place entries tasks) = refl
wake_time-holding (process.Asleep time tasks) = refl
wake_time-holding (process.Postponed tasks) = refl
wake_time-holding process.Done = refl

-- the least time is the state's
next_time-held : (processes : List ProcessState) → next_time (map held_of processes) ≡ next_time_of processes
next_time-held [] = refl
next_time-held (p ∷ processes) =
    ap (λ wake. least_of (least_of wake (due_time p.later)) (next_time (map held_of processes))) (wake_time-holding p.activity)
    ∙ ap (least_of (least_of (state.wake_time p.activity) (due_time p.later))) (next_time-held processes)

-- The turn

-- the next turn of what is held of a state's processes is the state's
pub next_turn-held : (now : State) → next_turn now.time (map held_of now.processes) ≡ turn_of now
next_turn-held now =
    ap (λ b. turn_by b (some_in (λ (h : HeldProcess). some_in (is_due now.time) h.later) (map held_of now.processes)) (next_time (map held_of now.processes)))
    (some_in-map held_of (λ (h : HeldProcess). is_postponed h.holding) (λ (p : ProcessState). state.is_postponed p.activity) (λ p. is_postponed-holding p.activity) now.processes)
    ∙ (ap (λ b. turn_by (some_in (λ (p : ProcessState). state.is_postponed p.activity) now.processes) b (next_time (map held_of now.processes)))
    (some_in-map held_of (λ (h : HeldProcess). some_in (is_due now.time) h.later) (λ (p : ProcessState). some_in (is_due now.time) p.later) (λ p. refl) now.processes)
    ∙ ap (turn_by (some_in (λ (p : ProcessState). state.is_postponed p.activity) now.processes) (some_in (λ (p : ProcessState). some_in (is_due now.time) p.later) now.processes))
    (next_time-held now.processes))

-- what it activates is what the state's turn activates
region_of-held : (turn : Option TurnKind) (now : State) → region_of now.time turn (map held_of now.processes) ≡ region_if turn now
region_of-held None now = refl
region_of-held (Some PostponedTurn) now =
    ap (λ ns. Some (record { time = now.time; processes = ns; lanes = [] }))
    (numbers_where-map held_of (λ (h : HeldProcess). is_postponed h.holding) (λ (p : ProcessState). state.is_postponed p.activity) (λ p. is_postponed-holding p.activity) 0 now.processes)
region_of-held (Some UpdatesTurn) now =
    ap (λ ls. Some (record { time = now.time; processes = []; lanes = ls })) (lanes_from-map held_of (λ (h : HeldProcess). updates_due now.time h.later) 0 now.processes)
region_of-held (Some (TimeTurn time)) now =
    ap (λ ns. Some (record { time = time; processes = ns; lanes = [] }))
    (numbers_where-map held_of (λ (h : HeldProcess). wakes_by time h.holding) (λ (p : ProcessState). is_awake_by time p.activity) (λ p. wakes_by-holding time p.activity) 0 now.processes)

pub next_region-held : (now : State) → next_region now.time (map held_of now.processes) ≡ region_if (turn_of now) now
next_region-held now = ap (λ turn. region_of now.time turn (map held_of now.processes)) (next_turn-held now) ∙ region_of-held (turn_of now) now

-- What is left

-- a postponed process is let go of where it becomes ready
resumed-held : (later : List LaterUpdate) (lane : List ValueUpdate) (a : Activity)
    → free_if (is_postponed (holding_of a)) (record { holding = holding_of a; later = later }) ≡ held_of (record { activity = state.resumed a; later = later; lane = lane })
resumed-held later lane (process.Ready tasks operands) = refl
resumed-held later lane (process.Waiting place entries tasks) = refl
resumed-held later lane (process.Asleep time tasks) = refl
resumed-held later lane (process.Postponed tasks) = refl
resumed-held later lane process.Done = refl

-- a sleeper is let go of where it becomes ready
awake-held : (now : ℕ) (later : List LaterUpdate) (lane : List ValueUpdate) (a : Activity)
    → free_if (wakes_by now (holding_of a)) (record { holding = holding_of a; later = later }) ≡ held_of (record { activity = state.awake_at now a; later = later; lane = lane })
awake-held now later lane (process.Ready tasks operands) = refl
awake-held now later lane (process.Waiting place entries tasks) = refl
awake-held now later lane (process.Asleep time tasks) = by_test (nat_le time now)
  where
    by_test : (b : Bool) → free_if b (record { holding = Asleep time; later = later })
        ≡ held_of (record { activity = (if b then process.Ready tasks [] else process.Asleep time tasks); later = later; lane = lane })
    by_test true = refl
    by_test false = refl
awake-held now later lane (process.Postponed tasks) = refl
awake-held now later lane process.Done = refl

-- what is held after a turn is held of the state after it
turned-held : (turn : TurnKind) (now : State) → held_after_turn now.time (Some turn) (map held_of now.processes) ≡ map held_of (turned turn now).processes
turned-held PostponedTurn now =
    map-map held_of (λ (h : HeldProcess). free_if (is_postponed h.holding) h) (λ (p : ProcessState). held_of (record p { activity = state.resumed p.activity }))
    (λ p. resumed-held p.later p.lane p.activity) now.processes
    ∙ sym (map-map (λ (p : ProcessState). record p { activity = state.resumed p.activity }) held_of (λ (p : ProcessState). held_of (record p { activity = state.resumed p.activity }))
    (λ p. refl) now.processes)
turned-held UpdatesTurn now =
    map-map held_of (without_due now.time) (λ (p : ProcessState). without_due now.time (held_of p)) (λ p. refl) now.processes
    ∙ sym (map-map
    (λ (p : ProcessState). record p {
      later = filter (λ later. not (is_due now.time later)) p.later;
      lane = p.lane ++ map (λ (later : LaterUpdate). later.update) (filter (is_due now.time) p.later);
    })
    held_of (λ (p : ProcessState). without_due now.time (held_of p)) (λ p. refl) now.processes)
turned-held (TimeTurn time) now =
    map-map held_of (λ (h : HeldProcess). free_if (wakes_by time h.holding) h) (λ (p : ProcessState). held_of (record p { activity = state.awake_at time p.activity }))
    (λ p. awake-held time p.later p.lane p.activity) now.processes
    ∙ sym (map-map (λ (p : ProcessState). record p { activity = state.awake_at time p.activity }) held_of (λ (p : ProcessState). held_of (record p { activity = state.awake_at time p.activity }))
    (λ p. refl) now.processes)

pub held_after-held : (now : State) (turn : TurnKind) → turn_of now ≡ Some turn → held_after now.time (map held_of now.processes) ≡ map held_of (turned turn now).processes
held_after-held now turn next =
    ap (λ t. held_after_turn now.time t (map held_of now.processes)) (next_turn-held now ∙ next) ∙ turned-held turn now

-- Changes of one process

-- what is held of a process of the state
pub held_at-held : (processes : List ProcessState) (number : ℕ) → held_at (map held_of processes) number ≡ held_of (found_or idle_process (slice_get processes number))
held_at-held [] number = refl
held_at-held (p ∷ processes) zero = refl
held_at-held (p ∷ processes) (suc number) = held_at-held processes number

-- a change of one process, as what is held sees it
pub change_at-held : (change : ProcessState → ProcessState) (hold : HeldProcess → HeldProcess) (processes : List ProcessState) (number : ℕ)
    → hold (held_of (found_or idle_process (slice_get processes number))) ≡ held_of (change (found_or idle_process (slice_get processes number)))
    → change_at (map held_of processes) number hold ≡ map held_of (change_at processes number change)
change_at-held change hold [] number same = refl
change_at-held change hold (p ∷ processes) zero same = ap (λ h. h ∷ map held_of processes) same
change_at-held change hold (p ∷ processes) (suc number) same = ap (λ hs. held_of p ∷ hs) (change_at-held change hold processes number same)
