-- What a queue of turns holds of each process, and the next turn (IEEE 1364-2001, clauses 5.3 and 5.4: inactive, nonblocking and future events).
use Rattle.std.specs.Prelude.{◌≡◌, ℕ, zero, suc, ◌+◌, ◌<◌, ◌≤◌, Bool, true, false, not, List, [], ◌∷◌, ◌++◌, map, filter, Option, Some, None, nat_le, slice_get}
use Rattle.vf_base.specs.Lists.{AllHold}
use Rattle.v_design.specs.Assignments.{ValueUpdate}
use Rattle.v_design.specs.Processes as process
use Rattle.v_design.specs.Processes.{Activity}
use Rattle.v_design.specs.States.{LaterUpdate, ProcessState, TurnKind, PostponedTurn, UpdatesTurn, TimeTurn, turn_by, is_due, some_in, due_time, least_of, found_or}
use Rattle.event_queue.specs.declared.held.Holding.{Holding}
use Rattle.event_queue.specs.declared.held.Holding.TheVariants.{Free, Asleep, Postponed}

-- what a queue holds of one process: whether it sleeps or is postponed, and its nonblocking updates in the order of their appends
pub record HeldProcess : Type 0 where
  pub holding : Holding
  pub later : List LaterUpdate

-- the part of a process's activity that a queue holds
abbrev pub holding_of : Activity → Holding
holding_of (process.Ready tasks operands) = Free
holding_of (process.Waiting place entries tasks) = Free
holding_of (process.Asleep time tasks) = Asleep time
holding_of (process.Postponed tasks) = Postponed
holding_of process.Done = Free

-- the part of a process's state that a queue holds
abbrev pub held_of : ProcessState → HeldProcess
held_of state = record { holding = holding_of state.activity; later = state.later }

-- a process of which nothing is held
abbrev pub nothing_held : HeldProcess
nothing_held = record { holding = Free; later = [] }

-- what is held of the process with a number
abbrev pub held_at : List HeldProcess → ℕ → HeldProcess
held_at held number = found_or nothing_held (slice_get held number)

-- n times the same
abbrev pub repeated : {A : Type 0} → A → ℕ → List A
repeated x zero = []
repeated x (suc n) = x ∷ repeated x n

-- Changes of one process

-- a process that is held so
abbrev pub with_holding : Holding → HeldProcess → HeldProcess
with_holding holding held = record held { holding = holding }

-- a process with one more nonblocking update
abbrev pub with_later : LaterUpdate → HeldProcess → HeldProcess
with_later later held = record held { later = held.later ++ later ∷ [] }

-- a process with more nonblocking updates
abbrev pub with_laters : List LaterUpdate → HeldProcess → HeldProcess
with_laters laters held = record held { later = held.later ++ laters }

-- a process with these nonblocking updates in the place of its own
abbrev pub with_updates : List LaterUpdate → HeldProcess → HeldProcess
with_updates later held = record held { later = later }

-- a process that is held so, with these nonblocking updates
abbrev pub held_with : Holding → List LaterUpdate → HeldProcess
held_with holding later = record { holding = holding; later = later }

-- Tests of one process

-- postponed by a delay of 0
abbrev pub is_postponed : Holding → Bool
is_postponed Free = false
is_postponed (Asleep time) = false
is_postponed Postponed = true

-- asleep until a time that has come
abbrev pub wakes_by : ℕ → Holding → Bool
wakes_by now Free = false
wakes_by now (Asleep time) = nat_le time now
wakes_by now Postponed = false

-- the time at which a process wakes
abbrev pub wake_time : Holding → Option ℕ
wake_time Free = None
wake_time (Asleep time) = Some time
wake_time Postponed = None

-- a process that sleeps wakes after a time
abbrev pub WakesAfter : ℕ → Holding → Type 0
WakesAfter now Free = Unit {0}
WakesAfter now (Asleep time) = now < time
WakesAfter now Postponed = Unit {0}

-- a process wakes after a time, and none of its updates is due before it
abbrev pub ComesAfter : ℕ → HeldProcess → Type 0
ComesAfter now held = WakesAfter now held.holding × AllHold (λ (later : LaterUpdate). now ≤ later.time) held.later

-- nothing is held of a process
abbrev pub HoldsNothing : HeldProcess → Type 0
HoldsNothing held = (held.holding ≡ Free) × (held.later ≡ [])

-- Turns

-- the least time at which a process wakes or an update is due
abbrev pub next_time : List HeldProcess → Option ℕ
next_time [] = None
next_time (held ∷ rest) = least_of (least_of (wake_time held.holding) (due_time held.later)) (next_time rest)

-- the next turn: the postponed processes, else the updates due now, else the least later time
abbrev pub next_turn : ℕ → List HeldProcess → Option TurnKind
next_turn now held =
    turn_by (some_in (λ (h : HeldProcess). is_postponed h.holding) held) (some_in (λ (h : HeldProcess). some_in (is_due now) h.later) held)
    (next_time held)

-- a process without the updates that are due
abbrev pub without_due : ℕ → HeldProcess → HeldProcess
without_due now held = record held { later = filter (λ later. not (is_due now later)) held.later }

-- a process that a test releases
abbrev pub free_if : Bool → HeldProcess → HeldProcess
free_if true held = with_holding Free held
free_if false held = held

-- each process that passes a test is released
abbrev pub released : (Holding → Bool) → List HeldProcess → List HeldProcess
released test held = map (λ (h : HeldProcess). free_if (test h.holding) h) held

-- what is held after a turn
abbrev pub held_after_turn : ℕ → Option TurnKind → List HeldProcess → List HeldProcess
held_after_turn now None held = held
held_after_turn now (Some PostponedTurn) held = released is_postponed held
held_after_turn now (Some UpdatesTurn) held = map (without_due now) held
held_after_turn now (Some (TimeTurn time)) held = released (wakes_by time) held

-- what is held after the next turn
abbrev pub held_after : ℕ → List HeldProcess → List HeldProcess
held_after now held = held_after_turn now (next_turn now held) held

-- Regions

-- what a turn activates: the present time, the processes that become ready, and the lanes of updates, each by process
pub record TurnRegion : Type 0 where
  pub time : ℕ
  pub processes : List ℕ
  pub lanes : List (ℕ × List ValueUpdate)

-- one more number, where a test holds
abbrev pub number_if : Bool → ℕ → List ℕ → List ℕ
number_if true number rest = number ∷ rest
number_if false number rest = rest

-- the numbers of the elements that pass a test, ascending, the first element having the number n
abbrev pub numbers_where : {A : Type 0} → (A → Bool) → ℕ → List A → List ℕ
numbers_where test n [] = []
numbers_where test n (x ∷ xs) = number_if (test x) n (numbers_where test (n + 1) xs)

-- one more lane, where it has updates
abbrev pub lane_if : ℕ → List ValueUpdate → List (ℕ × List ValueUpdate) → List (ℕ × List ValueUpdate)
lane_if number [] rest = rest
lane_if number (update ∷ updates) rest = (number, update ∷ updates) ∷ rest

-- the lanes of elements by their numbers, ascending, the first element having the number n
abbrev pub lanes_from : {A : Type 0} → (A → List ValueUpdate) → ℕ → List A → List (ℕ × List ValueUpdate)
lanes_from lane n [] = []
lanes_from lane n (x ∷ xs) = lane_if n (lane x) (lanes_from lane (n + 1) xs)

-- the updates of a list that are due, in order
abbrev pub updates_due : ℕ → List LaterUpdate → List ValueUpdate
updates_due now later = map (λ (l : LaterUpdate). l.update) (filter (is_due now) later)

-- what a turn activates
abbrev pub region_of : ℕ → Option TurnKind → List HeldProcess → Option TurnRegion
region_of now None held = None
region_of now (Some PostponedTurn) held =
    Some (record { time = now; processes = numbers_where (λ (h : HeldProcess). is_postponed h.holding) 0 held; lanes = [] })
region_of now (Some UpdatesTurn) held =
    Some (record { time = now; processes = []; lanes = lanes_from (λ (h : HeldProcess). updates_due now h.later) 0 held })
region_of now (Some (TimeTurn time)) held =
    Some (record { time = time; processes = numbers_where (λ (h : HeldProcess). wakes_by time h.holding) 0 held; lanes = [] })

-- what the next turn activates
abbrev pub next_region : ℕ → List HeldProcess → Option TurnRegion
next_region now held = region_of now (next_turn now held) held
