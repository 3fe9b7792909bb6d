-- How a queue arranges what it holds: by process, and by time as the regions that are to come (nothing of the language).
use Rattle.std.specs.Prelude.{◌≡◌, ℕ, zero, suc, ◌<◌, ◌≤◌, Bool, true, false, not, List, [], ◌∷◌, ◌++◌, map, filter, Option, Some, None, nat_eq, nat_lt, cond}
use Rattle.std.specs.Option.{option_map, IsSome}
use Rattle.std.specs.List.{slice_index_or}
use Rattle.std.specs.List.Sorted.{IsPartitionPoint}
use Rattle.std.specs.Vec.{vec_len, vec_capacity}
use Rattle.std.specs.Ordering.{nat_cmp}
use Rattle.std.specs.BTreeMap.{BTreeMap, get}
use Rattle.vf_base.specs.Lists.{AllHold, change_at}
use Rattle.vf_base.specs.declared.ids.ProcId.{ProcId}
use Rattle.v_design.specs.declared.plan.Update.{Update}
use Rattle.v_design.specs.States.{LaterUpdate, some_in}
use Rattle.v_design.specs.Plain.{due_of, update_of}
use Rattle.v_design.specs.Assignments.{ValueUpdate}
use Rattle.vf_base.specs.Base.{process_number}
use Rattle.event_queue.specs.declared.held.Holding.{Holding}
use Rattle.event_queue.specs.declared.held.Holding.TheVariants.{Free, Asleep, Postponed}
use Rattle.event_queue.specs.declared.held.Held.{Held}
use Rattle.event_queue.specs.Queues.{HeldProcess, is_postponed, released, numbers_where, lanes_from}

-- what is held of a process
abbrev pub held_process : Held → HeldProcess
held_process held = record { holding = held.holding; later = map due_of held.later.items }

-- what is held of each process
abbrev pub held_by_process : List Held → List HeldProcess
held_by_process held = map held_process held

-- a number as that of a process
abbrev pub process_of : ℕ → ProcId
process_of number = record { 0 = number }

-- the processes that pass a test, ascending
abbrev pub processes_where : (Holding → Bool) → List HeldProcess → List ProcId
processes_where test held = map process_of (numbers_where (λ (h : HeldProcess). test h.holding) 0 held)

-- asleep until just this time
abbrev pub wakes_at : ℕ → Holding → Bool
wakes_at time Free = false
wakes_at time (Asleep wake) = nat_eq wake time
wakes_at time Postponed = false

-- due at just this time
abbrev pub is_at : ℕ → LaterUpdate → Bool
is_at time later = nat_eq later.time time

-- the updates of a list that are due at just this time
abbrev pub updates_at : ℕ → HeldProcess → List ValueUpdate
updates_at time held = map (λ (l : LaterUpdate). l.update) (filter (is_at time) held.later)

-- a process without the updates that are due at just this time
abbrev pub without_at : ℕ → HeldProcess → HeldProcess
without_at time held = record held { later = filter (λ later. not (is_at time later)) held.later }

-- a lane
abbrev pub lane_of : ProcId × List Update → ℕ × List ValueUpdate
lane_of lane = (process_number lane.0, map update_of lane.1)

-- a list that stands in a map only where it has elements
abbrev pub listed_in : {A : Type 0} → List A → Option (List A)
listed_in [] = None
listed_in (x ∷ xs) = Some (x ∷ xs)

-- what is held by time is what is held by process
pub record IsArranged (held : List HeldProcess) (postponed : List ProcId) (sleepers : BTreeMap ℕ (List ProcId)) (lanes : BTreeMap ℕ (List (ProcId × List Update))) : Type 0 where
  pub postponed_are : postponed ≡ processes_where is_postponed held
  pub sleepers_are : (time : ℕ) → get nat_cmp sleepers time ≡ listed_in (processes_where (wakes_at time) held)
  pub lanes_are : (time : ℕ) → option_map (map lane_of) (get nat_cmp lanes time) ≡ listed_in (lanes_from (updates_at time) 0 held)

-- the processes with some numbers are changed
abbrev pub changed_each : (HeldProcess → HeldProcess) → List ℕ → List HeldProcess → List HeldProcess
changed_each change [] held = held
changed_each change (number ∷ rest) held = changed_each change rest (change_at held number change)

-- Additions to the lists of a time

-- each number is below all later ones
abbrev pub Ascends : List ℕ → Type 0
Ascends [] = Unit {0}
Ascends (x ∷ xs) = AllHold (λ y. x < y) xs × Ascends xs

-- the number of a lane's process
abbrev pub lane_number : ProcId × List Update → ℕ
lane_number lane = lane.0.0

-- a process put before another list or behind its first
abbrev pub process_before : Bool → ProcId → ProcId → List ProcId → List ProcId → List ProcId
process_before true process first rest more = first ∷ more
process_before false process first rest more = process ∷ first ∷ rest

-- the list with one more process, before the first that isn't below it
abbrev pub with_process : ProcId → List ProcId → List ProcId
with_process process [] = process ∷ []
with_process process (first ∷ rest) = process_before (nat_lt first.0 process.0) process first rest (with_process process rest)

-- an update put into the first lane, before it, or behind it
abbrev pub update_before : Bool → Bool → ProcId → Update → ProcId × List Update → List (ProcId × List Update) → List (ProcId × List Update) → List (ProcId × List Update)
update_before true here process update first rest more = first ∷ more
update_before false true process update first rest more = (first.0, first.1 ++ update ∷ []) ∷ rest
update_before false false process update first rest more = (process, update ∷ []) ∷ first ∷ rest

-- the lanes with one more update of a process, at the end of its lane
abbrev pub with_update : ProcId → Update → List (ProcId × List Update) → List (ProcId × List Update)
with_update process update [] = (process, update ∷ []) ∷ []
with_update process update (first ∷ rest) =
    update_before (nat_lt first.0.0 process.0) (nat_eq first.0.0 process.0) process update first rest (with_update process update rest)

-- the list that a map has, which is empty where it has none
abbrev pub list_or_none : {A : Type 0} → Option (List A) → List A
list_or_none None = []
list_or_none (Some xs) = xs

-- a map has another list at a time, and what it had at all others
abbrev pub ListsAt : {A : Type 0} → ℕ → List A → BTreeMap ℕ (List A) → BTreeMap ℕ (List A) → Type 0
ListsAt time list old new = (t : ℕ) → get nat_cmp new t ≡ cond (nat_eq time t) (Some list) (get nat_cmp old t)

-- a map has what it had
abbrev pub ListsAsBefore : {A : Type 0} → BTreeMap ℕ (List A) → BTreeMap ℕ (List A) → Type 0
ListsAsBefore old new = (t : ℕ) → get nat_cmp new t ≡ get nat_cmp old t

-- the lane at a place with one more update, or a new lane before the place where it is another process's
abbrev pub update_at : ℕ → ProcId → Update → List (ProcId × List Update) → List (ProcId × List Update)
update_at place process update [] = (process, update ∷ []) ∷ []
update_at zero process update (first ∷ rest) = update_before false (nat_eq first.0.0 process.0) process update first rest []
update_at (suc place) process update (first ∷ rest) = first ∷ update_at place process update rest

-- there is room for one more update of a process
abbrev pub HasRoom : List Held → ℕ → Type 0
HasRoom held number = (d : Held) → vec_len (slice_index_or held number d).later < vec_capacity (slice_index_or held number d).later

-- the least time at which a map has something
abbrev pub IsFirstTime : {A : Type 0} → BTreeMap ℕ A → Option ℕ → Type 0
IsFirstTime map None = (t : ℕ) → get nat_cmp map t ≡ None
IsFirstTime map (Some first) = IsSome (get nat_cmp map first) × ((t : ℕ) → IsSome (get nat_cmp map t) → first ≤ t)

-- the postponed processes are taken, if there are any
abbrev pub TakesPostponed : List HeldProcess → Option (List ProcId) → List HeldProcess → Type 0
TakesPostponed old None new = (some_in (λ (h : HeldProcess). is_postponed h.holding) old ≡ false) × (new ≡ old)
TakesPostponed old (Some processes) new =
    (some_in (λ (h : HeldProcess). is_postponed h.holding) old ≡ true) × (processes ≡ processes_where is_postponed old) × (new ≡ released is_postponed old)

-- the lanes of a time are taken, if there are any
abbrev pub TakesLanes : ℕ → List HeldProcess → Option (List (ProcId × List Update)) → List HeldProcess → Type 0
TakesLanes time old None new = (some_in (λ (h : HeldProcess). some_in (is_at time) h.later) old ≡ false) × (new ≡ old)
TakesLanes time old (Some lanes) new =
    (some_in (λ (h : HeldProcess). some_in (is_at time) h.later) old ≡ true) × (map lane_of lanes ≡ lanes_from (updates_at time) 0 old)
    × (new ≡ map (without_at time) old)

-- Removals from the lists of a time

-- the place of a number in a list that ascends by numbers: that of the first that isn't below it
abbrev pub IsPlaceOf : {A : Type 0} → (A → ℕ) → ℕ → List A → ℕ → Type 0
IsPlaceOf f number xs place = IsPartitionPoint (λ y. nat_lt (f y) number ≡ true) (λ y. nat_lt (f y) number ≡ false) xs place

-- a list without a process
abbrev pub without_process : ProcId → List ProcId → List ProcId
without_process process processes = filter (λ (other : ProcId). not (nat_eq other.0 process.0)) processes

-- lanes without that of a process
abbrev pub without_lane : ProcId → List (ProcId × List Update) → List (ProcId × List Update)
without_lane process lanes = filter (λ (lane : ProcId × List Update). not (nat_eq lane.0.0 process.0)) lanes

-- the list that a map has at a time is changed, and it has what it had at all others
abbrev pub ChangesAt : {A : Type 0} → ℕ → (List A → List A) → BTreeMap ℕ (List A) → BTreeMap ℕ (List A) → Type 0
ChangesAt time change old new = (t : ℕ) → get nat_cmp new t ≡ cond (nat_eq time t) (option_map change (get nat_cmp old t)) (get nat_cmp old t)

-- the same, and the time has no list where it is empty then
abbrev pub RemovesAt : {A : Type 0} → ℕ → (List A → List A) → BTreeMap ℕ (List A) → BTreeMap ℕ (List A) → Type 0
RemovesAt time change old new = (t : ℕ) → get nat_cmp new t ≡ cond (nat_eq time t) (listed_in (change (list_or_none (get nat_cmp old t)))) (get nat_cmp old t)

-- the lanes of a process are gone at the times of some updates
abbrev pub RemovesLanes : ProcId → List LaterUpdate → BTreeMap ℕ (List (ProcId × List Update)) → BTreeMap ℕ (List (ProcId × List Update)) → Type 0
RemovesLanes process later old new =
    (t : ℕ) → get nat_cmp new t ≡ cond (some_in (is_at t) later) (listed_in (without_lane process (list_or_none (get nat_cmp old t)))) (get nat_cmp old t)
