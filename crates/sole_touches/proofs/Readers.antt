-- An event that reads an object writes nothing.
use Rattle.std.proofs.Common.{length, arith, ◌≡◌, ℕ, List, [], ◌∷◌, ◌++◌, map, filter, Bool, true, false, ◌&&◌, ◌||◌, refl, sym, ap, subst, ◌∙◌, nat_eq}
use Rattle.std.specs.Prelude.{Option, Some, None, slice_get}
use Rattle.four_value.specs.Values.{LogicValue, same_value}
use Rattle.vf_base.specs.Lists.{has, joined, map_numbered, AllHold}
use Rattle.v_design.specs.Trees.{Entry}
use Rattle.v_design.specs.Paths.{net_pieces}
use Rattle.v_design.specs.Designs.{FlatNode, FlatDesign, Machine}
use Rattle.v_design.specs.Assignments.{ValueUpdate, value_at}
use Rattle.v_design.specs.Processes.{Action, ReadsObject, WritesObject, AppendsUpdate, TouchesNothing}
use Rattle.v_design.specs.States.{State, Event, Step, LaneStep, Evaluation, NetUpdate, after, step_of, process_at, some_entry, entry_matches, value_written}
use Rattle.v_design.specs.Accesses.{Reading, Writing, Awaiting, ObjectAccess, waiting_entries, waiting_line, without_first, ended_of, ended_by, update_accesses}
use Rattle.v_design.specs.Accesses.{action_accesses, lane_accesses, net_write, some_change_matches, net_ended_by, net_accesses, accesses_of}
use Rattle.v_design.specs.PhaseLogs.{NotedEvent, note_of}
use Rattle.trace_window.specs.Moments.{seen_from}
use Rattle.trace_window.specs.Touched.{touches, writes}
use Rattle.order_laws.proofs.PathLaws.{true-false}
use Rattle.race_laws.proofs.Lists.{both, mapped, joined-numbered}
use Rattle.block_filter.proofs.Entries.{entries, log_entries}
use Rattle.lockstep_waits.proofs.Texts.{joined-all}
use Rattle.sole_touches.specs.Unawaited.{is_read, reads_object, TouchesByWrites, WritesAloneTouch}
use Rattle.sole_touches.proofs.Counts.{entry_accesses}
use Rattle.sole_touches.proofs.Unawaited.{fails-second}

-- an access that reads no object
abbrev NoRead : ObjectAccess → Type 0
NoRead access = is_read access.act ≡ false

abbrev Unread : ℕ → ObjectAccess → Type 0
Unread object access = reads_object object access.object access.act ≡ false

unread : (object : ℕ) (access : ObjectAccess) → NoRead access → Unread object access
unread object access e = ap (λ b. nat_eq access.object object && b) e ∙ fails-second (nat_eq access.object object)

all-unread : (object : ℕ) (xs : List ObjectAccess) → AllHold NoRead xs → AllHold (Unread object) xs
all-unread object [] h = tt
all-unread object (x ∷ xs) h = (unread object x h.0, all-unread object xs h.1)

-- Accesses that read nothing

ended-reads : (b : Bool) (test : Entry → Bool) (p l : ℕ) (entries : List Entry) → AllHold NoRead (ended_of b test p l entries)
ended-reads false test p l entries = tt
ended-reads true test p l entries = mapped NoRead _ (without_first test entries) (λ entry. refl)

update-reads : (machine : Machine) (p l : ℕ) (u : ValueUpdate) (state : State) → AllHold NoRead (update_accesses machine p l u state)
update-reads machine p l u state =
    let old : LogicValue = value_at state.values u.object in
    let new : LogicValue = value_written machine state u in (
      refl,
      joined-numbered NoRead (ended_by u.object old new) 0 (length state.processes) state.processes (omega arith)
          (λ n waiting small. ended-reads (some_entry (entry_matches u.object old new) (waiting_entries waiting.activity)) (entry_matches u.object old new) n (waiting_line waiting.activity)
          (waiting_entries waiting.activity)),
    )

-- the accesses of a wait that begins
abbrev waits_begun : ℕ → ℕ → List Entry → List ObjectAccess
waits_begun p l entries = map (λ (entry : Entry). record { act = Awaiting entry; object = entry.object; process = p; line = l }) entries

await-reads : (p l : ℕ) (entries : List Entry) → AllHold NoRead (waits_begun p l entries)
await-reads p l entries = mapped NoRead _ entries (λ entry. refl)

net-reads : (w l : ℕ) (state next : State) (object : ℕ) → AllHold NoRead (net_write w l state next object)
net-reads w l state next object = go (same_value (value_at state.values object) (value_at next.values object))
  where
    go : (b : Bool) →
        AllHold NoRead
        (elim b [ true ↦ [] | false ↦ record { act = Writing (value_at state.values object) (value_at next.values object); object = object; process = w; line = l } ∷ [] ])
    go true = tt
    go false = (refl, tt)

nets-reads : (design : FlatDesign) (w l : ℕ) (found : Option FlatNode) (state next : State) → AllHold NoRead (net_accesses design w l found state next)
nets-reads design w l None state next = tt
nets-reads design w l (Some node) state next =
    both NoRead (joined (map (net_write w l state next) (filter (has node.outputs) (net_pieces design)))) (joined (map_numbered (net_ended_by state next node.outputs) 0 state.processes))
    (joined-all NoRead (net_write w l state next) (filter (has node.outputs) (net_pieces design)) (net-reads w l state next))
    (joined-numbered NoRead (net_ended_by state next node.outputs) 0 (length state.processes) state.processes (omega arith)
    (λ n old small. ended-reads (some_entry (some_change_matches state next node.outputs) (waiting_entries old.activity)) (some_change_matches state next node.outputs) n (waiting_line old.activity)
    (waiting_entries old.activity)))

lane-reads : (machine : Machine) (p : ℕ) (lane : List ValueUpdate) (state : State) → AllHold NoRead (lane_accesses machine p lane state)
lane-reads machine p [] state = tt
lane-reads machine p (first ∷ rest) state = update-reads machine p first.line first state

-- A read

awaits-write : (object p l : ℕ) (entries : List Entry) →
    writes object (waits_begun p l entries) ≡ false
awaits-write object p l [] = refl
awaits-write object p l (entry ∷ entries) = awaits-write object p l entries

-- the step reads an object, and then begins a wait at most
read-unread : (object other p l : ℕ) (entries : List Entry) → (touches object (record { act = Reading; object = other; process = p; line = l } ∷ waits_begun p l entries) ≡ true →
    writes object (record { act = Reading; object = other; process = p; line = l } ∷ waits_begun p l entries) ≡ true) → nat_eq other object ≡ false
read-unread object other p l entries by = go (nat_eq other object) by
  where
    go : (b : Bool) → ((b || touches object (waits_begun p l entries)) ≡ true → writes object (waits_begun p l entries) ≡ true) → b ≡ false
    go true writing = true-false (writes object (waits_begun p l entries)) (writing refl) (awaits-write object p l entries)
    go false writing = refl

step-unread : (machine : Machine) (object p l : ℕ) (action : Action) (entries : List Entry) (state : State) →
    (touches object (action_accesses machine p l action state ++ waits_begun p l entries) ≡ true →
    writes object (action_accesses machine p l action state ++ waits_begun p l entries) ≡ true) →
    AllHold (Unread object) (action_accesses machine p l action state ++ waits_begun p l entries)
step-unread machine object p l (ReadsObject other) entries state by =
    (ap (λ b. b && true) (read-unread object other p l entries by), all-unread object (waits_begun p l entries) (await-reads p l entries))
step-unread machine object p l (WritesObject u) entries state by =
    all-unread object (update_accesses machine p l u state ++ waits_begun p l entries)
    (both NoRead (update_accesses machine p l u state) (waits_begun p l entries) (update-reads machine p l u state) (await-reads p l entries))
step-unread machine object p l (AppendsUpdate delay u) entries state by = all-unread object (waits_begun p l entries) (await-reads p l entries)
step-unread machine object p l TouchesNothing entries state by = all-unread object (waits_begun p l entries) (await-reads p l entries)

event-unread : (machine : Machine) (object w l : ℕ) (state : State) (event : Event) → TouchesByWrites machine object (record { before = state; event = event }) →
    AllHold (Unread object) (accesses_of machine w l state event)
event-unread machine object w l state (Step p) by =
    step-unread machine object p (step_of machine state p).line (step_of machine state p).action (waiting_entries (step_of machine state p).next) state by
event-unread machine object w l state (LaneStep p) by = all-unread object (lane_accesses machine p (process_at state p).lane state) (lane-reads machine p (process_at state p).lane state)
event-unread machine object w l state (Evaluation node) by = tt
event-unread machine object w l state (NetUpdate node) by =
    all-unread object (net_accesses machine.design w l (slice_get machine.design.nodes node) state (after machine state (NetUpdate node)))
    (nets-reads machine.design w l (slice_get machine.design.nodes node) state (after machine state (NetUpdate node)))

entries-unread : (machine : Machine) (object : ℕ) (earlier : List NotedEvent) (state : State) (events : List Event) → AllHold (TouchesByWrites machine object) (seen_from machine state events) →
    AllHold (Unread object) (entry_accesses (entries machine earlier state events))
entries-unread machine object earlier state [] by = tt
entries-unread machine object earlier state (event ∷ events) by =
    let note : NotedEvent = note_of machine earlier state event in
    both (Unread object) (accesses_of machine note.process note.line state event) (entry_accesses (entries machine (earlier ++ note ∷ []) (after machine state event) events))
    (event-unread machine object note.process note.line state event by.0)
    (entries-unread machine object (earlier ++ note ∷ []) (after machine state event) events by.1)

pub writes_alone_touch : WritesAloneTouch
writes_alone_touch machine state events object by =
    subst (λ es. AllHold (Unread object) (entry_accesses es)) (sym (log_entries machine state events)) (entries-unread machine object [] state events by)
