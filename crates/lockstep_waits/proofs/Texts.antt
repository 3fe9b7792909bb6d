-- The accesses of waits are of awaited objects.
use Rattle.std.proofs.Common.{ℕ, suc, List, [], ◌∷◌, map, filter, Bool, true, false, refl, sym, subst}
use Rattle.std.specs.Prelude.{Option, Some, None, slice_get}
use Rattle.four_value.specs.Values.{LogicValue, same_value}
use Rattle.vf_base.specs.Lists.{has, joined, map_numbered, AllHold}
use Rattle.v_design.specs.Trees.{Entry}
use Rattle.v_design.specs.Paths.{net_pieces}
use Rattle.v_design.specs.Designs.{FlatNode, FlatDesign, Machine}
use Rattle.v_design.specs.Assignments.{ValueUpdate, value_at}
use Rattle.v_design.specs.Processes.{Action, ReadsObject, WritesObject, AppendsUpdate, TouchesNothing}
use Rattle.v_design.specs.States.{State, ProcessState, Event, Step, LaneStep, Evaluation, NetUpdate, after, step_of, process_at, found_or, idle_process, some_entry, entry_matches, value_written}
use Rattle.v_design.specs.Accesses.{Writing, ObjectAccess, waiting_entries, waiting_line, without_first, ended_of, ended_by, update_accesses, await_accesses}
use Rattle.v_design.specs.Accesses.{action_accesses, lane_accesses, net_write, some_change_matches, net_ended_by, net_accesses, accesses_of, held_by, held_accesses}
use Rattle.v_design.specs.PhaseLogs.{log_of}
use Rattle.order_laws.proofs.Conflicts.{In}
use Rattle.order_laws.proofs.RunStates.{first_of, state_at, at_first}
use Rattle.race_laws.proofs.Lists.{both, mapped-each, filtered, joined-numbered-each}
use Rattle.block_filter.specs.Blocks.{all_accesses}
use Rattle.block_filter.proofs.Places.{all-in, all-from_in}
use Rattle.block_filter.proofs.Entries.{entries, entry_back, phase-access}
use Rattle.wait_index.specs.Waits.{WaitsAreOfBodies, WaitsStay}
use Rattle.lockstep_waits.specs.Texts.{IsOfText, AreOfTexts, OnlyTextsWait}
use Rattle.lockstep_waits.proofs.Going.{events-wait}
use Rattle.lockstep_waits.proofs.Waiters.{IsOnAwaited, waits-awaited, begun-awaited}

pub joined-all : {A B : Type 0} (P : B → Type 0) (f : A → List B) (xs : List A) → ((x : A) → AllHold P (f x)) → AllHold P (joined (map f xs))
joined-all P f [] k = tt
joined-all P f (x ∷ xs) k = both P (f x) (joined (map f xs)) (k x) (joined-all P f xs k)

-- The accesses of an event

abbrev OfText : FlatDesign → ObjectAccess → Type 0
OfText design access = IsOfText design access.act access.object

-- a process waits on awaited objects
abbrev WaitsOnAwaited : FlatDesign → ProcessState → Type 0
WaitsOnAwaited design process = AllHold (IsOnAwaited design) (waiting_entries process.activity)

each-process : (design : FlatDesign) (processes : List ProcessState) → ((number : ℕ) → WaitsOnAwaited design (found_or idle_process (slice_get processes number))) →
    AllHold (WaitsOnAwaited design) processes
each-process design [] h = tt
each-process design (process ∷ processes) h = (h 0, each-process design processes (λ n. h (suc n)))

-- each process of a state of a run does
all-wait : (machine : Machine) (state : State) → WaitsAreOfBodies machine state → AllHold (WaitsOnAwaited machine.design) state.processes
all-wait machine state h = each-process machine.design state.processes (λ number. waits-awaited machine state number h)

without-first : (design : FlatDesign) (test : Entry → Bool) (entries : List Entry) → AllHold (IsOnAwaited design) entries → AllHold (IsOnAwaited design) (without_first test entries)
without-first design test [] h = tt
without-first design test (entry ∷ entries) h = go (test entry) (without-first design test entries h.1)
  where
    go : (b : Bool) → AllHold (IsOnAwaited design) (without_first test entries) →
        AllHold (IsOnAwaited design) (elim b [ true ↦ entries | false ↦ entry ∷ without_first test entries ])
    go true rest = h.1
    go false rest = (h.0, rest)

ended-of : (design : FlatDesign) (ends : Bool) (test : Entry → Bool) (process line : ℕ) (entries : List Entry) → AllHold (IsOnAwaited design) entries →
    AreOfTexts design (ended_of ends test process line entries)
ended-of design false test process line entries h = tt
ended-of design true test process line entries h =
    mapped-each (IsOnAwaited design) (OfText design) _ (without_first test entries) (without-first design test entries h) (λ entry i. (refl, i))

update-of : (machine : Machine) (process line : ℕ) (update : ValueUpdate) (state : State) → AllHold (WaitsOnAwaited machine.design) state.processes →
    AreOfTexts machine.design (update_accesses machine process line update state)
update-of machine process line update state h =
    let old : LogicValue = value_at state.values update.object in
    let new : LogicValue = value_written machine state update in (
      tt,
      joined-numbered-each (WaitsOnAwaited machine.design) (OfText machine.design) (ended_by update.object old new) 0 state.processes h
          (λ n waiting i. ended-of machine.design (some_entry (entry_matches update.object old new) (waiting_entries waiting.activity)) (entry_matches update.object old new) n
          (waiting_line waiting.activity) (waiting_entries waiting.activity) i),
    )

action-of : (machine : Machine) (process line : ℕ) (action : Action) (state : State) → AllHold (WaitsOnAwaited machine.design) state.processes →
    AreOfTexts machine.design (action_accesses machine process line action state)
action-of machine process line (ReadsObject object) state h = (tt, tt)
action-of machine process line (WritesObject update) state h = update-of machine process line update state h
action-of machine process line (AppendsUpdate delay update) state h = tt
action-of machine process line TouchesNothing state h = tt

lane-of : (machine : Machine) (process : ℕ) (lane : List ValueUpdate) (state : State) → AllHold (WaitsOnAwaited machine.design) state.processes →
    AreOfTexts machine.design (lane_accesses machine process lane state)
lane-of machine process [] state h = tt
lane-of machine process (first ∷ rest) state h = update-of machine process first.line first state h

piece-of : (design : FlatDesign) (process line : ℕ) (state next : State) (object : ℕ) → AreOfTexts design (net_write process line state next object)
piece-of design process line state next object =
    elim (same_value (value_at state.values object) (value_at next.values object)) as (λ b. AreOfTexts design (elim b [
      | true ↦ []
      | false ↦ record { act = Writing (value_at state.values object) (value_at next.values object); object = object; process = process; line = line } ∷ []
    ])) [
      | true ↦ tt
      | false ↦ (tt, tt)
    ]

nets-of : (design : FlatDesign) (process line : ℕ) (node : Option FlatNode) (state next : State) → AllHold (WaitsOnAwaited design) state.processes →
    AreOfTexts design (net_accesses design process line node state next)
nets-of design process line None state next h = tt
nets-of design process line (Some node) state next h =
    both (OfText design) (joined (map (net_write process line state next) (filter (has node.outputs) (net_pieces design))))
    (joined (map_numbered (net_ended_by state next node.outputs) 0 state.processes))
    (joined-all (OfText design) (net_write process line state next) (filter (has node.outputs) (net_pieces design)) (piece-of design process line state next))
    (joined-numbered-each (WaitsOnAwaited design) (OfText design) (net_ended_by state next node.outputs) 0 state.processes h
    (λ n old i. ended-of design (some_entry (some_change_matches state next node.outputs) (waiting_entries old.activity)) (some_change_matches state next node.outputs) n
    (waiting_line old.activity) (waiting_entries old.activity) i))

event-of : (machine : Machine) (writer line : ℕ) (state : State) (event : Event) → WaitsAreOfBodies machine state → AreOfTexts machine.design (accesses_of machine writer line state event)
event-of machine writer line state (Step process) h =
    both (OfText machine.design) (action_accesses machine process (step_of machine state process).line (step_of machine state process).action state)
    (await_accesses process (step_of machine state process).line (step_of machine state process).next)
    (action-of machine process (step_of machine state process).line (step_of machine state process).action state (all-wait machine state h))
    (mapped-each (IsOnAwaited machine.design) (OfText machine.design) _ (waiting_entries (step_of machine state process).next) (begun-awaited machine state process h) (λ entry i. (refl, i)))
event-of machine writer line state (LaneStep process) h = lane-of machine process (process_at state process).lane state (all-wait machine state h)
event-of machine writer line state (Evaluation node) h = tt
event-of machine writer line state (NetUpdate node) h =
    nets-of machine.design writer line (slice_get machine.design.nodes node) state (after machine state (NetUpdate node)) (all-wait machine state h)

-- The accesses of a phase

there-waits : WaitsStay → (machine : Machine) (state : State) (events : List Event) (place : ℕ) → WaitsAreOfBodies machine state → WaitsAreOfBodies machine (state_at machine state events place)
there-waits laws machine state events place h = subst (WaitsAreOfBodies machine) (sym (at_first machine state events place)) (events-wait laws machine state (first_of place events) h)

one-of : WaitsStay → (machine : Machine) (state : State) (events : List Event) → WaitsAreOfBodies machine state → (access : ObjectAccess) → In access (all_accesses (log_of machine state events)) →
    OfText machine.design access
one-of laws machine state events h access i =
    let p = phase-access machine [] state events access i in
    let q = entry_back machine [] state events p.place p.event p.stands in
    let there : State = state_at machine state events p.place in
    let like : OfText machine.design p.other =
    all-in (OfText machine.design) (accesses_of machine q.2.writer q.2.line there q.0) p.other
    (event-of machine q.2.writer q.2.line there q.0 (there-waits laws machine state events p.place h)) (subst (In p.other) q.2.accesses p.among) in
    subst (λ act. IsOfText machine.design act access.object) p.same_act (subst (λ object. IsOfText machine.design p.other.act object) p.same_object like)

held-of : (machine : Machine) (state : State) → WaitsAreOfBodies machine state → AreOfTexts machine.design (held_accesses machine state)
held-of machine state h =
    joined-numbered-each (WaitsOnAwaited machine.design) (OfText machine.design) (held_by machine.design) 0 state.processes (all-wait machine state h)
    (λ n waiting i. mapped-each (IsOnAwaited machine.design) (OfText machine.design) _ (filter (λ (entry : Entry). has (net_pieces machine.design) entry.object) (waiting_entries waiting.activity))
    (filtered (IsOnAwaited machine.design) (λ (entry : Entry). has (net_pieces machine.design) entry.object) (waiting_entries waiting.activity) i) (λ entry j. (refl, j)))

pub only_texts_wait : WaitsStay → OnlyTextsWait
only_texts_wait laws = record {
  events = λ machine state events h. all-from_in (OfText machine.design) (all_accesses (log_of machine state events)) (one-of laws machine state events h);
  held = held-of;
}
