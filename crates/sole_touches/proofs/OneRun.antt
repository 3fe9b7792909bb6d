-- A variable that one run of a process alone reads and writes.
use Rattle.std.proofs.Common.{◌≡◌, ℕ, List, [], ◌∷◌, ◌++◌, map, filter, Bool, true, false, ◌&&◌, ◌||◌, refl, sym, ap, subst, ◌∙◌, inl, inr}
use Rattle.std.specs.Prelude.{Option, Some, None, slice_get, nat_eq}
use Rattle.std.proofs.lemmas.Bool.{eqb-true, eq-eqb}
use Rattle.four_value.specs.Values.{LogicValue, same_value}
use Rattle.vf_base.specs.Lists.{has, joined, map_numbered, AllHold}
use Rattle.v_design.specs.Trees.{Entry}
use Rattle.v_design.specs.Paths.{net_pieces, is_wild}
use Rattle.v_design.specs.Designs.{FlatNode, FlatDesign, Machine}
use Rattle.v_design.specs.Assignments.{ValueUpdate, value_at}
use Rattle.v_design.specs.Processes.{Action, ReadsObject, WritesObject, AppendsUpdate, TouchesNothing, ProcessStep}
use Rattle.v_design.specs.States.{State, Event, Step, LaneStep, Evaluation, NetUpdate, after, some_in, step_of, some_entry, entry_matches, value_written}
use Rattle.v_design.specs.Runs.{happened}
use Rattle.v_design.specs.Accesses.{Writing, Awaiting, Ending, ObjectAccess, waiting_entries, waiting_line, without_first, ended_of, ended_by, update_accesses, await_accesses}
use Rattle.v_design.specs.Accesses.{action_accesses, step_accesses, net_write, some_change_matches, net_ended_by, net_accesses, accesses_of}
use Rattle.v_design.specs.Logs.{LoggedEvent, phase_changes}
use Rattle.v_design.specs.PhaseLogs.{NotedEvent, is_step_of, is_lane_of, note_of, logged, log_of}
use Rattle.copy_laws.specs.QuietPhases.{ends_its_wait}
use Rattle.trace_window.specs.Touched.{is_touching}
use Rattle.order_laws.proofs.Conflicts.{In}
use Rattle.order_laws.proofs.FreeLogs.{In-append}
use Rattle.order_laws.proofs.FreeWithoutNodes.{In-map-back}
use Rattle.order_laws.proofs.ProperLogs.{In-joined-back}
use Rattle.order_laws.proofs.PathLaws.{true-false, or-either, or-neither}
use Rattle.order_laws.proofs.Notes.{new_notes, noted_events-new}
use Rattle.race_laws.proofs.Lists.{left, right}
use Rattle.block_filter.specs.Blocks.{all_accesses}
use Rattle.block_filter.proofs.Places.{all-in, at-in, in-filter-back, in-joined_back}
use Rattle.block_filter.proofs.Entries.{entries, log_entries}
use Rattle.block_changes.specs.Changes.{ends_wait_of, steps_lane}
use Rattle.free_objects.specs.FreeObjects.{IsOfRun, SoleRunsAreFree}
use Rattle.lockstep_waits.specs.Awaited.{is_awaited}
use Rattle.lockstep_waits.specs.Texts.{IsOfText, OnlyTextsWait, WaitsGoOn}
use Rattle.sole_touches.specs.Unawaited.{touches_object, IsUnawaited, SoleRunsTouchFree}
use Rattle.sole_touches.proofs.Counts.{entry_accesses}
use Rattle.sole_touches.proofs.Unawaited.{touched, untouched_are_unused}

-- The event of a read or a write of a variable

-- a step, a lane step or an event of a node
abbrev IsStepOrLane : ℕ → Event → Type 0
IsStepOrLane process (Step number) = number ≡ process
IsStepOrLane process (LaneStep number) = Unit {0}
IsStepOrLane process (Evaluation node) = ⊥
IsStepOrLane process (NetUpdate node) = ⊥

ended-act : {A : Type 0} (b : Bool) (test : Entry → Bool) (p l : ℕ) (entries : List Entry) (x : ObjectAccess) → In x (ended_of b test p l entries) → is_touching x.act ≡ true → A
ended-act false test p l entries x i t = absurd i
ended-act true test p l entries x i t =
    let r = In-map-back (λ (entry : Entry). let a : ObjectAccess = record { act = Ending entry; object = entry.object; process = p; line = l } in a) x (without_first test entries) i in
    let z : is_touching x.act ≡ false = ap (λ (a : ObjectAccess). is_touching a.act) r.2 in
    true-false (is_touching x.act) t z

update-process : (machine : Machine) (p l : ℕ) (u : ValueUpdate) (state : State) (x : ObjectAccess) → In x (update_accesses machine p l u state) → is_touching x.act ≡ true → x.process ≡ p
update-process machine p l u state x (inl same) t = ap (λ (a : ObjectAccess). a.process) same
update-process machine p l u state x (inr i) t =
    let old : LogicValue = value_at state.values u.object in
    let new : LogicValue = value_written machine state u in
    let r = In-joined-back (ended_by u.object old new) x 0 state.processes i in
    ended-act (some_entry (entry_matches u.object old new) (waiting_entries r.1.activity)) (entry_matches u.object old new) r.0 (waiting_line r.1.activity) (waiting_entries r.1.activity) x r.2 t

action-process : (machine : Machine) (p l : ℕ) (action : Action) (state : State) (x : ObjectAccess) → In x (action_accesses machine p l action state) → is_touching x.act ≡ true → x.process ≡ p
action-process machine p l (ReadsObject object) state x (inl same) t = ap (λ (a : ObjectAccess). a.process) same
action-process machine p l (ReadsObject object) state x (inr i) t = absurd i
action-process machine p l (WritesObject u) state x i t = update-process machine p l u state x i t
action-process machine p l (AppendsUpdate delay u) state x i t = absurd i
action-process machine p l TouchesNothing state x i t = absurd i

step-process : (machine : Machine) (p : ℕ) (step : ProcessStep) (state : State) (x : ObjectAccess) → In x (step_accesses machine p step state) → is_touching x.act ≡ true → x.process ≡ p
step-process machine p step state x i t =
    elim (In-append x (action_accesses machine p step.line step.action state) (await_accesses p step.line step.next) i) [
      | inl j ↦ action-process machine p step.line step.action state x j t
      | inr j ↦
          (let r = In-map-back (λ (entry : Entry). let a : ObjectAccess = record { act = Awaiting entry; object = entry.object; process = p; line = step.line } in a) x (waiting_entries step.next) j in
          let z : is_touching x.act ≡ false = ap (λ (a : ObjectAccess). is_touching a.act) r.2 in
          true-false (is_touching x.act) t z)
    ]

net-object : (w l : ℕ) (state next : State) (object : ℕ) (x : ObjectAccess) → In x (net_write w l state next object) → x.object ≡ object
net-object w l state next object x i = go (same_value (value_at state.values object) (value_at next.values object)) i
  where
    go : (b : Bool) →
        In x (elim b [ true ↦ [] | false ↦ record { act = Writing (value_at state.values object) (value_at next.values object); object = object; process = w; line = l } ∷ [] ]) → x.object ≡ object
    go true j = absurd j
    go false (inl same) = ap (λ (a : ObjectAccess). a.object) same
    go false (inr j) = absurd j

is-in : (x : ℕ) (xs : List ℕ) → In x xs → has xs x ≡ true
is-in x [] i = absurd i
is-in x (y ∷ xs) (inl same) = (λ k. eq-eqb y x (sym same) k || has xs x)
is-in x (y ∷ xs) (inr i) = go (nat_eq y x) (is-in x xs i)
  where
    go : (b : Bool) → has xs x ≡ true → (b || has xs x) ≡ true
    go true e = refl
    go false e = e

-- a node's update reads and writes no variable
net-none : {A : Type 0} (design : FlatDesign) (w l : ℕ) (found : Option FlatNode) (state next : State) (x : ObjectAccess) → has (net_pieces design) x.object ≡ false →
    In x (net_accesses design w l found state next) → is_touching x.act ≡ true → A
net-none design w l None state next x tame i t = absurd i
net-none design w l (Some node) state next x tame i t =
    elim
    (In-append x (joined (map (net_write w l state next) (filter (has node.outputs) (net_pieces design)))) (joined (map_numbered (net_ended_by state next node.outputs) 0 state.processes)) i) [
      | inl j ↦
          (let r = in-joined_back (net_write w l state next) (filter (has node.outputs) (net_pieces design)) x j in
          let piece : has (net_pieces design) r.1 ≡ true =
          is-in r.1 (net_pieces design) (in-filter-back (has node.outputs) (net_pieces design) r.1 (at-in (filter (has node.outputs) (net_pieces design)) r.0 r.1 r.2)).0 in
          true-false (has (net_pieces design) x.object) (ap (has (net_pieces design)) (net-object w l state next r.1 x r.3) ∙ piece) tame)
      | inr j ↦
          (let r = In-joined-back (net_ended_by state next node.outputs) x 0 state.processes j in
          ended-act (some_entry (some_change_matches state next node.outputs) (waiting_entries r.1.activity)) (some_change_matches state next node.outputs) r.0 (waiting_line r.1.activity)
          (waiting_entries r.1.activity) x r.2 t)
    ]

event-process : (machine : Machine) (w l : ℕ) (state : State) (event : Event) (process : ℕ) (x : ObjectAccess) → has (net_pieces machine.design) x.object ≡ false →
    In x (accesses_of machine w l state event) → is_touching x.act ≡ true → x.process ≡ process → IsStepOrLane process event
event-process machine w l state (Step number) process x tame i t own = sym (step-process machine number (step_of machine state number) state x i t) ∙ own
event-process machine w l state (LaneStep number) process x tame i t own = tt
event-process machine w l state (Evaluation node) process x tame i t own = absurd i
event-process machine w l state (NetUpdate node) process x tame i t own =
    net-none machine.design w l (slice_get machine.design.nodes node) state (after machine state (NetUpdate node)) x tame i t

-- where it isn't of a lane it is a step of the process
is-step : (process : ℕ) (event : Event) → ((other : ℕ) → is_lane_of other event ≡ false) → IsStepOrLane process event → is_step_of process event ≡ true
is-step process (Step number) lanes e = eq-eqb process number (sym e)
is-step process (LaneStep number) lanes e = true-false (is_lane_of number (LaneStep number)) (eq-eqb number number refl) (lanes number)
is-step process (Evaluation node) lanes e = absurd e
is-step process (NetUpdate node) lanes e = absurd e

-- The events of a run

some-access : (object : ℕ) (xs : List ObjectAccess) → some_in (λ (access : ObjectAccess). nat_eq access.object object) xs ≡ true → (x : ObjectAccess) × In x xs × (x.object ≡ object)
some-access object [] e = cc
some-access object (x ∷ xs) e =
    elim (or-either (nat_eq x.object object) (some_in (λ (access : ObjectAccess). nat_eq access.object object) xs) e) [
      | inl here ↦ (x, inl refl, eqb-true x.object object here)
      | inr there ↦ (let r = some-access object xs there in (r.0, inr r.1, r.2))
    ]

-- an access of the object is of the process, and of the texts
record IsOwn (design : FlatDesign) (object process : ℕ) (access : ObjectAccess) : Type 0 where
  pub text : IsOfText design access.act access.object
  pub own : touches_object object access.object access.act ≡ true → access.process ≡ process

own-accesses : (design : FlatDesign) (object process : ℕ) (xs : List ObjectAccess) → AllHold (λ (access : ObjectAccess). IsOfText design access.act access.object) xs →
    AllHold (λ (access : ObjectAccess). touches_object object access.object access.act ≡ true → access.process ≡ process) xs → AllHold (IsOwn design object process) xs
own-accesses design object process [] h i = tt
own-accesses design object process (x ∷ xs) h i = (record { text = h.0; own = i.0 }, own-accesses design object process xs h.1 i.1)

one-of-run : (machine : Machine) (noted : NotedEvent) (object process : ℕ) → has (net_pieces machine.design) object ≡ false → is_awaited machine.design object ≡ false →
    AllHold (IsOwn machine.design object process) (logged machine noted).accesses → ((other : ℕ) → is_lane_of other noted.event ≡ false) →
    ends_its_wait machine noted.before noted.event process ≡ false → IsOfRun machine object process noted
one-of-run machine noted object process variable none own lanes goes = record { steps = steps; goes_on = goes }
  where
    steps : some_in (λ (access : ObjectAccess). nat_eq access.object object) (logged machine noted).accesses ≡ true → is_step_of process noted.event ≡ true
    steps some =
        let r = some-access object (logged machine noted).accesses some in
        let mine : IsOwn machine.design object process r.0 = all-in (IsOwn machine.design object process) (logged machine noted).accesses r.0 own r.1 in
        let touch : is_touching r.0.act ≡ true = touched machine.design object r.0.object r.0.act none mine.text r.2 in
        let whole : touches_object object r.0.object r.0.act ≡ true = (λ k. eq-eqb r.0.object object r.2 k && touch k) in
        is-step process noted.event lanes
        (event-process machine noted.process noted.line noted.before noted.event process r.0 (ap (has (net_pieces machine.design)) r.2 ∙ variable) r.1 touch (mine.own whole))

run-of : (machine : Machine) (earlier : List NotedEvent) (state : State) (events : List Event) (object process : ℕ) → has (net_pieces machine.design) object ≡ false →
    is_awaited machine.design object ≡ false → AllHold (IsOwn machine.design object process) (entry_accesses (entries machine earlier state events)) →
    ((other : ℕ) → steps_lane events other ≡ false) → ends_wait_of machine state events process ≡ false → AllHold (IsOfRun machine object process) (new_notes machine earlier state events)
run-of machine earlier state [] object process variable none own lanes goes = tt
run-of machine earlier state (event ∷ events) object process variable none own lanes goes =
    let note : NotedEvent = note_of machine earlier state event in
    let later : List LoggedEvent = entries machine (earlier ++ note ∷ []) (after machine state event) events in
    let ends = or-neither (ends_its_wait machine state event process) (ends_wait_of machine (after machine state event) events process) goes in (
      one-of-run machine note object process variable none (left (IsOwn machine.design object process) (logged machine note).accesses (entry_accesses later) own)
          (λ other. (or-neither (is_lane_of other event) (steps_lane events other) (lanes other)).0) ends.0,
      run-of machine (earlier ++ note ∷ []) (after machine state event) events object process variable none
          (right (IsOwn machine.design object process) (logged machine note).accesses (entry_accesses later) own)
          (λ other. (or-neither (is_lane_of other event) (steps_lane events other) (lanes other)).1) ends.1,
    )

pub sole_runs_touch_free : OnlyTextsWait → WaitsGoOn → SoleRunsAreFree → SoleRunsTouchFree
sole_runs_touch_free texts going law machine state before run behind object process none variable first one last =
    law machine state before run behind object process
    (λ k. variable k && is_wild machine.design (phase_changes machine.design (log_of machine state (before ++ (run ++ behind)))) object)
    (untouched_are_unused texts machine state before object none first)
    (subst (AllHold (IsOfRun machine object process)) (sym (noted_events-new machine (happened machine state before) run))
    (run-of machine [] (happened machine state before) run object process variable none.unawaited owns one.no_lane one.goes_on))
    (untouched_are_unused texts machine (happened machine state (before ++ run)) behind object (later (before ++ run)) last)
  where
    later : (events : List Event) → IsUnawaited machine (happened machine state events) object
    later events = record { bodies = going.after_events machine state events none.bodies; unawaited = none.unawaited }

    owns : AllHold (IsOwn machine.design object process) (entry_accesses (entries machine [] (happened machine state before) run))
    owns = subst (λ es. AllHold (IsOwn machine.design object process) (entry_accesses es)) (log_entries machine (happened machine state before) run)
        (own-accesses machine.design object process (all_accesses (log_of machine (happened machine state before) run))
        (texts.events machine (happened machine state before) run (later before).bodies) one.touches)
