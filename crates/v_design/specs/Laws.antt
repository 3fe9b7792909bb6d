-- The laws of settling nets and of exchanging events, and the headline: what a report says of every legal order (IEEE 1364-2001, clause 5).
use Rattle.std.specs.Prelude.{◌≡◌, ◌≢◌, ℕ, ◌+◌, ◌<◌, ◌≤◌, Bool, true, false, not, ◌&&◌, ◌||◌, List, [], ◌∷◌, ◌++◌, map, filter, length, Option, Some, None, IsTrue, slice_get, nat_eq, nat_le, sum_by}
use Rattle.std.specs.List.{AllZip, list_any}
use Rattle.vf_base.specs.Lists.{has, AllHold}
use Rattle.four_value.specs.Values.{LogicValue, same_value}
use Rattle.vf_base.specs.Base.{WatchedBit}
use Rattle.v_design.specs.Designs.{FlatObject, FlatNode, FlatDesign, Machine, StuckAt, TestPlan, good_machine, faulty_machine}
use Rattle.v_design.specs.Writers.{WriteVariables}
use Rattle.v_design.specs.WellFormed.{IsPlan, KeepsRules}
use Rattle.v_design.specs.Sites.{AreOneClass}
use Rattle.v_design.specs.Assignments.{AreSettled, value_at, node_outputs, with_outputs}
use Rattle.v_design.specs.States.{is_process_event, State, Event, Step, LaneStep, Evaluation, NetUpdate, TurnKind, start, possible, after, turned, has_work, some_in, is_quiescent, turn_of}
use Rattle.v_design.specs.Runs.{Move, Turns, Leads, IsLegal, IsPhase, all_possible, happened, turn_in_slot, all_made, counted_steps, most_steps, first_moves, FirstSlot, first_run, slot_end}
use Rattle.v_design.specs.Runs.{is_hyper, ends_by}
use Rattle.v_design.specs.Paths.{Clean, net_class, paths}
use Rattle.v_design.specs.Accesses.{ObjectAccess, accesses_of}
use Rattle.v_design.specs.Logs.{LoggedEvent, LoggedPhase, PhaseAccess, phase_changes, counted_accesses, log_accesses, orders, conflict}
use Rattle.v_design.specs.PhaseLogs.{NotedEvent, cause_of, note_of, noted_events, log_of, phase_race}
use Rattle.vf_base.specs.Base.{ReportedPair}
use Rattle.v_design.specs.Grades.{Samples, Phase, cut, race_of, Fine, Hyper, slot_outcome, samples, state_after_slots, Verdict, Detected, Possible, Undetected, verdict, FaultGrade, Judged, Raced}
use Rattle.v_design.specs.Grades.{Looped, grade}
use Rattle.vf_base.specs.declared.finding.Side.{Side}
use Rattle.vf_base.specs.declared.finding.Side.TheVariants.{Good, Faulty}

-- Words of the laws

-- the state has a part for each part of the design
pub record IsStateOf (machine : Machine) (state : State) : Type 0 where
  pub values : length state.values ≡ length machine.design.objects
  pub nodes : length state.nodes ≡ length machine.design.nodes
  pub processes : length state.processes ≡ length machine.design.processes

-- the values have the objects' widths
abbrev pub HaveWidths : Machine → List LogicValue → Type 0
HaveWidths machine values = map (λ (value : LogicValue). length value) values ≡ map (λ (object : FlatObject). object.width) machine.design.objects

-- a phase begins with its nets settled, no node to be worked on, and no process that is still to write a net piece
pub record BeginsPhase (machine : Machine) (state : State) : Type 0 where
  pub fits : IsStateOf machine state
  pub widths : HaveWidths machine state.values
  pub settled : AreSettled machine state.values
  pub idle : some_in has_work state.nodes ≡ false
  pub writers : WriteVariables machine.design state

-- a phase without two conflicting accesses
abbrev pub HasNoConflict : Machine → State → List Event → Type 0
HasNoConflict machine state events = phase_race machine state events ≡ None

-- the accesses of each event of a phase
abbrev pub accesses_by_event : Machine → State → List Event → List (List ObjectAccess)
accesses_by_event machine state events =
    map (λ (event : LoggedEvent). event.accesses) (log_of machine state events).events

-- Settling nets

-- each node that isn't marked has outputs equal to its function
abbrev pub AreSettledBut : Machine → (ℕ → Bool) → List LogicValue → Type 0
AreSettledBut machine marked values =
    (number : ℕ) (node : FlatNode) → slice_get machine.design.nodes number ≡ Some node → marked number ≡ false →
    map (value_at values) node.outputs ≡ node_outputs machine number node values

-- whether a node has an input that differs
abbrev pub input_differs : List LogicValue → List LogicValue → Option FlatNode → Bool
input_differs before later None = false
input_differs before later (Some node) = list_any (λ object. not (same_value (value_at before object) (value_at later object))) node.inputs

-- the marks after a node is worked on: its own is gone, and each node with an input that changed has one
abbrev pub marks_after : Machine → ℕ → (ℕ → Bool) → List LogicValue → List LogicValue → ℕ → Bool
marks_after machine worked marked before later number =
    (marked number && not (nat_eq number worked)) || input_differs before later (slice_get machine.design.nodes number)

-- the values after a node's outputs are written
abbrev pub worked_on : Machine → ℕ → FlatNode → List LogicValue → List LogicValue
worked_on machine number node values = with_outputs node.outputs (node_outputs machine number node values) values

-- working on a node keeps all others settled but for those that it marks, and where no mark is left the nets are settled
pub record NetsSettle : Type 0 where
  pub goes_on : (machine : Machine) (marked : ℕ → Bool) (values : List LogicValue) (number : ℕ) (node : FlatNode) →
      KeepsRules machine.design → HaveWidths machine values → slice_get machine.design.nodes number ≡ Some node → AreSettledBut machine marked values →
      AreSettledBut machine (marks_after machine number marked values (worked_on machine number node values)) (worked_on machine number node values)
  pub ends : (machine : Machine) (marked : ℕ → Bool) (values : List LogicValue) →
      ((number : ℕ) → marked number ≡ false) → AreSettledBut machine marked values → AreSettled machine values

-- whether a node drives an object
abbrev pub is_driven : FlatDesign → ℕ → Bool
is_driven design object = list_any (λ (node : FlatNode). has node.outputs object) design.nodes

-- two settled lists of values that agree on all that no node drives are equal
abbrev pub SettledValuesAreOne : Type 0
SettledValuesAreOne =
    (machine : Machine) (one other : List LogicValue) → KeepsRules machine.design → HaveWidths machine one → HaveWidths machine other →
    ((object : ℕ) → is_driven machine.design object ≡ false → value_at one object ≡ value_at other object) →
    AreSettled machine one → AreSettled machine other → one ≡ other

-- Classes of faults

-- two faults of one class have one grade
abbrev pub ClassesAgree : Type 0
ClassesAgree =
    (design : FlatDesign) (plan : TestPlan) (one other : StuckAt) → KeepsRules design → AreOneClass design one other → grade design plan one ≡ grade design plan other

-- Without nodes

-- two events in either order: both possible, with the same accesses and the same causes, to the same state
pub record Commutes (machine : Machine) (state : State) (first second : Event) : Type 0 where
  pub still_possible : IsTrue (possible (after machine state second) first)
  pub same_end : after machine (after machine state second) first ≡ after machine (after machine state first) second
  pub first_accesses : accesses_of machine 0 0 (after machine state second) first ≡ accesses_of machine 0 0 state first
  pub second_accesses : accesses_of machine 0 0 state second ≡ accesses_of machine 0 0 (after machine state first) second
  pub first_cause : (earlier : List NotedEvent) → cause_of machine (earlier ++ note_of machine earlier state second ∷ []) first ≡ cause_of machine earlier first
  pub second_cause : (earlier : List NotedEvent) → cause_of machine earlier second ≡ cause_of machine (earlier ++ note_of machine earlier state first ∷ []) second

-- two possible events without conflict commute, in a design without nodes
abbrev pub EventsCommute : Type 0
EventsCommute =
    (machine : Machine) (state : State) (first second : Event) →
    machine.design.nodes ≡ [] → IsStateOf machine state → first ≢ second →
    IsTrue (possible state first) → IsTrue (possible state second) → HasNoConflict machine state (first ∷ second ∷ []) →
    Commutes machine state first second

-- an event of a phase moved to the front: legal, without conflict, each event with the same accesses, to the same state
pub record MovesToFront (machine : Machine) (state : State) (events : List Event) (event : Event) : Type 0 where
  pub before : List Event
  pub later : List Event
  pub stands : events ≡ before ++ event ∷ later
  pub legal : IsPhase machine state (event ∷ (before ++ later))
  pub no_conflict : HasNoConflict machine state (event ∷ (before ++ later))
  pub its_accesses : List ObjectAccess
  pub accesses_before : List (List ObjectAccess)
  pub accesses_later : List (List ObjectAccess)
  pub same_length : length accesses_before ≡ length before
  pub accesses : accesses_by_event machine state events ≡ accesses_before ++ its_accesses ∷ accesses_later
  pub same_accesses : accesses_by_event machine state (event ∷ (before ++ later)) ≡ its_accesses ∷ (accesses_before ++ accesses_later)
  pub same_end : happened machine state (event ∷ (before ++ later)) ≡ happened machine state events

-- an event that is possible at a phase's beginning moves to its front, where the phase has no conflict and the design no nodes
abbrev pub EventsMoveToFront : Type 0
EventsMoveToFront =
    (machine : Machine) (state : State) (events : List Event) (event : Event) →
    machine.design.nodes ≡ [] → IsStateOf machine state → IsPhase machine state events → HasNoConflict machine state events → IsTrue (possible state event) →
    MovesToFront machine state events event

-- every legal order of a phase ends in one state, where one of them has no conflict
abbrev pub PhasesEndAlike : Type 0
PhasesEndAlike =
    (machine : Machine) (state : State) (events other : List Event) →
    machine.design.nodes ≡ [] → IsStateOf machine state → IsPhase machine state events → HasNoConflict machine state events → IsPhase machine state other →
    happened machine state other ≡ happened machine state events

-- With nodes

-- the values that an object has before and after each of its changes in a phase
abbrev pub change_if : Bool → LogicValue → LogicValue → List (LogicValue × LogicValue) → List (LogicValue × LogicValue)
change_if true old new rest = (old, new) ∷ rest
change_if false old new rest = rest

-- the changes of an object in a phase: its values before and after each
abbrev pub changes_at : Machine → State → List Event → ℕ → List (LogicValue × LogicValue)
changes_at machine state [] object = []
changes_at machine state (event ∷ events) object =
    change_if (not (same_value (value_at state.values object) (value_at (after machine state event).values object)))
    (value_at state.values object) (value_at (after machine state event).values object)
    (changes_at machine (after machine state event) events object)

-- two legal runs of a phase from one state, the first of them without conflict
pub record RunsBeside (machine : Machine) (state : State) (first events : List Event) : Type 0 where
  pub rules : KeepsRules machine.design
  pub begins : BeginsPhase machine state
  pub first_legal : IsPhase machine state first
  pub no_conflict : HasNoConflict machine state first
  pub legal : IsPhase machine state events

-- a net piece changes alike in two runs: once or never
pub record ChangesAlike (machine : Machine) (state : State) (first events : List Event) (net : ℕ) : Type 0 where
  pub alike : changes_at machine state events net ≡ changes_at machine state first net
  pub at_most_once : length (changes_at machine state first net) ≤ 1

-- each clean net piece changes in every legal run of a phase as in one without conflict
abbrev pub CleanNetsChangeOnce : Type 0
CleanNetsChangeOnce =
    (machine : Machine) (state : State) (first events : List Event) (net : ℕ) → RunsBeside machine state first events →
    net_class machine.design (phase_changes machine.design (log_of machine state first)) net ≡ Clean → ChangesAlike machine state first events net

-- every legal order of a phase ends with its nets settled
abbrev pub PhasesSettle : Type 0
PhasesSettle =
    (machine : Machine) (state : State) (events : List Event) → KeepsRules machine.design → BeginsPhase machine state → IsPhase machine state events →
    AreSettled machine (happened machine state events).values

-- at each moment an object has changed at most as often as there are paths to it from the changes made so far: a quiet net never, a clean one once at most
abbrev pub ChangesHaveBounds : Type 0
ChangesHaveBounds =
    (machine : Machine) (state : State) (events : List Event) (object : ℕ) → KeepsRules machine.design → BeginsPhase machine state → IsTrue (all_possible machine state events) →
    length (changes_at machine state events object) ≤ sum_by (λ source. paths machine.design source object) (phase_changes machine.design (log_of machine state events))

-- the first phase of a run begins as the laws ask, and so does each phase that a turn leads to
pub record PhasesBegin : Type 0 where
  pub first : (machine : Machine) → KeepsRules machine.design → BeginsPhase machine (start machine)
  pub next : (machine : Machine) (state : State) (events : List Event) (turn : TurnKind) → KeepsRules machine.design → BeginsPhase machine state → IsPhase machine state events →
      BeginsPhase machine (turned turn (happened machine state events))

-- the place of the n-th event that is the given one; a process's steps are told apart by their number
abbrev pub same_event : Event → Event → Bool
same_event (Step process) (Step other) = nat_eq process other
same_event (LaneStep process) (LaneStep other) = nat_eq process other
same_event (Step process) (LaneStep other) = false
same_event (LaneStep process) (Step other) = false
same_event (Step process) (Evaluation node) = false
same_event (Step process) (NetUpdate node) = false
same_event (LaneStep process) (Evaluation node) = false
same_event (LaneStep process) (NetUpdate node) = false
same_event (Evaluation node) (Step process) = false
same_event (Evaluation node) (LaneStep process) = false
same_event (Evaluation node) (Evaluation other) = nat_eq node other
same_event (Evaluation node) (NetUpdate other) = false
same_event (NetUpdate node) (Step process) = false
same_event (NetUpdate node) (LaneStep process) = false
same_event (NetUpdate node) (Evaluation other) = false
same_event (NetUpdate node) (NetUpdate other) = nat_eq node other

-- one place more, where a test holds
abbrev pub place_if : Bool → ℕ → List ℕ → List ℕ
place_if true number rest = number ∷ rest
place_if false number rest = rest

-- the numbers of the events of a phase that are a given one
abbrev pub places_of : Event → ℕ → List Event → List ℕ
places_of event number [] = []
places_of event number (other ∷ events) = place_if (same_event event other) number (places_of event (number + 1) events)

-- the accesses of each process or lane step of one process, in order
abbrev pub steps_accesses : Machine → State → List Event → Event → List (List ObjectAccess)
steps_accesses machine state events event =
    map (λ (n : NotedEvent). counted_accesses machine.design (phase_changes machine.design (log_of machine state events)) (accesses_of machine n.process n.line n.before n.event))
    (filter (λ (n : NotedEvent). same_event event n.event) (noted_events machine state events))

-- whether the m-th of one kind of step orders the n-th of another
abbrev pub orders_if_there : LoggedPhase → Option ℕ → Option ℕ → Bool
orders_if_there log None second = false
orders_if_there log (Some first) None = false
orders_if_there log (Some first) (Some second) = orders log first second

-- whether the m-th of one kind of step orders the n-th of another in a phase
abbrev pub steps_ordered : Machine → State → List Event → Event → ℕ → Event → ℕ → Bool
steps_ordered machine state events one m other n =
    orders_if_there (log_of machine state events) (slice_get (places_of one 0 events) m) (slice_get (places_of other 0 events) n)

-- the process and lane steps are those of the run without conflict, with the same accesses and the same orders, and the end is the same
pub record StepsAlike (machine : Machine) (state : State) (first events : List Event) : Type 0 where
  pub accesses : (event : Event) → IsTrue (is_process_event event) → steps_accesses machine state events event ≡ steps_accesses machine state first event
  pub same_orders : (one other : Event) (m n : ℕ) → IsTrue (is_process_event one) → IsTrue (is_process_event other) →
      steps_ordered machine state events one m other n ≡ steps_ordered machine state first one m other n
  pub same_end : happened machine state events ≡ happened machine state first

-- every legal run of a phase has the steps of each run of it without conflict
abbrev pub RunsProject : Type 0
RunsProject = (machine : Machine) (state : State) (first events : List Event) → RunsBeside machine state first events → StepsAlike machine state first events

-- Slots and runs

-- two legal runs to a time from one state, in which a phase begins, end alike where no phase of the one has a conflict
abbrev pub RunsEndAlike : Type 0
RunsEndAlike =
    (machine : Machine) (time : ℕ) (begins : State) (moves other : List Move) (final other_final : State) → KeepsRules machine.design → BeginsPhase machine begins →
    Leads machine time begins moves final → IsTrue (ends_by time final) →
    AllHold (λ (phase : Phase). HasNoConflict machine phase.begins phase.events) (cut machine None begins [] begins moves) →
    Leads machine time begins other other_final → IsTrue (ends_by time other_final) → other_final ≡ final

-- a slot of the first order that isn't hyperactive goes to its end: no event is possible then, and no turn within the slot
abbrev pub SlotsEnd : Type 0
SlotsEnd =
    (machine : Machine) (begins : State) → KeepsRules machine.design → BeginsPhase machine begins → counted_steps (first_moves machine begins) ≤ most_steps →
    IsTrue (is_quiescent (all_made machine begins (first_moves machine begins))) × (turn_in_slot (turn_of (all_made machine begins (first_moves machine begins))) ≡ None)

-- where a slot of the first run is fine, every legal run of that slot ends where it does
abbrev pub FineSlotsEndAlike : Type 0
FineSlotsEndAlike =
    (machine : Machine) (time : ℕ) (number : ℕ) (slot : FirstSlot) → KeepsRules machine.design →
    slice_get (first_run machine time) number ≡ Some slot → slot_outcome machine slot ≡ Fine →
    (moves : List Move) (final : State) → Leads machine slot.begins.time slot.begins moves final → IsTrue (ends_by slot.begins.time final) →
    final ≡ slot_end machine slot

-- the moves of some slots, each after a turn
abbrev pub moves_after_turns : List FirstSlot → List Move
moves_after_turns [] = []
moves_after_turns (slot ∷ slots) = Turns ∷ (slot.moves ++ moves_after_turns slots)

-- the moves of a run's slots, with the turn between each two
abbrev pub run_moves : List FirstSlot → List Move
run_moves [] = []
run_moves (slot ∷ slots) = slot.moves ++ moves_after_turns slots

-- where none of the slots up to a time is hyperactive, the first run is legal to that time
abbrev pub FirstRunsAreLegal : Type 0
FirstRunsAreLegal =
    (machine : Machine) (time : ℕ) → KeepsRules machine.design →
    ((number : ℕ) (slot : FirstSlot) → slice_get (first_run machine time) number ≡ Some slot → is_hyper slot ≡ false) →
    (final : State) × IsLegal machine time (run_moves (first_run machine time)) final

-- The headline

-- the samples of a run
abbrev pub run_samples : Machine → List WatchedBit → List Move → Samples
run_samples machine watched moves time = samples watched (state_after_slots machine time (start machine) moves).values

-- the strobes up to a time
abbrev pub strobes_until : ℕ → TestPlan → List ℕ
strobes_until time plan = filter (λ strobe. nat_le strobe time) plan.strobes

-- each pair of legal event orders of the good and the faulty machine, run apart to a time, gives the verdict over the strobes up to then
abbrev pub EveryOrderGives : FlatDesign → TestPlan → StuckAt → ℕ → Verdict → Type 0
EveryOrderGives design plan fault time given =
    (good faulty : List Move) (good_end faulty_end : State) →
    IsLegal (good_machine design) time good good_end → IsLegal (faulty_machine design fault) time faulty faulty_end →
    verdict (run_samples (good_machine design) plan.watched good) (run_samples (faulty_machine design fault) plan.watched faulty) (strobes_until time plan) ≡ given

-- the phases of a run at a time
abbrev pub phases_at : Machine → ℕ → List Move → List Phase
phases_at machine time moves = filter (λ (phase : Phase). nat_eq phase.begins.time time) (cut machine None (start machine) [] (start machine) moves)

-- the pair names two conflicting accesses of one phase of a legal order, which no chain of triggers orders
pub record NamesConflict (machine : Machine) (pair : ReportedPair) : Type 0 where
  pub moves : List Move
  pub final : State
  pub legal : IsLegal machine pair.time moves final
  pub number : ℕ
  pub phase : Phase
  pub phase_number : pair.phase ≡ number + 1
  pub stands : slice_get (phases_at machine pair.time moves) number ≡ Some phase
  pub earlier : ℕ
  pub later : ℕ
  pub in_order : earlier < later
  pub first : PhaseAccess
  pub second : PhaseAccess
  pub first_stands : slice_get (log_accesses machine.design (log_of machine phase.begins phase.events)) earlier ≡ Some first
  pub second_stands : slice_get (log_accesses machine.design (log_of machine phase.begins phase.events)) later ≡ Some second
  pub conflicts : IsTrue (conflict (log_of machine phase.begins phase.events) first second)
  pub named : pair ≡ race_of pair.time pair.phase (first, second)

-- the machine of a side
abbrev pub machine_of : Side → FlatDesign → StuckAt → Machine
machine_of Good design fault = good_machine design
machine_of Faulty design fault = faulty_machine design fault

-- the first run of the machine is hyperactive in the slot of a time
abbrev pub IsHyperAt : Machine → ℕ → Type 0
IsHyperAt machine time = (number : ℕ) × (slot : FirstSlot) × (slice_get (first_run machine time) number ≡ Some slot) × (slot.begins.time ≡ time) × (slot_outcome machine slot ≡ Hyper)

-- what a line says of its fault
abbrev pub LineHolds : FlatDesign → TestPlan → StuckAt → FaultGrade → Type 0
LineHolds design plan fault (Judged (Detected time)) = EveryOrderGives design plan fault time (Detected time)
LineHolds design plan fault (Judged (Possible time)) = EveryOrderGives design plan fault plan.end (Possible time)
LineHolds design plan fault (Judged Undetected) = EveryOrderGives design plan fault plan.end Undetected
LineHolds design plan fault (Raced side pair) = NamesConflict (machine_of side design fault) pair
LineHolds design plan fault (Looped time) = IsHyperAt (faulty_machine design fault) time

-- every listed fault has its line, in list order
abbrev pub ReportHolds : FlatDesign → TestPlan → List FaultGrade → Type 0
ReportHolds design plan lines = AllZip (LineHolds design plan) plan.faults lines

-- the grades are such lines
abbrev pub GradesHold : Type 0
GradesHold =
    (design : FlatDesign) (plan : TestPlan) (fault : StuckAt) (line : FaultGrade) → KeepsRules design → IsPlan plan →
    grade design plan fault ≡ Some line → LineHolds design plan fault line
