-- A slot of the first order, move by move: what stands at each moment, and where the next event, a turn and the end lead (IEEE 1364-2001, clause 5).
use Rattle.std.specs.Prelude.{◌≡◌, ℕ, ◌+◌, ◌≤◌, Bool, true, false, List, [], ◌∷◌, ◌++◌, length, Option, Some, None, IsTrue, slice_get, sum_by}
use Rattle.std.specs.Option.{option_map}
use Rattle.vf_base.specs.Base.{ReportedPair}
use Rattle.vf_base.specs.Lists.{AllHold, first_place}
use Rattle.v_design.specs.Designs.{FlatNode, Machine}
use Rattle.v_design.specs.States.{State, ProcessState, Event, Step, LaneStep, Evaluation, NetUpdate, TurnKind, TimeTurn, after, is_ready, is_any}
use Rattle.v_design.specs.States.{has_event, some_in, is_quiescent, turn_of, turned, time_turn}
use Rattle.v_design.specs.Runs.{Move, Turns, FirstSlot, work_of, first_event, turn_in_slot, all_made, counted_steps, slot_moves, most_steps, first_moves, first_run, slot_end, is_hyper}
use Rattle.v_design.specs.Runs.{happened, all_possible}
use Rattle.v_design.specs.WellFormed.{KeepsRules}
use Rattle.copy_laws.specs.Beside.{AreFirst}
use Rattle.v_design.specs.Laws.{BeginsPhase}
use Rattle.v_design.specs.PhaseLogs.{note_of, noted_events, phase_race}
use Rattle.v_design.specs.Grades.{Phase, Hyper, cut, phases, race_of, first_race, race_or_fine, slot_outcome}

-- Moments

-- a moment of a slot of the first order: the state in which the slot began, the phases that ended, the turn, the first state and the events so far of the present phase,
-- the process and lane steps so far, and the present state
pub record Moment : Type 0 where
  pub begins : State
  pub ended : List Phase
  pub turn : Option TurnKind
  pub phase_begins : State
  pub events : List Event
  pub steps : ℕ
  pub state : State

-- the slot of the first order that a state begins
abbrev pub slot_from : Machine → State → FirstSlot
slot_from machine begins = record { begins = begins; moves = first_moves machine begins }

-- the present phase
abbrev pub present_phase : Moment → Phase
present_phase at = record { turn = at.turn; begins = at.phase_begins; events = at.events }

-- the phases so far
abbrev pub phases_so_far : Moment → List Phase
phases_so_far at = at.ended ++ present_phase at ∷ []

-- the first order of a slot comes to a moment: the moves so far are the slot's first ones, and the others are those that it makes from here; they fit the moment's parts
pub record ComesTo (machine : Machine) (at : Moment) : Type 0 where
  pub moves : List Move
  pub most_left : ℕ
  pub steps_left : ℕ
  pub goes_on : first_moves machine at.begins ≡ moves ++ slot_moves most_left steps_left machine at.state
  pub room : at.steps + steps_left ≡ most_steps + 1
  pub made_so_far : at.state ≡ all_made machine at.begins moves
  pub counted : at.steps ≡ counted_steps moves
  pub cuts : (rest : List Move) → cut machine None at.begins [] at.begins (moves ++ rest) ≡ at.ended ++ cut machine at.turn at.phase_begins at.events at.state rest
  -- the present phase is legal so far, and both it and the slot began as the laws ask
  pub happened_so_far : at.state ≡ happened machine at.phase_begins at.events
  pub each_possible : IsTrue (all_possible machine at.phase_begins at.events)
  pub phase_asked : BeginsPhase machine at.phase_begins
  pub slot_asked : BeginsPhase machine at.begins
  pub same_time : at.state.time ≡ at.begins.time

-- What is done

-- the first moment of a slot
abbrev pub first_moment : State → Moment
first_moment begins = record { begins = begins; ended = []; turn = None; phase_begins = begins; events = []; steps = 0; state = begins }

-- how many process or lane steps an event is
abbrev pub steps_of : Event → ℕ
steps_of (Step process) = 1
steps_of (LaneStep process) = 1
steps_of (Evaluation node) = 0
steps_of (NetUpdate node) = 0

-- the moment after an event
abbrev pub after_event : Machine → Event → Moment → Moment
after_event machine event at = record at { events = at.events ++ event ∷ []; steps = at.steps + steps_of event; state = after machine at.state event }

-- the moment after a node is evaluated and its nets are updated
abbrev pub after_node : Machine → ℕ → Moment → Moment
after_node machine node at = after_event machine (NetUpdate node) (after_event machine (Evaluation node) at)

-- the moment after a turn
abbrev pub after_turn : TurnKind → Moment → Moment
after_turn turn at = record at { ended = phases_so_far at; turn = Some turn; phase_begins = turned turn at.state; events = []; state = turned turn at.state }

-- a slot ends at a moment: its state is that of the slot's end, and its phases are all, so that these tell the outcome
pub record EndsAt (machine : Machine) (hyper : Bool) (at : Moment) : Type 0 where
  pub end_is : slot_end machine (slot_from machine at.begins) ≡ at.state
  pub phases_are : phases machine (slot_from machine at.begins) ≡ phases_so_far at
  pub hyper_is : is_hyper (slot_from machine at.begins) ≡ hyper
  pub outcome_is : slot_outcome machine (slot_from machine at.begins) ≡ elim hyper [ true ↦ Hyper | false ↦ race_or_fine (first_race machine 1 (phases_so_far at)) ]

-- The laws

-- a slot that begins as the laws ask comes to its first moment
abbrev pub SlotsBegin : Type 0
SlotsBegin = (machine : Machine) (begins : State) → BeginsPhase machine begins → ComesTo machine (first_moment begins)

-- the event that the first order takes goes on, whichever it is
abbrev pub EventsGoOn : Type 0
EventsGoOn =
    (machine : Machine) (at : Moment) (event : Event) → KeepsRules machine.design → ComesTo machine at → at.steps ≤ most_steps → first_event at.state ≡ Some event →
    ComesTo machine (after_event machine event at)

-- the moment after several events
abbrev pub after_events : Machine → List Event → Moment → Moment
after_events machine [] at = at
after_events machine (event ∷ events) at = after_events machine events (after_event machine event at)

-- a stretch of events that the first order takes goes on at once, where it stays within the steps of a slot
abbrev pub StretchesGoOn : Type 0
StretchesGoOn =
    (machine : Machine) (at : Moment) (events : List Event) → KeepsRules machine.design → ComesTo machine at → AreFirst machine at.state events → at.steps + sum_by steps_of events ≤ most_steps →
    ComesTo machine (after_events machine events at)

-- where the least node with work is to be evaluated, it is evaluated and its nets are updated
abbrev pub NodesGoOn : Type 0
NodesGoOn =
    (machine : Machine) (at : Moment) (node : ℕ) (text : FlatNode) → KeepsRules machine.design → ComesTo machine at → at.steps ≤ most_steps →
    slice_get machine.design.nodes node ≡ Some text → work_of 0 at.state.nodes ≡ Some (Evaluation node) →
    ComesTo machine (after_node machine node at)

-- no node has work
abbrev pub NoNodeWorks : State → Type 0
NoNodeWorks state = work_of 0 state.nodes ≡ None

-- the first process with an update in its lane, and the first that is ready
abbrev pub first_lane : State → Option ℕ
first_lane state = first_place (λ (p : ProcessState). is_any p.lane) state.processes

abbrev pub first_ready : State → Option ℕ
first_ready state = first_place (λ (p : ProcessState). is_ready p.activity) state.processes

-- where no node has work, the least lane goes on
abbrev pub LanesGoOn : Type 0
LanesGoOn =
    (machine : Machine) (at : Moment) (process : ℕ) → KeepsRules machine.design → ComesTo machine at → at.steps ≤ most_steps → NoNodeWorks at.state → first_lane at.state ≡ Some process →
    ComesTo machine (after_event machine (LaneStep process) at)

-- where there is no lane either, the least ready process goes on
abbrev pub StepsGoOn : Type 0
StepsGoOn =
    (machine : Machine) (at : Moment) (process : ℕ) → KeepsRules machine.design → ComesTo machine at → at.steps ≤ most_steps → NoNodeWorks at.state → first_lane at.state ≡ None →
    first_ready at.state ≡ Some process → ComesTo machine (after_event machine (Step process) at)

-- no event is possible
abbrev pub IsIdle : State → Type 0
IsIdle state = (work_of 0 state.nodes ≡ None) × (first_lane state ≡ None) × (first_ready state ≡ None)

-- the phases of a slot that ended are at most as many as its process and lane steps so far, and one: such a step follows each turn within the slot
abbrev pub PhasesAreFew : Type 0
PhasesAreFew = (machine : Machine) (at : Moment) → ComesTo machine at → length at.ended ≤ at.steps + 1

-- so are all phases of a slot of the first run
abbrev pub SlotPhasesAreFew : Type 0
SlotPhasesAreFew = (machine : Machine) (time : ℕ) → AllHold (λ (slot : FirstSlot). length (phases machine slot) ≤ counted_steps slot.moves + 2) (first_run machine time)

-- a process or its lane may take a step, and no node has work
abbrev pub AwaitsStep : State → Type 0
AwaitsStep state = (some_in has_event state.processes ≡ true) × (work_of 0 state.nodes ≡ None)

-- so it is after a turn within a slot, whatever order led to it
abbrev pub TurnsWake : Type 0
TurnsWake = (state : State) (kind : TurnKind) → is_quiescent state ≡ true → turn_of state ≡ Some kind → turn_in_slot (Some kind) ≡ Some Turns → AwaitsStep (turned kind state)

-- where no event is possible, a turn within the slot ends the phase and begins the next one
abbrev pub TurnsGoOn : Type 0
TurnsGoOn =
    (machine : Machine) (at : Moment) (turn : TurnKind) → KeepsRules machine.design → ComesTo machine at → at.steps ≤ most_steps → IsIdle at.state → turn_of at.state ≡ Some turn →
    turn_in_slot (Some turn) ≡ Some Turns → ComesTo machine (after_turn turn at)

-- where no event and no turn within the slot is possible, the slot ends, and is not hyperactive
abbrev pub QuietSlotsEnd : Type 0
QuietSlotsEnd =
    (machine : Machine) (at : Moment) → ComesTo machine at → at.steps ≤ most_steps → IsIdle at.state → turn_in_slot (turn_of at.state) ≡ None → EndsAt machine false at

-- where no further step may be taken, the slot ends, and is hyperactive
abbrev pub HyperSlotsEnd : Type 0
HyperSlotsEnd = (machine : Machine) (at : Moment) → ComesTo machine at → at.steps ≡ most_steps + 1 → EndsAt machine true at

-- where a slot ends with no event possible, the slot to whose time a turn leads begins as the laws ask
abbrev pub NextSlotsBegin : Type 0
NextSlotsBegin =
    (machine : Machine) (at : Moment) (time : ℕ) → KeepsRules machine.design → ComesTo machine at → IsIdle at.state → turn_of at.state ≡ Some (TimeTurn time) →
    BeginsPhase machine (time_turn time at.state)

-- the first race, where there is none before
abbrev pub or_race : Option ReportedPair → Option ReportedPair → Option ReportedPair
or_race None later = later
or_race (Some race) later = Some race

-- one phase more: the first race is that of the phases before, else that of this phase, by its number
abbrev pub RacesGoOn : Type 0
RacesGoOn =
    (machine : Machine) (before : List Phase) (phase : Phase) →
    first_race machine 1 (before ++ phase ∷ [])
    ≡ or_race (first_race machine 1 before) (option_map (race_of phase.begins.time (length before + 1)) (phase_race machine phase.begins phase.events))

-- one event more in a phase is noted in the state to which the events before it led
abbrev pub NotesGoOn : Type 0
NotesGoOn =
    (machine : Machine) (begins : State) (events : List Event) (event : Event) →
    noted_events machine begins (events ++ event ∷ [])
    ≡ noted_events machine begins events ++ note_of machine (noted_events machine begins events) (happened machine begins events) event ∷ []
