-- What some events change, by who acts in them, what they write and whose waits they end; and what one state has otherwise than another (IEEE 1364-2001, clause 5).
use Rattle.std.specs.Prelude.{◌≡◌, ℕ, Bool, true, false, ◌||◌, List, [], ◌∷◌, length}
use Rattle.vf_base.specs.Lists.{has}
use Rattle.v_design.specs.Designs.{Machine}
use Rattle.v_design.specs.States.{State, Event, Step, LaneStep, after, process_at, some_in}
use Rattle.v_design.specs.Runs.{happened}
use Rattle.v_design.specs.PhaseLogs.{is_step_of, is_lane_of}
use Rattle.copy_laws.specs.Moves.{Within, IsWithin, Parts, ChangesOnly, objects_changed}
use Rattle.copy_laws.specs.QuietPhases.{ends_its_wait}
use Rattle.block_filter.specs.Blocks.{may_cause_later}

-- Events

-- whether a test passes at some of the events, each in the state that the ones before it lead to
abbrev pub some_event : (State → Event → Bool) → Machine → State → List Event → Bool
some_event test machine state [] = false
some_event test machine state (event ∷ events) = test state event || some_event test machine (after machine state event) events

-- whether some of the events may write an object, is a step of a process or of its lane, or ends the wait of a process
abbrev pub writes_object : Machine → State → List Event → ℕ → Bool
writes_object machine state events object = some_event (λ before event. has (objects_changed machine before event) object) machine state events

abbrev pub ends_wait_of : Machine → State → List Event → ℕ → Bool
ends_wait_of machine state events process = some_event (λ before event. ends_its_wait machine before event process) machine state events

abbrev pub steps_process : List Event → ℕ → Bool
steps_process events process = some_in (is_step_of process) events

abbrev pub steps_lane : List Event → ℕ → Bool
steps_lane events process = some_in (is_lane_of process) events

-- the parts that some events change, nodes aside: the objects that they write, and the processes that step, whose lane steps or whose wait ends; a process that waits on without being woken isn't one
-- of them
abbrev pub parts_changed : Machine → State → List Event → Parts
parts_changed machine state events = record {
  objects = writes_object machine state events;
  nodes = λ number. true;
  processes = λ process. (steps_process events process || steps_lane events process) || ends_wait_of machine state events process;
}

-- The laws

-- an event leaves each process as it is that neither steps, itself or its lane, nor is woken
abbrev pub OnlyWokenChange : Type 0
OnlyWokenChange =
    (machine : Machine) (state : State) (event : Event) (process : ℕ) → is_step_of process event ≡ false → is_lane_of process event ≡ false → ends_its_wait machine state event process ≡ false →
    process_at (after machine state event) process ≡ process_at state process

-- so events change these parts alone
abbrev pub EventsChangeParts : Type 0
EventsChangeParts =
    (machine : Machine) (state : State) (events : List Event) → length state.nodes ≡ length machine.design.nodes →
    ChangesOnly (parts_changed machine state events) state (happened machine state events)

-- later steps of a process may have their cause in some events just where these step or wake it, and those of a lane just where these step the lane
pub record CausesAreTold : Type 0 where
  pub steps : (machine : Machine) (state : State) (events : List Event) (process : ℕ) →
      may_cause_later machine state events (Step process) ≡ (steps_process events process || ends_wait_of machine state events process)
  pub lanes : (machine : Machine) (state : State) (events : List Event) (process : ℕ) → may_cause_later machine state events (LaneStep process) ≡ steps_lane events process

-- two states that a good state becomes by the same differences, at one time, are equal
abbrev pub WithinIsOne : Type 0
WithinIsOne = (d : Within) (good one other : State) → IsWithin d good one → IsWithin d good other → one.time ≡ other.time → one ≡ other
