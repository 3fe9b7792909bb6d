-- What is shown of the good machine's state, part by part (processes by IEEE 1364-2001, clause 9; nonblocking updates by clause 9.2.2).
use Rattle.std.specs.Prelude.{◌≡◌, ℕ, List, [], Some, length, get_or, slice_get}
use Rattle.four_value.specs.Values.{LogicValue}
use Rattle.v_design.specs.Assignments.{ValueUpdate}
use Rattle.v_design.specs.Designs.{FlatDesign}
use Rattle.v_design.specs.PlainDesigns.{design_of}
use Rattle.v_design.specs.States.{State, LaterUpdate, process_at}
use Rattle.process_code.specs.declared.state.ProcState.{ProcState}
use Rattle.good_trace.specs.RunsKept.{Stands}
use Rattle.moment_parts.specs.Lanes.{lanes_left, later_lists}
use Rattle.moment_shown.specs.declared.shown.ShownMoment.{ShownMoment}

-- what objects hold, where processes stand, and what these have pending and in their lanes are those of a state
pub record ShowsParts (design : FlatDesign) (values : List LogicValue) (states : List ProcState) (later : List (List LaterUpdate)) (lanes : List (List ValueUpdate)) (state : State) : Type 0 where
  pub values_are : values ≡ state.values
  pub state_count : length states ≡ length state.processes
  pub later_count : length later ≡ length state.processes
  pub lane_count : length lanes ≡ length state.processes
  pub stands : (process : ℕ) (own : ProcState) → slice_get states process ≡ Some own → Stands design process (process_at state process).activity own
  pub later_are : (process : ℕ) → get_or later process [] ≡ (process_at state process).later
  pub lanes_are : (process : ℕ) → get_or lanes process [] ≡ (process_at state process).lane

abbrev pub Shows : ShownMoment → State → Type 0
Shows shown state =
    ShowsParts (design_of shown.design.now) shown.values.now shown.standing.now.states.items (later_lists shown.standing.now.later.items) (lanes_left shown.standing.now.lanes.items) state
