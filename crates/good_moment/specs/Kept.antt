-- The state that is shown, as the code keeps it (processes by IEEE 1364-2001, clause 9; nonblocking updates by clause 9.2.2).
use Rattle.std.specs.Prelude.{◌≡◌, ℕ, List, map, length, Some, Vec, slice_get}
use Rattle.std.specs.Option.{option_map}
use Rattle.std.specs.declared.alloc.Global.{Global}
use Rattle.vf_base.specs.Base.{object_number, process_number}
use Rattle.four_value.specs.Values.{LogicValue}
use Rattle.v_design.specs.declared.plan.Due.{Due}
use Rattle.process_code.specs.StatesOf.{IsStateOf}
use Rattle.process_code.specs.declared.code.Code.{Code}
use Rattle.process_code.specs.declared.state.ProcState.{ProcState}
use Rattle.moment_parts.specs.Lanes.{lanes_left, later_lists}
use Rattle.moment_parts.specs.declared.lane.Lane.{Lane}
use Rattle.moment_parts.specs.declared.kept.Standing.{Standing}
use Rattle.moment_parts.specs.declared.kept.Passed.{Passed}
use Rattle.passed_blocks.specs.moment_laws.Shown.{MomentKept}
use Rattle.good_moment.specs.declared.place.MomentPlace.{MomentPlace}

-- as the code's type says
abbrev pub kept_of : MomentPlace → ℕ → List LogicValue → Standing → Passed → MomentKept
kept_of place time values standing passed = record {
  before = place.before;
  through = place.through;
  slot = place.slot;
  phase = place.phase;
  moment = place.moment;
  time = time;
  values = values;
  states = standing.states.items;
  later = later_lists standing.later.items;
  lanes = lanes_left standing.lanes.items;
  runs = place.runs;
  ran = standing.ran.items;
  changed = map object_number passed.changed.items;
  acted = map process_number passed.acted.items;
  lane = option_map process_number passed.lane;
}

-- so many processes stand in states of their codes, with nothing pending
pub record AreBegun (codes : List Code) (count : ℕ) (states : List ProcState) (later : List (Vec Due Global)) (lanes : List Lane) (ran : List ℕ) : Type 0 where
  pub states_count : length states ≡ count
  pub later_count : length later ≡ count
  pub lanes_count : length lanes ≡ count
  pub ran_count : length ran ≡ count
  pub each : (process : ℕ) (own : ProcState) (code : Code) → slice_get states process ≡ Some own → slice_get codes process ≡ Some code → IsStateOf code own
