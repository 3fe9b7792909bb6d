-- A state of the good machine as it is shown: what the objects hold, and where each process stands with what it has yet to write (processes by IEEE 1364-2001, clause 9; nonblocking updates by clause 9.2.2).
use Rattle.std.specs.Prelude.{◌≡◌, ℕ, Bool, true, false, ◌||◌, List, [], length, get_or, Option, Some, None, nat_eq, slice_get}
use Rattle.vf_base.specs.Lists.{has}
use Rattle.four_value.specs.Values.{LogicValue}
use Rattle.v_design.specs.Assignments.{ValueUpdate}
use Rattle.v_design.specs.Designs.{FlatDesign}
use Rattle.v_design.specs.States.{State, LaterUpdate, process_at}
use Rattle.process_code.specs.StatesOf.{IsStateOf}
use Rattle.process_code.specs.declared.code.Code.{Code}
use Rattle.process_code.specs.declared.state.ProcState.{ProcState}
use Rattle.run_ends.specs.RunEnds.{IsCodeAt}
use Rattle.copy_laws.specs.Moves.{Parts}
use Rattle.good_trace.specs.RunsKept.{Stands}
use Rattle.moment_runs.specs.Taken.{ProcessesKept}

-- what contracts see: the slots of the window, how many of the good first run stand before it and before its end; the slot, the phase and the moment of the next event, numbered in the window; the time;
-- what each object holds; of each process where it stands, what it has pending, and its lane; how many runs of the slot have ended, and how many of each process in the phase; and of the block that was
-- passed last the objects that it wrote, the processes that it stepped or whose waits it ended, and whose lane it stepped
pub record MomentKept : Type 0 where
  pub before : ℕ
  pub through : ℕ
  pub slot : ℕ
  pub phase : ℕ
  pub moment : ℕ
  pub time : ℕ
  pub values : List LogicValue
  pub states : List ProcState
  pub later : List (List LaterUpdate)
  pub lanes : List (List ValueUpdate)
  pub runs : ℕ
  pub ran : List ℕ
  pub changed : List ℕ
  pub acted : List ℕ
  pub lane : Option ℕ

-- there is as much of each kind as the design has objects and processes
pub record HasCounts (design : FlatDesign) (kept : MomentKept) : Type 0 where
  pub values : length kept.values ≡ length design.objects
  pub states : length kept.states ≡ length design.processes
  pub later : length kept.later ≡ length design.processes
  pub lanes : length kept.lanes ≡ length design.processes
  pub ran : length kept.ran ≡ length design.processes

-- and each process stands in a state of its codes: from there it can be brought to any other moment
pub record IsWhole (design : FlatDesign) (kept : MomentKept) : Type 0 where
  pub counts : HasCounts design kept
  pub states : (process : ℕ) (own : ProcState) (code : Code) → slice_get kept.states process ≡ Some own → IsCodeAt design process code → IsStateOf code own

-- a state is shown: these are its values, each process stands in a state of its codes that does what it does, and has these updates pending and in its lane
pub record ShowsState (design : FlatDesign) (state : State) (kept : MomentKept) : Type 0 where
  pub counts : HasCounts design kept
  pub process_count : length state.processes ≡ length design.processes
  pub node_count : length state.nodes ≡ length design.nodes
  pub values : kept.values ≡ state.values
  pub stands : (process : ℕ) (own : ProcState) → slice_get kept.states process ≡ Some own → Stands design process (process_at state process).activity own
  pub later : (process : ℕ) → get_or kept.later process [] ≡ (process_at state process).later
  pub lanes : (process : ℕ) → get_or kept.lanes process [] ≡ (process_at state process).lane
  pub time : kept.time ≡ state.time

-- the processes alone
abbrev pub processes_in : MomentKept → ProcessesKept
processes_in kept = record { states = kept.states; later = kept.later; ran = kept.ran }

-- whether a lane is that of a process
abbrev pub is_lane : Option ℕ → ℕ → Bool
is_lane None process = false
is_lane (Some own) process = nat_eq process own

-- the objects that the block passed last wrote, and the processes that it stepped, whose lane it stepped, or whose waits it ended; all nodes
abbrev pub parts_told : MomentKept → Parts
parts_told kept = record { objects = has kept.changed; nodes = λ number. true; processes = λ process. has kept.acted process || is_lane kept.lane process }
