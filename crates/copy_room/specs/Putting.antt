-- A room that is being put into a state, object by object and process by process (nothing of the language).
use Rattle.std.specs.Prelude.{◌≡◌, ℕ, ◌<◌, ◌≤◌, List, length, false}
use Rattle.v_design.specs.Assignments.{value_at}
use Rattle.v_design.specs.Designs.{FlatDesign, Machine, StuckAt, TestPlan, faulty_machine}
use Rattle.v_design.specs.States.{State, process_at, idle_process}
use Rattle.process_code.specs.declared.code.Code.{Code}
use Rattle.run_ends.specs.RunEnds.{AreCodesOf}
use Rattle.between_slots.specs.Between.{state_through}
use Rattle.copy_state.specs.Kept.{CopyKept}
use Rattle.copy_between.specs.Beside.{IsCopyOf}
use Rattle.machine.specs.Standing.{IsCleared, StandsBetween, machine_kept, state_kept, notes_runs}
use Rattle.machine.specs.declared.parts.Machine.{Machine as Simulated}

-- it is the machine whose state it is, no slot is left to it, and it has the state's time and nodes; so many objects hold what they hold there, so many processes stand where they stand
-- there, and the others are done
pub record IsPlaced (machine : Machine) (state : State) (objects processes : ℕ) (m : Simulated) : Type 0 where
  pub machine_is : machine_kept m ≡ machine
  pub cleared : IsCleared m
  pub no_notes : notes_runs m ≡ false
  pub time_is : (state_kept m).time ≡ state.time
  pub nodes_are : (state_kept m).nodes ≡ state.nodes
  pub value_count : length (state_kept m).values ≡ length state.values
  pub process_count : length (state_kept m).processes ≡ length state.processes
  pub values : (object : ℕ) → object < objects → value_at (state_kept m).values object ≡ value_at state.values object
  pub placed : (process : ℕ) → process < processes → process_at (state_kept m) process ≡ process_at state process
  pub others : (process : ℕ) → processes ≤ process → process_at (state_kept m) process ≡ idle_process

-- so far, where the state is that of a faulty machine, for which a copy stands beside the good machine's state after so many slots
pub record CanPut (design : FlatDesign) (plan : TestPlan) (number : ℕ) (kept : CopyKept) (objects processes : ℕ) (m : Simulated) : Type 0 where
  pub codes : List Code
  pub codes_are : AreCodesOf design codes
  pub fault : StuckAt
  pub faulty : State
  pub between : StandsBetween (faulty_machine design fault) faulty
  pub copy : IsCopyOf codes (state_through design plan number) faulty kept
  pub placed : IsPlaced (faulty_machine design fault) faulty objects processes m
