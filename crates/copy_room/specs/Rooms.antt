-- A machine that is put into the states of faulty machines (slots by IEEE 1364-2001, clause 5).
use Rattle.std.specs.Prelude.{◌≡◌, ℕ, List, false}
use Rattle.v_design.specs.Designs.{FlatDesign, StuckAt, TestPlan, faulty_machine}
use Rattle.v_design.specs.States.{State, turn_of}
use Rattle.process_code.specs.declared.code.Code.{Code}
use Rattle.between_slots.specs.Between.{state_through}
use Rattle.copy_state.specs.Kept.{CopyKept}
use Rattle.copy_between.specs.Beside.{IsCopyOf}
use Rattle.machine.specs.Standing.{IsStanding, StandsBetween, machine_kept, state_kept, notes_runs, begins_next, slot_after}
use Rattle.machine.specs.declared.parts.Stage.TheVariants.{Between}
use Rattle.machine.specs.declared.parts.Machine.{Machine as Simulated}

-- a machine of a design that stands somewhere in a run and notes no ends of process runs
pub record IsRoom (design : FlatDesign) (m : Simulated) : Type 0 where
  pub standing : IsStanding m
  pub design_is : (machine_kept m).design ≡ design
  pub no_notes : notes_runs m ≡ false

-- a copy stands, beside the good machine's state after so many of its slots, for a state of a faulty machine at a time, between two slots of its run
pub record CanEnter (codes : List Code) (design : FlatDesign) (plan : TestPlan) (number : ℕ) (fault : StuckAt) (time : ℕ) (kept : CopyKept) : Type 0 where
  pub faulty : State
  pub between : StandsBetween (faulty_machine design fault) faulty
  pub time_is : faulty.time ≡ time
  pub copy : IsCopyOf codes (state_through design plan number) faulty kept

-- a room is the faulty machine, and stands in this state between two slots of its run
pub record HasEntered (design : FlatDesign) (fault : StuckAt) (faulty : State) (m : Simulated) : Type 0 where
  pub machine_is : machine_kept m ≡ faulty_machine design fault
  pub state_is : state_kept m ≡ faulty
  pub standing : IsStanding m
  pub next_is : begins_next m ≡ slot_after faulty (turn_of faulty)
  pub stage : m.stage ≡ Between
  pub no_notes : notes_runs m ≡ false
