-- A machine in the midst of a slot: the moment to which the first order has come, and what is recorded of it (IEEE 1364-2001, clause 5).
use Rattle.std.specs.Prelude.{◌≡◌, ℕ, ◌+◌, ◌≤◌, ◌^◌, true, List, length, sum_by}
use Rattle.v_design.specs.PlainDesigns.{design_of}
use Rattle.v_design.specs.Designs.{Machine}
use Rattle.v_design.specs.Runs.{most_steps}
use Rattle.v_design.specs.Grades.{Phase}
use Rattle.causal_monitor.specs.declared.slot.Turn.{Turn}
use Rattle.causal_monitor.specs.declared.slot.SlotLog.{SlotLog}
use Rattle.race_laws.specs.Writes.{WritesAreOf}
use Rattle.machine_laws.specs.SlotLoop.{Moment, ComesTo, present_phase}
use Rattle.slot_record.specs.SlotRecords.{RecordsSlot}
use Rattle.run_record.specs.RunRecords.{RecordsRuns}
use Rattle.net_state.specs.States.{values_in}
use Rattle.process_table.specs.Arranged.{IsKept, table_of}
use Rattle.machine.specs.declared.parts.Machine.{Machine as Simulated}
use Rattle.machine.specs.Standing.{machine_kept, state_kept, notes_runs}

-- the moves of some phases that ended: the events of each, and the turn after it
abbrev pub moves_in : List Phase → ℕ
moves_in phases = sum_by (λ (phase : Phase). length phase.events + 1) phases

-- the moves of a slot so far, at a moment
abbrev pub moves_so_far : Moment → ℕ
moves_so_far at = moves_in at.ended + length at.events

-- the parts of a machine agree
pub record AreParts (m : Simulated) : Type 0 where
  pub table : IsKept m.table
  pub design : (table_of m.table).design ≡ (machine_kept m).design
  pub graph : design_of m.graph.now.design.now ≡ (machine_kept m).design
  pub values : length (values_in m.nets) ≡ length (machine_kept m).design.objects

-- a machine stands at a moment of a slot whose first phase comes after a turn, and the slot is recorded so far
pub record IsAt (machine : Machine) (first : Turn) (at : Moment) (m : Simulated) (log : SlotLog) : Type 0 where
  pub machine_is : machine_kept m ≡ machine
  pub comes : ComesTo machine at
  pub state_is : state_kept m ≡ at.state
  pub recorded : RecordsSlot machine first at.ended (present_phase at) m.record log
  pub parts : AreParts m
  pub in_time : at.begins.time ≤ 2 ^ 63
  pub writes : WritesAreOf machine.design at.begins
  pub runs : notes_runs m ≡ true → RecordsRuns machine at.ended (present_phase at) m.runs

-- a machine stands at some moment of some slot
pub record IsMoving (m : Simulated) : Type 0 where
  pub first : Turn
  pub at : Moment
  pub log : SlotLog
  pub is : IsAt (machine_kept m) first at m log

-- the same with a given log of the slot
pub record IsMovingIn (m : Simulated) (log : SlotLog) : Type 0 where
  pub first : Turn
  pub at : Moment
  pub is : IsAt (machine_kept m) first at m log

-- from each moment at which the machine stood, so few steps into the slot that it may go on, it comes to another
pub record GoesOn (step : Machine → Moment → Moment) (old new : Simulated) : Type 0 where
  pub notes_are : notes_runs new ≡ notes_runs old
  pub leads : (machine : Machine) (first : Turn) (at : Moment) (log : SlotLog) → IsAt machine first at old log → at.steps ≤ most_steps → IsAt machine first (step machine at) new log

-- a machine stands at each moment at which it stood, with the same machine and state
pub record StaysAt (old new : Simulated) : Type 0 where
  pub machine_is : machine_kept new ≡ machine_kept old
  pub state_is : state_kept new ≡ state_kept old
  pub notes_are : notes_runs new ≡ notes_runs old
  pub at : (machine : Machine) (first : Turn) (at : Moment) (log : SlotLog) → IsAt machine first at old log → IsAt machine first at new log
