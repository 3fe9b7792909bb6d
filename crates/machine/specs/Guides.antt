-- How the steps of a slot's processes are made, and what a counter of steps says of that (slots by IEEE 1364-2001, clause 5; steps by clause 9).
use Rattle.std.specs.Prelude.{◌≡◌, ℕ, ◌-◌, ◌≤◌, Bool}
use Rattle.vf_base.specs.Counts.{raised}
use Rattle.v_design.specs.Designs.{Machine}
use Rattle.v_design.specs.Runs.{most_steps}
use Rattle.v_design.specs.States.{State}
use Rattle.causal_monitor.specs.declared.slot.Turn.{Turn}
use Rattle.causal_monitor.specs.declared.slot.SlotLog.{SlotLog}
use Rattle.machine_laws.specs.SlotLoop.{Moment, ComesTo, EndsAt}
use Rattle.net_state.specs.declared.state.NetState.{NetState}
use Rattle.process_table.specs.declared.table.ProcessTable.{ProcessTable}
use Rattle.runs_beside.specs.Beside.{IsSomewhereAmong, RoseBeside, StaysOf, Steps}
use Rattle.machine.specs.declared.guide.Guide.{Guide}
use Rattle.machine.specs.declared.guide.Guide.TheVariants.{Alone, Beside}
use Rattle.machine.specs.declared.parts.Machine.{Machine as Simulated}
use Rattle.machine.specs.Standing.{machine_kept}
use Rattle.machine.specs.Moments.{IsAt}
use Rattle.machine.specs.Ticks.{raised_by, steps_so_far}

-- One step

-- a process may take the next step of a phase with a number, counted from 1
abbrev pub MayStep : Guide → ProcessTable → NetState → ℕ → ℕ → Type 0
MayStep Alone table nets number process = Unit {0}
MayStep (Beside kept) table nets number process = IsSomewhereAmong kept table nets (number - 1) process

-- it took it, while a counter went from one number to another
abbrev pub StepsBy : Guide → Guide → ProcessTable → NetState → ℕ → ℕ → ℕ → ℕ → Type 0
StepsBy Alone Alone table nets number process before now = now ≡ raised before
StepsBy Alone (Beside new) table nets number process before now = ⊥
StepsBy (Beside old) Alone table nets number process before now = ⊥
StepsBy (Beside old) (Beside new) table nets number process before now = StaysOf old new × Steps old new table nets (number - 1) process before now

-- the same way, beside the same runs
abbrev pub StaysGuide : Guide → Guide → Type 0
StaysGuide Alone Alone = Unit {0}
StaysGuide Alone (Beside new) = ⊥
StaysGuide (Beside old) Alone = ⊥
StaysGuide (Beside old) (Beside new) = StaysOf old new

-- A slot so far

-- at a moment of a slot a counter went so far since the slot began: by the process steps so far, or as it may beside the good machine's runs
abbrev pub Counts : Guide → Machine → Moment → ℕ → ℕ → Type 0
Counts Alone machine at before now = now ≡ raised_by (steps_so_far at) before
Counts (Beside kept) machine at before now = RoseBeside machine at kept before now

-- a machine stands at some moment of some slot, so few steps into it that it may go on, to which a counter went
pub record IsMovingBy (guide : Guide) (now : ℕ) (m : Simulated) : Type 0 where
  pub first : Turn
  pub at : Moment
  pub log : SlotLog
  pub is : IsAt (machine_kept m) first at m log
  pub few : at.steps ≤ most_steps
  pub before : ℕ
  pub counts : Counts guide (machine_kept m) at before now

-- the same with a given log of the slot
pub record IsMovingInBy (guide : Guide) (now : ℕ) (m : Simulated) (log : SlotLog) : Type 0 where
  pub first : Turn
  pub at : Moment
  pub is : IsAt (machine_kept m) first at m log
  pub few : at.steps ≤ most_steps
  pub before : ℕ
  pub counts : Counts guide (machine_kept m) at before now

-- from each moment at which the machine stood, the counter went on as the machine does
abbrev pub CountsOn : (step : Machine → Moment → Moment) (old new : Guide) (now after : ℕ) (m : Simulated) → Type 0
CountsOn step old new now after m =
    (machine : Machine) (first : Turn) (at : Moment) (log : SlotLog) (before : ℕ) → IsAt machine first at m log → at.steps ≤ most_steps → Counts old machine at before now →
    Counts new machine (step machine at) before after

-- a counter went so to the end of the slot that a state begins
pub record HasCounted (machine : Machine) (begins : State) (guide : Guide) (before now : ℕ) : Type 0 where
  pub at : Moment
  pub hyper : Bool
  pub begins_is : at.begins ≡ begins
  pub comes : ComesTo machine at
  pub ends : EndsAt machine hyper at
  pub counts : Counts guide machine at before now
