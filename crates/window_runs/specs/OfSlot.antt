-- The runs of the phases of a slot, as the ends of a window's runs tell of them (slots and phases by IEEE 1364-2001, clause 5; processes by clause 9).
use Rattle.std.specs.Prelude.{◌≡◌, ℕ, ◌+◌, ◌<◌, ◌^◌, List, length, Option, None, Some, slice_get}
use Rattle.vf_base.specs.Lists.{AllHold}
use Rattle.v_design.specs.Designs.{FlatDesign, Machine, good_machine}
use Rattle.v_design.specs.Grades.{Phase}
use Rattle.v_design.specs.OwnSteps.{ProcessRun, process_runs}
use Rattle.window_runs.specs.OfPhase.{TellsRuns}
use Rattle.window_runs.specs.declared.phase.PhaseRuns.{PhaseRuns}
use Rattle.window_runs.specs.declared.slot.SlotRuns.{SlotRuns}

-- phases that begin at a time
abbrev pub HaveTime : ℕ → List Phase → Type 0
HaveTime time phases = AllHold (λ (phase : Phase). phase.begins.time ≡ time) phases

-- what is kept of the phase of a number of a slot, counted from 0
abbrev pub phase_of : SlotRuns → ℕ → PhaseRuns
phase_of kept number = record { index = kept.index; runs = kept.runs; phase = kept.before + number + 1 }

-- these are the phases of the good machine's slot of a design at a time, and the runs of each are told; none where it has no slot then
pub record TellsSlot (design : FlatDesign) (time : ℕ) (phases : List Phase) (kept : SlotRuns) : Type 0 where
  pub count : length phases ≡ kept.phases
  pub fits : kept.before + kept.phases < 2 ^ 32
  pub at_time : HaveTime time phases
  pub told : (number : ℕ) (phase : Phase) → slice_get phases number ≡ Some phase → TellsRuns design time (λ process. process_runs (good_machine design) process phase) (phase_of kept number)

-- the run of a number of a process in a phase, if there is one
abbrev pub run_in : Machine → Option Phase → ℕ → ℕ → Option ProcessRun
run_in machine None process number = None
run_in machine (Some phase) process number = slice_get (process_runs machine process phase) number

-- the slot has runs of a process of a design
pub record HasRunsOfSlot (process : ℕ) (kept : SlotRuns) : Type 0 where
  pub design : FlatDesign
  pub time : ℕ
  pub phases : List Phase
  pub tells : TellsSlot design time phases kept
  pub there : process < length design.processes
