-- What the processes do between the slots of a first run (slots and phases by IEEE 1364-2001, clause 5; processes by clause 9).
use Rattle.std.specs.Prelude.{◌≡◌, ℕ, zero, suc, ◌<◌, ◌≤◌, true, false, List, [], ◌∷◌, map, length, Some, None, slice_get}
use Rattle.vf_base.specs.Lists.{joined}
use Rattle.v_design.specs.Designs.{FlatDesign, Machine, TestPlan, good_machine}
use Rattle.v_design.specs.Processes.{Activity}
use Rattle.v_design.specs.States.{State, process_at, start, is_ready, is_quiescent}
use Rattle.v_design.specs.Runs.{FirstSlot, first_run, slot_end, is_hyper}
use Rattle.v_design.specs.Grades.{Phase, phases}
use Rattle.v_design.specs.OwnSteps.{ProcessRun, process_runs}
use Rattle.v_design.specs.WellFormed.{KeepsRules}
use Rattle.copy_laws.specs.SharedRuns.{activity_at_end}
use Rattle.copy_laws.specs.Windows.{good_slots, window_slots}

-- The state between slots

-- the state after so many of some slots, the first of which begins where a first state leads, and before the turn that leads to the next
abbrev pub state_after : Machine → State → List FirstSlot → ℕ → State
state_after machine first slots zero = first
state_after machine first slots (suc number) = elim (slice_get slots number) [ None ↦ first | Some slot ↦ slot_end machine slot ]

-- that of the good first run
abbrev pub state_through : FlatDesign → TestPlan → ℕ → State
state_through design plan number = state_after (good_machine design) (start (good_machine design)) (good_slots design plan) number

-- what a process does then
abbrev pub activity_through : FlatDesign → TestPlan → ℕ → ℕ → Activity
activity_through design plan number process = (process_at (state_through design plan number) process).activity

-- Runs

-- what a process does after some runs: what the last one left it doing
abbrev pub activity_after_runs : Activity → List ProcessRun → Activity
activity_after_runs activity [] = activity
activity_after_runs activity (run ∷ runs) = activity_after_runs (activity_at_end run.begins run.steps) runs

-- the phases of some slots, in order, and those of a window
abbrev pub slots_phases : Machine → List FirstSlot → List Phase
slots_phases machine slots = joined (map (phases machine) slots)

abbrev pub window_phases : FlatDesign → TestPlan → ℕ → ℕ → List Phase
window_phases design plan begins ends = slots_phases (good_machine design) (window_slots design plan begins ends)

-- the runs of a process in some phases, in order
abbrev pub runs_in : Machine → ℕ → List Phase → List ProcessRun
runs_in machine process phases = joined (map (process_runs machine process) phases)

-- The laws

-- at the end of a slot of the first run that isn't hyperactive no event is possible
abbrev pub SlotsRest : Type 0
SlotsRest =
    (machine : Machine) (time number : ℕ) (slot : FirstSlot) → KeepsRules machine.design → slice_get (first_run machine time) number ≡ Some slot → is_hyper slot ≡ false →
    is_quiescent (slot_end machine slot) ≡ true

-- a process that isn't ready at a slot's end does what its runs of the slot left it doing
abbrev pub SlotsLeave : Type 0
SlotsLeave =
    (machine : Machine) (slot : FirstSlot) (process : ℕ) → is_ready (process_at (slot_end machine slot) process).activity ≡ false →
    (process_at (slot_end machine slot) process).activity ≡ activity_after_runs (process_at slot.begins process).activity (runs_in machine process (phases machine slot))

-- after so many slots of the good first run, of which none is hyperactive, a process does what its runs since fewer slots left it doing
abbrev pub RunsLead : Type 0
RunsLead =
    (design : FlatDesign) (plan : TestPlan) (begins ends process : ℕ) → KeepsRules design → begins ≤ ends → ends ≤ length (good_slots design plan) →
    ((number : ℕ) (slot : FirstSlot) → begins ≤ number → number < ends → slice_get (good_slots design plan) number ≡ Some slot → is_hyper slot ≡ false) →
    activity_through design plan ends process
    ≡ activity_after_runs (activity_through design plan begins process) (runs_in (good_machine design) process (window_phases design plan begins ends))
