-- What a state between the slots of the good first run has: the nonblocking updates that its processes have pending, and nothing that is still to be done (slots by IEEE 1364-2001, clause 5;
-- nonblocking updates by clause 9.2.2).
use Rattle.std.specs.Prelude.{◌≡◌, ℕ, zero, suc, ◌<◌, ◌≤◌, false, not, List, [], ◌++◌, map, filter, length, Some, slice_get}
use Rattle.vf_base.specs.Lists.{joined}
use Rattle.v_design.specs.Designs.{FlatDesign, Machine, TestPlan, good_machine}
use Rattle.v_design.specs.States.{State, LaterUpdate, process_at, node_at, idle_node, is_due}
use Rattle.v_design.specs.Runs.{FirstSlot, is_hyper}
use Rattle.v_design.specs.Grades.{Phase}
use Rattle.v_design.specs.OwnSteps.{ProcessRun, process_runs}
use Rattle.v_design.specs.Laws.{HaveWidths}
use Rattle.v_design.specs.WellFormed.{KeepsRules}
use Rattle.copy_laws.specs.SharedRuns.{appended_by}
use Rattle.copy_laws.specs.Windows.{good_slots}
use Rattle.between_slots.specs.Between.{state_through, window_phases}

-- Updates

-- those of some updates that are due after a time
abbrev pub due_after : ℕ → List LaterUpdate → List LaterUpdate
due_after time updates = filter (λ later. not (is_due time later)) updates

-- what the runs of a process in a phase append, and in some phases, in order
abbrev pub appended_in_phase : Machine → ℕ → Phase → List LaterUpdate
appended_in_phase machine process phase = joined (map (λ (run : ProcessRun). appended_by phase.begins.time run.steps) (process_runs machine process phase))

abbrev pub appended_in : Machine → ℕ → List Phase → List LaterUpdate
appended_in machine process phases = joined (map (appended_in_phase machine process) phases)

-- the updates that a process has pending after so many slots of the good first run
abbrev pub updates_through : FlatDesign → TestPlan → ℕ → ℕ → List LaterUpdate
updates_through design plan number process = (process_at (state_through design plan number) process).later

-- What is left to do

-- a state has a part for each part of the design, no node has work, and no lane has an update
pub record Rests (design : FlatDesign) (state : State) : Type 0 where
  pub value_count : length state.values ≡ length design.objects
  pub node_count : length state.nodes ≡ length design.nodes
  pub process_count : length state.processes ≡ length design.processes
  pub nodes : (node : ℕ) → node_at state node ≡ idle_node
  pub lanes : (process : ℕ) → (process_at state process).lane ≡ []

-- The laws

-- none of the slots of the good first run from one number to before another is hyperactive
abbrev pub AreFew : FlatDesign → TestPlan → ℕ → ℕ → Type 0
AreFew design plan begins ends =
    (number : ℕ) (slot : FirstSlot) → begins ≤ number → number < ends → slice_get (good_slots design plan) number ≡ Some slot → is_hyper slot ≡ false

-- the last of so many slots of the good first run, if there is one, isn't hyperactive
abbrev pub LastIsFew : FlatDesign → TestPlan → ℕ → Type 0
LastIsFew design plan zero = Unit {0}
LastIsFew design plan (suc last) = (slot : FirstSlot) → slice_get (good_slots design plan) last ≡ Some slot → is_hyper slot ≡ false

-- after so many slots of the good first run nothing is left to do before time moves on
abbrev pub StatesRest : Type 0
StatesRest =
    (design : FlatDesign) (plan : TestPlan) (number : ℕ) → KeepsRules design → number ≤ length (good_slots design plan) → LastIsFew design plan number →
    Rests design (state_through design plan number)

-- and each value is as wide as its object
abbrev pub StatesHaveWidths : Type 0
StatesHaveWidths =
    (design : FlatDesign) (plan : TestPlan) (number : ℕ) → KeepsRules design → number ≤ length (good_slots design plan) → LastIsFew design plan number →
    HaveWidths (good_machine design) (state_through design plan number).values

-- a state in which nothing is left to do is told by its time, its values, and what its processes do and have pending
abbrev pub RestingStatesAreTold : Type 0
RestingStatesAreTold =
    (design : FlatDesign) (one other : State) → Rests design one → Rests design other → one.time ≡ other.time → one.values ≡ other.values →
    ((process : ℕ) → process < length design.processes → (process_at one process).activity ≡ (process_at other process).activity) →
    ((process : ℕ) → process < length design.processes → (process_at one process).later ≡ (process_at other process).later) → one ≡ other

-- behind a slot of the good first run it is that slot's time
abbrev pub SlotsTakeNoTime : Type 0
SlotsTakeNoTime =
    (design : FlatDesign) (plan : TestPlan) (last : ℕ) (slot : FirstSlot) → KeepsRules design → slice_get (good_slots design plan) last ≡ Some slot →
    (state_through design plan (suc last)).time ≡ slot.begins.time

-- behind a slot of the good first run a process has pending what it had pending some slots before, and what its runs of the slots since then appended, as far as that is due after the slot
abbrev pub UpdatesArePending : Type 0
UpdatesArePending =
    (design : FlatDesign) (plan : TestPlan) (begins last process : ℕ) (slot : FirstSlot) → KeepsRules design → begins ≤ last → slice_get (good_slots design plan) last ≡ Some slot →
    AreFew design plan begins (suc last) → process < length design.processes →
    updates_through design plan (suc last) process
    ≡ due_after slot.begins.time (updates_through design plan begins process ++ appended_in (good_machine design) process (window_phases design plan begins (suc last)))
