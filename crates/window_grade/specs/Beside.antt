-- A faulty machine that is run beside the good machine's slots of a window, and a counter of its own steps (steps by IEEE 1364-2001, clause 9; slots by clause 5).
use Rattle.std.specs.Prelude.{◌≡◌, ℕ, ◌+◌, ◌≤◌, ◌&&◌, List, [], length, sum, Option, Some, find, nat_eq, if◌then◌else◌}
use Rattle.std.specs.List.{AllZip}
use Rattle.v_design.specs.Designs.{FlatDesign, StuckAt, TestPlan, good_machine, faulty_machine}
use Rattle.v_design.specs.Laws.{BeginsPhase}
use Rattle.v_design.specs.OwnSteps.{CountsOwn, ProcessRun, phases_if}
use Rattle.v_design.specs.Runs.{FirstSlot, first_run}
use Rattle.v_design.specs.States.{State}
use Rattle.copy_laws.specs.Windows.{comes_after, comes_by, runs_between}
use Rattle.grade_laws.specs.Decisions.{NotBefore}
use Rattle.grade_laws.specs.Grading.{faulty_stop}
use Rattle.own_counts.specs.Counts.{AtMostOwn}
use Rattle.own_counts.specs.Joins.{fault_end}
use Rattle.own_slots.specs.Slots.{WereTried}
use Rattle.good_runs.specs.declared.tried.TriedStep.{TriedStep}
use Rattle.good_trace.specs.BesideSlots.{TellsSlots}
use Rattle.machine.specs.Standing.{BeginsInFirstRun}
use Rattle.beside_laws.specs.Stands.{IsAfter}
use Rattle.window_grade.specs.declared.beside.RunBeside.{RunBeside}

-- a counter rose by at most what some runs count as own
abbrev pub RoseByOwn : List (Option ProcessRun × ProcessRun) → ℕ → ℕ → Type 0
RoseByOwn pairs before after = (counts : List ℕ) → AllZip CountsOwn pairs counts → after ≤ before + sum counts

-- The steps that were taken before

-- those of the slot of a time
abbrev pub tried_at : RunBeside → ℕ → List TriedStep
tried_at beside time = if nat_eq time beside.time then beside.tried.now else []

-- how many were taken after one time and up to another
abbrev pub tried_in : RunBeside → Option ℕ → Option ℕ → ℕ
tried_in beside from until = if comes_after from beside.time && comes_by until beside.time then length beside.tried.now else 0

-- the good machine's first slot of a time
abbrev pub slot_at : List FirstSlot → ℕ → Option FirstSlot
slot_at slots time = find (λ (other : FirstSlot). nat_eq other.begins.time time) slots

-- the steps that were taken are those that the faulty machine took itself in its slot of that time, and within each stretch of its slots at most the own steps there
pub record WereTaken (design : FlatDesign) (plan : TestPlan) (fault : StuckAt) (beside : RunBeside) : Type 0 where
  pub own : (from until : Option ℕ) → AtMostOwn (runs_between design plan from until fault) (tried_in beside from until)
  pub tried : (begins : State) → begins.time ≡ beside.time → BeginsPhase (faulty_machine design fault) begins → BeginsInFirstRun (faulty_machine design fault) begins →
      WereTried (good_machine design) (faulty_machine design fault) (phases_if (good_machine design) (slot_at (first_run (good_machine design) plan.end) begins.time)) begins beside.tried.now

-- behind one time and up to another it is known what the good machine's slots are, and which steps were taken
pub record IsKnownBeside (design : FlatDesign) (plan : TestPlan) (fault : StuckAt) (now : Option ℕ) (until : ℕ) (beside : RunBeside) : Type 0 where
  pub slots : List FirstSlot
  pub tells : TellsSlots design slots beside.slots
  pub found : (time : ℕ) → IsAfter now time → time ≤ until → slot_at (first_run (good_machine design) plan.end) time ≡ slot_at slots time
  pub taken : WereTaken design plan fault beside

-- up to a time the grading of a fault ends at most by a stop of its faulty machine
abbrev pub GoesUpTo : FlatDesign → TestPlan → StuckAt → ℕ → Type 0
GoesUpTo design plan fault until = (time : ℕ) → time ≤ until → NotBefore time (faulty_stop design plan fault) → time ≤ fault_end design plan fault

-- from one time to another a counter rose by at most the own steps there but for those that were taken before
abbrev pub TicksTo : FlatDesign → TestPlan → StuckAt → RunBeside → Option ℕ → Option ℕ → ℕ → ℕ → Type 0
TicksTo design plan fault beside from until before after = RoseByOwn (runs_between design plan from until fault) before (after + tried_in beside from until)
