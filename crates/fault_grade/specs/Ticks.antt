-- The process steps of a first run, through its first slot that isn't fine, and a counter that rises by them (steps by IEEE 1364-2001, clause 9; slots by clause 5).
use Rattle.std.specs.Prelude.{◌≡◌, ℕ, zero, suc, ◌+◌, ◌≤◌, List, Option, Some, None, sum_by}
use Rattle.vf_base.specs.Lists.{AllHold}
use Rattle.vf_base.specs.declared.finding.End.{End}
use Rattle.vf_base.specs.declared.finding.Pair.{Pair}
use Rattle.vf_base.specs.declared.finding.Side.TheVariants.{Good, Faulty}
use Rattle.v_design.specs.Designs.{FlatDesign, Machine, StuckAt, TestPlan, faulty_machine}
use Rattle.v_design.specs.Runs.{FirstSlot, first_run}
use Rattle.v_design.specs.Grades.{FaultGrade, Judged, Raced, Looped, Detected, Possible, Undetected}
use Rattle.v_design.specs.OwnSteps.{slots_through_stop}
use Rattle.v_design.specs.Plain.{grade_of}
use Rattle.order_laws.specs.FirstRuns.{Follow}
use Rattle.machine.specs.Ticks.{raised_by, process_steps}
use Rattle.machine.specs.Standing.{machine_kept, begins_next, begun_within}
use Rattle.machine.specs.declared.parts.Machine.{Machine as Simulated}
use Rattle.fault_grade.specs.declared.stop.Stop.{Stop}

-- First runs

-- the process steps of some slots of a machine, through the first that isn't fine
abbrev pub steps_through : Machine → List FirstSlot → ℕ
steps_through machine slots = sum_by process_steps (slots_through_stop machine slots)

-- those of its first run up to a time, and before a time
abbrev pub steps_by : Machine → ℕ → ℕ
steps_by machine time = steps_through machine (first_run machine time)

abbrev pub steps_before : Machine → ℕ → ℕ
steps_before machine zero = 0
steps_before machine (suc time) = steps_by machine time

-- Gradings

-- the time before which a grading runs the slots of its faulty machine: through a hard strobe, to a race of the good machine, else through the plan's end or the first slot that isn't fine
abbrev pub graded_before : ℕ → FaultGrade → ℕ
graded_before end (Judged (Detected time)) = suc time
graded_before end (Judged (Possible time)) = suc end
graded_before end (Judged Undetected) = suc end
graded_before end (Raced Good pair) = pair.time
graded_before end (Raced Faulty pair) = suc end
graded_before end (Looped time) = suc end

-- the process steps that a grading with such a grade takes
abbrev pub grading_steps : FlatDesign → TestPlan → StuckAt → FaultGrade → ℕ
grading_steps design plan fault found = steps_before (faulty_machine design fault) (graded_before plan.end found)

-- the time before which a grading runs on after its last strobe, by the good machine's race, if there is one, and the plan's end
abbrev pub last_bound : Option Pair → ℕ → ℕ
last_bound None end = suc end
last_bound (Some pair) end = pair.time

-- A counter

-- from a number on, a counter rose by the process steps of the slots that a machine ran in its first run, all before a time; to any end from then on the rest is that of the slots ahead
pub record IsTicked (start since : ℕ) (m : Simulated) (counter : ℕ) : Type 0 where
  pub ticks : ℕ
  pub counter_is : counter ≡ raised_by ticks start
  pub none : since ≡ 0 → ticks ≡ 0
  pub left : (end : ℕ) → since ≤ suc end → (slots : List FirstSlot) → Follow (machine_kept m) end (begun_within end (begins_next m)) slots →
      ticks + steps_through (machine_kept m) slots ≡ steps_by (machine_kept m) end

-- the next slot was run, by a time: the counter rose by its process steps, or by all of the first run's where the slot stops it
abbrev pub TicksOn : (start until : ℕ) (old : Simulated) (stop : Option Stop) (new : Simulated) (after : ℕ) → Type 0
TicksOn start until old None new after = IsTicked start (suc until) new after
TicksOn start until old (Some stop) new after = (end : ℕ) → until ≤ end → after ≡ raised_by (steps_by (machine_kept old) end) start

-- a machine ran all slots of its first run up to a time, or through the first that isn't fine, and the counter rose by the process steps of all these
abbrev pub Ticked : (start until : ℕ) (old : Simulated) (stop : Option Stop) (new : Simulated) (after : ℕ) → Type 0
Ticked start until old None new after = (after ≡ raised_by (steps_by (machine_kept old) until) start) × IsTicked start (suc until) new after
Ticked start until old (Some stop) new after = (end : ℕ) → until ≤ end → after ≡ raised_by (steps_by (machine_kept old) end) start

-- the same up to a time that may be there
abbrev pub TickedTo : (start : ℕ) (until : Option ℕ) (old : Simulated) (before : ℕ) (stop : Option Stop) (new : Simulated) (after : ℕ) → Type 0
TickedTo start None old before stop new after = after ≡ before
TickedTo start (Some until) old before stop new after = IsTicked start (suc until) old before → Ticked start until old stop new after

-- a strobe of a grading was passed: the machine ran on to it, or the grading ended with the process steps of its grade
abbrev pub TicksPast : (start strobe : ℕ) (old : Simulated) (end : Option End) (new : Simulated) (after : ℕ) → Type 0
TicksPast start strobe old None new after = IsTicked start (suc strobe) new after
TicksPast start strobe old (Some end) new after = (last : ℕ) → strobe ≤ last → after ≡ raised_by (steps_before (machine_kept old) (graded_before last (grade_of end))) start

-- a machine is run from strobe to strobe, and these are next, all before a bound
pub record TickedAt (start bound : ℕ) (m : Simulated) (next : List ℕ) (counter : ℕ) : Type 0 where
  pub since : ℕ
  pub later : AllHold (λ strobe. since ≤ suc strobe) next
  pub within : since ≤ bound
  pub ticked : IsTicked start since m counter
