-- Counters of own steps from one time of a faulty machine's run to another (steps by IEEE 1364-2001, clause 9; slots by clause 5).
use Rattle.std.specs.Prelude.{ℕ, ◌+◌, ◌≤◌, length, Option, Some}
use Rattle.v_design.specs.Designs.{FlatDesign, StuckAt, TestPlan, good_machine, faulty_machine}
use Rattle.v_design.specs.OwnSteps.{slot_beside}
use Rattle.v_design.specs.Runs.{first_run}
use Rattle.v_design.specs.States.{State}
use Rattle.machine_laws.specs.SlotLoop.{slot_from}
use Rattle.own_counts.specs.Counts.{AtMostOwn}
use Rattle.own_counts.specs.Joins.{IsByToo, fault_end}
use Rattle.graded_steps.specs.Ahead.{SlotsAhead}
use Rattle.window_grade.specs.Beside.{TicksTo, WereTaken, tried_at}
use Rattle.window_grade.specs.declared.beside.RunBeside.{RunBeside}

pub record OwnStepsRise : Type 0 where
  -- where no time passes nothing ticks
  pub stays : (design : FlatDesign) (plan : TestPlan) (fault : StuckAt) (beside : RunBeside) (now : Option ℕ) (counter : ℕ) → TicksTo design plan fault beside now now counter counter
  -- nor where no slot is run; what was taken there counts as own
  pub taken : (design : FlatDesign) (plan : TestPlan) (fault : StuckAt) (beside : RunBeside) (from until : Option ℕ) (counter : ℕ) → WereTaken design plan fault beside →
      TicksTo design plan fault beside from until counter counter
  -- one stretch and the next one
  pub joins : (design : FlatDesign) (plan : TestPlan) (fault : StuckAt) (beside : RunBeside) (from between until : Option ℕ) (before mid after : ℕ) → IsByToo from between → IsByToo between until →
      TicksTo design plan fault beside from between before mid → TicksTo design plan fault beside between until mid after → TicksTo design plan fault beside from until before after
  -- the slot that is next, where its grading doesn't end before it
  pub slot : (design : FlatDesign) (plan : TestPlan) (fault : StuckAt) (beside : RunBeside) (now : Option ℕ) (begins : State) (before ticked after : ℕ) →
      SlotsAhead (faulty_machine design fault) plan.end now (Some begins) → begins.time ≤ fault_end design plan fault → WereTaken design plan fault beside →
      AtMostOwn (slot_beside (good_machine design) (faulty_machine design fault) (first_run (good_machine design) plan.end) (slot_from (faulty_machine design fault) begins))
      (ticked + length (tried_at beside begins.time)) →
      after ≤ before + ticked → TicksTo design plan fault beside now (Some begins.time) before after
