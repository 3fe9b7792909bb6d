-- The own steps that the gradings of a shard's faults take (steps by IEEE 1364-2001, clause 9; slots by clause 5).
use Rattle.std.specs.Prelude.{◌≡◌, ℕ, true, List, is_some, sum_by}
use Rattle.v_design.specs.Designs.{FlatDesign, TestPlan}
use Rattle.own_gradings.specs.Numbers.{OwnStepsOf}
use Rattle.slot_strobes.specs.copy_window.ShardFaults.{SameFault, kept_by}
use Rattle.slot_strobes.specs.copy_window.declared.fault.ShardFault.{ShardFault}

-- those that a fault takes up to behind so many slots of the good first run
abbrev pub steps_of_fault : {design : FlatDesign} {plan : TestPlan} → OwnStepsOf design plan → ℕ → ShardFault → ℕ
steps_of_fault tally gone one = tally.steps one.copy.fault (kept_by one) gone

-- those of several faults
abbrev pub steps_of_faults : {design : FlatDesign} {plan : TestPlan} → OwnStepsOf design plan → ℕ → List ShardFault → ℕ
steps_of_faults tally gone faults = sum_by (steps_of_fault tally gone) faults

-- it is the same fault, judged or kept as before, and stays as it is if its grading had ended
pub record StaysFault (old new : ShardFault) : Type 0 where
  pub place : SameFault old new
  pub ended : is_some old.end ≡ true → new ≡ old
