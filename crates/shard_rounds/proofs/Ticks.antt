-- The process steps of all rounds (steps by IEEE 1364-2001, clause 9; slots by clause 5).
use Rattle.std.proofs.Common.{ℕ, ◌≤◌, arith}
use Rattle.std.proofs.lemmas.List.Sums.{sum_by-take-le}
use Rattle.v_design.specs.Designs.{FlatDesign, TestPlan}
use Rattle.v_design.specs.OwnSteps.{good_steps}
use Rattle.copy_laws.specs.Windows.{good_slots}
use Rattle.shard_crew.specs.machine.Ticks.{process_steps}
use Rattle.good_windows.specs.Next.{steps_of_slots}
use Rattle.shard_crew.specs.graded_steps.Behind.{RisesWithin}

pub rises-more : (one two three before mid after : ℕ) → RisesWithin one two before mid → RisesWithin two three mid after → RisesWithin one three before after
rises-more one two three before mid after r s = omega (arith, r, s)

-- so many slots of the good first run take no more steps than all
pub slots-most : (design : FlatDesign) (plan : TestPlan) (number : ℕ) → steps_of_slots design plan number ≤ good_steps design plan
slots-most design plan number = sum_by-take-le process_steps (good_slots design plan) number
