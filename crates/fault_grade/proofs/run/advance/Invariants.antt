-- The machine went on, and the slot that is next is known.
use Rattle.std.proofs.Common.{◌≡◌, ℕ, suc}
use Rattle.machine.specs.Standing.{machine_kept}
use Rattle.fault_grade.specs.Reached.{IsReached, next_of}
use Rattle.fault_grade.specs.Ticks.{IsTicked}
use Rattle.fault_grade.proofs.Slots.{time_left}
use Rattle.fault_grade.proofs.run.advance.Given as goal

abbrev pub invariant-slots : goal.invariant-slots
invariant-slots g l = record {
  same_machine : machine_kept l.machine ≡ machine_kept l.fn.machine;
  next_is : l.next ≡ next_of l.machine;
  reached : IsReached l.until l.machine;
  ticks : (start : ℕ) → IsTicked start (suc l.until) l.fn.machine l.fn.steps → IsTicked start (suc l.until) l.machine l.steps;
}

abbrev pub decreases-slots : goal.decreases-slots
decreases-slots g l = time_left l.until l.next
