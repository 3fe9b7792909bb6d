-- The machine went on, and the slot that is next is known.
use Rattle.std.proofs.Common.{◌≡◌}
use Rattle.fault_grade.specs.Reached.{next_of}
use Rattle.window_grade.specs.Running.{StaysOn, CanRunTo}
use Rattle.window_grade.proofs.Slots.{time_left, IsTickedTo}
use Rattle.window_grade.proofs.run.run_to.Given as goal

abbrev pub invariant-slots : goal.invariant-slots
invariant-slots g l = record {
  next_is : l.next ≡ next_of l.machine;
  stays : (of : CanRunTo l.until l.beside l.fn.machine) → StaysOn l.fn.machine l.machine;
  way : (of : CanRunTo l.until l.beside l.fn.machine) →
      IsTickedTo of.design of.plan of.fault of.kept l.until l.beside of.now l.fn.steps l.steps l.machine;
}

abbrev pub decreases-slots : goal.decreases-slots
decreases-slots g l = time_left l.until l.next
