-- The window has room for the slot that comes next.
use Rattle.std.proofs.Common.{◌+◌, ◌-◌, ◌≤◌, length}
use Rattle.copy_laws.specs.Windows.{good_slots}
use Rattle.run_trace.specs.Windows.{AreBeside}
use Rattle.good_windows.specs.Next.{steps_of_slots}
use Rattle.good_windows.proofs.Filling.{IsFilling}
use Rattle.good_windows.proofs.fill.fill.Given as goal

abbrev pub invariant-slots : goal.invariant-slots
invariant-slots g l = record {
  filling : IsFilling g.N.World.design g.N.World.plan g.N.World.plan.end l.fn.run.trace.closed l.machine l.run.trace l.some l.next;
  ticks :
      l.steps + steps_of_slots g.N.World.design g.N.World.plan l.fn.run.trace.pushed ≤ l.fn.steps + steps_of_slots g.N.World.design g.N.World.plan l.run.trace.pushed;
  beside : AreBeside l.run;
}

-- how many slots are left
abbrev pub decreases-slots : goal.decreases-slots
decreases-slots g l = length (good_slots g.N.World.design g.N.World.plan) - l.run.trace.pushed
