use Rattle.std.proofs.Common.{◌≤◌}
use Rattle.slot_strobes.specs.Counts.{AllBetween}
use Rattle.slot_strobes.proofs.count.strobes_by.Given as goal

-- those so far come up to the time
abbrev pub invariant-strobes : goal.invariant-strobes
invariant-strobes g l = AllBetween g.N.World.plan.strobes l.from l.place (λ strobe. strobe ≤ l.time)
