-- The samples so far, and the strobes that are left.
use Rattle.std.proofs.Common.{drop}
use Rattle.window_strobes.proofs.Seeing.{IsSeeing}
use Rattle.window_strobes.proofs.samples.samples_to.Given as goal

abbrev pub invariant-strobes : goal.invariant-strobes
invariant-strobes g l =
    IsSeeing g.N.World.design g.N.World.plan l.window.before l.window.through l.until l.strobes l.samples.items l.slot (drop l.strobe-index l.strobes)
