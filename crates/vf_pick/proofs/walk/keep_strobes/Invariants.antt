use Rattle.std.proofs.Common.{take, drop}
use Rattle.vf_pick.specs.Faults.{lists_of}
use Rattle.vf_pick.proofs.Tries.{AreTried}
use Rattle.vf_pick.proofs.walk.keep_strobes.Given as goal

abbrev pub invariant-strobes : goal.invariant-strobes
invariant-strobes l = AreTried l.strobes (lists_of l.hard) (take l.place l.strobes) (drop l.place l.strobes) l.places.items l.counts.items
