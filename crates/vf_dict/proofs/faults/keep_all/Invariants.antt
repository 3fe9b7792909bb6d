-- So many of the listed faults are kept.
use Rattle.std.proofs.Common.{take}
use Rattle.std.specs.Vec.Iter.{into_iter_items}
use Rattle.vf_dict.specs.Listings.{AreKept, AreLeft}
use Rattle.vf_dict.proofs.faults.keep_all.Given as goal

abbrev pub invariant-faults : goal.invariant-faults
invariant-faults g l = record {
  listed : AreKept g.N.World.design g.N.World.plan (take l.place g.N.World.plan.faults) l.listed.items;
  left : AreLeft g.N.World.design g.N.World.plan l.place (into_iter_items l.rest);
}
