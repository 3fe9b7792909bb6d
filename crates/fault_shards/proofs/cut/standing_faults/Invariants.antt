-- The places so far.
use Rattle.std.proofs.Common.{◌≡◌, map, take}
use Rattle.vf_base.specs.Base.{fault_number}
use Rattle.fault_shards.proofs.cut.standing_faults.Given as goal

abbrev pub invariant-places : goal.invariant-places
invariant-places l = map fault_number l.standing.items ≡ take l.place-index l.place-items
