-- So many of the listed faults have their findings.
use Rattle.std.proofs.Common.{map}
use Rattle.vf_base.specs.Base.{fault_number}
use Rattle.fault_shards.proofs.Listing.{ListedSoFar}
use Rattle.fault_shards.proofs.shards.Shards.in_list_order.Given as goal

abbrev pub invariant-faults : goal.invariant-faults
invariant-faults l = ListedSoFar (map fault_number l.standing) l.ends.items l.number l.findings.items
