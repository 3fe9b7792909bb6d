-- The ends that the findings so far tell.
use Rattle.std.proofs.Common.{length, map, take}
use Rattle.vf_base.specs.Base.{fault_number}
use Rattle.fault_shards.specs.Found.{HasEnds}
use Rattle.fault_shards.proofs.shards.Shards.ends_found.Given as goal

abbrev pub invariant-found : goal.invariant-found
invariant-found l = HasEnds (length (map fault_number l.self.standing.items)) (take l.finding-index l.found) l.ends.items
