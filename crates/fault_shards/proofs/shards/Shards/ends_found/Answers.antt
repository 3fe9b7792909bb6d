-- Finding by finding.
use Rattle.std.proofs.Common.{length, map}
use Rattle.vf_base.specs.Base.{fault_number}
use Rattle.fault_shards.proofs.Listing.{ends-more}
use Rattle.fault_shards.proofs.shards.Shards.ends_found.Goals as goal

pub found-preserved : goal.found-preserved
found-preserved c =
    ends-more (length (map fault_number c.args.self.now.standing.items)) c.args.found.now c.found.ends.items c.found.finding-index _ c.found-test.true c.requires.listed c.found.invariant
