-- The seat is as it was, but for the copies that are left.
use Rattle.std.proofs.Common.{take}
use Rattle.shard_findings.specs.shard_claims.Workers.{StaysSeat}
use Rattle.shard_findings.specs.shard_turns.Backups.{slot_calls}
use Rattle.shard_crew.specs.Leaving.{AreLeft}
use Rattle.shard_crew.proofs.leaving.leave_shards.Given as goal

abbrev pub invariant-shards : goal.invariant-shards
invariant-shards g l = record {
  stays : StaysSeat l.backups l.fn.seat l.seat;
  left : AreLeft (take l.claimed-index l.shards) (slot_calls l.fn.seat) (slot_calls l.seat);
}
