-- The seat is as it was, but for the copies that are left.
use Rattle.std.proofs.Common.{take}
use Rattle.shard_findings.specs.shard_claims.Workers.{StaysSeat}
use Rattle.shard_findings.specs.shard_turns.Backups.{slot_calls}
use Rattle.shard_crew.specs.Leaving.{AreLeft, shards_of_all}
use Rattle.shard_crew.proofs.leaving.leave_copies.Given as goal

abbrev pub invariant-workers : goal.invariant-workers
invariant-workers g l = record {
  stays : StaysSeat l.backups l.fn.seat l.seat;
  left : AreLeft (shards_of_all (take l.worker-index l.workers)) (slot_calls l.fn.seat) (slot_calls l.seat);
}
