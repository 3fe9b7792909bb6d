-- All workers but so many are done.
use Rattle.std.proofs.Common.{◌+◌, ◌≤◌, length}
use Rattle.copy_laws.specs.Windows.{good_slots}
use Rattle.fault_shards.specs.Shards.{representatives_of}
use Rattle.own_gradings.specs.Numbers.{OwnStepsOf}
use Rattle.shard_findings.specs.AllWorkers.{AreWorkersAt, crew_steps}
use Rattle.shard_findings.specs.Gatherings.{claimed_most}
use Rattle.shard_findings.proofs.Gathering.{HasJoined}
use Rattle.shard_findings.proofs.findings.finish.Given as goal

abbrev pub invariant-workers : goal.invariant-workers
invariant-workers g l = record {
  at : AreWorkersAt (representatives_of l.place.shards.now) l.place.board.now (length (good_slots g.N.World.design g.N.World.plan)) (length l.workers.items) l.workers.items;
  joined : HasJoined g.N.World.design g.N.World.plan (representatives_of l.place.shards.now) l.place.board.now (length l.workers.items) l.count l.seat l.findings.items l.shards.items;
  steps : (tally : OwnStepsOf g.N.World.design g.N.World.plan) →
      crew_steps tally l.fn.workers.items
      ≤ claimed_most tally l.shards.items + crew_steps tally l.workers.items;
}

abbrev pub decreases-workers : goal.decreases-workers
decreases-workers g l = length l.workers.items
