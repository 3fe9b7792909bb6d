-- The findings of so many shards.
use Rattle.std.proofs.Common.{◌≡◌, ◌≤◌, take}
use Rattle.own_gradings.specs.Numbers.{OwnStepsOf}
use Rattle.shard_claims.specs.copy_shard.Together.{claimed_steps}
use Rattle.std.specs.List.{All}
use Rattle.fault_shards.specs.Found.{IsFinding, found_faults}
use Rattle.shard_findings.specs.Gatherings.{claimed_most, places_in, IsFoundShard}
use Rattle.shard_findings.proofs.findings.findings_in.Given as goal

abbrev pub invariant-shards : goal.invariant-shards
invariant-shards g l = record {
  faults : found_faults l.found.items ≡ places_in (take l.claimed-index l.shards);
  graded : All (IsFinding g.N.World.design g.N.World.plan) l.found.items;
  complete : All IsFoundShard (take l.claimed-index l.shards);
  steps : (tally : OwnStepsOf g.N.World.design g.N.World.plan) →
      claimed_steps tally (take l.claimed-index l.shards) ≤ claimed_most tally (take l.claimed-index l.shards);
}
