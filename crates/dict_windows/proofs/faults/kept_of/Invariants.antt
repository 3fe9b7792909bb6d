-- What is kept of some shards, and the shards that are left.
use Rattle.std.proofs.Common.{◌≡◌, ◌+◌, ◌≤◌, ◌++◌, length}
use Rattle.std.specs.Prelude.{sum_by}
use Rattle.std.specs.Vec.Iter.{into_iter_items}
use Rattle.own_gradings.specs.Numbers.{OwnStepsOf}
use Rattle.copy_laws.specs.Windows.{good_slots}
use Rattle.kept_shard.specs.Keeping.{full_steps_at, numbers_of}
use Rattle.dict_windows.specs.Faults.{AreWhole, HaveGone, all_steps, faults_in}
use Rattle.dict_windows.proofs.faults.kept_of.Given as goal

abbrev pub invariant-shards : goal.invariant-shards
invariant-shards g l = record {
  gone : HaveGone (length (good_slots g.N.World.design g.N.World.plan)) (into_iter_items l.shard-iterator);
  faults : faults_in l.fn.shards.items ≡ numbers_of l.kept.items ++ faults_in (into_iter_items l.shard-iterator);
  whole : AreWhole g.N.World.design g.N.World.plan l.kept.items;
  steps : (tally : OwnStepsOf g.N.World.design g.N.World.plan) →
      all_steps tally l.fn.shards.items
      ≤ sum_by (full_steps_at tally) (numbers_of l.kept.items) + all_steps tally (into_iter_items l.shard-iterator);
}
