-- A worker that hasn't claimed leaves nothing.
use Rattle.std.proofs.Common.{refl, sym, subst}
use Rattle.std.specs.List.{All}
use Rattle.shard_crew.specs.Leaving.{HasSlot}
use Rattle.shard_crew.proofs.leaving.leave_worker.Goals as goal

pub returns-then-not-worker-clause-stays : goal.returns-then-not-worker-clause-stays
returns-then-not-worker-clause-stays g c = record { own = c.requires.own; same = refl }

pub leave_shards-requires-clause-slots : goal.leave_shards-requires-clause-slots
leave_shards-requires-clause-slots g c κs within = subst (All (HasSlot c.args.backups.now)) (sym c.deref.ensures.value) (c.requires.slots c.if-not-worker.false)
