-- The list is shorter, or there is none any more.
use Rattle.std.proofs.Common.{refl}
use Rattle.event_queue.specs.Arranged.{without_process}
use Rattle.event_queue.proofs.Removed.{removes-at}
use Rattle.event_queue.proofs.removals.remove_sleeper.Goals as goal

pub returns : goal.returns
returns c = removes-at c.args.time (without_process c.args.process) c.args.sleepers.now c.shorten_sleepers.new.sleepers c.drop_empty.new.map refl c.shorten_sleepers.ensures c.drop_empty.ensures
