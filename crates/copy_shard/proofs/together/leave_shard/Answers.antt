-- Its faults are cut off.
use Rattle.std.proofs.Common.{ℕ, List, map, sym, ap, subst, ◌∙◌}
use Rattle.shard_windows.specs.copy_window.declared.fault.ShardFault.{ShardFault}
use Rattle.copy_shard.specs.Kept.{IsShard, fault_kept}
use Rattle.copy_shard.specs.Shards.{ShardKept}
use Rattle.copy_shard.proofs.together.leave_shard.Goals as goal

abbrev kept-of : ℕ → List ShardFault → ShardKept
kept-of gone faults = record { gone = gone; faults = map fault_kept faults }

pub from_parts-requires-after_bounds : goal.from_parts-requires-after_bounds
from_parts-requires-after_bounds g c κs within =
    subst (λ (l : List ShardFault). IsShard g.N.World.design g.N.World.plan c.args.gone c.args.reached c.args.numbers.items l) (sym c.in_ok-part.ensures.tail) c.requires.shard

pub returns-clause-shard : goal.returns-clause-shard
returns-clause-shard g c = c.from_parts.ensures ∙ ap (kept-of c.args.gone) c.in_ok-part.ensures.tail
