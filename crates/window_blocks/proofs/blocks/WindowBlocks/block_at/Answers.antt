-- The moments ascend.
use Rattle.std.proofs.Common.{sym, subst}
use Rattle.std.specs.List.Sorted.{IsNonDecreasing}
use Rattle.window_blocks.proofs.Keeping.{moments-rise}
use Rattle.window_blocks.proofs.blocks.WindowBlocks.block_at.Goals as goal

pub count_through-requires : goal.count_through-requires
count_through-requires g c =
    let w = c.self.inside in
    subst IsNonDecreasing (sym c.deref.ensures.value) (moments-rise g.N.World.design g.N.World.plan w.before w.through w.table c.self.invariant)
