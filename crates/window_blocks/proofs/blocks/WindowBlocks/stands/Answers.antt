-- What is kept are the blocks of the slots.
use Rattle.std.proofs.Common.{subst}
use Rattle.window_blocks.specs.Kept.{AreBlocksOf}
use Rattle.window_blocks.proofs.Keeping.{blocks-stand}
use Rattle.window_blocks.proofs.blocks.WindowBlocks.stands.Goals as goal

pub returns : goal.returns
returns g c =
    let w = c.self.inside in
    subst (AreBlocksOf g.N.World.design g.N.World.plan) c.self.view_is
    (blocks-stand c.blocks_are_told.ensures.begin g.N.World.design g.N.World.plan w.before w.through w.table c.self.invariant)
