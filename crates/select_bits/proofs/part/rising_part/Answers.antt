use Rattle.std.proofs.Common.{arith}
use Rattle.select_bits.proofs.Runs.{rising-run}
use Rattle.select_bits.proofs.part.rising_part.Goals as goal

pub returns : goal.returns
returns c order few = rising-run c.args.bounds.high c.args.bounds.low c.args.from c.args.to c.indexes_between-count.result _ _ _ _ c.requires order (c.indexes_between-count.ensures.all order few)
    (grind arith) (grind arith) (grind arith) (grind arith)
