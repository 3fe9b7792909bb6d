use Rattle.expr_sizes.proofs.ReadingLaws.{at-width}
use Rattle.expr_sizes.proofs.reading.ExprReading.tree_in.Goals as goal

pub returns : goal.returns
returns c reading h = at-width reading c.args.self c.args.width c.max-width.result c.size_or_bit-own.result _ h c.size_or_bit-own.ensures c.max-width.ensures c.at_size.ensures
