use Rattle.expr_sizes.proofs.ReadingLaws.{at-own}
use Rattle.expr_sizes.proofs.reading.ExprReading.tree_alone.Goals as goal

pub returns : goal.returns
returns c reading h = at-own reading c.args.self c.size_or_bit.result _ h c.size_or_bit.ensures c.at_size.ensures
