use Rattle.expr_sizes.proofs.ReadingLaws.{at-context}
use Rattle.expr_sizes.proofs.reading.ExprReading.tree_in_context.Goals as goal

pub returns : goal.returns
returns c reading h =
    at-context reading c.args.self c.args.width c.max-width.result c.args.signed c.both-signed.result c.size_or_bit-own.result _ h c.size_or_bit-own.ensures c.max-width.ensures c.both-signed.ensures
    c.at_size.ensures
