use Rattle.std.proofs.Common.{option_map}
use Rattle.v_names.specs.SizeViews.{size_of}
use Rattle.expr_sizes.proofs.ReadingLaws.{at-group}
use Rattle.expr_sizes.proofs.reading.ExprReading.tree_at.Goals as goal

pub returns : goal.returns
returns c reading h = at-group reading c.args.self (option_map size_of c.args.size) c.size_or_bit.result _ h c.size_or_bit.ensures c.at_size.ensures
