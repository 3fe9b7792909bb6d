use Rattle.std.proofs.Common.{[]}
use Rattle.expr_sizes.proofs.name.misused_alone.Goals as goal

pub returns : goal.returns
returns c = c.misused.ensures [] c.no_faults.ensures
