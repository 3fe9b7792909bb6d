use Rattle.std.proofs.Common.{◌*◌, false, sym}
use Rattle.v_names.proofs.KnownLaws.{outside, many-times}
use Rattle.v_names.proofs.sizing.times.Goals as goal

pub returns-else-count-le128 : goal.returns-else-count-le128
returns-else-count-le128 c = sym (outside (c.args.count * c.args.total) false (many-times c.args.count c.args.total c.if-count-le128.false))
