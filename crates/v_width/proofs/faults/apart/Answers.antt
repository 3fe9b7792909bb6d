use Rattle.std.proofs.Common.{refl}
use Rattle.v_width.proofs.GroupLaws.{group-apart}
use Rattle.v_width.proofs.faults.apart.Goals as goal

pub returns : goal.returns
returns c here inside h = group-apart here inside c.args.faults _ h refl refl c.first_of_group-inside.ensures refl
