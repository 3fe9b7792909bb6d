use Rattle.v_width.proofs.GroupLaws.{group-together}
use Rattle.v_width.proofs.faults.together.Goals as goal

pub returns : goal.returns
returns c here inside more_here more_inside h k =
    group-together here inside more_here more_inside c.args.one c.args.other _ h k c.first-all.ensures c.first-kept.ensures c.first-inside.ensures c.either-wrong_kind.ensures
