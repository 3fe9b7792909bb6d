use Rattle.std.proofs.Common.{◌∙◌}
use Rattle.v_width.proofs.GroupLaws.{first-group}
use Rattle.v_width.proofs.faults.first_fault.Goals as goal

pub returns : goal.returns
returns c here inside h = c.first_of_group.ensures ∙ first-group here inside c.args.faults h
