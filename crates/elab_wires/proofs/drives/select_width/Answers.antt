use Rattle.std.proofs.Common.{sym, ◌∙◌}
use Rattle.elab_wires.proofs.DriveTurns.{select_long}
use Rattle.elab_wires.proofs.drives.select_width.Goals as goal

pub returns-clause-bits : goal.returns-clause-bits
returns-clause-bits c = c.from.ensures ∙ sym (select_long c.args.bits)
