-- Neither is one, or both are the same.
use Rattle.std.proofs.Common.{sym, ap, ◌∙◌}
use Rattle.moment_shown.specs.lockstep_exchange.Putting.{lane_numbers}
use Rattle.block_compare.proofs.Same.{no-lane}
use Rattle.block_compare.proofs.alike.are_same.Goals as goal

pub returns-in_default : goal.returns-in_default
returns-in_default c = λ yes. ap lane_numbers c.in_default.is ∙ sym (no-lane c.args.other _ c.is_none.ensures yes)

pub returns : goal.returns
returns c = λ yes. ap lane_numbers c.in-Some.is ∙ sym (c.is_lane.ensures yes)
