-- The counters' clause without the board.
use Rattle.std.proofs.Common.{subst}
use Rattle.shard_workers.specs.Closings.{GradedTicks}
use Rattle.shard_workers.proofs.plan.without_board.Goals as goal

pub returns-in-Findings-clause-ticks : goal.returns-in-Findings-clause-ticks
returns-in-Findings-clause-ticks g c design plan before after ticks = subst (GradedTicks design plan before after) c.in-Findings.is ticks
