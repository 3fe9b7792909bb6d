-- The values and the nodes are as they were.
use Rattle.std.proofs.Common.{refl}
use Rattle.machine.proofs.Made.{stays-nets}
use Rattle.machine.proofs.parts.Machine.least_node.Goals as goal

pub returns-clause-stays : goal.returns-clause-stays
returns-clause-stays c = stays-nets c.args.self.now _ c.least_node.ensures.machine c.least_node.ensures.values c.least_node.ensures.nodes refl refl refl refl refl
