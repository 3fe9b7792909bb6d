-- Some nodes were worked on.
use Rattle.block_events.proofs.Nodes.{NodesSoFar}
use Rattle.block_events.proofs.runner.Runner.settle.Given as goal

abbrev pub invariant-nodes : goal.invariant-nodes
invariant-nodes l = NodesSoFar l.initial.self l.self l.initial.told l.told l.worked
