-- One node after the other is worked on.
use Rattle.std.proofs.Common.{refl}
use Rattle.vf_base.specs.Base.{node_number}
use Rattle.block_events.specs.declared.runner.Runner.{Runner}
use Rattle.block_events.proofs.Nodes.{nodes-begin, nodes-more}
use Rattle.block_events.proofs.runner.Runner.settle.Goals as goal

pub nodes-init : goal.nodes-init
nodes-init c = nodes-begin c.args.self.now c.args.told.now c.requires

pub nodes-preserved : goal.nodes-preserved
nodes-preserved c =
    let now : Runner = c.nodes.self in
    let next : Runner = record now { nets = c.least_node.new.self } in
    nodes-more c.args.self.now now next c.work.new.self c.args.told.now c.nodes.told c.work.new.told c.nodes.worked (node_number c.in-Some.node) c.nodes.invariant
    (record { machine = c.least_node.ensures.machine; values = c.least_node.ensures.values; nodes = c.least_node.ensures.nodes; table = refl; running = refl }) c.in_ok-work.ensures
