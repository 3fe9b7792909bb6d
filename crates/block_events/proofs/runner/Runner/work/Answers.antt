-- The work is done and told.
use Rattle.std.proofs.Common.{refl}
use Rattle.vf_base.specs.Base.{node_number}
use Rattle.block_events.proofs.Nodes.{node-works}
use Rattle.block_events.proofs.runner.Runner.work.Goals as goal

pub node_alone-requires-clause-one : goal.node_alone-requires-clause-one
node_alone-requires-clause-one c = c.requires.whole

pub node_alone-requires-clause-node : goal.node_alone-requires-clause-node
node_alone-requires-clause-node c = c.requires.there

pub returns : goal.returns
returns c =
    node-works c.phases_go_on.ensures.notes c.moves.ensures.events c.args.self.now _ (node_number c.args.node) c.node_alone.new.told c.args.told.now c.add_node.new.self c.requires.whole
    c.requires.node c.requires.there c.in_ok-node_alone.ensures c.in_ok-add_node.ensures refl
