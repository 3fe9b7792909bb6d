-- The work leads to the next moment.
use Rattle.std.proofs.Common.{refl, arith}
use Rattle.vf_base.specs.Base.{node_number}
use Rattle.net_state.specs.States.{nodes_in}
use Rattle.machine.proofs.Moved.{in-slot}
use Rattle.machine.proofs.NodesOn.{work-low, node-goes}
use Rattle.machine.proofs.parts.Machine.node_work.Goals as goal

pub work_node-requires-clause-design : goal.work_node-requires-clause-design
work_node-requires-clause-design c = c.requires.moving.is.parts.graph

pub work_node-requires-clause-stands : goal.work_node-requires-clause-stands
work_node-requires-clause-stands c = in-slot c.args.self.now c.requires.moving

pub work_node-requires-clause-node : goal.work_node-requires-clause-node
work_node-requires-clause-node c = omega (arith, work-low 0 (nodes_in c.args.self.now.nets) (node_number c.args.node) c.requires.node)

pub returns : goal.returns
returns c = node-goes c.slot_goes_on.ensures.node c.runs_go_on.ensures.events c.args.self.now _ (node_number c.args.node) c.requires.node c.in_ok-work_node.ensures refl refl refl
