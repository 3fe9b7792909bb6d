-- The least node is worked on, else a lane, a process or a turn goes on.
use Rattle.vf_base.specs.Base.{node_number}
use Rattle.machine.proofs.Counted.{moving-in, stays-by}
use Rattle.machine.proofs.Made.{moving-any, node-made, move-after}
use Rattle.machine.proofs.parts.Machine.make_move.Goals as goal

pub node_work-requires-clause-moving : goal.node_work-requires-clause-moving
node_work-requires-clause-moving g c =
    moving-any _ c.args.log.now
    (moving-in c.args.guide.now c.args.steps.now _ c.args.log.now (stays-by c.args.guide.now c.args.steps.now c.args.self.now _ c.args.log.now c.least_node.ensures.stays c.requires))

pub process_move-requires-clause-moving : goal.process_move-requires-clause-moving
process_move-requires-clause-moving g c = stays-by c.args.guide.now c.args.steps.now c.args.self.now _ c.args.log.now c.least_node.ensures.stays c.requires

pub returns-in_ok-node_work-in-Some : goal.returns-in_ok-node_work-in-Some
returns-in_ok-node_work-in-Some g c =
    node-made c.runs_go_beside.ensures c.args.guide.now c.args.steps.now (node_number c.in-Some.node) c.args.self.now c.least_node.new.self _ c.args.log.now c.least_node.ensures.stays
    c.in_ok-node_work-in-Some.ensures

pub returns-in_ok-made-in-None : goal.returns-in_ok-made-in-None
returns-in_ok-made-in-None g c =
    move-after c.in_ok-made-in-None.made c.args.guide.now _ c.args.steps.now _ c.args.self.now c.least_node.new.self _ c.args.log.now _ c.least_node.ensures.stays c.in_ok-made-in-None.ensures
