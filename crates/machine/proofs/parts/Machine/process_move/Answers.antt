-- The least lane goes on, else the least ready process, else a turn is made.
use Rattle.vf_base.specs.Base.{process_number}
use Rattle.machine.proofs.Counted.{moving-in}
use Rattle.machine.proofs.Made.{lane-made, moving-any}
use Rattle.machine.proofs.parts.Machine.process_move.Goals as goal

pub lane_step-requires-clause-moving : goal.lane_step-requires-clause-moving
lane_step-requires-clause-moving g c = moving-any c.args.self.now c.args.log.now (moving-in c.args.guide.now c.args.steps.now c.args.self.now c.args.log.now c.requires.moving)

pub returns-in_ok-lane_step-in-Some : goal.returns-in_ok-lane_step-in-Some
returns-in_ok-lane_step-in-Some g c =
    lane-made c.runs_go_beside.ensures (process_number c.in-Some.process) c.args.guide.now c.args.steps.now c.args.self.now _ c.args.log.now c.in_ok-lane_step-in-Some.ensures
