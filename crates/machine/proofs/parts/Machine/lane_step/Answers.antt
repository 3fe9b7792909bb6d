-- The step of the lane leads to the next moment.
use Rattle.std.proofs.Common.{refl}
use Rattle.vf_base.specs.Base.{process_number}
use Rattle.machine.proofs.Moved.{in-slot}
use Rattle.machine.proofs.Events.{lane-there, lane-writes, lane-moved}
use Rattle.machine.proofs.parts.Machine.lane_step.Goals as goal

pub step_lane-requires-clause-stands : goal.step_lane-requires-clause-stands
step_lane-requires-clause-stands c = in-slot c.args.self.now c.requires.moving

pub step_lane-requires-clause-lane : goal.step_lane-requires-clause-lane
step_lane-requires-clause-lane c = lane-there c.args.self.now (process_number c.args.process) c.requires.lanes

pub step_lane-requires-clause-there : goal.step_lane-requires-clause-there
step_lane-requires-clause-there c = lane-writes c.writes_stay.ensures.stay c.writes_stay.ensures.next c.args.self.now c.requires.moving (process_number c.args.process)

pub returns : goal.returns
returns c =
    lane-moved c.slot_goes_on.ensures.lane c.runs_go_on.ensures.events c.args.self.now _ (process_number c.args.process) c.requires.nodes c.requires.lanes c.in_ok-step_lane.ensures refl refl refl
