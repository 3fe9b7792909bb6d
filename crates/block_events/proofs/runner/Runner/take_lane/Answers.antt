-- The step is taken and told.
use Rattle.std.proofs.Common.{refl}
use Rattle.v_design.specs.States.{ProcessState, idle_process, is_any}
use Rattle.vf_base.specs.Base.{process_number}
use Rattle.process_table.specs.Arranged.{table_of}
use Rattle.machine_laws.proofs.Places.{placed}
use Rattle.block_events.proofs.Taken.{lane-there, lane-goes}
use Rattle.block_events.proofs.runner.Runner.take_lane.Goals as goal

pub lane_alone-requires-clause-lane : goal.lane_alone-requires-clause-lane
lane_alone-requires-clause-lane c =
    placed (λ (p : ProcessState). is_any p.lane) idle_process (table_of c.args.self.now.table).processes (process_number c.args.process) c.requires.lanes

pub lane_alone-requires-clause-there : goal.lane_alone-requires-clause-there
lane_alone-requires-clause-there c = lane-there c.writes_stay.ensures.next c.args.self.now (process_number c.args.process) c.requires.writes

pub returns : goal.returns
returns c =
    lane-goes c.phases_go_on.ensures.notes c.moves.ensures.events c.args.self.now _ c.args.process c.in_ok-update.update.line c.lane_alone.new.told c.args.told.now _ c.add_step.new.self
    c.requires.whole c.requires.nodes c.requires.lanes c.in_ok-update.ensures c.requires.told refl c.in_ok-add_step.ensures
