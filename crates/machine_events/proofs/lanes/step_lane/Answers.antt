-- The update is written and recorded.
use Rattle.vf_base.specs.Base.{process_number}
use Rattle.v_design.specs.States.{LaneStep}
use Rattle.process_table.specs.Arranged.{table_of}
use Rattle.slot_record.specs.SlotRecords.{state_in}
use Rattle.machine_events.proofs.Recorded.{one-in-slot, is-record, process-room, fits-record, lane-low, event-leads}
use Rattle.machine_events.proofs.lanes.step_lane.Goals as goal

pub lane_alone-requires-clause-one : goal.lane_alone-requires-clause-one
lane_alone-requires-clause-one c = one-in-slot c.args.nets.now c.args.table.now c.args.record.now c.requires.stands

pub note_lane-requires-clause-stands : goal.note_lane-requires-clause-stands
note_lane-requires-clause-stands c = let s = c.requires.stands in is-record s.machine s.first s.before s.phase c.args.record.now s.log s.is.recorded

pub note_lane-requires-clause-process : goal.note_lane-requires-clause-process
note_lane-requires-clause-process c =
    let s = c.requires.stands in
    process-room s.machine s.first s.before s.phase c.args.table.now c.args.record.now s.log (process_number c.args.process) s.is.recorded s.is.arranged s.is.both.table_is.design
    (lane-low c.args.table.now (process_number c.args.process) c.requires.lane)

pub note_lane-requires-clause-fits : goal.note_lane-requires-clause-fits
note_lane-requires-clause-fits c =
    let s = c.requires.stands in
    fits-record s.machine s.first s.before s.phase c.args.record.now s.log (table_of c.args.table.now).design _ s.is.recorded s.is.both.table_is.design c.in_ok-update.ensures.fits

pub returns : goal.returns
returns c = λ machine first before phase log amid.
    event-leads machine first before phase log (LaneStep (process_number c.args.process)) c.in_ok-update.update.line c.lane_alone.new.nets c.lane_alone.new.table
    c.args.record.now c.note_lane.new.record c.lane_alone.new.told
    (c.in_ok-update.ensures.happens machine (state_in machine phase) amid.both) c.in_ok-update.ensures.one.kept c.in_ok-note_lane.ensures amid.recorded
