-- The step is carried out and recorded.
use Rattle.vf_base.specs.Base.{process_number}
use Rattle.process_table.specs.Arranged.{table_of}
use Rattle.machine_events.proofs.Recorded.{values-count, is-record, process-room, fits-record, mid-design, step-leads}
use Rattle.machine_events.proofs.steps.finish_step.Goals as goal

pub carry_out-requires-clause-design : goal.carry_out-requires-clause-design
carry_out-requires-clause-design c = mid-design (process_number c.args.process) c.args.stepped.now c.args.nets.now c.args.table.now c.args.record.now c.requires.stands

pub carry_out-requires-clause-values : goal.carry_out-requires-clause-values
carry_out-requires-clause-values c = values-count c.args.nets.now

pub note_step-requires-clause-stands : goal.note_step-requires-clause-stands
note_step-requires-clause-stands c = let s = c.requires.stands in is-record s.machine s.first s.before s.phase c.args.record.now s.log s.recorded

pub note_step-requires-clause-process : goal.note_step-requires-clause-process
note_step-requires-clause-process c =
    let s = c.requires.stands in
    process-room s.machine s.first s.before s.phase c.args.table.now c.args.record.now s.log (process_number c.args.process) s.recorded c.requires.kept s.is.step.after.design c.requires.process

pub note_step-requires-clause-fits : goal.note_step-requires-clause-fits
note_step-requires-clause-fits c =
    let s = c.requires.stands in
    fits-record s.machine s.first s.before s.phase c.args.record.now s.log (table_of c.args.table.now).design _ s.recorded s.is.step.after.design c.in_ok-carry_out.ensures.fits

pub returns : goal.returns
returns c =
    step-leads c.args.nets.now c.carry_out.new.nets c.args.table.now c.carry_out.new.table c.args.record.now c.note_step.new.record c.carry_out.new.told
    (process_number c.args.process) c.args.stepped.now
    c.in_ok-carry_out.ensures c.in_ok-note_step.ensures
