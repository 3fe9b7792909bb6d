-- The present phase has one event more.
use Rattle.std.proofs.Common.{◌+◌, length, refl}
use Rattle.vf_base.specs.Base.{process_number}
use Rattle.v_design.specs.States.{Step}
use Rattle.v_design.specs.PhaseLogs.{noted_events}
use Rattle.slot_record.specs.SlotRecords.{one_more, state_in}
use Rattle.slot_record.proofs.SlotRecordLaws.{with-record, one-noted}
use Rattle.slot_record.proofs.record.SlotRecord.note_step.Goals as goal

pub returns : goal.returns
returns c = λ machine first before phase log had line accesses tells.
    with-record machine first before phase (one_more (Step (process_number c.args.process)) phase) c.args.self.now _ log had refl refl refl refl
    (one-noted c.phases_go_on.ensures.notes machine (length before + 1) phase (Step (process_number c.args.process)) _
    (c.in_ok-note_step.ensures machine (length before + 1) phase.begins (noted_events machine phase.begins phase.events) (state_in machine phase) had.present line accesses tells))
