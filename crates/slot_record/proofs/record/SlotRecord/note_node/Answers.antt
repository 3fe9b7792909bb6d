-- The present phase has an evaluation and an update more.
use Rattle.std.proofs.Common.{◌+◌, length, refl}
use Rattle.vf_base.specs.Base.{node_number}
use Rattle.v_design.specs.PhaseLogs.{noted_events}
use Rattle.slot_record.specs.SlotRecords.{node_more, state_in}
use Rattle.slot_record.proofs.SlotRecordLaws.{with-record, node-noted}
use Rattle.slot_record.proofs.record.SlotRecord.note_node.Goals as goal

pub returns : goal.returns
returns c = λ machine first before phase log text had is_text has_inputs told.
    with-record machine first before phase (node_more (node_number c.args.node) phase) c.args.self.now _ log had refl refl refl refl
    (node-noted c.phases_go_on.ensures.notes machine (length before + 1) phase (node_number c.args.node) _
    (c.in_ok-note_node.ensures machine (length before + 1) phase.begins (noted_events machine phase.begins phase.events) (state_in machine phase) text had.present is_text has_inputs told))
