-- What is recorded are the lists themselves.
use Rattle.std.proofs.Common.{List, map, subst}
use Rattle.vf_base.specs.Base.{object_number, process_number, node_number}
use Rattle.vf_base.specs.declared.ids.ObjectId.{ObjectId}
use Rattle.vf_base.specs.declared.ids.ProcId.{ProcId}
use Rattle.causal_monitor.specs.Notes.{noted_access}
use Rattle.causal_monitor.specs.declared.noted.Noted.{Noted}
use Rattle.value_change.specs.declared.change.Change.{Change}
use Rattle.slot_record.specs.SlotRecords.{AddsNode}
use Rattle.machine_events.proofs.notes.note_node.Goals as goal

pub returns : goal.returns
returns c =
    let node = node_number c.args.number in
    let inputs = map object_number c.args.node.now.inputs in
    let changes = c.args.told.now.net_changes.items in
    let accesses = map noted_access c.args.told.now.accesses.items in
    subst (λ (l : List ProcId). AddsNode node inputs changes accesses (map process_number l) c.args.record.now c.note_node.new.self) c.deref-3.ensures.value
    (subst (λ (l : List Noted). AddsNode node inputs changes (map noted_access l) (map process_number c.deref-3.result.now) c.args.record.now c.note_node.new.self) c.deref-2.ensures.value
    (subst (λ (l : List Change). AddsNode node inputs l (map noted_access c.deref-2.result.now) (map process_number c.deref-3.result.now) c.args.record.now c.note_node.new.self) c.deref.ensures.value
    (subst (λ (l : List ObjectId). AddsNode node (map object_number l) c.deref.result.now (map noted_access c.deref-2.result.now)
    (map process_number c.deref-3.result.now) c.args.record.now c.note_node.new.self) c.as_slice.ensures
    c.in_ok-note_node.ensures)))
