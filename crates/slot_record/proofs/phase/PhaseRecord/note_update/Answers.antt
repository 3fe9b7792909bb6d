-- An update of nets follows its cause, and its writes have the process and the line of that.
use Rattle.std.proofs.Common.{◌<◌, ◌++◌, ◌∙◌, refl, sym, ap, subst, map, length, List}
use Rattle.std.specs.List.{All}
use Rattle.vf_base.specs.Base.{object_number, process_number, node_number}
use Rattle.vf_base.specs.declared.ids.ObjectId.{ObjectId}
use Rattle.v_design.specs.States.{NetUpdate}
use Rattle.v_design.specs.Accesses.{accesses_of}
use Rattle.event_causes.specs.Causes.{writer_of, Tells}
use Rattle.event_causes.specs.CauseLaws.{update-writer}
use Rattle.causal_monitor.specs.declared.slot.Actor.TheVariants.{Move}
use Rattle.causal_monitor.specs.Notes.{noted_access}
use Rattle.causal_monitor.specs.Phases.{NameObjects}
use Rattle.slot_record.specs.Records.{write_of_change}
use Rattle.slot_record.proofs.RecordLaws.{events-logged, writers-kept, cause-noted, names-objects, writes-name, both-name, objects-seen, all-changed, recorded}
use Rattle.slot_record.proofs.phase.PhaseRecord.note_update.Goals as goal

pub writer_of-writer-requires : goal.writer_of-writer-requires
writer_of-writer-requires c =
    let is = c.requires.follows in
    cause-noted is.machine is.noted (NetUpdate (node_number c.args.node)) c.args.cause _ is.is_cause (writers-kept is.machine is.noted c.args.self.now.causes is.stands.causes)

pub note-requires-clause-earlier : goal.note-requires-clause-earlier
note-requires-clause-earlier c =
    let is = c.requires.follows in
    cause-noted is.machine is.noted (NetUpdate (node_number c.args.node)) c.args.cause _ is.is_cause (events-logged is.machine is.number is.begins is.noted c.args.self.now is.stands)

pub note_update-requires-clause-cause : goal.note_update-requires-clause-cause
note_update-requires-clause-cause c =
    let is = c.requires.follows in
    cause-noted is.machine is.noted (NetUpdate (node_number c.args.node)) c.args.cause _ is.is_cause (writers-kept is.machine is.noted c.args.self.now.causes is.stands.causes)

pub note_update-requires-clause-changed : goal.note_update-requires-clause-changed
note_update-requires-clause-changed c =
    let Low : List ObjectId → Type 0 = λ objects. All (λ object. object_number object < length c.args.self.now.causes.changes.items) objects in
    subst Low (sym (c.deref-2.ensures.value ∙ c.in_ok-fill_objects.ensures)) (all-changed (length c.args.self.now.causes.changes.items) c.args.changes.now c.requires.changed)

pub returns : goal.returns
returns c = λ machine number begins noted state had is told.
    let node = node_number c.args.node in
    let w = c.writer_of-writer.result in
    let writer = update-writer machine noted state node c.args.cause (writer_of w) is (c.writer_of-writer.ensures machine noted had.causes) in
    let changed = ap (map object_number) (c.deref-2.ensures.value ∙ c.in_ok-fill_objects.ensures) ∙ objects-seen c.args.changes.now in
    let accesses = ap (map noted_access) c.deref.ensures.value ∙ c.in_ok-fill_accesses.ensures.accesses in
    let writes = map (write_of_change (process_number w.process) w.line) c.args.changes.now in
    let named : NameObjects machine.design (writes ++ map noted_access c.args.ended_accesses.now) =
    both-name machine.design writes (map noted_access c.args.ended_accesses.now)
    (writes-name machine noted c.args.self.now.causes (process_number w.process) w.line c.args.changes.now had.causes c.requires.changed)
    (names-objects machine noted c.args.self.now.causes c.args.ended_accesses.now had.causes c.requires.objects) in
    recorded machine number begins noted state (NetUpdate node) c.args.cause _ (Move c.args.node) c.args.self.now _ had
    (record {
      grown = c.in_ok-note.ensures.ok;
      acts = c.in_ok-push.ensures.items;
      causes = c.in_ok-note_update.ensures.notes machine noted state node had.causes
          (subst (λ objects. Tells machine state (NetUpdate node) objects (map process_number c.args.ended.now)) (sym changed) told.tells) is;
      is_event = refl;
      is_cause = is;
      are_accesses = accesses ∙ told.accesses_are (process_number w.process) w.line
          ∙ (λ i. accesses_of machine (writer.process i) (writer.line i) state (NetUpdate node));
      named = subst (NameObjects machine.design) (sym accesses) named;
    })
