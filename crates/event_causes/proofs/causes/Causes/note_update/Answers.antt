use Rattle.std.proofs.Common.{rules, ◌≡◌, ◌<◌, ◌∙◌, ◌∷◌, [], ap, refl, sym, subst, map, length, set, arith}
use Rattle.std.proofs.lemmas.List.{length-set}
use Rattle.vf_base.specs.Base.{object_number, process_number}
use Rattle.event_causes.specs.Causes.{writer_of}
use Rattle.event_causes.specs.CauseLaws.{Marks-none, marked-by, notes-update, update-writer}
use Rattle.event_causes.proofs.causes.Causes.note_update.Goals as goal

pub returns-clause-notes : goal.returns-clause-notes
returns-clause-notes c = λ machine earlier state node had tells is.
    let mid = c.begin_event.new.self in
    notes-update machine earlier state node (writer_of c.writer_of-writer.result) (map object_number c.args.changed.now) (map process_number c.args.ended.now) c.args.self.now _ had tells
    (update-writer machine earlier state node c.args.cause (writer_of c.writer_of-writer.result) is (c.writer_of-writer.ensures machine earlier had))
    (marked-by (map process_number c.args.ended.now) [] (map object_number c.args.changed.now) c.writer_of-writer.result c.in_ok-number.number c.args.self.now mid _ c.in_ok-number.ensures.begins
    refl refl refl
    c.mark_processes.ensures (Marks-none c.in_ok-number.number mid.lanes.items) c.mark_objects.ensures)
