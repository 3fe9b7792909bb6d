use Rattle.std.proofs.Common.{rules, ◌≡◌, ◌<◌, ◌∙◌, ◌∷◌, [], ap, refl, sym, subst, map, length, set, arith}
use Rattle.std.proofs.lemmas.List.{length-set}
use Rattle.vf_base.specs.Base.{object_number, process_number}
use Rattle.event_causes.specs.Causes.{writer_of}
use Rattle.event_causes.specs.CauseLaws.{Marks-none, marked-by, notes-evaluation, evaluation-writer}
use Rattle.event_causes.proofs.causes.Causes.note_evaluation.Goals as goal

pub returns-clause-notes : goal.returns-clause-notes
returns-clause-notes c = λ machine earlier state node had is.
    let mid = c.begin_event.new.self in
    let number = c.in_ok-begin_event.field-0 in
    notes-evaluation machine earlier state node (writer_of c.writer_of-writer.result) c.args.self.now _ had
    (evaluation-writer machine earlier state node c.args.cause (writer_of c.writer_of-writer.result) is (c.writer_of-writer.ensures machine earlier had))
    (marked-by [] [] [] c.writer_of-writer.result number c.args.self.now mid _ c.in_ok-begin_event.ensures.begins refl refl refl
    (Marks-none number mid.steps.items) (Marks-none number mid.lanes.items) (Marks-none number mid.changes.items))
