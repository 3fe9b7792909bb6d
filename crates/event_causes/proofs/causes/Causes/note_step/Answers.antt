use Rattle.std.proofs.Common.{rules, ◌≡◌, ◌<◌, ◌∙◌, ◌∷◌, [], ap, refl, sym, subst, map, length, set, arith}
use Rattle.std.proofs.lemmas.List.{length-set}
use Rattle.vf_base.specs.Base.{object_number, process_number, node_number}
use Rattle.event_causes.specs.CauseLaws.{Marks-none, Marks-first, marked-by, sizes-kept, notes-step}
use Rattle.event_causes.proofs.causes.Causes.note_step.Goals as goal

pub returns-clause-notes : goal.returns-clause-notes
returns-clause-notes c = λ machine earlier state had tells is.
    let p = process_number c.args.process in
    let mid = c.begin_event.new.self in
    let low : p < length mid.steps.items = omega (arith, c.in_ok-number.ensures.sized.steps, c.requires.process) in
    notes-step machine earlier state p (record { process = p; line = c.args.line }) (map object_number c.args.changed.now) (map process_number c.args.ended.now) c.args.self.now _ had tells is
    (marked-by (p ∷ map process_number c.args.ended.now) [] (map object_number c.args.changed.now) (record { process = c.args.process; line = c.args.line }) c.in_ok-number.number c.args.self.now mid _
    c.in_ok-number.ensures.begins refl refl refl
    (Marks-first p (map process_number c.args.ended.now) c.in_ok-number.number mid.steps.items _ low c.mark_processes.ensures)
    (Marks-none c.in_ok-number.number mid.lanes.items) c.mark_objects.ensures)
