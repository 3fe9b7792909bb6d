use Rattle.std.proofs.Common.{rules, ◌≡◌, ◌<◌, ◌∙◌, ◌∷◌, [], ap, refl, sym, subst, map, length, set, arith}
use Rattle.std.proofs.lemmas.List.{length-set}
use Rattle.vf_base.specs.Base.{object_number, process_number, node_number}
use Rattle.event_causes.specs.CauseLaws.{Marks-none, Marks-first, marked-by, notes-lane}
use Rattle.event_causes.proofs.causes.Causes.note_lane.Goals as goal

pub returns-clause-notes : goal.returns-clause-notes
returns-clause-notes c = λ machine earlier state had tells is.
    let p = process_number c.args.process in
    let mid = c.begin_event.new.self in
    let low : p < length mid.lanes.items = omega (arith, c.in_ok-number.ensures.sized.lanes, c.requires.process) in
    notes-lane machine earlier state p (record { process = p; line = c.args.line }) (map object_number c.args.changed.now) (map process_number c.args.ended.now) c.args.self.now _ had tells is
    (marked-by (map process_number c.args.ended.now) (p ∷ []) (map object_number c.args.changed.now)
    (record { process = c.args.process; line = c.args.line }) c.in_ok-number.number c.args.self.now mid _
    c.in_ok-number.ensures.begins refl refl refl
    c.mark_processes.ensures (Marks-first p [] c.in_ok-number.number mid.lanes.items _ low (Marks-none c.in_ok-number.number (set mid.lanes.items p c.in_ok-number.number))) c.mark_objects.ensures)
