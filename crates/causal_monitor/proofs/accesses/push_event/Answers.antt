use Rattle.std.proofs.Common.{◌≡◌, ◌++◌, List, map, filter, length, true, ap, sym, subst, ◌∙◌}
use Rattle.std.proofs.lemmas.List.{map-append}
use Rattle.vf_base.specs.Lists.{joined, has}
use Rattle.v_design.specs.Accesses.{ObjectAccess}
use Rattle.v_design.specs.Logs.{counts, settles_of, changes_of, phase_changes, counted_accesses}
use Rattle.v_design.specs.PlainDesigns.{design_of}
use Rattle.causal_monitor.specs.Notes.{noted_access}
use Rattle.causal_monitor.specs.Phases.{NameObjects}
use Rattle.causal_monitor.specs.Counted.{numbered_at}
use Rattle.causal_monitor.proofs.ChangeLaws.{names_at}
use Rattle.causal_monitor.proofs.AddLaws.{Adds-trans, Adds-same, changed_in_phase}
use Rattle.causal_monitor.proofs.accesses.push_event.Goals as goal

pub push_counted-requires-clause-objects : goal.push_counted-requires-clause-objects
push_counted-requires-clause-objects c =
    subst (NameObjects (design_of c.args.source.now.design.now)) (sym c.accesses_of-accesses.ensures.accesses)
    (names_at (design_of c.args.source.now.design.now) c.args.source.now.log.now.log c.requires.log c.args.event c.requires.event)

pub push_all_settled-requires-clause-objects : goal.push_all_settled-requires-clause-objects
push_all_settled-requires-clause-objects c =
    subst (NameObjects (design_of c.args.source.now.design.now)) (sym c.accesses_of-accesses.ensures.accesses)
    (names_at (design_of c.args.source.now.design.now) c.args.source.now.log.now.log c.requires.log c.args.event c.requires.event)

pub push_all_settled-requires-clause-changed : goal.push_all_settled-requires-clause-changed
push_all_settled-requires-clause-changed c = λ object there.
    changed_in_phase (design_of c.args.source.now.design.now) c.args.source.now.log.now.log c.args.event object c.requires.event
    (subst (λ l. has (changes_of (design_of c.args.source.now.design.now) l) object ≡ true) c.accesses_of-accesses.ensures.accesses there)

pub returns : goal.returns
returns c =
    let design = design_of c.args.source.now.design.now in
    let log = c.args.source.now.log.now.log in
    let changes = phase_changes design log in
    let accesses : List ObjectAccess = map noted_access c.accesses_of-accesses.result.now in
    Adds-same (length design.objects) (length log.events) c.args.list.now.items c.push_all_settled.new.list.items
    (map (numbered_at c.args.event) (filter (counts design changes) accesses) ++ map (numbered_at c.args.event) (joined (map (settles_of design changes) accesses))) _
    (sym (map-append (numbered_at c.args.event) (filter (counts design changes) accesses) (joined (map (settles_of design changes) accesses)))
    ∙ ap (λ l. map (numbered_at c.args.event) (counted_accesses design changes l)) c.accesses_of-accesses.ensures.accesses)
    (Adds-trans (length design.objects) (length log.events) c.args.list.now.items c.push_counted.new.list.items c.push_all_settled.new.list.items
    (map (numbered_at c.args.event) (filter (counts design changes) accesses)) (map (numbered_at c.args.event) (joined (map (settles_of design changes) accesses)))
    c.in_ok-push_counted.ensures c.in_ok-push_all_settled.ensures)
