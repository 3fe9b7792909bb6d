use Rattle.std.proofs.Common.{◌++◌, List, map, take, length, ap, sym, ◌∙◌}
use Rattle.std.proofs.lemmas.List.{length-map, map-append}
use Rattle.vf_base.specs.Lists.{joined}
use Rattle.v_design.specs.Accesses.{ObjectAccess}
use Rattle.v_design.specs.Logs.{settles_of, phase_changes}
use Rattle.v_design.specs.PlainDesigns.{design_of}
use Rattle.causal_monitor.specs.Notes.{noted_access}
use Rattle.causal_monitor.specs.Counted.{numbered_at}
use Rattle.causal_monitor.proofs.ChangeLaws.{read_noted, read_object, joined-more}
use Rattle.causal_monitor.proofs.AddLaws.{Adds-trans, Adds-same, changed_in_event}
use Rattle.causal_monitor.proofs.accesses.push_all_settled.Goals as goal

pub push_settled-requires-clause-object : goal.push_settled-requires-clause-object
push_settled-requires-clause-object c =
    read_object (design_of c.args.design.now) c.args.accesses.now c.accesses.noted-index c.noted-item.result c.accesses-test.true c.noted-item.is c.requires.objects

pub push_settled-requires-clause-changed : goal.push_settled-requires-clause-changed
push_settled-requires-clause-changed c = λ object there.
    c.requires.changed object
    (changed_in_event (design_of c.args.design.now) (map noted_access c.args.accesses.now) c.accesses.noted-index (noted_access c.noted-item.result) object (rw length-map c.accesses-test.true)
    (read_noted c.args.accesses.now c.accesses.noted-index c.noted-item.result c.accesses-test.true c.noted-item.is) there)

pub accesses-preserved : goal.accesses-preserved
accesses-preserved c =
    let design = design_of c.args.design.now in
    let changes = phase_changes design c.args.log.now.log in
    let accesses : List ObjectAccess = map noted_access c.args.accesses.now in
    let noted : ObjectAccess = noted_access c.noted-item.result in
    let before : List ObjectAccess = joined (map (settles_of design changes) (take c.accesses.noted-index accesses)) in
    Adds-same (length design.objects) (length c.args.log.now.log.events) c.args.list.now.items c.push_settled.new.list.items
    (map (numbered_at c.args.event) before ++ map (numbered_at c.args.event) (settles_of design changes noted)) _
    (sym (map-append (numbered_at c.args.event) before (settles_of design changes noted))
    ∙ ap (λ a. map (numbered_at c.args.event) (before ++ settles_of design changes a)) (read_noted c.args.accesses.now c.accesses.noted-index c.noted-item.result c.accesses-test.true c.noted-item.is)
    ∙ sym (ap (map (numbered_at c.args.event)) (joined-more (settles_of design changes) accesses c.accesses.noted-index noted (rw length-map c.accesses-test.true))))
    (Adds-trans (length design.objects) (length c.args.log.now.log.events) c.args.list.now.items c.accesses.list.items c.push_settled.new.list.items (map (numbered_at c.args.event) before)
    (map (numbered_at c.args.event) (settles_of design changes noted)) c.accesses.invariant c.in_ok-push_settled.ensures)
