use Rattle.std.proofs.Common.{◌++◌, ◌∷◌, [], List, Some, map, filter, take, length, cond, ap, sym, ◌∙◌}
use Rattle.std.proofs.lemmas.List.{length-map}
use Rattle.v_design.specs.Accesses.{ObjectAccess}
use Rattle.v_design.specs.Logs.{counts, phase_changes, PhaseAccess}
use Rattle.v_design.specs.PlainDesigns.{design_of}
use Rattle.causal_monitor.specs.declared.numbered.Numbered.{Numbered}
use Rattle.causal_monitor.specs.Notes.{noted_access, IsNoted}
use Rattle.causal_monitor.specs.Counted.{numbered_at}
use Rattle.causal_monitor.proofs.ChangeLaws.{read_noted, read_object, read_hold}
use Rattle.causal_monitor.proofs.AddLaws.{Adds-if, Adds-same, filter_take-more, noted_numbered}
use Rattle.causal_monitor.proofs.accesses.push_counted.Goals as goal

pub is_counted-wanted-requires-clause-object : goal.is_counted-wanted-requires-clause-object
is_counted-wanted-requires-clause-object c =
    read_object (design_of c.args.design.now) c.args.accesses.now c.accesses.noted-index c.noted-item.result c.accesses-test.true c.noted-item.is c.requires.objects

pub accesses-preserved : goal.accesses-preserved
accesses-preserved c =
    let design = design_of c.args.design.now in
    let changes = phase_changes design c.args.log.now.log in
    let events = length c.args.log.now.log.events in
    let accesses : List ObjectAccess = map noted_access c.args.accesses.now in
    let noted = c.noted-item.result in
    let pushed : Numbered = record { event = Some c.args.event; noted = noted } in
    let more : List PhaseAccess = map (numbered_at c.args.event) (filter (counts design changes) (take c.accesses.noted-index accesses)) in
    Adds-same (length design.objects) events c.args.list.now.items c.push_if.new.list.items (more ++ cond c.is_counted-wanted.result (numbered_at c.args.event (noted_access noted) ∷ []) []) _
    (ap (λ b. more ++ cond b (numbered_at c.args.event (noted_access noted) ∷ []) []) c.is_counted-wanted.ensures
    ∙ sym (filter_take-more (numbered_at c.args.event) (counts design changes) accesses c.accesses.noted-index (noted_access noted) (rw length-map c.accesses-test.true)
    (read_noted c.args.accesses.now c.accesses.noted-index noted c.accesses-test.true c.noted-item.is)))
    (Adds-if (length design.objects) events c.args.list.now.items c.accesses.list.items c.push_if.new.list.items more pushed c.is_counted-wanted.result
    (read_object design c.args.accesses.now c.accesses.noted-index noted c.accesses-test.true c.noted-item.is c.requires.objects)
    (noted_numbered events c.args.event noted c.requires.event (read_hold IsNoted c.args.accesses.now c.accesses.noted-index noted c.accesses-test.true c.noted-item.is c.requires.noted))
    c.in_ok-push_if.ensures c.accesses.invariant)
