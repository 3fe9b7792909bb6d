use Rattle.std.proofs.Common.{◌+◌, ◌++◌, ◌∷◌, [], List, None, map, take, length, sym, subst}
use Rattle.std.proofs.lemmas.List.{length-map, take_all}
use Rattle.v_design.specs.Accesses.{ObjectAccess}
use Rattle.v_design.specs.PlainDesigns.{design_of}
use Rattle.causal_monitor.specs.declared.numbered.Numbered.{Numbered}
use Rattle.causal_monitor.specs.Notes.{noted_access, IsHeld}
use Rattle.causal_monitor.specs.Counted.{Adds, held_at}
use Rattle.causal_monitor.proofs.ChangeLaws.{read_noted, read_object, read_hold}
use Rattle.causal_monitor.proofs.AddLaws.{Adds-push, Adds-same, map_take-more, held_numbered}
use Rattle.causal_monitor.proofs.accesses.push_held.Goals as goal

pub entries-preserved : goal.entries-preserved
entries-preserved c = λ events.
    let objects = length (design_of c.args.design.now).objects in
    let held : List ObjectAccess = map noted_access c.args.held.now in
    let noted = c.noted-item.result in
    let pushed : Numbered = record { event = None; noted = noted } in
    subst (λ later. Adds (length (design_of c.args.design.now).objects) events c.args.list.now.items later (map held_at (take (c.entries.noted-index + 1) held))) (sym c.in_ok-push.ensures.items)
    (Adds-same objects events c.args.list.now.items (c.entries.list.items ++ pushed ∷ []) (map held_at (take c.entries.noted-index held) ++ held_at (noted_access noted) ∷ [])
    (map held_at (take (c.entries.noted-index + 1) held))
    (sym (map_take-more held_at held c.entries.noted-index (noted_access noted) (rw length-map c.entries-test.true)
    (read_noted c.args.held.now c.entries.noted-index noted c.entries-test.true c.noted-item.is)))
    (Adds-push objects events c.args.list.now.items c.entries.list.items (map held_at (take c.entries.noted-index held)) pushed
    (read_object (design_of c.args.design.now) c.args.held.now c.entries.noted-index noted c.entries-test.true c.noted-item.is c.requires.objects)
    (held_numbered events noted (read_hold IsHeld c.args.held.now c.entries.noted-index noted c.entries-test.true c.noted-item.is c.requires.held)) (c.entries.invariant events)))

pub returns : goal.returns
returns c = λ events.
    subst (λ l. Adds (length (design_of c.args.design.now).objects) events c.args.list.now.items c.entries.list.items (map held_at l))
    (take_all c.entries.noted-index (map noted_access c.args.held.now) (rw length-map c.entries-test.false)) (c.entries.invariant events)
