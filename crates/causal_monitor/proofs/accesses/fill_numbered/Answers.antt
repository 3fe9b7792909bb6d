use Rattle.std.proofs.Common.{◌<◌, ◌≤◌, ◌++◌, [], List, map, length, append-nil, append_assoc, ap, sym, subst, ◌∙◌, rules}
use Rattle.std.proofs.lemmas.List.Elements.{All-nil}
use Rattle.v_design.specs.Logs.{PhaseAccess, phase_changes, counted_accesses}
use Rattle.v_design.specs.PlainDesigns.{design_of}
use Rattle.causal_monitor.specs.declared.numbered.Numbered.{Numbered}
use Rattle.causal_monitor.specs.Notes.{noted_access}
use Rattle.causal_monitor.specs.Phases.{NameObjects, accesses_at}
use Rattle.causal_monitor.specs.Counted.{Adds, IsNumbered, numbered_object, numbered_at, held_at}
use Rattle.causal_monitor.proofs.AddLaws.{Adds-trans, Adds-same, accesses_before, accesses_before-more, accesses_before-all}
use Rattle.causal_monitor.proofs.accesses.fill_numbered.Goals as goal

pub push_held-requires-clause-objects : goal.push_held-requires-clause-objects
push_held-requires-clause-objects c = subst (NameObjects (design_of c.args.design.now)) (sym c.held.ensures.entries) c.requires.log.held

pub events-init : goal.events-init
events-init c =
    let design = design_of c.args.design.now in
    let log = c.args.log.now.log in
    subst (λ before. Adds (length (design_of c.args.design.now).objects) (length c.args.log.now.log.events) before c.push_held.new.list.items (map held_at c.args.log.now.log.held ++ []))
    c.clear.ensures.items
    (Adds-same (length design.objects) (length log.events) c.clear.new.self.items c.push_held.new.list.items (map held_at (map noted_access c.held.result.now)) (map held_at log.held ++ [])
    (ap (map held_at) c.held.ensures.entries ∙ sym (append-nil (map held_at log.held)))
    (c.in_ok-push_held.ensures (length log.events)))

pub events-preserved : goal.events-preserved
events-preserved c =
    let design = design_of c.args.design.now in
    let log = c.args.log.now.log in
    let event : List PhaseAccess = map (numbered_at c.events.event) (counted_accesses design (phase_changes design log) (accesses_at log c.events.event)) in
    Adds-same (length design.objects) (length log.events) [] c.push_event.new.list.items ((map held_at log.held ++ accesses_before design log c.events.event) ++ event) _
    (append_assoc (map held_at log.held) (accesses_before design log c.events.event) event
    ∙ ap (λ l. map held_at log.held ++ l) (sym (accesses_before-more design log c.events.event (search rules))))
    (Adds-trans (length design.objects) (length log.events) [] c.events.list.items c.push_event.new.list.items
    (map held_at log.held ++ accesses_before design log c.events.event) event c.events.invariant
    c.in_ok-push_event.ensures)

pub returns : goal.returns
returns c =
    let past : length c.args.log.now.log.events ≤ c.events.event = search rules in
    record {
      accesses = c.events.invariant.list ∙ accesses_before-all (design_of c.args.design.now) c.args.log.now.log c.events.event past;
      numbered = c.events.invariant.numbered (All-nil (IsNumbered (length c.args.log.now.log.events)));
      objects = c.events.invariant.objects (All-nil (λ (n : Numbered). numbered_object n < length (design_of c.args.design.now).objects));
    }
