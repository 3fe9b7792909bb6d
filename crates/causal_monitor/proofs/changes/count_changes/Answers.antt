use Rattle.std.proofs.Common.{◌++◌, rules, ap, subst, sym, ◌∙◌}
use Rattle.v_design.specs.Logs.{changes_of}
use Rattle.v_design.specs.PlainDesigns.{design_of}
use Rattle.causal_monitor.specs.Phases.{NameObjects}
use Rattle.causal_monitor.specs.Changes.{CountChanges}
use Rattle.causal_monitor.proofs.ChangeLaws.{names_at, changes_before, changes_before-more, changes_before-all}
use Rattle.causal_monitor.proofs.changes.count_changes.Goals as goal

pub count_event-requires-clause-objects : goal.count_event-requires-clause-objects
count_event-requires-clause-objects c =
    subst (NameObjects (design_of c.args.design.now)) (sym c.accesses_of.ensures.accesses) (names_at (design_of c.args.design.now) c.args.log.now.log c.requires.log c.events.event (search rules))

pub events-preserved : goal.events-preserved
events-preserved c = record {
  same = search rules;
  counted =
      subst (λ l. CountChanges l c.count_event.new.counts.items)
      (ap (λ l. changes_before (design_of c.args.design.now) c.args.log.now.log c.events.event ++ changes_of (design_of c.args.design.now) l) c.accesses_of.ensures.accesses
      ∙ sym (changes_before-more (design_of c.args.design.now) c.args.log.now.log c.events.event (search rules)))
      (c.count_event.ensures.counted (changes_before (design_of c.args.design.now) c.args.log.now.log c.events.event) c.events.invariant.counted);
}

pub returns-clause-counted : goal.returns-clause-counted
returns-clause-counted c =
    subst (λ l. CountChanges l c.events.counts.items) (changes_before-all (design_of c.args.design.now) c.args.log.now.log c.events.event (search rules)) c.events.invariant.counted
