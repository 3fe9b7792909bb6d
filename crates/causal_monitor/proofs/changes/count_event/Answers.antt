use Rattle.std.proofs.Common.{◌<◌, ◌++◌, List, map, length, rules, subst, sym}
use Rattle.std.proofs.lemmas.List.{length-map, take_all}
use Rattle.v_design.specs.Accesses.{ObjectAccess}
use Rattle.v_design.specs.Logs.{changes_of}
use Rattle.v_design.specs.PlainDesigns.{design_of}
use Rattle.causal_monitor.specs.Notes.{noted_access}
use Rattle.causal_monitor.specs.Changes.{CountChanges}
use Rattle.causal_monitor.proofs.ChangeLaws.{AllHold-at, counts_more, read_noted}
use Rattle.causal_monitor.proofs.changes.count_event.Goals as goal

pub count_access-requires-clause-object : goal.count_access-requires-clause-object
count_access-requires-clause-object c =
    let accesses : List ObjectAccess = map noted_access c.args.accesses.now in
    let read = read_noted c.args.accesses.now c.accesses.noted-index c.noted-item.result c.accesses-test.true c.noted-item.is in
    subst (λ (a : ObjectAccess). a.object < length (design_of c.args.design.now).objects) (sym read)
    (AllHold-at (λ (a : ObjectAccess). a.object < length (design_of c.args.design.now).objects) accesses c.accesses.noted-index (noted_access c.noted-item.result) c.requires.objects
    (rw length-map c.accesses-test.true))

pub accesses-preserved : goal.accesses-preserved
accesses-preserved c = record {
  same = search rules;
  counted =
      counts_more (design_of c.args.design.now) (map noted_access c.args.accesses.now) c.accesses.noted-index (noted_access c.noted-item.result) c.args.counts.now.items c.accesses.counts.items
      c.count_access.new.counts.items (rw length-map c.accesses-test.true)
      (read_noted c.args.accesses.now c.accesses.noted-index c.noted-item.result c.accesses-test.true c.noted-item.is) c.accesses.invariant.counted c.count_access.ensures.counted;
}

pub returns-clause-counted : goal.returns-clause-counted
returns-clause-counted c = λ changes start.
    subst (λ l. CountChanges (changes ++ changes_of (design_of c.args.design.now) l) c.accesses.counts.items)
    (take_all c.accesses.noted-index (map noted_access c.args.accesses.now) (rw length-map c.accesses-test.false)) (c.accesses.invariant.counted changes start)
