use Rattle.std.proofs.Common.{◌≡◌, ◌<◌, ◌+◌, ℕ, Bool, true, false, List, Option, Some, map, length, cond, set, ap, sym, subst, ◌∙◌, rules}
use Rattle.v_design.specs.Logs.{PhaseAccess}
use Rattle.causal_monitor.specs.declared.group.Group.{Group}
use Rattle.causal_monitor.specs.Counted.{phase_access, numbered_object}
use Rattle.causal_monitor.specs.Links.{AreLinks, AreLatest, is_in_group, access_at, object_at}
use Rattle.causal_monitor.proofs.LinkLaws.{AreLinks-push, AreLatest-here, AreLatest-more, table_read, read_access}
use Rattle.causal_monitor.proofs.links.fill_links.Goals as goal

kept : (group : Group) (accesses : List PhaseAccess) (end object : ℕ) (table later : List (Option ℕ)) (of_group : Bool) → object_at accesses end ≡ object → object < length table →
    of_group ≡ is_in_group group (access_at accesses end).access.act → later ≡ cond of_group (set table object (Some end)) table → AreLatest group accesses end table →
    AreLatest group accesses (end + 1) later
kept group accesses end object table later true is within passes chosen had =
    subst (AreLatest group accesses (end + 1)) (sym chosen) (AreLatest-here group accesses end object table is within (sym passes) had)
kept group accesses end object table later false is within fails chosen had =
    subst (AreLatest group accesses (end + 1)) (sym chosen) (AreLatest-more group accesses end table (sym fails) had)

pub accesses-preserved : goal.accesses-preserved
accesses-preserved c =
    let numbered = c.index-accesses-place.result in
    let accesses : List PhaseAccess = map phase_access c.args.accesses.now in
    let read : phase_access numbered ≡ access_at accesses c.accesses.place = read_access c.args.accesses.now c.accesses.place numbered c.accesses-test.true c.index-accesses-place.is in
    let object : object_at accesses c.accesses.place ≡ numbered_object numbered = ap (λ (a : PhaseAccess). a.access.object) (sym read) in
    let within : numbered_object numbered < length c.accesses.latest.items = search rules in
    record {
      count = search rules;
      same = search rules;
      links =
          subst (AreLinks c.args.group accesses) (sym c.in_ok-push.ensures.items)
          (AreLinks-push c.args.group accesses c.accesses.links.items c.accesses.place c.index.result.now (search rules) c.accesses.invariant.links
          (table_read c.args.group accesses c.accesses.place c.accesses.latest.items (numbered_object numbered) c.index.result.now object within c.index.ensures c.accesses.invariant.latest));
      latest =
          kept c.args.group accesses c.accesses.place (numbered_object numbered) c.accesses.latest.items c.keep_latest.new.latest.items c.is_in_group-of_group.result object within
          (c.is_in_group-of_group.ensures ∙ ap (λ (a : PhaseAccess). is_in_group c.args.group a.access.act) read) c.keep_latest.ensures.kept c.accesses.invariant.latest;
    }
