use Rattle.std.proofs.Common.{List, map, sym, subst, rules}
use Rattle.v_design.specs.Logs.{PhaseAccess}
use Rattle.causal_monitor.specs.declared.numbered.Numbered.{Numbered}
use Rattle.causal_monitor.specs.Counted.{phase_access}
use Rattle.causal_monitor.specs.Links.{access_at, AreLinks, group_against}
use Rattle.causal_monitor.specs.Index.{indexed_accesses}
use Rattle.causal_monitor.proofs.LinkLaws.{AreChained-more, read_access}
use Rattle.causal_monitor.proofs.search.find_conflict.Goals as goal

pub returns-then-all_order-clause-chained : goal.returns-then-all_order-clause-chained
returns-then-all_order-clause-chained c =
    AreChained-more c.args.log.now.log (indexed_accesses c.args.index.now) c.args.number c.args.chained.now.items c.is_chained-all_order.result (search rules) c.is_chained-all_order.ensures
    c.requires.chained

pub first_conflict-requires-clause-links : goal.first_conflict-requires-clause-links
first_conflict-requires-clause-links c =
    let accesses : List PhaseAccess = indexed_accesses c.args.index.now in
    let here = read_access c.args.index.now.accesses.items c.args.number c.index.result.now c.requires.within c.index.ensures in
    let Linked : List Numbered → Type 0 =
    λ list. AreLinks (group_against (access_at (map phase_access list) c.args.number).access.act) (map phase_access list) c.links_against-links.result.now.items in
    subst Linked (sym c.deref.ensures.value)
    (subst (λ (a : PhaseAccess). AreLinks (group_against a.access.act) accesses c.links_against-links.result.now.items) here c.links_against-links.ensures.links)
