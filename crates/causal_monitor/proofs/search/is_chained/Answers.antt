use Rattle.std.proofs.Common.{◌<◌, List, Some, length, false, ap, sym, subst, ◌∙◌, rules, arith}
use Rattle.std.specs.Option.{ForSome}
use Rattle.std.proofs.lemmas.List.{get_or_read}
use Rattle.v_design.specs.Logs.{PhaseAccess, access_orders}
use Rattle.causal_monitor.specs.declared.group.Group.TheVariants.{All}
use Rattle.causal_monitor.specs.Counted.{phase_access, IsNumbered}
use Rattle.causal_monitor.specs.Links.{access_at, object_at, IsLatest, stands_in}
use Rattle.causal_monitor.specs.Index.{indexed_accesses}
use Rattle.causal_monitor.proofs.LinkLaws.{link_read, IsChained-more, read_access}
use Rattle.causal_monitor.proofs.search.is_chained.Goals as goal

pub returns-then-index : goal.returns-then-index
returns-then-index c = λ ordered.
    let log = c.args.log.now.log in
    let accesses : List PhaseAccess = indexed_accesses c.args.index.now in
    let latest = link_read All accesses c.args.index.now.all.items c.args.number c.index.result.now c.requires.indexed.all_links (search rules) c.index.ensures in
    let found : IsLatest (stands_in All accesses (object_at accesses c.args.number)) c.args.number (Some c.in-Some.latest) =
    subst (IsLatest (stands_in All accesses (object_at accesses c.args.number)) c.args.number) c.in-Some.is latest in
    let low : c.in-Some.latest < length c.args.index.now.accesses.items = let less = found.0 in omega (arith, c.requires.within) in
    let marked = sym (get_or_read c.args.chained.now.items c.in-Some.latest c.index-2.result.now (search rules) c.index-2.ensures false) ∙ c.if-index.true in
    let before = read_access c.args.index.now.accesses.items c.in-Some.latest c.index-then-index.result.now low c.index-then-index.ensures in
    let here = read_access c.args.index.now.accesses.items c.args.number c.index-then-index-2.result.now c.requires.within c.index-then-index-2.ensures in
    let numbered : IsNumbered (length log.events) c.index-then-index-2.result.now =
    subst (IsNumbered (length log.events)) (sym c.index-then-index-2.ensures) (c.requires.indexed.numbered c.args.number c.index-then-index-2.result.now c.requires.within) in
    IsChained-more log c.requires.indexed.has_jumps.earlier accesses c.args.number c.in-Some.latest
    (subst (λ (a : PhaseAccess). ForSome a.event (λ event. event < length log.events)) here numbered.event) found
    (c.requires.chained c.in-Some.latest found.0 marked)
    (sym (ap (access_orders log (access_at accesses c.in-Some.latest)) here) ∙ sym (ap (λ a. access_orders log a (phase_access c.index-then-index-2.result.now)) before)
    ∙ sym c.access_orders.ensures ∙ ordered)
