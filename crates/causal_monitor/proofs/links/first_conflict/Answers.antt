use Rattle.std.proofs.Common.{◌≡◌, ◌<◌, ℕ, List, Option, Some, map, length, ap, sym, subst, ◌∙◌, rules, arith}
use Rattle.v_design.specs.Logs.{conflict, LoggedPhase, PhaseAccess}
use Rattle.causal_monitor.specs.Counted.{phase_access, IsNumbered}
use Rattle.causal_monitor.specs.Links.{IsSearch, low_of, group_against, access_at}
use Rattle.causal_monitor.proofs.LinkLaws.{search_start, search_more, search_less, read_access}
use Rattle.causal_monitor.proofs.links.first_conflict.Goals as goal

pub back-init : goal.back-init
back-init c = search_start c.args.log.now.log (map phase_access c.args.accesses.now) c.args.links.now.items c.args.number c.index-at.result.now c.requires.links (search rules) c.index-at.ensures

-- where a search stands is before its access
standing : (log : LoggedPhase) (accesses : List PhaseAccess) (number place : ℕ) (at best : Option ℕ) → IsSearch log accesses number at best → at ≡ Some place → place < number
standing log accesses number place at best h is = (h.stands place is).0

pub offset_bounds-accesses-place : goal.offset_bounds-accesses-place
offset_bounds-accesses-place c =
    let low = standing c.args.log.now.log (map phase_access c.args.accesses.now) c.args.number c.in-Some.place c.back.at c.back.first c.back.invariant c.in-Some.is in
    let within : c.in-Some.place < length c.args.accesses.now = omega (arith, c.requires.within) in
    search rules

pub bounds-accesses-place : goal.bounds-accesses-place
bounds-accesses-place c =
    let low = standing c.args.log.now.log (map phase_access c.args.accesses.now) c.args.number c.in-Some.place c.back.at c.back.first c.back.invariant c.in-Some.is in
    omega (arith, c.requires.within)

pub index-at-requires-in-Some : goal.index-at-requires-in-Some
index-at-requires-in-Some c =
    let low = standing c.args.log.now.log (map phase_access c.args.accesses.now) c.args.number c.in-Some.place c.back.at c.back.first c.back.invariant c.in-Some.is in
    omega (arith, c.requires.within, c.requires.count)

pub conflict-conflicts-requires-clause-first : goal.conflict-conflicts-requires-clause-first
conflict-conflicts-requires-clause-first c =
    let low = standing c.args.log.now.log (map phase_access c.args.accesses.now) c.args.number c.in-Some.place c.back.at c.back.first c.back.invariant c.in-Some.is in
    subst (IsNumbered (length c.args.log.now.log.events)) (sym c.index-accesses-place.is)
    (c.requires.numbered c.in-Some.place c.index-accesses-place.result (omega (arith, c.requires.within)))

pub back-smaller : goal.back-smaller
back-smaller c =
    let low = standing c.args.log.now.log (map phase_access c.args.accesses.now) c.args.number c.in-Some.place c.back.at c.back.first c.back.invariant c.in-Some.is in
    subst (λ at. low_of c.index-at-in-Some.result.now < low_of at) (sym c.in-Some.is)
    (search_less (group_against (access_at (map phase_access c.args.accesses.now) c.args.number).access.act) (map phase_access c.args.accesses.now) c.args.links.now.items c.in-Some.place
    c.index-at-in-Some.result.now c.requires.links (omega (arith, c.requires.within, c.requires.count)) c.index-at-in-Some.ensures)

pub back-preserved : goal.back-preserved
back-preserved c =
    let log = c.args.log.now.log in
    let accesses : List PhaseAccess = map phase_access c.args.accesses.now in
    let low = standing log accesses c.args.number c.in-Some.place c.back.at c.back.first c.back.invariant c.in-Some.is in
    let within : c.in-Some.place < length c.args.accesses.now = omega (arith, c.requires.within) in
    search_more log accesses c.args.links.now.items c.args.number c.in-Some.place c.index-at-in-Some.result.now c.back.first c.place_or-first.result c.conflict-conflicts.result
    c.requires.links (omega (arith, c.requires.count)) c.index-at-in-Some.ensures
    (c.conflict-conflicts.ensures
    ∙ ap (λ a. conflict log a (phase_access c.index-accesses-number.result)) (read_access c.args.accesses.now c.in-Some.place c.index-accesses-place.result within c.index-accesses-place.is)
    ∙ ap (conflict log (access_at accesses c.in-Some.place)) (read_access c.args.accesses.now c.args.number c.index-accesses-number.result c.requires.within c.index-accesses-number.is))
    c.place_or-first.ensures (subst (λ at. IsSearch log accesses c.args.number at c.back.first) c.in-Some.is c.back.invariant)
