-- The elements between the two counts.
use Rattle.std.proofs.Common.{ℕ, ◌-◌, ◌≤◌, arith, rules}
use Rattle.moment_slices.proofs.Slices.{counts-rise, slice-within}
use Rattle.moment_slices.proofs.within.Goals as goal

pub slice_bounds-result-count : goal.slice_bounds-result-count
slice_bounds-result-count g c =
    counts-rise g.T.AtMoment.moment_of c.args.items.now c.count_before-from.result c.count_before-to.result c.args.first c.args.limit c.requires.order c.count_before-from.ensures.within
    c.count_before-from.ensures.before c.count_before-to.ensures.behind

pub slice_bounds-result-start : goal.slice_bounds-result-start
slice_bounds-result-start g c =
    let order : c.count_before-from.result ≤ c.count_before-to.result =
    counts-rise g.T.AtMoment.moment_of c.args.items.now c.count_before-from.result c.count_before-to.result c.args.first c.args.limit c.requires.order c.count_before-from.ensures.within
    c.count_before-from.ensures.before c.count_before-to.ensures.behind in
    let within = c.count_before-to.ensures.within in
    search rules

pub returns : goal.returns
returns g c =
    let from : ℕ = c.count_before-from.result in
    let to : ℕ = c.count_before-to.result in
    let key = g.T.AtMoment.moment_of in
    let order : from ≤ to =
    counts-rise key c.args.items.now from to c.args.first c.args.limit c.requires.order c.count_before-from.ensures.within c.count_before-from.ensures.before c.count_before-to.ensures.behind in
    slice-within key c.args.items.now from (to - from) c.args.first c.args.limit c.requires.order c.count_before-from.ensures.before c.count_before-from.ensures.behind
    (λ place item low here. c.count_before-to.ensures.before place item (omega (arith, low, order)) here)
    (λ place item high here. c.count_before-to.ensures.behind place item (omega (arith, high, order)) here)
