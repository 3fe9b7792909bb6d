-- By binary search.
use Rattle.std.proofs.Common.{map, filter, sym, ap, subst, ◌∙◌}
use Rattle.std.specs.List.Sorted.{IsNonDecreasingBy}
use Rattle.window_wakes.specs.Wakes.{WakesKept, wake_of, wake_moment, comes_within}
use Rattle.window_wakes.proofs.Windows.{ascend-back, filter-told}
use Rattle.window_wakes.proofs.wakes.WindowWakes.within.Goals as goal

pub within-requires-clause-rise : goal.within-requires-clause-rise
within-requires-clause-rise g c =
    let w = c.self.inside in
    subst (IsNonDecreasingBy wake_moment) (sym c.deref.ensures.value) (ascend-back w.wakes.items c.self.invariant.ascend)

pub returns : goal.returns
returns g c =
    let w = c.self.inside in
    ap (map wake_of) c.within.ensures ∙ filter-told c.args.first c.args.limit c.deref.result.now ∙ ap (λ l. filter (comes_within c.args.first c.args.limit) (map wake_of l)) c.deref.ensures.value
    ∙ ap (λ (k : WakesKept). filter (comes_within c.args.first c.args.limit) k.wakes) c.self.view_is
