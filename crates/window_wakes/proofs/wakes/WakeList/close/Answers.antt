-- In the order of their moments.
use Rattle.std.proofs.Common.{rules, sym, subst, ◌∙◌, ap, Vec, Global}
use Rattle.std.specs.List.Sorted.{IsPermutation}
use Rattle.std.proofs.lemmas.List.Sorted.{IsNonDecreasingBy-from_sort_by_key}
use Rattle.window_wakes.specs.Wakes.{wake_moment}
use Rattle.window_wakes.specs.declared.wake.Wake.{Wake as WakeKept}
use Rattle.window_wakes.proofs.Windows.{KeepsWakes-sorted}
use Rattle.window_wakes.proofs.wakes.WakeList.close.Goals as goal

pub invariant_of-result : goal.invariant_of-result
invariant_of-result g c =
    let l = c.self.inside in
    let new = c.sort_unstable_by_key.new.self.items in
    KeepsWakes-sorted g.N.World.design g.N.World.plan l.before l.through l.moment l.wakes.items new c.self.invariant
    (subst (λ (v : Vec WakeKept Global). IsPermutation v.items new) c.replace-wakes.ensures.value c.sort_unstable_by_key.ensures.permutation)
    (IsNonDecreasingBy-from_sort_by_key wake_moment new c.sort_unstable_by_key.ensures.sorted (λ a r q k. search rules))
