use Rattle.std.proofs.Common.{◌≡◌, ℕ, take, take_all, rules, refl}
use Rattle.std.specs.List.Sorted.{IsNonDecreasing}
use Rattle.std.proofs.lemmas.List.Sorted.{Contains-permutation, IsPermutation-sym, IsNonDecreasingBy-from_sort}
use Rattle.fault_list.proofs.Sorted.{Keeps-past, Keeps-same}
use Rattle.fault_list.proofs.ascending.ascending.Goals as goal
use Rattle.fault_list.proofs.ascending.ascending.Goals.{then-is_past+in_ok-push, else-is_past}

pub loop-number-preserved : goal.loop-number-preserved
loop-number-preserved c =
    let sorted = c.deref-number-items.result.now in let i = c.loop-number.number-index in
    let rises : IsNonDecreasing sorted = rw c.deref-number-items.ensures.value (IsNonDecreasingBy-from_sort (λ (x : ℕ). x) c.sort.new.self.items c.in-Ok.ensures.sorted) in
    elim c.if-is_past.branch [
      | then-is_past+in_ok-push w ↦ rw (w.kept-is, w.last-is, w.in_ok-push.ensures.items) (Keeps-past sorted c.loop-number.kept.items c.loop-number.last i _ c.loop-number-test.true refl
          (c.is_past.ensures.0 w.if-is_past.true) c.loop-number.invariant)
      | else-is_past w ↦ rw (w.kept-is, w.last-is) (Keeps-same sorted c.loop-number.kept.items c.loop-number.last i _ rises c.loop-number-test.true refl
          (λ past. search (rules, w.if-is_past.false, c.is_past.ensures.1 past)) c.loop-number.invariant)
    ]

pub returns-clause-same : goal.returns-clause-same
returns-clause-same c number =
    let all : take c.loop-number.number-index c.deref-number-items.result.now ≡ c.deref-number-items.result.now =
    take_all c.loop-number.number-index c.deref-number-items.result.now c.loop-number-test.false in (
      (λ h. Contains-permutation c.sort.new.self.items c.args.numbers.items number (IsPermutation-sym _ _ c.in-Ok.ensures.permutation)
          (rw (all, c.deref-number-items.ensures.value) at c.loop-number.invariant.there number h)),
      (λ h. c.loop-number.invariant.all number (rw (all, c.deref-number-items.ensures.value) (Contains-permutation c.args.numbers.items c.sort.new.self.items number c.in-Ok.ensures.permutation h))),
    )
