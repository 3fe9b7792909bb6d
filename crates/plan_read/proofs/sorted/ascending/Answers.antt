use Rattle.std.proofs.Common.{◌≡◌, ℕ, ◌≤◌, All, length, get_or, take, take_all, rules, arith, sym, ap, Contains, ◌∙◌, refl}
use Rattle.std.specs.List.Sorted.{IsNonDecreasing}
use Rattle.std.proofs.lemmas.List.Sorted.{All-permutation, Contains-permutation, IsPermutation-sym, IsNonDecreasingBy-from_sort}
use Rattle.plan_read.proofs.KeptTimes.{Keeps-past, Keeps-same, kept-within}
use Rattle.plan_read.proofs.sorted.ascending.Goals as goal
use Rattle.plan_read.proofs.sorted.ascending.Goals.{then-is_past+in_ok-push, else-is_past}

pub loop-time-preserved : goal.loop-time-preserved
loop-time-preserved c =
    let sorted = c.deref-time-items.result.now in let i = c.loop-time.time-index in
    let rises : IsNonDecreasing sorted = rw c.deref-time-items.ensures.value (IsNonDecreasingBy-from_sort (λ (x : ℕ). x) c.sort.new.self.items c.in-Ok.ensures.sorted) in
    elim c.if-is_past.branch [
      | then-is_past+in_ok-push w ↦ rw (w.kept-is, w.last-is, w.in_ok-push.ensures.items) (Keeps-past sorted c.loop-time.kept.items c.loop-time.last i _ c.loop-time-test.true refl
          (c.is_past.ensures.0 w.if-is_past.true) c.loop-time.invariant)
      | else-is_past w ↦ rw (w.kept-is, w.last-is) (Keeps-same sorted c.loop-time.kept.items c.loop-time.last i _ rises c.loop-time-test.true refl
          (λ past. search (rules, w.if-is_past.false, c.is_past.ensures.1 past)) c.loop-time.invariant)
    ]

pub returns-clause-same : goal.returns-clause-same
returns-clause-same c time =
    let all : take c.loop-time.time-index c.deref-time-items.result.now ≡ c.deref-time-items.result.now = take_all c.loop-time.time-index c.deref-time-items.result.now c.loop-time-test.false in
    rw c.from_vec.ensures (
      (λ h. Contains-permutation c.sort.new.self.items c.args.times.items time (IsPermutation-sym _ _ c.in-Ok.ensures.permutation)
          (rw (all, c.deref-time-items.ensures.value) at c.loop-time.invariant.there time h)),
      (λ h. c.loop-time.invariant.all time (rw (all, c.deref-time-items.ensures.value) (Contains-permutation c.args.times.items c.sort.new.self.items time c.in-Ok.ensures.permutation h))),
    )

pub returns-clause-within : goal.returns-clause-within
returns-clause-within c end up_to =
    let same = returns-clause-same c in
    kept-within c.from_vec.result c.args.times.items end (λ time h. (same time).0 h) up_to

pub returns-clause-few : goal.returns-clause-few
returns-clause-few c =
    let few : length c.loop-time.kept.items ≤ length (take c.loop-time.time-index c.deref-time-items.result.now) = c.loop-time.invariant.few in
    let all : take c.loop-time.time-index c.deref-time-items.result.now ≡ c.deref-time-items.result.now = take_all c.loop-time.time-index c.deref-time-items.result.now c.loop-time-test.false in
    rw c.from_vec.ensures (omega (arith, rw (all, c.deref-time-items.ensures.value) at few, c.sort.ensures.len))
