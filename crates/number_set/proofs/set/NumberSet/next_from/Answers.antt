use Rattle.std.proofs.Common.{arith, subst, ap, List, ℕ, ◌≡◌, ◌+◌, ◌<◌, ◌≤◌, ◌/◌, ◌^◌, length, true}
use Rattle.number_set.specs.Members.{is_set}
use Rattle.number_set.proofs.set.NumberSet.next_from.Goals as goal

pub overflow_mul-self-inside : goal.overflow_mul-self-inside
overflow_mul-self-inside c =
    let small : c.self.inside.bound < 2 ^ 32 = c.self.invariant.small in
    let starts : c.self.inside.first ≤ length c.self.inside.words.items = c.self.invariant.first_within in
    let long : length c.self.inside.words.items ≡ c.self.inside.bound / 64 + 1 = c.self.invariant.long in
    omega arith

pub first_set-requires-clause-fits : goal.first_set-requires-clause-fits
first_set-requires-clause-fits c =
    let small : c.self.inside.bound < 2 ^ 32 = c.self.invariant.small in
    let long : length c.self.inside.words.items ≡ c.self.inside.bound / 64 + 1 = c.self.invariant.long in
    let same : length c.deref.result.now ≡ length c.self.inside.words.items = ap length c.deref.ensures.value in
    omega arith

pub overflow_cast-result : goal.overflow_cast-result
overflow_cast-result c =
    let small : c.self.inside.bound < 2 ^ 32 = c.self.invariant.small in
    let set = subst (λ (words : List ℕ). is_set words c.in_ok-first.first ≡ true) c.deref.ensures.value c.in_ok-first.ensures.2 in
    let low : c.in_ok-first.first < c.self.inside.bound = c.self.invariant.within c.in_ok-first.first set in omega arith
