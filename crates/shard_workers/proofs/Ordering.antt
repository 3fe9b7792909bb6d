-- Shards in the order of their claims, of which each was drawn once (nothing of the language).
use Rattle.std.proofs.Common.{◌≡◌, ℕ, zero, suc, ◌+◌, ◌<◌, ◌≤◌, ◌==◌, Bool, true, false, cond, List, [], ◌∷◌, map, length, get_or, slice_get, Option, Some, None, refl, sym, ap, subst, ◌∙◌, ⊎_elim, arith}
use Rattle.std.specs.Prelude.{sum_by, nat_lt, if◌then◌else◌}
use Rattle.std.specs.List.{All}
use Rattle.std.specs.Option.{option_map}
use Rattle.std.specs.List.Sorted.{IsNonDecreasingBy}
use Rattle.std.proofs.lemmas.Bool.{cases_lt, eq-eqb, eqb-true, lt-ltb, ltb-true}
use Rattle.std.proofs.lemmas.List.{length-map, get_or-map}
use Rattle.std.proofs.lemmas.List.Sums.{sum_by-cons}
use Rattle.std.proofs.lemmas.List.Sorted.{IsPermutation-map, sum_by-IsPermutation, All-permutation}
use Rattle.std.proofs.lemmas.Option.{slice_get-map, slice_get_cases}
use Rattle.shard_rounds.specs.copy_shard.Shards.{ShardKept, fault_steps_at, places_of}
use Rattle.fault_shards.specs.Cuts.{shard, shard_count}
use Rattle.verdict_words.specs.Rule.{times}
use Rattle.verdict_words.specs.declared.view.View.{View}
use Rattle.shard_rounds.specs.copy_shard.declared.together.ClaimedShard.{ClaimedShard}
use Rattle.shard_rounds.specs.shard_claims.Workers.{IsClaimed, KeepsShards}
use Rattle.shard_rounds.specs.shard_findings.Gatherings.{IsFoundShard, claimed_most}
use Rattle.v_design.specs.Designs.{FlatDesign, TestPlan}
use Rattle.own_gradings.specs.Numbers.{OwnStepsOf}
use Rattle.shard_workers.specs.Ordered.{claim_number, claimed_shard, work_steps, AreOrdered}
use Rattle.shard_workers.specs.Closings.{IsEachOnce, IsShardDone, AreShardsDone}
use Rattle.shard_workers.proofs.Closes.{times-in}

-- Counts

times-cons : (x y : ℕ) (xs : List ℕ) → times y (x ∷ xs) ≡ cond {A = ℕ} (x == y) 1 0 + times y xs
times-cons x y xs = sum_by-cons (λ c. cond {A = ℕ} (c == y) 1 0) x xs

times-same : (x : ℕ) (xs : List ℕ) → times x (x ∷ xs) ≡ 1 + times x xs
times-same x xs = times-cons x x xs ∙ ap (λ (b : Bool). cond {A = ℕ} b 1 0 + times x xs) (eq-eqb x x refl)

times-other : (x y : ℕ) (xs : List ℕ) → (x ≡ y → ⊥) → times y (x ∷ xs) ≡ times y xs
times-other x y xs apart = times-cons x y xs ∙ go (x == y) refl
  where
    go : (b : Bool) → (x == y) ≡ b → cond {A = ℕ} b 1 0 + times y xs ≡ times y xs
    go true e = absurd (apart (eqb-true x y e))
    go false e = omega arith

times-less : (x y : ℕ) (xs : List ℕ) → times y xs ≤ times y (x ∷ xs)
times-less x y xs = let e = times-cons x y xs in omega (arith, e)

-- so many numbers from one on stand once each in a list, and no others do
record AreOnceFrom (from count : ℕ) (xs : List ℕ) : Type 0 where
  pub inside : (x : ℕ) → from ≤ x → x < from + count → times x xs ≡ 1
  pub below : (x : ℕ) → x < from → times x xs ≡ 0
  pub above : (x : ℕ) → from + count ≤ x → times x xs ≡ 0

once-from : (count : ℕ) (xs : List ℕ) → IsEachOnce count xs → AreOnceFrom 0 count xs
once-from count xs once = record {
  inside = λ x from low. once x ∙ ap (λ (b : Bool). if b then 1 else 0) (lt-ltb x count (omega (arith, low)));
  below = λ x low. absurd (omega (arith, low));
  above = λ x past. once x ∙ go x past (nat_lt x count) refl;
}
  where
    go : (x : ℕ) → 0 + count ≤ x → (b : Bool) → nat_lt x count ≡ b → cond {A = ℕ} b 1 0 ≡ 0
    go x past true e = absurd (let low = ltb-true x count e in omega (arith, past, low))
    go x past false e = refl

-- Lists in order

module _ {X : Type 0} (f : X → ℕ) where
  -- where they don't fall they stand at their places
  abbrev AtPlaces : ℕ → ℕ → List X → Type 0
  AtPlaces from count xs = (length xs ≡ count) × ((k : ℕ) (d : X) → k < length xs → f (get_or xs k d) ≡ from + k)

  rises-on : (x : X) (xs : List X) → IsNonDecreasingBy f (x ∷ xs) → IsNonDecreasingBy f xs
  rises-on x xs rise = λ i j d up low. rise (suc i) (suc j) d (omega (arith, up)) (omega (arith, low))

  -- the first is the least
  first-is : (from count : ℕ) (x : X) (xs : List X) → IsNonDecreasingBy f (x ∷ xs) → AreOnceFrom from (suc count) (map f (x ∷ xs)) → f x ≡ from
  first-is from count x xs rise once =
      let some : times (f x) (f x ∷ map f xs) ≡ 1 + times (f x) (map f xs) = times-same (f x) (map f xs) in
      let since : from ≤ f x = ⊎_elim (λ low. absurd (let none = once.below (f x) low in omega (arith, some, none))) (λ h. h) (cases_lt (f x) from) in
      let there = times-in from (f x ∷ map f xs) (let one = once.inside from (omega arith) (omega arith) in omega (arith, one)) in
      let size : length (map f (x ∷ xs)) ≡ length (x ∷ xs) = length-map (x ∷ xs) f in
      let low : there.0 < length (x ∷ xs) = (let l = there.1 in omega (arith, l, size)) in
      let at : f (get_or (x ∷ xs) there.0 x) ≡ from = sym (get_or-map f (x ∷ xs) there.0 x from low) ∙ there.2 in
      let up : f x ≤ f (get_or (x ∷ xs) there.0 x) = rise 0 there.0 x (omega arith) low in
      omega (arith, since, at, up)

  -- and the others are those behind it
  once-on : (from count : ℕ) (x : X) (xs : List X) → f x ≡ from → AreOnceFrom from (suc count) (map f (x ∷ xs)) → AreOnceFrom (from + 1) count (map f xs)
  once-on from count x xs is once = record {
    inside = λ y since low. sym (times-other (f x) y (map f xs) (λ e. omega (arith, e, is, since))) ∙ once.inside y (omega (arith, since)) (omega (arith, low));
    below = λ y low. ⊎_elim (λ under. (let none = once.below y under in let less = times-less (f x) y (map f xs) in omega (arith, none, less)))
        (λ since. (let same : f x ≡ y = omega (arith, is, since, low) in let one = once.inside y since (omega (arith, low)) in
        let more : times y (f x ∷ map f xs) ≡ 1 + times y (map f xs) = subst (λ z. times y (z ∷ map f xs) ≡ 1 + times y (map f xs)) (sym same) (times-same y (map f xs)) in omega (arith, one, more)))
        (cases_lt y from);
    above = λ y past. (let none = once.above y (omega (arith, past)) in let less = times-less (f x) y (map f xs) in omega (arith, none, less));
  }

  at-place : (from : ℕ) (x : X) (xs : List X) → f x ≡ from → ((k : ℕ) (d : X) → k < length xs → f (get_or xs k d) ≡ (from + 1) + k) → (k : ℕ) (d : X) → k < length (x ∷ xs) →
      f (get_or (x ∷ xs) k d) ≡ from + k
  at-place from x xs is rest zero d low = omega (arith, is)
  at-place from x xs is rest (suc k) d low = let r : f (get_or xs k d) ≡ (from + 1) + k = rest k d (omega (arith, low)) in omega (arith, r)

  in-order : (xs : List X) (from count : ℕ) → IsNonDecreasingBy f xs → AreOnceFrom from count (map f xs) → AtPlaces from count xs
  in-order [] from zero rise once = (refl, λ k d low. absurd (omega (arith, low)))
  in-order [] from (suc count) rise once = absurd (let one : times from [] ≡ 1 = once.inside from (omega arith) (omega arith) in omega (arith, one))
  in-order (x ∷ xs) from zero rise once =
      absurd (let some : times (f x) (f x ∷ map f xs) ≡ 1 + times (f x) (map f xs) = times-same (f x) (map f xs) in
      ⊎_elim (λ low. (let none = once.below (f x) low in omega (arith, some, none))) (λ since. (let none = once.above (f x) (omega (arith, since)) in omega (arith, some, none))) (cases_lt (f x) from))
  in-order (x ∷ xs) from (suc count) rise once =
      let is : f x ≡ from = first-is from count x xs rise once in
      let rest = in-order xs (from + 1) count (rises-on x xs rise) (once-on from count x xs is once) in (
        (let size : length xs ≡ count = rest.0 in omega (arith, size)),
        λ k d low. at-place from x xs is rest.1 k d low,
      )

-- Shards

some-is : (one other : ShardKept) → Some one ≡ Some other → one ≡ other
some-is one other e = cc

none-is : (own : ShardKept) → None ≡ Some own → ⊥
none-is own e = cc

module _ {N : Type 0} (representatives : List ℕ) (gone count : ℕ) (v : View) (claimed : List (ClaimedShard N)) (shards : List ShardKept) (o : AreOrdered claimed shards) where
  in-places : KeepsShards representatives gone v claimed → IsEachOnce count v.claimed →
      (length o.sorted ≡ count) × ((k : ℕ) (d : ClaimedShard N) → k < length o.sorted → claim_number (get_or o.sorted k d) ≡ 0 + k)
  in-places keeps once =
      in-order claim_number o.sorted 0 count o.ascend
      (once-from count (map claim_number o.sorted) (λ x. sum_by-IsPermutation (λ c. cond {A = ℕ} (c == x) 1 0) (map claim_number claimed) (map claim_number o.sorted)
      (IsPermutation-map claim_number claimed o.sorted o.permuted) ∙ (ap (times x) (sym keeps.claimed) ∙ once x)))

  -- a shard of the ordered ones, as it was claimed
  done-at : KeepsShards representatives gone v claimed → All IsFoundShard claimed → ((k : ℕ) (d : ClaimedShard N) → k < length o.sorted → claim_number (get_or o.sorted k d) ≡ 0 + k) →
      (number : ℕ) (x : ClaimedShard N) → number < length o.sorted → get_or o.sorted number x ≡ x → IsShardDone representatives number x.shard
  done-at keeps found places number x low at =
      let here : x.number ≡ number = ap claim_number (sym at) ∙ (places number x low ∙ omega arith) in
      let is : IsClaimed representatives gone x = subst (IsClaimed representatives gone) at (All-permutation (IsClaimed representatives gone) claimed o.sorted o.permuted keeps.each number x low) in
      let all : IsFoundShard x = subst IsFoundShard at (All-permutation IsFoundShard claimed o.sorted o.permuted found number x low) in
      let faults : places_of x.shard.faults ≡ shard number representatives = is.faults ∙ ap (λ n. shard n representatives) here in
      record { faults = faults; found = all ∙ faults }

  -- so the shards are one for each claim, in claim order
  pub shards-done : KeepsShards representatives gone v claimed → All IsFoundShard claimed → IsEachOnce count v.claimed → count ≡ shard_count (length representatives) →
      AreShardsDone representatives shards
  shards-done keeps found once counted = record {
    count = ap length o.shards_are ∙ (length-map o.sorted claimed_shard ∙ ((in-places keeps once).0 ∙ counted));
    each = λ number own is. ⊎_elim
        (λ here. subst (IsShardDone representatives number)
        (some-is here.0.shard own (sym (slice_get-map claimed_shard o.sorted number ∙ ap (λ (e : Option (ClaimedShard N)). option_map claimed_shard e) here.2) ∙ (sym (ap (λ l. slice_get l number) o.shards_are) ∙ is)))
        (done-at keeps found (in-places keeps once).1 number here.0 here.1 here.3))
        (λ past. absurd (none-is own (sym (slice_get-map claimed_shard o.sorted number ∙ ap (λ (e : Option (ClaimedShard N)). option_map claimed_shard e) past.1) ∙ (sym (ap (λ l. slice_get l number) o.shards_are) ∙ is))))
        (slice_get_cases o.sorted number).1;
  }

-- The own steps of the shards' faults

steps-map : {N : Type 0} (design : FlatDesign) (plan : TestPlan) (tally : OwnStepsOf design plan) (claimed : List (ClaimedShard N)) →
    work_steps tally (map claimed_shard claimed) ≡ claimed_most tally claimed
steps-map design plan tally [] = refl
steps-map design plan tally (one ∷ claimed) =
    sum_by-cons (λ (own : ShardKept). sum_by (fault_steps_at tally) (places_of own.faults)) one.shard (map claimed_shard claimed)
    ∙ (ap (λ n. sum_by (fault_steps_at tally) (places_of one.shard.faults) + n) (steps-map design plan tally claimed)
    ∙ sym (sum_by-cons (λ (c : ClaimedShard _). sum_by (fault_steps_at tally) (places_of c.shard.faults)) one claimed))

pub steps-ordered : {N : Type 0} (design : FlatDesign) (plan : TestPlan) (tally : OwnStepsOf design plan) (claimed : List (ClaimedShard N)) (shards : List ShardKept) → AreOrdered claimed shards →
    claimed_most tally claimed ≡ work_steps tally shards
steps-ordered design plan tally claimed shards ordered =
    sym (sum_by-IsPermutation (λ (c : ClaimedShard _). sum_by (fault_steps_at tally) (places_of c.shard.faults)) claimed ordered.sorted ordered.permuted)
    ∙ (sym (steps-map design plan tally ordered.sorted) ∙ sym (ap (work_steps tally) ordered.shards_are))
