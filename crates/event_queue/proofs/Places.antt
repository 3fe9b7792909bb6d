-- Where a process stands in an ascending list.
use Rattle.std.proofs.Common.{◌≡◌, ◌≢◌, ℕ, zero, suc, ◌<◌, ◌≤◌, Bool, true, false, List, [], ◌∷◌, ◌++◌, length, map, get_or, refl, sym, ◌∙◌, ap, arith, nat_eq, nat_lt}
use Rattle.std.specs.List.{insert, slice_set}
use Rattle.std.specs.List.Sorted.{IsPartitionedBy, IsPartitionPoint}
use Rattle.std.proofs.lemmas.Bool.{ltb-true, lt-ltb, ne_eqb, eq-eqb}
use Rattle.vf_base.specs.Lists.{AllHold}
use Rattle.vf_base.specs.declared.ids.ProcId.{ProcId}
use Rattle.v_design.specs.declared.plan.Update.{Update}
use Rattle.event_queue.specs.Arranged.{Ascends, with_process, with_update, update_before, update_at}

-- what holds of all elements holds of one
pub AllHold-at : {A B : Type 0} (P : B → Type 0) (f : A → B) (xs : List A) (j : ℕ) (d : A) → AllHold P (map f xs) → j < length xs → P (f (get_or xs j d))
AllHold-at P f [] j d h less = absurd (omega arith)
AllHold-at P f (x ∷ xs) zero d h less = h.0
AllHold-at P f (x ∷ xs) (suc j) d h less = AllHold-at P f xs j d h.1 (omega arith)

-- in a list that ascends the numbers below p stand first
pub partitioned : {A : Type 0} (f : A → ℕ) (p : ℕ) (xs : List A) → Ascends (map f xs) → IsPartitionedBy (λ y. nat_lt (f y) p) xs
partitioned f p [] h i j d le less t = absurd (omega arith)
partitioned f p (x ∷ xs) h zero zero d le less t = t
partitioned f p (x ∷ xs) h zero (suc j) d le less t =
    let below : f x < f (get_or xs j d) = AllHold-at (λ y. f x < y) f xs j d h.0 (omega arith) in
    let under : f (get_or xs j d) < p = ltb-true _ _ t in
    lt-ltb (f x) p (omega arith)
partitioned f p (x ∷ xs) h (suc i) zero d le less t = absurd (omega arith)
partitioned f p (x ∷ xs) h (suc i) (suc j) d le less t = partitioned f p xs h.1 i j d (omega arith) (omega arith) t

-- a process goes before the first that isn't below it
pub with_process-insert : (p : ProcId) (xs : List ProcId) (place : ℕ) → place ≤ length xs
    → IsPartitionPoint (λ (y : ProcId). nat_lt y.0 p.0 ≡ true) (λ (y : ProcId). nat_lt y.0 p.0 ≡ false) xs place
    → insert xs place p ≡ with_process p xs
with_process-insert p [] zero le at = refl
with_process-insert p [] (suc place) le at = absurd (omega arith)
with_process-insert p (x ∷ xs) zero le at =
    let above : nat_lt x.0 p.0 ≡ false = at.1 0 p (omega arith) (omega arith) in rw above
with_process-insert p (x ∷ xs) (suc place) le at =
    let below : nat_lt x.0 p.0 ≡ true = at.0 0 p (omega arith) (omega arith) in
    let rest : insert xs place p ≡ with_process p xs =
    with_process-insert p xs place (omega arith) ((λ k d low high. at.0 (suc k) d (omega arith) (omega arith)), (λ k d low high. at.1 (suc k) d (omega arith) (omega arith))) in
    rw below (ap (λ ys. x ∷ ys) rest)

-- an update goes to the lane of its process, or before the first lane that isn't below it
pub with_update-at : (p : ProcId) (u : Update) (xs : List (ProcId × List Update)) (place : ℕ) → place ≤ length xs
    → IsPartitionPoint (λ (y : ProcId × List Update). nat_lt y.0.0 p.0 ≡ true) (λ (y : ProcId × List Update). nat_lt y.0.0 p.0 ≡ false) xs place
    → update_at place p u xs ≡ with_update p u xs
with_update-at p u [] zero le at = refl
with_update-at p u [] (suc place) le at = absurd (omega arith)
with_update-at p u (x ∷ xs) zero le at =
    let above : nat_lt x.0.0 p.0 ≡ false = at.1 0 x (omega arith) (omega arith) in
    rw above (same (nat_eq x.0.0 p.0))
  where
    same : (here : Bool) → update_before false here p u x xs [] ≡ update_before false here p u x xs (with_update p u xs)
    same true = refl
    same false = refl
with_update-at p u (x ∷ xs) (suc place) le at =
    let below : nat_lt x.0.0 p.0 ≡ true = at.0 0 x (omega arith) (omega arith) in
    let rest : update_at place p u xs ≡ with_update p u xs =
    with_update-at p u xs place (omega arith) ((λ k d low high. at.0 (suc k) d (omega arith) (omega arith)), (λ k d low high. at.1 (suc k) d (omega arith) (omega arith))) in
    rw below (ap (λ ys. x ∷ ys) rest)

-- the lane at a place gets one more update
pub update_at-set : (p : ProcId) (u : Update) (xs : List (ProcId × List Update)) (place : ℕ) (lane : ProcId × List Update)
    → place < length xs → lane ≡ get_or xs place lane → lane.0.0 ≡ p.0
    → slice_set xs place (lane.0, lane.1 ++ u ∷ []) ≡ update_at place p u xs
update_at-set p u [] place lane less is same = absurd (omega arith)
update_at-set p u (x ∷ xs) zero lane less is same =
    let e : nat_eq x.0.0 p.0 ≡ true = eq-eqb _ _ (ap (λ (l : ProcId × List Update). l.0.0) (sym is) ∙ same) in
    rw (e, is)
update_at-set p u (x ∷ xs) (suc place) lane less is same = ap (λ ys. x ∷ ys) (update_at-set p u xs place lane (omega arith) is same)

-- a new lane stands before a place
pub update_at-insert : (p : ProcId) (u : Update) (xs : List (ProcId × List Update)) (place : ℕ) → place ≤ length xs
    → ((d : ProcId × List Update) → place < length xs → (get_or xs place d).0.0 ≢ p.0)
    → insert xs place (p, u ∷ []) ≡ update_at place p u xs
update_at-insert p u [] zero le other = refl
update_at-insert p u [] (suc place) le other = absurd (omega arith)
update_at-insert p u (x ∷ xs) zero le other =
    let e : nat_eq x.0.0 p.0 ≡ false = ne_eqb _ _ (other x (omega arith)) in rw e
update_at-insert p u (x ∷ xs) (suc place) le other = ap (λ ys. x ∷ ys) (update_at-insert p u xs place (omega arith) (λ d less. other d (omega arith)))
