-- A queue that holds nothing.
use Rattle.std.proofs.Common.{◌≡◌, ℕ, zero, suc, ◌+◌, Bool, false, List, [], ◌∷◌, ◌++◌, map, None, refl, sym, ◌∙◌, ap, nat_cmp, add-one}
use Rattle.std.specs.Option.{option_map}
use Rattle.std.specs.Map.{lookup}
use Rattle.std.specs.BTreeMap.{BTreeMap, get, IsEmpty}
use Rattle.std.specs.BTreeMap.{is_at as is_at_key}
use Rattle.vf_base.specs.declared.ids.ProcId.{ProcId}
use Rattle.v_design.specs.declared.plan.Update.{Update}
use Rattle.event_queue.specs.Queues.{HeldProcess, nothing_held, repeated, numbers_where, number_if, lanes_from, is_postponed}
use Rattle.event_queue.specs.Arranged.{wakes_at, updates_at, lane_of, listed_in, process_of, IsArranged}

-- one more
pub repeated-push : {A : Type 0} (x : A) (n : ℕ) → repeated x n ++ x ∷ [] ≡ repeated x (n + 1)
repeated-push x n = push n ∙ ap (repeated x) (sym (add-one n))
  where
    push : (m : ℕ) → repeated x m ++ x ∷ [] ≡ repeated x (suc m)
    push zero = refl
    push (suc m) = ap (λ xs. x ∷ xs) (push m)

-- no process passes a test that an idle one fails
numbers_where-repeated : (test : HeldProcess → Bool) → test nothing_held ≡ false → (n m : ℕ) → numbers_where test m (repeated nothing_held n) ≡ []
numbers_where-repeated test e zero m = refl
numbers_where-repeated test e (suc n) m =
    ap (λ b. number_if b m (numbers_where test (m + 1) (repeated nothing_held n))) e ∙ numbers_where-repeated test e n (m + 1)

-- there are no lanes
lanes_from-repeated : (t n m : ℕ) → lanes_from (updates_at t) m (repeated nothing_held n) ≡ []
lanes_from-repeated t zero m = refl
lanes_from-repeated t (suc n) m = lanes_from-repeated t n (m + 1)

-- an empty map has nothing
get-empty : {A : Type 0} (m : BTreeMap ℕ A) (t : ℕ) → IsEmpty m → get nat_cmp m t ≡ None
get-empty m t e = ap (lookup (is_at_key (nat_cmp t))) e

-- nothing is arranged
pub arranged-nothing : (n : ℕ) (sleepers : BTreeMap ℕ (List ProcId)) (lanes : BTreeMap ℕ (List (ProcId × List Update))) → IsEmpty sleepers → IsEmpty lanes
    → IsArranged (repeated nothing_held n) [] sleepers lanes
arranged-nothing n sleepers lanes s l = record {
  postponed_are = ap (map process_of) (sym (numbers_where-repeated (λ (h : HeldProcess). is_postponed h.holding) refl n 0));
  sleepers_are = λ q. get-empty sleepers q s ∙ ap (λ ns. listed_in (map process_of ns)) (sym (numbers_where-repeated (λ (h : HeldProcess). wakes_at q h.holding) refl n 0));
  lanes_are = λ q. ap (option_map (map lane_of)) (get-empty lanes q l) ∙ ap listed_in (sym (lanes_from-repeated q n 0));
}
