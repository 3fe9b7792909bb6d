-- Nodes that are noted as drivers.
use Rattle.std.proofs.Common.{◌≡◌, ◌≢◌, ℕ, zero, suc, ◌+◌, ◌<◌, ◌≤◌, Bool, true, false, cond, ◌||◌, List, [], ◌∷◌, ◌++◌, length, get_or, set, take, drop, drop-cons, map, Option, Some, None, refl}
use Rattle.std.proofs.Common.{ap, sym, subst, ◌∙◌, arith, get_or-set_other, get_or-set_same}
use Rattle.std.specs.Prelude.{nat_eq, option_map}
use Rattle.std.proofs.lemmas.Bool.{eqb-true, ne_eqb, eq-eqb}
use Rattle.std.proofs.lemmas.List.{take_more, map_push}
use Rattle.vf_base.specs.Base.{object_number, node_number}
use Rattle.vf_base.specs.declared.ids.ObjectId.{ObjectId}
use Rattle.vf_base.specs.Lists.{has, first_place, earlier_place}
use Rattle.key_index.specs.Places.{later}

pub noted-one : {N : Type 0} (drivers : List (Option N)) (place object : ℕ) (node : N) → place < length drivers →
    get_or (set drivers place (Some node)) object None ≡ cond (nat_eq place object) (Some node) (get_or drivers object None)
noted-one drivers place object node low =
    elim (nat_eq place object) as (λ b. nat_eq place object ≡ b → get_or (set drivers place (Some node)) object None ≡ cond b (Some node) (get_or drivers object None)) [
      | true ↦ λ e. ap (λ k. get_or (set drivers place (Some node)) k None) (sym (eqb-true place object e)) ∙ get_or-set_same drivers place (Some node) None low
      | false ↦ λ e. let ne : object ≢ place = λ s. apart (sym e ∙ eq-eqb place object (sym s)) in rw get_or-set_other refl
    ] refl
  where
    apart : false ≡ true → ⊥
    apart h = cc

pub noted-out : {N : Type 0} (drivers : List (Option N)) (place object : ℕ) (node : N) → length drivers ≤ place → object < length drivers →
    get_or drivers object None ≡ cond (nat_eq place object) (Some node) (get_or drivers object None)
noted-out drivers place object node high low = sym (ap (λ b. cond b (Some node) (get_or drivers object None)) (ne_eqb place object (λ e. absurd (omega arith))))

has-push : (xs : List ℕ) (n object : ℕ) → has (xs ++ n ∷ []) object ≡ (has xs object || nat_eq n object)
has-push [] n object = elim (nat_eq n object) as (λ b. (b || false) ≡ b) [ true ↦ refl | false ↦ refl ]
has-push (x ∷ xs) n object = ap (λ b. nat_eq x object || b) (has-push xs n object) ∙ grouped (nat_eq x object) (has xs object) (nat_eq n object)
  where
    grouped : (a b c : Bool) → (a || (b || c)) ≡ ((a || b) || c)
    grouped true b c = refl
    grouped false b c = refl

both-ways : {N : Type 0} (a b : Bool) (node old : Option N) → cond b node (cond a node old) ≡ cond (a || b) node old
both-ways true true node old = refl
both-ways true false node old = refl
both-ways false true node old = refl
both-ways false false node old = refl

-- one output more
pub noted-more : {N : Type 0} (xs : List ObjectId) (i object : ℕ) (d : ObjectId) (node : N) (old had new : Option N) → i < length xs →
    had ≡ cond (has (map object_number (take i xs)) object) (Some node) old → new ≡ cond (nat_eq (object_number (get_or xs i d)) object) (Some node) had →
    new ≡ cond (has (map object_number (take (i + 1) xs)) object) (Some node) old
noted-more xs i object d node old had new low before put =
    let taken : map object_number (take (i + 1) xs) ≡ map object_number (take i xs) ++ object_number (get_or xs i d) ∷
    [] = ap (map object_number) (take_more xs i d low) ∙ map_push object_number (take i xs) (get_or xs i d) in
    put ∙ (ap (cond (nat_eq (object_number (get_or xs i d)) object) (Some node)) before
    ∙ (both-ways (has (map object_number (take i xs)) object) (nat_eq (object_number (get_or xs i d)) object) (Some node) old
    ∙ ap (λ b. cond b (Some node) old) (sym (ap (λ l. has l object) taken ∙ has-push (map object_number (take i xs)) (object_number (get_or xs i d)) object))))

later-more : (k : ℕ) (o : Option ℕ) → later k (earlier_place false o) ≡ later (k + 1) o
later-more k None = refl
later-more k (Some place) = let e : k + (place + 1) ≡ k + 1 + place = omega arith in ap (λ n. Some n) e

pub later-zero : (o : Option ℕ) → later 0 o ≡ o
later-zero None = refl
later-zero (Some place) = ap (λ n. Some n) (let e : 0 + place ≡ place = omega arith in e)

-- one node more, from the last one on
pub driver-more : {A B : Type 0} (view : A → B) (test : B → Bool) (xs : List A) (i : ℕ) (x : A) (answer had : Option ℕ) → i < length xs → x ≡ get_or xs i x →
    had ≡ later (i + 1) (first_place test (map view (drop (i + 1) xs))) → answer ≡ cond (test (view x)) (Some i) had → answer ≡ later i (first_place test (map view (drop i xs)))
driver-more view test xs i x answer had low is before put =
    let here : drop i xs ≡ x ∷ drop (i + 1) xs = drop-cons xs i x low ∙ (ap (λ y. y ∷ drop (suc i) xs) (sym is) ∙ ap (λ k. x ∷ drop k xs) (let e : suc i ≡ i + 1 = omega arith in e)) in
    put ∙ (chosen (test (view x)) ∙ sym (ap (λ l. later i (first_place test (map view l))) here))
  where
    chosen : (b : Bool) → cond b (Some i) had ≡ later i (earlier_place b (first_place test (map view (drop (i + 1) xs))))
    chosen true = ap (λ n. Some n) (let e : i ≡ i + 0 = omega arith in e)
    chosen false = before ∙ sym (later-more i (first_place test (map view (drop (i + 1) xs))))
