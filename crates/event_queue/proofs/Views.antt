-- Changes of a table, as its view sees them.
use Rattle.std.proofs.Common.{◌≡◌, ℕ, zero, suc, ◌<◌, Bool, true, false, List, [], ◌∷◌, ◌++◌, length, map, filter, cond, take, drop, get_or, refl, sym, ◌∙◌, ap, arith, nat_eq, nat_cmp}
use Rattle.std.specs.List.{slice_set}
use Rattle.std.proofs.lemmas.Bool.Decides.{nat_tests}
use Rattle.std.specs.BTreeMap.{is_at as is_at_key}
use Rattle.vf_base.specs.Lists.{change_at}
use Rattle.event_queue.specs.Queues.{HeldProcess}
use Rattle.event_queue.specs.declared.held.Held.{Held}
use Rattle.event_queue.specs.Arranged.{held_by_process, changed_each}

-- a key is found just where the numbers are equal
pub is_at-nat_eq : (k q : ℕ) → is_at_key (nat_cmp k) q ≡ nat_eq k q
is_at-nat_eq k q = grind (arith, nat_tests)

-- a write at a place is a change of the view at that place
pub map-slice_set : {A B : Type 0} (f : A → B) (g : B → B) (xs : List A) (i : ℕ) (old new : A) → i < length xs → old ≡ get_or xs i old → f new ≡ g (f old)
    → map f (slice_set xs i new) ≡ change_at (map f xs) i g
map-slice_set f g [] i old new less is e = absurd (omega arith)
map-slice_set f g (x ∷ xs) zero old new less is e = ap (λ y. y ∷ map f xs) (e ∙ ap (λ y. g (f y)) is)
map-slice_set f g (x ∷ xs) (suc i) old new less is e = ap (λ ys. f x ∷ ys) (map-slice_set f g xs i old new (omega arith) is e)

-- a filter before a map is one after it, where the tests agree
pub map-filter : {A B : Type 0} (f : A → B) (p : A → Bool) (q : B → Bool) → ((x : A) → p x ≡ q (f x)) → (xs : List A) → map f (filter p xs) ≡ filter q (map f xs)
map-filter f p q same [] = refl
map-filter f p q same (x ∷ xs) = rw same (here (q (f x)) (map-filter f p q same xs))
  where
    here : (b : Bool) → map f (filter p xs) ≡ filter q (map f xs) → map f (cond b (x ∷ filter p xs) (filter p xs)) ≡ cond b (f x ∷ filter q (map f xs)) (filter q (map f xs))
    here true rest = ap (λ ys. f x ∷ ys) rest
    here false rest = rest

-- a change that changes nothing
pub change_at-same : {A : Type 0} (xs : List A) (i : ℕ) → change_at xs i (λ x. x) ≡ xs
change_at-same [] i = refl
change_at-same (x ∷ xs) zero = refl
change_at-same (x ∷ xs) (suc i) = ap (λ ys. x ∷ ys) (change_at-same xs i)

-- a list before another is its beginning
take-append : {A : Type 0} (xs ys : List A) → take (length xs) (xs ++ ys) ≡ xs
take-append [] ys = refl
take-append (x ∷ xs) ys = ap (λ zs. x ∷ zs) (take-append xs ys)

-- what is held after a call on the elements of a vector as a slice
pub held-after_slice : (n : ℕ) (new now old : List Held) (change : List HeldProcess → List HeldProcess) → length new ≡ length now → length now ≡ n → now ≡ old
    → held_by_process new ≡ change (held_by_process now) → held_by_process (take n (new ++ drop (length new) old)) ≡ change (held_by_process old)
held-after_slice n new now old change same len value e =
    ap (λ m. held_by_process (take m (new ++ drop (length new) old))) (sym (same ∙ len))
    ∙ (ap held_by_process (take-append new (drop (length new) old)) ∙ (e ∙ ap (λ xs. change (held_by_process xs)) value))

-- the view has as many processes
pub length-held_by_process : (held : List Held) → length (held_by_process held) ≡ length held
length-held_by_process [] = refl
length-held_by_process (h ∷ held) = ap suc (length-held_by_process held)

-- the same after some processes are changed one by one
pub held-after_each : (n : ℕ) (new now old : List Held) (change : HeldProcess → HeldProcess) (seen those : List ℕ) (left : List HeldProcess) → length new ≡ length now → length now ≡ n → now ≡ old
    → held_by_process new ≡ changed_each change seen (held_by_process now) → seen ≡ those → changed_each change those (held_by_process old) ≡ left
    → held_by_process (take n (new ++ drop (length new) old)) ≡ left
held-after_each n new now old change seen those left same len value e list done =
    held-after_slice n new now old (changed_each change seen) same len value e ∙ (ap (λ ns. changed_each change ns (held_by_process old)) list ∙ done)
