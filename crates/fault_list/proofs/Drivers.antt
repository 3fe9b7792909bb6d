-- The first node that drives an object.
use Rattle.std.proofs.Common.{◌≡◌, ℕ, ◌+◌, ◌<◌, ◌≤◌, Bool, true, false, ◌||◌, List, length, Option, Some, None, refl, ap, sym, ◌∙◌, arith, get_or, drop, map}
use Rattle.std.specs.Prelude.{nat_eq}
use Rattle.vf_base.specs.Lists.{has, first_place, earlier_place}
use Rattle.vf_base.specs.Base.{object_number}
use Rattle.vf_base.specs.declared.ids.ObjectId.{ObjectId}
use Rattle.fault_list.proofs.Finding.{drop-here, drop-all}

-- so many places on
abbrev pub shifted : ℕ → Option ℕ → Option ℕ
shifted k None = None
shifted k (Some place) = Some (k + place)

pub shifted-zero : (o : Option ℕ) → o ≡ shifted 0 o
shifted-zero None = refl
shifted-zero (Some place) = let e : place ≡ 0 + place = omega arith in ap (λ n. Some n) e

shifted-more : (k : ℕ) (o : Option ℕ) → shifted k (earlier_place false o) ≡ shifted (k + 1) o
shifted-more k None = refl
shifted-more k (Some place) = let e : k + (place + 1) ≡ k + 1 + place = omega arith in ap (λ n. Some n) e

pub place-next : {A B : Type 0} (view : A → B) (test : B → Bool) (xs : List A) (i : ℕ) (d : A) → i < length xs → test (view (get_or xs i d)) ≡ false →
    shifted i (first_place test (map view (drop i xs))) ≡ shifted (i + 1) (first_place test (map view (drop (i + 1) xs)))
place-next view test xs i d low fails =
    ap (λ l. shifted i (first_place test (map view l))) (drop-here xs i d low)
    ∙ (ap (λ b. shifted i (earlier_place b (first_place test (map view (drop (i + 1) xs))))) fails ∙ shifted-more i (first_place test (map view (drop (i + 1) xs))))

pub place-here : {A B : Type 0} (view : A → B) (test : B → Bool) (xs : List A) (i : ℕ) (d : A) → i < length xs → test (view (get_or xs i d)) ≡ true →
    Some i ≡ shifted i (first_place test (map view (drop i xs)))
place-here view test xs i d low passes =
    let e : i ≡ i + 0 = omega arith in
    ap (λ n. Some n) e
    ∙ sym (ap (λ l. shifted i (first_place test (map view l))) (drop-here xs i d low) ∙ ap (λ b. shifted i (earlier_place b (first_place test (map view (drop (i + 1) xs))))) passes)

pub place-none : {A B : Type 0} (view : A → B) (test : B → Bool) (xs : List A) (i : ℕ) → length xs ≤ i → None ≡ shifted i (first_place test (map view (drop i xs)))
place-none view test xs i high = sym (ap (λ l. shifted i (first_place test (map view l))) (drop-all xs i high))

pub has-next : (xs : List ObjectId) (i : ℕ) (d : ObjectId) (n : ℕ) → i < length xs → nat_eq (object_number (get_or xs i d)) n ≡ false →
    has (map object_number (drop i xs)) n ≡ has (map object_number (drop (i + 1) xs)) n
has-next xs i d n low other = ap (λ l. has (map object_number l) n) (drop-here xs i d low) ∙ ap (λ b. b || has (map object_number (drop (i + 1) xs)) n) other

pub has-here : (xs : List ObjectId) (i : ℕ) (d : ObjectId) (n : ℕ) → i < length xs → nat_eq (object_number (get_or xs i d)) n ≡ true → true ≡ has (map object_number (drop i xs)) n
has-here xs i d n low same = sym (ap (λ l. has (map object_number l) n) (drop-here xs i d low) ∙ ap (λ b. b || has (map object_number (drop (i + 1) xs)) n) same)

pub has-none : (xs : List ObjectId) (i n : ℕ) → length xs ≤ i → false ≡ has (map object_number (drop i xs)) n
has-none xs i n high = sym (ap (λ l. has (map object_number l) n) (drop-all xs i high))
