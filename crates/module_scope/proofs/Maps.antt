-- What is kept of names by the keys that refer to them.
use Rattle.std.proofs.Common.{◌≡◌, ℕ, Bool, true, false, cond, ◌&&◌, List, [], ◌∷◌, Option, Some, refl, sym, ap, ap₂, ◌∙◌, nat_eq}
use Rattle.std.specs.Borrow.{Bor}
use Rattle.std.specs.Map.{lookup}
use Rattle.std.specs.Str.{bytes_eq}
use Rattle.std.proofs.lemmas.Slice.Eq.{bytes_eq-Decides}
use Rattle.v_tree.specs.Trees.{Identifier, same_name}
use Rattle.module_scope.specs.Kept.{kept_pairs, kept}

pub same-pointwise : (a b : Identifier) → same_name a b ≡ bytes_eq a b
same-pointwise [] [] = refl
same-pointwise [] (y ∷ b) = refl
same-pointwise (x ∷ a) [] = refl
same-pointwise (x ∷ a) (y ∷ b) = ap (λ rest. nat_eq x y && rest) (same-pointwise a b)

-- names are the same where they are equal
pub same-equal : (a b : Identifier) → same_name a b ≡ true → a ≡ b
same-equal a b h = (bytes_eq-Decides a b).0 (sym (same-pointwise a b) ∙ h)

pub equal-same : (a b : Identifier) → a ≡ b → same_name a b ≡ true
equal-same a b e = same-pointwise a b ∙ (bytes_eq-Decides a b).1 e

-- two tests that hold together are one
same-tests : (x y : Bool) → (x ≡ true → y ≡ true) → (y ≡ true → x ≡ true) → x ≡ y
same-tests true true f g = refl
same-tests true false f g = sym (f refl)
same-tests false true f g = g refl
same-tests false false f g = refl

pub same-turned : (a b : Identifier) → same_name a b ≡ same_name b a
same-turned a b = same-tests (same_name a b) (same_name b a) (λ h. equal-same b a (sym (same-equal a b h))) (λ h. equal-same a b (sym (same-equal b a h)))

bytes-same : (name key : Identifier) → bytes_eq name key ≡ same_name key name
bytes-same name key = sym (same-pointwise name key) ∙ same-turned name key

-- what the keys find is what is kept of the name
pub kept-is : {V : Type 0} (name : Identifier) (pairs : List (Bor (List ℕ) × V)) → lookup (λ (k : Bor (List ℕ)). bytes_eq name k.now) pairs ≡ kept (kept_pairs pairs) name
kept-is name [] = refl
kept-is {V} name (p ∷ pairs) = ap₂ (λ (b : Bool) (rest : Option V). cond b (Some p.1) rest) (bytes-same name p.0.now) (kept-is name pairs)

pub kept-over : {V : Type 0} (old new : List (Bor (List ℕ) × V)) (key : Bor (List ℕ)) (value : V)
    → ((q : Bor (List ℕ)) → lookup (λ (k : Bor (List ℕ)). bytes_eq q.now k.now) new ≡ cond (bytes_eq key.now q.now) (Some value) (lookup (λ (k : Bor (List ℕ)). bytes_eq q.now k.now) old))
    → (other : Identifier) → kept (kept_pairs new) other ≡ cond (same_name key.now other) (Some value) (kept (kept_pairs old) other)
kept-over {V} old new key value h other =
    sym (kept-is other new) ∙ h (record { ref_ptr = key.ref_ptr; now = other })
    ∙ ap₂ (λ (b : Bool) (rest : Option V). cond b (Some value) rest) (sym (same-pointwise key.now other)) (kept-is other old)
