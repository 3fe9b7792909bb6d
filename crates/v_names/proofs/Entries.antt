-- Names in a scope are those that its keys refer to.
use Rattle.std.proofs.Common.{◌≡◌, ℕ, Bool, true, false, cond, ◌&&◌, List, [], ◌∷◌, ◌++◌, Option, Some, None, option_map, refl, sym, ap, ◌∙◌, nat_eq}
use Rattle.std.specs.Borrow.{Bor}
use Rattle.std.specs.Map.{lookup}
use Rattle.std.specs.Str.{bytes_eq}
use Rattle.std.proofs.lemmas.List.{map-append}
use Rattle.std.proofs.lemmas.Slice.Eq.{bytes_eq-Decides}
use Rattle.v_tree.specs.Trees.{Identifier, same_name}
use Rattle.v_names.specs.declared.entry.Entry.{Entry}
use Rattle.v_names.specs.Scopes.{ScopeEntry, entry_if, looked_up}
use Rattle.v_names.specs.ScopeViews.{entry_of, names_listed}

-- two tests that hold together are one
same-tests : (x y : Bool) → (x ≡ true → y ≡ true) → (y ≡ true → x ≡ true) → x ≡ y
same-tests true true f g = refl
same-tests true false f g = sym (f refl)
same-tests false true f g = g refl
same-tests false false f g = refl

same-pointwise : (a b : Identifier) → same_name a b ≡ bytes_eq a b
same-pointwise [] [] = refl
same-pointwise [] (y ∷ b) = refl
same-pointwise (x ∷ a) [] = refl
same-pointwise (x ∷ a) (y ∷ b) = ap (λ rest. nat_eq x y && rest) (same-pointwise a b)

-- names are the same where they are equal
same-equal : (a b : Identifier) → same_name a b ≡ true → a ≡ b
same-equal a b h = (bytes_eq-Decides a b).0 (sym (same-pointwise a b) ∙ h)

equal-same : (a b : Identifier) → a ≡ b → same_name a b ≡ true
equal-same a b e = same-pointwise a b ∙ (bytes_eq-Decides a b).1 e

bytes-same : (name key : Identifier) → bytes_eq name key ≡ same_name key name
bytes-same name key = sym (same-pointwise name key) ∙ same-tests (same_name name key) (same_name key name) (λ h. equal-same key name (sym (same-equal name key h)))
    (λ h. equal-same name key (sym (same-equal key name h)))

found-by : (test same : Bool) (e : Entry) (found : Option Entry) (rest : Option ScopeEntry) → test ≡ same → option_map entry_of found ≡ rest →
    option_map entry_of (cond test (Some e) found) ≡ entry_if same (entry_of e) rest
found-by true true e found rest s h = refl
found-by true false e found rest s h = cc
found-by false true e found rest s h = cc
found-by false false e found rest s h = h

-- what the keys find is what the name means
pub looked-up : (name : Identifier) (pairs : List (Bor (List ℕ) × Entry)) → option_map entry_of (lookup (λ key. bytes_eq name key.now) pairs) ≡ looked_up (names_listed pairs) name
looked-up name [] = refl
looked-up name (p ∷ pairs) =
    found-by (bytes_eq name p.0.now) (same_name p.0.now name) p.1 (lookup (λ key. bytes_eq name key.now) pairs) (looked_up (names_listed pairs) name) (bytes-same name p.0.now) (looked-up name pairs)

none-of : (found : Option Entry) → option_map entry_of found ≡ None → found ≡ None
none-of None e = refl
none-of (Some e) h = cc

-- a name that isn't declared isn't found
pub not-there : (name : Identifier) (pairs : List (Bor (List ℕ) × Entry)) → looked_up (names_listed pairs) name ≡ None → lookup (λ key. bytes_eq name key.now) pairs ≡ None
not-there name pairs e = none-of (lookup (λ key. bytes_eq name key.now) pairs) (looked-up name pairs ∙ e)

-- one name more
pub listed-more : (pairs : List (Bor (List ℕ) × Entry)) (key : Bor (List ℕ)) (entry : Entry) →
    names_listed (pairs ++ (key, entry) ∷ []) ≡ names_listed pairs ++ record { name = key.now; entry = entry_of entry } ∷ []
listed-more pairs key entry = map-append (λ (p : Bor (List ℕ) × Entry). record { name = p.0.now; entry = entry_of p.1 }) pairs ((key, entry) ∷ [])

entry-by : (test same : Bool) (e : Entry) (found : Option Entry) → test ≡ same → option_map entry_of (cond test (Some e) found) ≡ entry_if same (entry_of e) (option_map entry_of found)
entry-by true true e found s = refl
entry-by true false e found s = cc
entry-by false true e found s = cc
entry-by false false e found s = refl

-- what the keys find after one was given another entry
pub put-over : (old new : List (Bor (List ℕ) × Entry)) (key : Bor (List ℕ)) (entry : Entry)
    → ((q : Bor (List ℕ)) → lookup (λ k. bytes_eq q.now k.now) new ≡ cond (bytes_eq key.now q.now) (Some entry) (lookup (λ k. bytes_eq q.now k.now) old))
    → (other : Identifier) → looked_up (names_listed new) other ≡ entry_if (same_name key.now other) (entry_of entry) (looked_up (names_listed old) other)
put-over old new key entry h other =
    sym (looked-up other new) ∙ ap (option_map entry_of) (h (record { ref_ptr = key.ref_ptr; now = other }))
    ∙ entry-by (bytes_eq key.now other) (same_name key.now other) entry (lookup (λ k. bytes_eq other k.now) old) (sym (same-pointwise key.now other))
    ∙ ap (entry_if (same_name key.now other) (entry_of entry)) (looked-up other old)
