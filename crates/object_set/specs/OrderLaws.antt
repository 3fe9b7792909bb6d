-- Objects put behind others one by one: which are there then, and that those before stand first (nothing of the language).
use Rattle.std.proofs.Common.{◌≡◌, ℕ, Bool, true, false, List, [], ◌∷◌, ◌++◌, refl, ap, sym, ◌∙◌, inl, inr}
use Rattle.std.specs.Prelude.{◌||◌, nat_eq}
use Rattle.std.proofs.lemmas.Bool.{cases_Bool, cond-true, cond-false, eqb-true, or_right}
use Rattle.std.proofs.lemmas.List.{append-nil, append_assoc}
use Rattle.vf_base.specs.Lists.{has}
use Rattle.graph_order.specs.ListLaws.{has-append, or-false}
use Rattle.object_set.specs.Ordered.{with_object, with_objects}

-- an object that is there already
same_there : (objects : List ℕ) (object o : ℕ) (b : Bool) → nat_eq object o ≡ b → has objects object ≡ true → has objects o ≡ (has objects o || b)
same_there objects object o true same there =
    let here : has objects o ≡ true = sym (ap (has objects) (eqb-true object o same)) ∙ there in
    here ∙ sym (or_right (has objects o) true refl)
same_there objects object o false other there = sym (or-false (has objects o))

-- whether a number is there once an object is put in
pub has-with_object : (objects : List ℕ) (object o : ℕ) → has (with_object objects object) o ≡ (has objects o || nat_eq object o)
has-with_object objects object o =
    elim (cases_Bool (has objects object)) [
      | inl there ↦
          ap (λ l. has l o) (cond-true (has objects object) objects (objects ++ object ∷ []) there) ∙ same_there objects object o (nat_eq object o) refl there
      | inr new ↦
          ap (λ l. has l o) (cond-false (has objects object) objects (objects ++ object ∷ []) new) ∙ has-append objects (object ∷ []) o
          ∙ ap (λ b. has objects o || b) (or-false (nat_eq object o))
    ]

or_assoc : (a b c : Bool) → ((a || b) || c) ≡ (a || (b || c))
or_assoc true b c = refl
or_assoc false b c = refl

-- whether it is once several are
pub has-with_objects : (objects xs : List ℕ) (o : ℕ) → has (with_objects objects xs) o ≡ (has objects o || has xs o)
has-with_objects objects [] o = sym (or-false (has objects o))
has-with_objects objects (x ∷ xs) o =
    has-with_objects (with_object objects x) xs o ∙ ap (λ b. b || has xs o) (has-with_object objects x o) ∙ or_assoc (has objects o) (nat_eq x o) (has xs o)

-- some objects are put in, and then others
pub with_objects-append : (objects xs ys : List ℕ) → with_objects objects (xs ++ ys) ≡ with_objects (with_objects objects xs) ys
with_objects-append objects [] ys = refl
with_objects-append objects (x ∷ xs) ys = with_objects-append (with_object objects x) xs ys

with_object-behind : (objects : List ℕ) (object : ℕ) → (more : List ℕ) × (with_object objects object ≡ objects ++ more)
with_object-behind objects object =
    elim (cases_Bool (has objects object)) [
      | inl there ↦ ([], cond-true (has objects object) objects (objects ++ object ∷ []) there ∙ sym (append-nil objects))
      | inr new ↦ (object ∷ [], cond-false (has objects object) objects (objects ++ object ∷ []) new)
    ]

-- what comes in stands behind
pub with_objects-behind : (objects xs : List ℕ) → (more : List ℕ) × (with_objects objects xs ≡ objects ++ more)
with_objects-behind objects [] = ([], sym (append-nil objects))
with_objects-behind objects (x ∷ xs) =
    let first = with_object-behind objects x in
    let rest = with_objects-behind (with_object objects x) xs in (
      first.0 ++ rest.0,
      rest.1 ∙ ap (λ l. l ++ rest.0) first.1 ∙ append_assoc objects first.0 rest.0,
    )
