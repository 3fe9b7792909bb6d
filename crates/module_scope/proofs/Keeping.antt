-- One name more in a map of names.
use Rattle.std.proofs.Common.{◌≡◌, ℕ, Bool, true, false, ◌||◌, cond, List, [], ◌∷◌, Option, Some, None, option_map, is_some, refl, sym, ap, ap₂, ◌∙◌}
use Rattle.v_tree.specs.Trees.{Identifier, same_name}
use Rattle.v_names.specs.declared.constant.Constant.{Constant}
use Rattle.v_names.specs.Scopes.{SignedValue}
use Rattle.v_names.specs.SizeViews.{signed_value}
use Rattle.v_names.specs.Names.{Declaration, GivenParameter, given_of, given_if, is_plain, plain_of_name}
use Rattle.module_scope.specs.Kept.{kept}
use Rattle.module_scope.specs.Givens.{given_seen, given_first}
use Rattle.module_scope.specs.Declarations.{or_first}
use Rattle.module_scope.proofs.Maps.{same-equal}
use Rattle.module_scope.proofs.Passes.{given-kept}

pub nothing-more : {A : Type 0} (old : Option A) → old ≡ or_first old []
nothing-more None = refl
nothing-more (Some x) = refl

plain-by : (d : Declaration) (name : Identifier) (same plain : Bool) → same_name d.name name ≡ same → is_plain d.declared ≡ plain → plain_of_name name (d ∷ []) ≡ cond same (cond plain (d ∷ []) []) []
plain-by d name true true e f = rw (e, f) refl
plain-by d name true false e f = rw (e, f) refl
plain-by d name false plain e f = rw e refl

empty-either : (b : Bool) (d : List Declaration) → d ≡ [] → d ≡ cond b d d
empty-either true d e = refl
empty-either false d e = refl

pub plain-none : (d : Declaration) (name : Identifier) (old : Option Declaration) → is_plain d.declared ≡ false → old ≡ or_first old (plain_of_name name (d ∷ []))
plain-none d name old f = nothing-more old ∙ ap (or_first old) (empty-either (same_name d.name name) [] refl ∙ sym (plain-by d name (same_name d.name name) false refl f))

pub plain-there : (old : Identifier → Option Declaration) (d x : Declaration) → old d.name ≡ Some x → (name : Identifier) → old name ≡ or_first (old name) (plain_of_name name (d ∷ []))
plain-there old d x e name = by (same_name d.name name) refl
  where
    some : (o : Option Declaration) (ds : List Declaration) → o ≡ Some x → o ≡ or_first o ds
    some o ds s = s ∙ sym (ap (λ p. or_first p ds) s)

    by : (b : Bool) → same_name d.name name ≡ b → old name ≡ or_first (old name) (plain_of_name name (d ∷ []))
    by true s = some (old name) (plain_of_name name (d ∷ [])) (ap old (sym (same-equal d.name name s)) ∙ e)
    by false s = nothing-more (old name) ∙ ap (or_first (old name)) (sym (plain-by d name false (is_plain d.declared) s refl))

pub plain-put : (old new : Identifier → Option Declaration) (d : Declaration) → old d.name ≡ None → is_plain d.declared ≡ true →
    ((other : Identifier) → new other ≡ cond (same_name d.name other) (Some d) (old other))
    → (name : Identifier) → new name ≡ or_first (old name) (plain_of_name name (d ∷ []))
plain-put old new d none plain puts name = by (same_name d.name name) refl
  where
    by : (b : Bool) → same_name d.name name ≡ b → new name ≡ or_first (old name) (plain_of_name name (d ∷ []))
    by true s = puts name ∙ ap (λ b. cond b (Some d) (old name)) s ∙ sym (ap₂ or_first (ap old (sym (same-equal d.name name s)) ∙ none) (plain-by d name true true s plain))
    by false s = puts name ∙ ap (λ b. cond b (Some d) (old name)) s ∙ nothing-more (old name) ∙ ap (or_first (old name)) (sym (plain-by d name false (is_plain d.declared) s refl))

seen-by : {A : Type 0} (view : A → Declaration) (b : Bool) (x : A) (rest : Option A) → option_map view (cond b (Some x) rest) ≡ cond b (Some (view x)) (option_map view rest)
seen-by view true x rest = refl
seen-by view false x rest = refl

pub plain-put-seen : {A : Type 0} (view : A → Declaration) (old new : Identifier → Option A) (x : A) → old (view x).name ≡ None → is_plain (view x).declared ≡ true →
    ((other : Identifier) → new other ≡ cond (same_name (view x).name other) (Some x) (old other))
    → (name : Identifier) → option_map view (new name) ≡ or_first (option_map view (old name)) (plain_of_name name (view x ∷ []))
plain-put-seen view old new x none plain puts name =
    plain-put (λ (n : Identifier). option_map view (old n)) (λ (n : Identifier). option_map view (new n)) (view x) (ap (option_map view) none) plain
    (λ other. ap (option_map view) (puts other) ∙ seen-by view (same_name (view x).name other) x (old other)) name

-- whether names are there
pub seen-there : {V : Type 0} (old : Identifier → Option V) (n : Identifier) → is_some (old n) ≡ true → (name : Identifier) → is_some (old name) ≡ (same_name n name || is_some (old name))
seen-there old n e name = by (same_name n name) refl
  where
    by : (b : Bool) → same_name n name ≡ b → is_some (old name) ≡ (same_name n name || is_some (old name))
    by true s = rw s (ap (λ m. is_some (old m)) (sym (same-equal n name s)) ∙ e)
    by false s = rw s refl

pub seen-put : {V : Type 0} (old new : Identifier → Option V) (n : Identifier) (v : V) → ((other : Identifier) → new other ≡ cond (same_name n other) (Some v) (old other)) → (name : Identifier) →
    is_some (new name) ≡ (same_name n name || is_some (old name))
seen-put old new n v puts name = ap is_some (puts name) ∙ by (same_name n name)
  where
    by : (b : Bool) → is_some (cond b (Some v) (old name)) ≡ (b || is_some (old name))
    by true = refl
    by false = refl

-- given parameters

first-nothing : (old : Option SignedValue) (g : GivenParameter) (name : Identifier) → same_name g.name name ≡ false → old ≡ given_first old g name
first-nothing None g name s = sym (ap (λ b. given_if b g.given None) s)
first-nothing (Some v) g name s = refl

pub given-there : (pairs : List (List ℕ × Constant)) (g : GivenParameter) (v : Constant) → kept pairs g.name ≡ Some v → (name : Identifier) →
    given_of (given_seen pairs) name ≡ given_first (given_of (given_seen pairs) name) g name
given-there pairs g v e name = by (same_name g.name name) refl
  where
    some : (o : Option SignedValue) (x : SignedValue) → o ≡ Some x → o ≡ given_first o g name
    some o x s = s ∙ sym (ap (λ p. given_first p g name) s)

    by : (b : Bool) → same_name g.name name ≡ b → given_of (given_seen pairs) name ≡ given_first (given_of (given_seen pairs) name) g name
    by true s = some (given_of (given_seen pairs) name) (signed_value v) (sym (given-kept pairs name) ∙ ap (λ n. option_map signed_value (kept pairs n)) (sym (same-equal g.name name s))
        ∙ ap (option_map signed_value) e)
    by false s = first-nothing (given_of (given_seen pairs) name) g name s

pub given-put : (old new : List (List ℕ × Constant)) (g : GivenParameter) (value : Constant) → kept old g.name ≡ None → signed_value value ≡ g.given
    → ((other : Identifier) → kept new other ≡ cond (same_name g.name other) (Some value) (kept old other)) → (name : Identifier) →
    given_of (given_seen new) name ≡ given_first (given_of (given_seen old) name) g name
given-put old new g value none is puts name = sym (given-kept new name) ∙ by (same_name g.name name) refl
  where
    by : (b : Bool) → same_name g.name name ≡ b → option_map signed_value (kept new name) ≡ given_first (given_of (given_seen old) name) g name
    by true s =
        ap (option_map signed_value) (puts name ∙ ap (λ b. cond b (Some value) (kept old name)) s) ∙ ap (λ (v : SignedValue). Some v) is
        ∙ sym (ap (λ o. given_first o g name) (sym (given-kept old name) ∙ ap (λ n. option_map signed_value (kept old n)) (sym (same-equal g.name name s)) ∙ ap (option_map signed_value) none)
        ∙ ap (λ b. given_if b g.given None) s)
    by false s =
        ap (option_map signed_value) (puts name ∙ ap (λ b. cond b (Some value) (kept old name)) s) ∙ given-kept old name ∙ first-nothing (given_of (given_seen old) name) g name s
