-- The parameters of a module's scope are found by their names.
use Rattle.std.proofs.Common.{◌≡◌, ℕ, Bool, true, false, List, [], ◌∷◌, Option, Some, None, Ok, refl, sym, ap, subst, ◌∙◌, add-one}
use Rattle.v_tree.specs.Trees.{Identifier, SourceModule, same_name, has_name}
use Rattle.v_names.specs.Faults.{Fault, first_fault, or_fault}
use Rattle.v_names.specs.Scopes.{ScopeEntry, Scope, looked_up, is_parameter}
use Rattle.v_names.specs.Names.{Declaration, GivenParameter, names_declared, meaning_of, scope_after, parameter_count, scope_of, module_name_faults, names}
use Rattle.v_elab.specs.Blocks.{parameter_names}
use Rattle.v_names.specs.Meanings.{named_by}
use Rattle.module_scope.specs.Settled.{NoneNamed, AreApart}
use Rattle.elab_items.specs.Heres.{FindsParameters}
use Rattle.elab_items.proofs.Names.{equal-name, turned-apart}

none-found : (f : Declaration → ScopeEntry) (name : Identifier) (ds : List Declaration) → NoneNamed name ds → looked_up (named_by f ds) name ≡ None
none-found f name [] h = refl
none-found f name (d ∷ ds) h = rw (turned-apart name d.name h.0) (none-found f name ds h.1)

finds-step : (f : Declaration → ScopeEntry) (d : Declaration) (ds : List Declaration) → NoneNamed d.name ds → FindsParameters (named_by f ds) → FindsParameters (named_by f (d ∷ ds))
finds-step f d ds apart rest name = step (is_parameter (Some (f d))) refl (same_name d.name name) refl
  where
    step : (b : Bool) → is_parameter (Some (f d)) ≡ b → (s : Bool) → same_name d.name name ≡ s →
        has_name (parameter_names (named_by f (d ∷ ds))) name ≡ is_parameter (looked_up (named_by f (d ∷ ds)) name)
    step true e true s = simp (s, e)
    step true e false s = simp (s, e) (rest name)
    step false e false s = simp (s, e) (rest name)
    step false e true s = simp (s, e) (rest name ∙ ap is_parameter (subst (λ n. looked_up (named_by f ds) n ≡ None) (equal-name d.name name s) (none-found f d.name ds apart)))

finds-named : (f : Declaration → ScopeEntry) (ds : List Declaration) → AreApart ds → FindsParameters (named_by f ds)
finds-named f [] apart = λ name. refl
finds-named f (d ∷ ds) apart = finds-step f d ds apart.0 (finds-named f ds apart.1)

is-answer : {A : Type 0} (answer : A) (fault : Option Fault) (other : A) → or_fault answer fault ≡ Ok other → answer ≡ other
is-answer answer None other e = cc
is-answer answer (Some fault) other e = absurd (cc)

pub finds-parameters : (m : SourceModule) (given : List GivenParameter) (scope : Scope) → AreApart (names_declared m) → names m given ≡ Ok scope → FindsParameters scope
finds-parameters m given scope apart e =
    let rounds : ℕ = parameter_count (names_declared m) in
    let ds : List Declaration = names_declared m in
    let after : scope_of m given ≡ named_by (λ (d : Declaration). meaning_of (scope_after rounds given ds) given d.name d.declared) ds = ap (λ n. scope_after n given ds) (add-one rounds) in
    subst FindsParameters (sym after ∙ is-answer (scope_of m given) (first_fault (module_name_faults (scope_of m given) m)) scope e) (finds-named _ ds apart)
