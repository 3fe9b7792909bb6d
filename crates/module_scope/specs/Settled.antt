-- Scopes in which some parameters have their values.
use Rattle.std.specs.Prelude.{◌≡◌, ℕ, ◌+◌, ◌≤◌, Bool, true, false, List, [], ◌∷◌, filter, length, Option, Some}
use Rattle.v_tree.specs.Trees.{Identifier, same_name}
use Rattle.v_names.specs.Scopes.{SignedValue, Scope, entry_if, looked_up, is_waiting}
use Rattle.v_names.specs.Names.{Declaration, GivenParameter, meaning_of, is_parameter_declared, scope_after, parameter_count}
use Rattle.v_names.specs.Meanings.{Under, found}
use Rattle.module_scope.specs.Meanings.{meaning_with}

abbrev pub waits_in : Scope → Declaration → Bool
waits_in scope d = is_waiting (looked_up scope d.name)

-- how many of some declarations wait
abbrev pub waiting_left : Scope → List Declaration → ℕ
waiting_left scope ds = length (filter (waits_in scope) ds)

-- a scope whose values are those of some rounds, no more rounds than parameters have got values
pub record IsSettled (given : List GivenParameter) (ds : List Declaration) (scope : Scope) : Type 0 where
  pub rounds : ℕ
  pub bounded : rounds + waiting_left scope ds ≤ parameter_count ds
  pub under : Under scope (scope_after rounds given ds)
  pub waits : (name : Identifier) → is_waiting (looked_up scope name) ≡ true → (d : Declaration) × (found ds name ≡ Some d) × (is_parameter_declared d.declared ≡ true)

-- no declaration that waits in the scope could get a value
abbrev pub AreStill : List GivenParameter → Scope → List Declaration → Type 0
AreStill given scope [] = Unit {0}
AreStill given scope (d ∷ ds) = (waits_in scope d ≡ true → is_waiting (Some (meaning_of scope given d.name d.declared)) ≡ true) × AreStill given scope ds

-- one more name in a list has no declaration with it there
abbrev pub NoneNamed : Identifier → List Declaration → Type 0
NoneNamed name [] = Unit {0}
NoneNamed name (d ∷ ds) = (same_name name d.name ≡ false) × NoneNamed name ds

-- each name once
abbrev pub AreApart : List Declaration → Type 0
AreApart [] = Unit {0}
AreApart (d ∷ ds) = NoneNamed d.name ds × AreApart ds

-- what waits is a parameter
abbrev pub OnlyParametersWait : Scope → Declaration → Type 0
OnlyParametersWait scope d = waits_in scope d ≡ true → is_parameter_declared d.declared ≡ true

-- a declaration got its value, or it has one or can't get one
abbrev pub IsTurn : Option SignedValue → Declaration → Scope → Scope → Bool → Type 0
IsTurn given d old new true =
    (waits_in old d ≡ true) × (is_waiting (Some (meaning_with old given d.declared)) ≡ false)
    × ((other : Identifier) → looked_up new other ≡ entry_if (same_name d.name other) (meaning_with old given d.declared) (looked_up old other))
IsTurn given d old new false = (new ≡ old) × (waits_in old d ≡ true → is_waiting (Some (meaning_with old given d.declared)) ≡ true)

-- what a pass over the declarations leaves: fewer that wait, or none that could get a value
abbrev pub IsPassed : List GivenParameter → List Declaration → Scope → Scope → Bool → Type 0
IsPassed given ds old new true = IsSettled given ds new × (waiting_left new ds + 1 ≤ waiting_left old ds)
IsPassed given ds old new false = IsSettled given ds new × AreStill given new ds
