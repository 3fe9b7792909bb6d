-- The earlier declarations of a name: none, one, or more.
use Rattle.std.specs.Prelude.{◌≡◌, Bool, true, false, not, List, [], ◌∷◌, ◌++◌, Option, Some, None}
use Rattle.v_tree.specs.Trees.{Identifier, NamedPlace}
use Rattle.name_checks.specs.declared.bounds.Bounds.{Bounds}
use Rattle.v_names.specs.Faults.{Fault, DeclaredTwice, fault_if}
use Rattle.v_names.specs.Scopes.{Scope, looked_up}
use Rattle.v_names.specs.Constants.{known_faults}
use Rattle.v_names.specs.Names.{Declaration, may_follow}
use Rattle.module_scope.specs.Declarations.{declaration_seen}
use Rattle.module_scope.specs.Groups.{IsGrouped}
use Rattle.module_scope.specs.declared.twice.Earlier.{Earlier}
use Rattle.module_scope.specs.declared.twice.Earlier.TheVariants as code

pub data EarlierOnes : Type 0 where
  JustOne : (d : Declaration) → EarlierOnes
  Several : EarlierOnes

abbrev pub earlier_seen : Earlier → EarlierOnes
earlier_seen (code.Once d) = JustOne (declaration_seen d)
earlier_seen code.More = Several

-- the one declaration is of a group of these bounds
abbrev pub IsEarlierGrouped : List Bounds → Earlier → Type 0
IsEarlierGrouped groups (code.Once d) = IsGrouped groups d.declared
IsEarlierGrouped groups code.More = Unit {0}

pub record EarlierGrouped (groups : List Bounds) (earlier : Identifier → Option Earlier) : Type 0 where
  pub grouped : (name : Identifier) (e : Earlier) → earlier name ≡ Some e → IsEarlierGrouped groups e

-- none, one or more of a list
abbrev pub earlier_ones : List Declaration → Option EarlierOnes
earlier_ones [] = None
earlier_ones (d ∷ []) = Some (JustOne d)
earlier_ones (d ∷ d' ∷ rest) = Some Several

abbrev pub earlier_with : Option EarlierOnes → Declaration → EarlierOnes
earlier_with None d = JustOne d
earlier_with (Some ones) d = Several

abbrev pub may_follow_earlier : Scope → Option EarlierOnes → Declaration → Bool
may_follow_earlier scope None d = true
may_follow_earlier scope (Some (JustOne port)) d = may_follow scope (port ∷ []) d
may_follow_earlier scope (Some Several) d = false

-- the fault of a declaration that may not follow the earlier ones
abbrev pub twice_fault_of : Scope → Option EarlierOnes → Declaration → List Fault
twice_fault_of scope earlier d = fault_if (not (may_follow_earlier scope earlier d)) d.place DeclaredTwice

-- the faults of a name in the list of ports
abbrev pub head_fault_of : Scope → Bool → NamedPlace → List Fault
head_fault_of scope there head = known_faults (looked_up scope head.name) head.place ++ fault_if there head.place DeclaredTwice
