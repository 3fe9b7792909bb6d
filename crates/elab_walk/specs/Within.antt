-- Items of the module whose names a scope has (IEEE 1364-2001, clause 12.5 for scopes).
use Rattle.std.specs.Prelude.{◌≡◌, List, Ok}
use Rattle.vf_base.specs.Lists.{AllHold}
use Rattle.v_tree.specs.Trees.{SourceItem, SourceModule}
use Rattle.v_names.specs.Scopes.{Scope}
use Rattle.v_names.specs.Names.{GivenParameter, names}
use Rattle.flat_laws.specs.Hierarchy.Walks.{IsOf}

-- an item of a module whose names, with some parameters given, have a scope
pub record IsWithin (scope : Scope) (item : SourceItem) : Type 0 where
  pub inner : SourceModule
  pub given : List GivenParameter
  pub named : names inner given ≡ Ok scope
  pub of : IsOf inner item

abbrev pub AreWithin : Scope → List SourceItem → Type 0
AreWithin scope items = AllHold (IsWithin scope) items

-- a module whose names, with some parameters given, have a scope
abbrev pub HasScope : SourceModule → Scope → Type 0
HasScope m scope = (given : List GivenParameter) × (names m given ≡ Ok scope)
