-- Names that are declared together share their bounds: a table has the bounds of each group of names.
use Rattle.std.specs.Prelude.{◌≡◌, List, [], ◌∷◌, Option, Some, None, IfSome}
use Rattle.std.specs.List.{slice_get}
use Rattle.name_checks.specs.declared.bounds.Bounds.{Bounds}
use Rattle.module_scope.specs.declared.declaration.GroupBounds.{GroupBounds}
use Rattle.module_scope.specs.declared.declaration.Declared.{Declared}
use Rattle.module_scope.specs.declared.declaration.Declared.TheVariants as declared
use Rattle.module_scope.specs.declared.declaration.Declaration.{Declaration}

-- the group has these bounds
abbrev pub IsGroup : List Bounds → GroupBounds → Type 0
IsGroup groups b = slice_get groups b.group ≡ Some b.bounds

-- the bounds of what has bits
abbrev pub group_bounds : Declared → Option GroupBounds
group_bounds (declared.Param is_local signed bounds value) = Some bounds
group_bounds (declared.Port direction is_reg signed bounds first) = Some bounds
group_bounds (declared.Net signed bounds) = Some bounds
group_bounds (declared.Reg signed bounds first) = Some bounds
group_bounds (declared.Memory signed bounds addresses) = Some bounds
group_bounds declared.Gate = None
group_bounds declared.Instance = None

abbrev pub IsGrouped : List Bounds → Declared → Type 0
IsGrouped groups d = IfSome (group_bounds d) (IsGroup groups)

abbrev pub AreGrouped : List Bounds → List Declaration → Type 0
AreGrouped groups [] = Unit {0}
AreGrouped groups (d ∷ ds) = IsGrouped groups d.declared × AreGrouped groups ds

-- declarations were added that are of groups of a table where this holds of it
pub record AddsGrouped (P : List Bounds → Type 0) (old new : List Declaration) : Type 0 where
  pub adds : (groups : List Bounds) → P groups → AreGrouped groups old → AreGrouped groups new

abbrev pub BoundsIn : GroupBounds → List Bounds → Type 0
BoundsIn b groups = IsGroup groups b

abbrev pub DeclaredIn : Declared → List Bounds → Type 0
DeclaredIn d groups = IsGrouped groups d

abbrev pub InAnyCase : List Bounds → Type 0
InAnyCase groups = Unit {0}
