-- The ranges of groups of declarations by the parameters of a scope (IEEE 1364-2001, clauses 3.3 and 3.11).
use Rattle.std.specs.Prelude.{◌≡◌, ◌⊎◌, ℕ, Bool, true, false, get_or, List, Option, Some, None}
use Rattle.std.specs.List.{slice_get}
use Rattle.v_names.specs.Scopes.{DeclaredRange, Scope}
use Rattle.v_names.specs.Names.{bounds_wait, range_of}
use Rattle.v_names.specs.Names as plain
use Rattle.name_checks.specs.BoundViews.{bounds_seen}
use Rattle.name_checks.specs.RangeViews.{range_seen}
use Rattle.name_checks.specs.declared.bounds.Bounds.{Bounds}
use Rattle.module_scope.specs.declared.ranges.GroupRange.{GroupRange}
use Rattle.module_scope.specs.declared.ranges.GroupRanges.{GroupRanges}
use Rattle.module_scope.specs.declared.settled_ranges.SettledRanges.{SettledRanges}

-- this is the range of bounds in a scope, and says whether they wait there
pub record IsRangeIn (scope : Scope) (bounds : plain.Bounds) (r : GroupRange) : Type 0 where
  pub waits : r.waits ≡ bounds_wait scope bounds
  pub range : range_seen r.range ≡ range_of scope bounds

-- a range, unless it waits
abbrev pub unless_waiting : Bool → DeclaredRange → Option DeclaredRange
unless_waiting true range = None
unless_waiting false range = Some range

-- the range of bounds, none while they name a parameter without a value
abbrev pub range_once_known : Scope → plain.Bounds → Option DeclaredRange
range_once_known scope bounds = unless_waiting (bounds_wait scope bounds) (range_of scope bounds)

-- what is kept of a group
abbrev pub kept_range : GroupRanges → ℕ → Option GroupRange
kept_range ranges group = get_or ranges.evaluated.items group None

-- each range that is kept is that of its group
pub record AreRanges (scope : Scope) (groups : List Bounds) (kept : ℕ → Option GroupRange) : Type 0 where
  pub right : (group : ℕ) (bounds : Bounds) (r : GroupRange) → slice_get groups group ≡ Some bounds → kept group ≡ Some r → IsRangeIn scope (bounds_seen bounds) r

-- nothing is kept but what was kept before and the range of one group
pub record HasOneMore (group : ℕ) (range : GroupRange) (old new : ℕ → Option GroupRange) : Type 0 where
  pub kept : (other : ℕ) (r : GroupRange) → new other ≡ Some r → ((other ≡ group) × (r ≡ range)) ⊎ (old other ≡ Some r)

-- each range that is kept while parameters get their values is that of its group and doesn't wait, and the group that is said to wait does
pub record AreSettledRanges (scope : Scope) (groups : List Bounds) (ranges : SettledRanges) : Type 0 where
  pub are_ranges : AreRanges scope groups (kept_range ranges.known)
  pub known : (group : ℕ) (r : GroupRange) → kept_range ranges.known group ≡ Some r → r.waits ≡ false
  pub waiting : (group : ℕ) (bounds : Bounds) → slice_get groups group ≡ Some bounds → ranges.waiting ≡ Some group → bounds_wait scope (bounds_seen bounds) ≡ true
