-- The ranges of groups that are kept, where one more is kept or parameters get values.
use Rattle.std.proofs.Common.{◌≡◌, ◌⊎◌, ℕ, Bool, true, false, ◌||◌, List, [], ◌∷◌, Option, Some, None, inl, inr, refl, sym, ap, ap₂, subst, ◌∙◌}
use Rattle.std.specs.Borrow.{Bor}
use Rattle.std.specs.List.{slice_get}
use Rattle.v_tree.specs.Trees.{Identifier, SourceExpression, NamedPlace, named_in, same_name}
use Rattle.v_tree.specs.Views.{expression_of}
use Rattle.v_tree.specs.declared.expression.Expr.{Expr}
use Rattle.v_names.specs.Scopes.{SignedValue, DeclaredRange, ScopeEntry, Scope, entry_if, looked_up, is_waiting}
use Rattle.v_names.specs.Readings.{number_or}
use Rattle.v_names.specs.Constants.{some_waiting}
use Rattle.v_names.specs.Names.{bound_number, range_of, bounds_wait, declared_bounds}
use Rattle.v_names.specs.Names as plain
use Rattle.v_names.specs.Agreement.{constant_part, Agree, some_wait, agree-waiting, agree-number}
use Rattle.v_names.specs.Meanings.{Under, or-false-left, or-false-right}
use Rattle.name_checks.specs.BoundViews.{bounds_seen}
use Rattle.name_checks.specs.declared.bounds.Bounds.{Bounds}
use Rattle.module_scope.specs.declared.declaration.GroupBounds.{GroupBounds}
use Rattle.module_scope.specs.declared.declaration.Declared.{Declared}
use Rattle.module_scope.specs.declared.declaration.Declared.TheVariants as declared
use Rattle.module_scope.specs.declared.ranges.GroupRange.{GroupRange}
use Rattle.module_scope.specs.declared.settled_ranges.SettledRanges.{SettledRanges}
use Rattle.module_scope.specs.Declarations.{declared_seen}
use Rattle.module_scope.specs.Groups.{group_bounds, IsGrouped}
use Rattle.module_scope.specs.Meanings.{meaning_with, parameter_by, parameter-by}
use Rattle.module_scope.proofs.Maps.{same-equal}
use Rattle.module_scope.specs.Ranges.{kept_range, range_once_known, IsRangeIn, AreRanges, HasOneMore, AreSettledRanges}

pub no-ranges : (scope : Scope) (groups : List Bounds) (kept : ℕ → Option GroupRange) → ((group : ℕ) → kept group ≡ None) → AreRanges scope groups kept
no-ranges scope groups kept h = record { right = λ group bounds r at e. let no : None ≡ Some r = sym (h group) ∙ e in cc }

pub one-more : (scope : Scope) (groups : List Bounds) (old new : ℕ → Option GroupRange) (group : ℕ) (range : GroupRange) (bounds : Bounds) → AreRanges scope groups old →
    HasOneMore group range old new → slice_get groups group ≡ Some bounds → IsRangeIn scope (bounds_seen bounds) range → AreRanges scope groups new
one-more scope groups old new group range bounds before more at is = record { right = λ other b r there e. by other b r there (more.kept other r e) }
  where
    some : (x y : Bounds) → Some x ≡ Some y → x ≡ y
    some x y e = cc

    by : (other : ℕ) (b : Bounds) (r : GroupRange) → slice_get groups other ≡ Some b → ((other ≡ group) × (r ≡ range)) ⊎ (old other ≡ Some r) → IsRangeIn scope (bounds_seen b) r
    by other b r there (inl h) =
        let same = some bounds b (sym at ∙ ap (slice_get groups) (sym h.0) ∙ there) in
        subst (λ (x : GroupRange). IsRangeIn scope (bounds_seen b) x) (sym h.1) (subst (λ (x : Bounds). IsRangeIn scope (bounds_seen x) range) same is)
    by other b r there (inr h) = before.right other b r there h

-- Bounds that don't wait in a scope have the same range in one that has more values

under-agree : (s t : Scope) → Under s t → (names : List NamedPlace) → some_wait s names ≡ false → Agree s t names
under-agree s t u [] w = tt
under-agree s t u (n ∷ ns) w =
    (u.agrees n.name (or-false-left (is_waiting (looked_up s n.name)) (some_wait s ns) w), under-agree s t u ns (or-false-right (is_waiting (looked_up s n.name)) (some_wait s ns) w))

still-waits : (s t : Scope) → Under s t → (e : SourceExpression) → some_waiting s e ≡ false → some_waiting s e ≡ some_waiting t e
still-waits s t u e w = agree-waiting s t (named_in e) (under-agree s t u (named_in e) w)

same-number : (s t : Scope) → Under s t → (e : SourceExpression) → some_waiting s e ≡ false → bound_number s e ≡ bound_number t e
same-number s t u e w = ap (number_or 0) (agree-number s t e (under-agree s t u (named_in e) w))

range-kept : (s t : Scope) → Under s t → (bounds : plain.Bounds) → bounds_wait s bounds ≡ false → (bounds_wait s bounds ≡ bounds_wait t bounds) × (range_of s bounds ≡ range_of t bounds)
range-kept s t u plain.Unbounded w = (refl, refl)
range-kept s t u plain.IntegerBounds w = (refl, refl)
range-kept s t u (plain.RangeBounds range) w =
    let high = or-false-left (some_waiting s range.high) (some_waiting s range.low) w in
    let low = or-false-right (some_waiting s range.high) (some_waiting s range.low) w in (
      ap₂ (λ a b. a || b) (still-waits s t u range.high high) (still-waits s t u range.low low),
      ap₂ (λ (a b : ℕ). let r : DeclaredRange = record { ranged = true; high = a; low = b } in r) (same-number s t u range.high high) (same-number s t u range.low low),
    )

-- a parameter that waits gets a value
pub under-put : (s t : Scope) (name : Identifier) (entry : ScopeEntry) → is_waiting (looked_up s name) ≡ true →
    ((other : Identifier) → looked_up t other ≡ entry_if (same_name name other) entry (looked_up s other))
    → Under s t
under-put s t name entry waits puts = record { agrees = λ other w. by other w (same_name name other) refl }
  where
    by : (other : Identifier) → is_waiting (looked_up s other) ≡ false → (b : Bool) → same_name name other ≡ b → constant_part (looked_up s other) ≡ constant_part (looked_up t other)
    by other w true e =
        let no : true ≡ false = sym waits ∙ ap (λ n. is_waiting (looked_up s n)) (same-equal name other e) ∙ w in absurd (let x : ⊥ = cc in x)
    by other w false e = ap constant_part (sym (puts other ∙ ap (λ b. entry_if b entry (looked_up s other)) e))

-- the ranges that don't wait are those in a scope that has more values
range-under : (s t : Scope) (bounds : plain.Bounds) (r : GroupRange) → Under s t → r.waits ≡ false → IsRangeIn s bounds r → IsRangeIn t bounds r
range-under s t bounds r u settled is =
    let same = range-kept s t u bounds (sym is.waits ∙ settled) in
    record { waits = is.waits ∙ same.0; range = is.range ∙ same.1 }

pub ranges-under : (s t : Scope) (groups : List Bounds) (old new : SettledRanges) → Under s t → AreSettledRanges s groups old → new.known ≡ old.known → new.waiting ≡ None →
    AreSettledRanges t groups new
ranges-under s t groups old new u before same none = record {
  are_ranges = record { right = λ group bounds r at e. let e' = old-kept group r e in range-under s t (bounds_seen bounds) r u (before.known group r e') (before.are_ranges.right group bounds r at e') };
  known = λ group r e. before.known group r (old-kept group r e);
  waiting = λ group bounds at e. let no : None ≡ Some group = sym none ∙ e in cc;
}
  where
    old-kept : (group : ℕ) (r : GroupRange) → kept_range new.known group ≡ Some r → kept_range old.known group ≡ Some r
    old-kept group r e = sym (ap (λ k. kept_range k group) same) ∙ e

-- Ranges while parameters get their values

pub settled-more : (scope : Scope) (groups : List Bounds) (old new : SettledRanges) (group : ℕ) (range : GroupRange) (bounds : Bounds) → AreSettledRanges scope groups old →
    HasOneMore group range (kept_range old.known) (kept_range new.known)
    → new.waiting ≡ old.waiting → slice_get groups group ≡ Some bounds → range.waits ≡ false → IsRangeIn scope (bounds_seen bounds) range → AreSettledRanges scope groups new
settled-more scope groups old new group range bounds before more same at settled is = record {
  are_ranges = one-more scope groups (kept_range old.known) (kept_range new.known) group range bounds before.are_ranges more at is;
  known = λ other r e. by other r (more.kept other r e);
  waiting = λ other b there e. before.waiting other b there (sym same ∙ e);
}
  where
    by : (other : ℕ) (r : GroupRange) → ((other ≡ group) × (r ≡ range)) ⊎ (kept_range old.known other ≡ Some r) → r.waits ≡ false
    by other r (inl h) = ap (λ (x : GroupRange). x.waits) h.1 ∙ settled
    by other r (inr h) = before.known other r h

-- what a parameter means by its range while parameters get their values
pub settled-meaning : (scope : Scope) (groups : List Bounds) (d : Declared) (is_local signed : Bool) (bounds : GroupBounds) (value : Bor Expr) (range : Option DeclaredRange)
    (given : Option SignedValue) (entry : ScopeEntry) → d ≡ declared.Param is_local signed bounds value → IsGrouped groups d
    → ((b : Bounds) → slice_get groups bounds.group ≡ Some b → range ≡ range_once_known scope (bounds_seen b)) → entry ≡ parameter_by scope signed range (expression_of value.now) given
    → entry ≡ meaning_with scope given (declared_seen d)
settled-meaning scope groups d is_local signed bounds value range given entry is grouped ranged means =
    let at : slice_get groups bounds.group ≡ Some bounds.bounds = subst (λ (x : Declared). IsGrouped groups x) is grouped in
    means ∙ ap (λ (r : Option DeclaredRange). parameter_by scope signed r (expression_of value.now) given) (ranged bounds.bounds at)
    ∙ parameter-by scope signed (bounds_seen bounds.bounds) (expression_of value.now) given
    ∙ sym (ap (λ (x : Declared). meaning_with scope given (declared_seen x)) is)

-- The bounds of what is declared

pub bounds-of : (d : Declared) (b : GroupBounds) → Some b ≡ group_bounds d → bounds_seen b.bounds ≡ declared_bounds (declared_seen d)
bounds-of (declared.Param is_local signed bounds value) b e = cc
bounds-of (declared.Port direction is_reg signed bounds first) b e = cc
bounds-of (declared.Net signed bounds) b e = cc
bounds-of (declared.Reg signed bounds first) b e = cc
bounds-of (declared.Memory signed bounds addresses) b e = cc
bounds-of declared.Gate b e = cc
bounds-of declared.Instance b e = cc

pub no-bounds : (d : Declared) → None ≡ group_bounds d → plain.Unbounded ≡ declared_bounds (declared_seen d)
no-bounds (declared.Param is_local signed bounds value) e = cc
no-bounds (declared.Port direction is_reg signed bounds first) e = cc
no-bounds (declared.Net signed bounds) e = cc
no-bounds (declared.Reg signed bounds first) e = cc
no-bounds (declared.Memory signed bounds addresses) e = cc
no-bounds declared.Gate e = refl
no-bounds declared.Instance e = refl
