-- Declarations that are added are of groups of a table.
use Rattle.std.proofs.Common.{◌≡◌, ℕ, zero, suc, ◌<◌, Bool, true, false, cond, List, [], ◌∷◌, ◌++◌, get_or, length, Option, Some, None, IfSome, refl, sym, subst, ◌∙◌, arith}
use Rattle.std.specs.List.{slice_get}
use Rattle.name_checks.specs.declared.bounds.Bounds.{Bounds}
use Rattle.module_scope.specs.declared.declaration.GroupBounds.{GroupBounds}
use Rattle.module_scope.specs.declared.declaration.Declaration.{Declaration}
use Rattle.v_tree.specs.Trees.{Identifier, same_name}
use Rattle.module_scope.specs.declared.twice.Earlier.{Earlier}
use Rattle.module_scope.specs.Earlier.{IsEarlierGrouped, EarlierGrouped}
use Rattle.module_scope.specs.Kept.{kept}
use Rattle.module_scope.specs.Groups.{group_bounds, IsGroup, IsGrouped, AreGrouped, AddsGrouped, DeclaredIn}

pub adds-none : (P : List Bounds → Type 0) (ds : List Declaration) → AddsGrouped P ds ds
adds-none P ds = record { adds = λ groups p h. h }

pub adds-both : (P : List Bounds → Type 0) (one two three : List Declaration) → AddsGrouped P one two → AddsGrouped P two three → AddsGrouped P one three
adds-both P one two three a b = record { adds = λ groups p h. b.adds groups p (a.adds groups p h) }

-- what adds under a weaker premise adds under a stronger one
pub adds-where : (P Q : List Bounds → Type 0) (old new : List Declaration) → ((groups : List Bounds) → Q groups → P groups) → AddsGrouped P old new → AddsGrouped Q old new
adds-where P Q old new f a = record { adds = λ groups q h. a.adds groups (f groups q) h }

pub grouped-append : (groups : List Bounds) (ds : List Declaration) (d : Declaration) → AreGrouped groups ds → IsGrouped groups d.declared → AreGrouped groups (ds ++ d ∷ [])
grouped-append groups [] d h k = (k, tt)
grouped-append groups (x ∷ xs) d h k = (h.0, grouped-append groups xs d h.1 k)

pub adds-one : (d : Declaration) (old new : List Declaration) → new ≡ old ++ d ∷ [] → AddsGrouped (DeclaredIn d.declared) old new
adds-one d old new e = record { adds = λ groups p h. subst (AreGrouped groups) (sym e) (grouped-append groups old d h p) }

pub grouped-at : (groups : List Bounds) (ds : List Declaration) (i : ℕ) (d : Declaration) → AreGrouped groups ds → i < length ds → d ≡ get_or ds i d → IsGrouped groups d.declared
grouped-at groups [] i d h below at = absurd (omega arith)
grouped-at groups (x ∷ xs) zero d h below at = subst (λ (y : Declaration). IsGrouped groups y.declared) (sym at) h.0
grouped-at groups (x ∷ xs) (suc i) d h below at = grouped-at groups xs i d h.1 (omega arith) at

get-more : {A : Type 0} (xs : List A) (i : ℕ) (x y : A) → slice_get xs i ≡ Some x → slice_get (xs ++ y ∷ []) i ≡ Some x
get-more [] i x y e = cc
get-more (z ∷ zs) zero x y e = e
get-more (z ∷ zs) (suc i) x y e = get-more zs i x y e

-- the group that is added last
pub last-group : {A : Type 0} (xs : List A) (y : A) → slice_get (xs ++ y ∷ []) (length xs) ≡ Some y
last-group [] y = refl
last-group (x ∷ xs) y = last-group xs y

bounds-more : (groups : List Bounds) (bounds : Bounds) (b : Option GroupBounds) → IfSome b (IsGroup groups) → IfSome b (IsGroup (groups ++ bounds ∷ []))
bounds-more groups bounds None h = tt
bounds-more groups bounds (Some b) h = get-more groups b.group b.bounds bounds h

-- one more group changes nothing for the others
pub grouped-more : (groups : List Bounds) (bounds : Bounds) (ds : List Declaration) → AreGrouped groups ds → AreGrouped (groups ++ bounds ∷ []) ds
grouped-more groups bounds [] h = tt
grouped-more groups bounds (d ∷ ds) h = (bounds-more groups bounds (group_bounds d.declared) h.0, grouped-more groups bounds ds h.1)

-- The earlier declarations of names

pub none-earlier : (groups : List Bounds) (pairs : List (List ℕ × Earlier)) → pairs ≡ [] → EarlierGrouped groups (kept pairs)
none-earlier groups pairs e = subst (λ (ps : List (List ℕ × Earlier)). EarlierGrouped groups (kept ps)) (sym e) (record { grouped = λ name x f. absurd (let no : ⊥ = cc in no) })

pub earlier-at : (groups : List Bounds) (known : Identifier → Option Earlier) (name : Identifier) (o : Option Earlier) → EarlierGrouped groups known → o ≡ known name →
    IfSome o (IsEarlierGrouped groups)
earlier-at groups known name None h e = tt
earlier-at groups known name (Some x) h e = h.grouped name x (sym e)

some-earlier : (a b : Earlier) → Some a ≡ Some b → a ≡ b
some-earlier a b e = cc

pub earlier-put : (groups : List Bounds) (old new : Identifier → Option Earlier) (name : Identifier) (one : Earlier) → EarlierGrouped groups old → IsEarlierGrouped groups one
    → ((other : Identifier) → new other ≡ cond (same_name name other) (Some one) (old other)) → EarlierGrouped groups new
earlier-put groups old new name one h k puts = record { grouped = λ other x e. by other x (same_name name other) (sym (puts other) ∙ e) }
  where
    by : (other : Identifier) (x : Earlier) (b : Bool) → cond b (Some one) (old other) ≡ Some x → IsEarlierGrouped groups x
    by other x true e = subst (IsEarlierGrouped groups) (some-earlier one x e) k
    by other x false e = h.grouped other x e
