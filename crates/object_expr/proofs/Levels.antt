-- How deep sized expressions go, and what stands within a list of them.
use Rattle.std.proofs.Common.{◌≡◌, ℕ, zero, suc, ◌+◌, ◌<◌, ◌≤◌, max, List, [], ◌∷◌, length, get_or, sym, subst, arith}
use Rattle.v_names.specs.SizedTrees.{SizedExpression, SizedConstant, SizedName, SizedBit, SizedPart, SizedWord, SizedUnary, SizedBinary, SizedChoice, SizedConcatenation, SizedReplication}
use Rattle.v_names.specs.SizedTrees.{SizedExpressions, no_sized, more_sized}
use Rattle.v_width.specs.declared.expression.SizedExpr.{SizedExpr}
use Rattle.v_width.specs.SizedViews.{sized_of, all_sized_of}
use Rattle.object_expr.specs.Narrow.{IsNarrowTree, AreNarrowTrees}

-- what stands within has a level less
abbrev mutual
  pub levels_of : SizedExpression → ℕ
  levels_of (SizedConstant width signed value) = 1
  levels_of (SizedName width signed name) = 1
  levels_of (SizedBit width signed name index) = levels_of index + 1
  levels_of (SizedPart width signed name from to) = 1
  levels_of (SizedWord width signed name index) = levels_of index + 1
  levels_of (SizedUnary width signed operator operand) = levels_of operand + 1
  levels_of (SizedBinary width signed operator left right) = max (levels_of left) (levels_of right) + 1
  levels_of (SizedChoice width signed condition first second) = max (levels_of condition) (max (levels_of first) (levels_of second)) + 1
  levels_of (SizedConcatenation width signed parts) = levels_of_all parts + 1
  levels_of (SizedReplication width signed count parts) = levels_of_all parts + 1

  pub levels_of_all : SizedExpressions → ℕ
  levels_of_all no_sized = 0
  levels_of_all (more_sized first rest) = max (levels_of first) (levels_of_all rest)

pub item-levels : (exprs : List SizedExpr) (i : ℕ) (x : SizedExpr) → i < length exprs → x ≡ get_or exprs i x → levels_of (sized_of x) ≤ levels_of_all (all_sized_of exprs)
item-levels [] i x low at = absurd (omega arith)
item-levels (e ∷ exprs) zero x low at = subst (λ (y : SizedExpr). levels_of (sized_of y) ≤ levels_of_all (all_sized_of (e ∷ exprs))) (sym at) (omega arith)
item-levels (e ∷ exprs) (suc i) x low at = let rest = item-levels exprs i x (omega arith) at in omega (arith, rest)

pub item-narrow : (exprs : List SizedExpr) (i : ℕ) (x : SizedExpr) → AreNarrowTrees (all_sized_of exprs) → i < length exprs → x ≡ get_or exprs i x → IsNarrowTree (sized_of x)
item-narrow [] i x h low at = absurd (omega arith)
item-narrow (e ∷ exprs) zero x h low at = subst (λ (y : SizedExpr). IsNarrowTree (sized_of y)) (sym at) h.0
item-narrow (e ∷ exprs) (suc i) x h low at = item-narrow exprs i x h.1 (omega arith) at
