-- How many levels stand below the outermost one of a tree. Each operand, part in parentheses, part of a concatenation, index and
-- branch is one level below what it stands in.
use Rattle.std.specs.Prelude.{ℕ, suc, max, List, [], ◌∷◌}
use Rattle.v_tree.specs.Trees.{SourceExpression, Number, Selected, Parenthesised, Prefixed, Infixed, Chosen, Concatenated, Replicated, SourceIndex, NoIndex, IndexAt, IndexRange, SourceExpressions}
use Rattle.v_tree.specs.Trees.{no_parts, more_parts, SourceSelect, SourceTarget, OneSelect, JoinedSelects, SourceRange}

abbrev mutual
  pub height_of : SourceExpression → ℕ
  height_of (Number place form value) = 0
  height_of (Selected place name index) = index_height index
  height_of (Parenthesised place inner) = suc (height_of inner)
  height_of (Prefixed place operator operand) = suc (height_of operand)
  height_of (Infixed place operator left right) = suc (max (height_of left) (height_of right))
  height_of (Chosen place condition first second) = suc (max (height_of condition) (max (height_of first) (height_of second)))
  height_of (Concatenated place parts) = suc (heights_of parts)
  height_of (Replicated place count parts) = suc (max (height_of count) (heights_of parts))

  -- what an index adds to its name
  pub index_height : SourceIndex → ℕ
  index_height NoIndex = 0
  index_height (IndexAt index) = suc (height_of index)
  index_height (IndexRange from to) = suc (max (height_of from) (height_of to))

  -- the greatest height of some parts
  pub heights_of : SourceExpressions → ℕ
  heights_of no_parts = 0
  heights_of (more_parts first rest) = max (height_of first) (heights_of rest)

abbrev pub select_height : SourceSelect → ℕ
select_height s = index_height s.index

-- the greatest height of some selects
abbrev pub select_heights : List SourceSelect → ℕ
select_heights [] = 0
select_heights (s ∷ rest) = max (select_height s) (select_heights rest)

abbrev pub target_height : SourceTarget → ℕ
target_height (OneSelect select) = select_height select
target_height (JoinedSelects place selects) = suc (select_heights selects)

abbrev pub range_height : SourceRange → ℕ
range_height r = max (height_of r.high) (height_of r.low)
