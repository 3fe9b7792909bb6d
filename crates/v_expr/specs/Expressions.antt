-- Reading an expression.
use Rattle.std.specs.Prelude.{ℕ, zero, suc, List, [], ◌∷◌, Option, Some, None, nat_le, ◌-◌, ◌&&◌, if◌then◌else◌}
use Rattle.four_value.specs.declared.operator.UnaryOperator.{UnaryOperator}
use Rattle.four_value.specs.declared.operator.BinaryOperator.{BinaryOperator}
use Rattle.vf_base.specs.Base.{SourcePlace}
use Rattle.v_tree.specs.Trees.{SourceExpression, Number, Selected, Parenthesised, Prefixed, Infixed, Chosen, Concatenated, Replicated, SourceIndex, NoIndex, IndexAt, IndexRange, SourceExpressions}
use Rattle.v_tree.specs.Trees.{no_parts, more_parts, parts_of, place_of_expression}
use Rattle.v_readers.specs.declared.class.Class.{Class}
use Rattle.v_readers.specs.declared.class.Class.TheVariants as classes
use Rattle.v_readers.specs.Reading.{Reader, ◌>>=◌, give, wrong, by_class, expect, step, down, name, number, repeat}
use Rattle.v_readers.specs.Separated.{element_turn, separated}
use Rattle.v_expr.specs.Operators.{unary_of, binary_of, level_of}
use Rattle.v_expr.specs.Spelling.{rank_of}
use Rattle.v_expr.specs.Heights.{height_of}

-- the readers of what stands one level down, by the greatest rank of what they read
abbrev pub Inner : Type 0
Inner = ℕ → Reader SourceExpression

-- behind the first expression of an index: another one, or its end
abbrev pub bounds_by : Inner → SourceExpression → Option Class → Reader SourceIndex
bounds_by inner from (Some classes.Colon) = do
  colon ← step
  to ← inner 11
  closing ← expect classes.RightBracket
  give (IndexRange from to)
bounds_by inner from _ = do
  closing ← expect classes.RightBracket
  give (IndexAt from)

-- an index behind its first expression
unfoldable pub bounds : Inner → SourceExpression → Reader SourceIndex
bounds inner from = by_class (bounds_by inner from)

abbrev pub index_by : ℕ → Inner → Option Class → Reader SourceIndex
index_by k inner (Some classes.LeftBracket) = do
  opening ← down 0 k
  from ← inner 11
  bounds inner from
index_by k inner _ = give NoIndex

-- what stands in brackets behind a name, if anything does
unfoldable pub index : ℕ → Inner → Reader SourceIndex
index k inner = by_class (index_by k inner)

-- what is repeated, behind the count
unfoldable pub replication : Inner → SourceExpression → SourcePlace → Reader SourceExpression
replication inner count place = do
  opening ← step
  parts ← separated classes.Comma (inner 11)
  inner_closing ← expect classes.RightBrace
  closing ← expect classes.RightBrace
  give (Replicated place count (parts_of parts))

-- the parts behind a first one, and their end
unfoldable pub concatenation : Inner → SourceExpression → SourcePlace → Reader SourceExpression
concatenation inner first place = do
  parts ← repeat (element_turn classes.Comma (inner 11)) (first ∷ [])
  closing ← expect classes.RightBrace
  give (Concatenated place (parts_of parts))

-- behind the first expression in braces: what is repeated, or more parts
abbrev pub braced_by : Inner → SourceExpression → SourcePlace → Option Class → Reader SourceExpression
braced_by inner first place (Some classes.LeftBrace) = replication inner first place
braced_by inner first place _ = concatenation inner first place

-- a concatenation or a replication behind its first expression
unfoldable pub braced : Inner → SourceExpression → SourcePlace → Reader SourceExpression
braced inner first place = by_class (braced_by inner first place)

abbrev pub prefixed_by : ℕ → Inner → Option UnaryOperator → Reader SourceExpression
prefixed_by k inner None = wrong
prefixed_by k inner (Some operator) = do
  place ← down 0 k
  operand ← inner 0
  give (Prefixed place operator operand)

-- a number
abbrev pub literal : Reader SourceExpression
literal = do
  n ← number
  give (Number n.1 n.0.1 n.0.0)

-- a name with what stands in brackets behind it
abbrev pub named : ℕ → Inner → Reader SourceExpression
named k inner = do
  n ← name
  at ← index k inner
  give (Selected n.1 n.0 at)

abbrev pub primary_by : ℕ → Inner → Option Class → Reader SourceExpression
primary_by k inner (Some classes.Number) = literal
primary_by k inner (Some classes.Name) = named k inner
primary_by k inner (Some classes.LeftParen) = do
  place ← down 0 k
  e ← inner 11
  closing ← expect classes.RightParen
  give (Parenthesised place e)
primary_by k inner (Some classes.LeftBrace) = do
  place ← down 0 k
  e ← inner 11
  braced inner e place
primary_by k inner (Some class) = prefixed_by k inner (unary_of class)
primary_by k inner None = wrong

-- what has no operator between operands
unfoldable pub primary : ℕ → Inner → Reader SourceExpression
primary k inner = by_class (primary_by k inner)

-- the operator between operands that the next token stands for
abbrev pub operator_of : Option Class → Option BinaryOperator
operator_of None = None
operator_of (Some class) = binary_of class

-- an operator that an expression of this rank goes on with, up to a greatest level
abbrev pub joining : (greatest rank : ℕ) → Option BinaryOperator → Option BinaryOperator
joining greatest rank None = None
joining greatest rank (Some operator) = if nat_le (level_of operator) greatest && nat_le rank (level_of operator) then Some operator else None

-- the greatest rank of an operator's right operand
abbrev pub operand_rank : BinaryOperator → ℕ
operand_rank operator = level_of operator - 1

abbrev pub operand_by : ℕ → Inner → SourceExpression → Option BinaryOperator → Reader (Option SourceExpression)
operand_by k inner left None = give None
operand_by k inner left (Some operator) = do
  place ← down (height_of left) k
  right ← inner (operand_rank operator)
  give (Some (Infixed (place_of_expression left) operator left right))

unfoldable pub operand_turn : ℕ → Inner → ℕ → SourceExpression → Reader (Option SourceExpression)
operand_turn k inner greatest left = by_class (λ class. operand_by k inner left (joining greatest (rank_of left) (operator_of class)))

-- operands with operators up to a level, grouped to the left
unfoldable pub operands : ℕ → Inner → ℕ → Reader SourceExpression
operands k inner greatest = do
  left ← primary k inner
  repeat (operand_turn k inner greatest) left

-- the branches of a choice behind its condition
unfoldable pub branches : ℕ → Inner → SourceExpression → Reader SourceExpression
branches k inner condition = do
  question ← down (height_of condition) k
  first ← inner 11
  colon ← expect classes.Colon
  second ← inner 11
  give (Chosen (place_of_expression condition) condition first second)

abbrev pub choice_by : ℕ → Inner → SourceExpression → Option Class → Reader SourceExpression
choice_by k inner condition (Some classes.Question) = branches k inner condition
choice_by k inner condition _ = give condition

-- operands, and a choice behind them if there is one
unfoldable pub choice : ℕ → Inner → Reader SourceExpression
choice k inner = do
  condition ← operands k inner 10
  by_class (choice_by k inner condition)

-- an expression of at most this rank
abbrev pub ranked : ℕ → Inner → ℕ → Reader SourceExpression
ranked k inner rank = if nat_le rank 10 then operands k inner rank else choice k inner

-- an expression one level down, of at most this rank
unfoldable pub inner_of : ℕ → Inner
inner_of zero rank = wrong
inner_of (suc k) rank = ranked k (inner_of k) rank

-- an expression with at most so many levels below its outermost one
unfoldable pub expression : ℕ → Reader SourceExpression
expression k = choice k (inner_of k)
