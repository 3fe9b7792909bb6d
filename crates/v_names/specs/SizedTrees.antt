-- Expressions with a width and a sign at each part, over names (IEEE 1364-2001, clause 4.4 and clause 4.5).
use Rattle.std.specs.Prelude.{ℕ, Bool}
use Rattle.four_value.specs.Values.{LogicValue}
use Rattle.v_design.specs.Trees.{Vector, Memory, Expression, Constant, Name, BitSelect, PartSelect, WordSelect, Unary, Binary, Conditional, Concatenation, Replication, Expressions, no_expressions}
use Rattle.v_design.specs.Trees.{more_expressions}
use Rattle.four_value.specs.declared.operator.UnaryOperator.{UnaryOperator}
use Rattle.four_value.specs.declared.operator.BinaryOperator.{BinaryOperator}
use Rattle.v_tree.specs.Trees.{Identifier}

mutual
  pub data SizedExpression : Type 0 where
    SizedConstant : (width : ℕ) (signed : Bool) (value : LogicValue) → SizedExpression
    SizedName : (width : ℕ) (signed : Bool) (name : Identifier) → SizedExpression
    SizedBit : (width : ℕ) (signed : Bool) (name : Identifier) (index : SizedExpression) → SizedExpression
    SizedPart : (width : ℕ) (signed : Bool) (name : Identifier) (from to : ℕ) → SizedExpression
    SizedWord : (width : ℕ) (signed : Bool) (name : Identifier) (index : SizedExpression) → SizedExpression
    SizedUnary : (width : ℕ) (signed : Bool) (operator : UnaryOperator) (operand : SizedExpression) → SizedExpression
    SizedBinary : (width : ℕ) (signed : Bool) (operator : BinaryOperator) (left right : SizedExpression) → SizedExpression
    SizedChoice : (width : ℕ) (signed : Bool) (condition first second : SizedExpression) → SizedExpression
    SizedConcatenation : (width : ℕ) (signed : Bool) (parts : SizedExpressions) → SizedExpression
    SizedReplication : (width : ℕ) (signed : Bool) (count : ℕ) (parts : SizedExpressions) → SizedExpression

  pub data SizedExpressions : Type 0 where
    no_sized : SizedExpressions
    more_sized : (first : SizedExpression) (rest : SizedExpressions) → SizedExpressions

-- the objects that hold what a name means
pub record Holders : Type 0 where
  pub vector : Identifier → Vector
  pub memory : Identifier → Memory

abbrev mutual
  -- the expression over objects
  pub over_objects : Holders → SizedExpression → Expression
  over_objects holders (SizedConstant width signed value) = Constant width signed value
  over_objects holders (SizedName width signed name) = Name width signed (holders.vector name)
  over_objects holders (SizedBit width signed name index) = BitSelect width signed (holders.vector name) (over_objects holders index)
  over_objects holders (SizedPart width signed name from to) = PartSelect width signed (holders.vector name) from to
  over_objects holders (SizedWord width signed name index) = WordSelect width signed (holders.memory name) (over_objects holders index)
  over_objects holders (SizedUnary width signed operator operand) = Unary width signed operator (over_objects holders operand)
  over_objects holders (SizedBinary width signed operator left right) = Binary width signed operator (over_objects holders left) (over_objects holders right)
  over_objects holders (SizedChoice width signed condition first second) = Conditional width signed (over_objects holders condition) (over_objects holders first) (over_objects holders second)
  over_objects holders (SizedConcatenation width signed parts) = Concatenation width signed (all_over_objects holders parts)
  over_objects holders (SizedReplication width signed count parts) = Replication width signed count (all_over_objects holders parts)

  pub all_over_objects : Holders → SizedExpressions → Expressions
  all_over_objects holders no_sized = no_expressions
  all_over_objects holders (more_sized first rest) = more_expressions (over_objects holders first) (all_over_objects holders rest)
