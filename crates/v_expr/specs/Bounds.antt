-- The second bound of an index, read by itself.
use Rattle.std.specs.Prelude.{◌≡◌, ℕ, ◌<◌, Option, Some, None}
use Rattle.v_tree.specs.Trees.{SourceExpression}
use Rattle.v_tree.specs.Views.{expression_of}
use Rattle.v_readers.specs.declared.class.Class.{Class}
use Rattle.v_readers.specs.declared.class.Class.TheVariants as classes
use Rattle.v_readers.specs.Reading.{Reader, ◌>>=◌, give, expect, step}
use Rattle.v_expr.specs.declared.expressions.Part.{Part}
use Rattle.v_expr.specs.Expressions.{Inner}
use Rattle.v_expr.specs.Heights.{height_of}

-- behind the first expression of an index: another one, if there is one, and the end
abbrev pub second_by : Inner → Option Class → Reader (Option SourceExpression)
second_by inner (Some classes.Colon) = do
  colon ← step
  to ← inner 11
  closing ← expect classes.RightBracket
  give (Some to)
second_by inner _ = do
  closing ← expect classes.RightBracket
  give None

-- the expression of a part, if there is one
abbrev pub seen_in : Option Part → Option SourceExpression
seen_in None = None
seen_in (Some part) = Some (expression_of part.expr)

-- a part, if there is one, has its height, which is less than that many levels
abbrev pub IsMeasuredIn : ℕ → Option Part → Type 0
IsMeasuredIn levels None = Unit {0}
IsMeasuredIn levels (Some part) = (part.height ≡ height_of (expression_of part.expr)) × (part.height < levels)
