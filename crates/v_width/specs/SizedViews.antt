-- Sized expressions of the code as the plain tree.
use Rattle.std.specs.Prelude.{List, [], ◌∷◌}
use Rattle.v_names.specs.SizedTrees as plain
use Rattle.v_width.specs.declared.expression.SizedExpr.{SizedExpr, Row_of-SizedExpr, end_of-SizedExpr, more_of-SizedExpr}
use Rattle.v_width.specs.declared.expression.SizedExpr.TheVariants as code

abbrev mutual
  -- a sized expression
  pub sized_of : SizedExpr → plain.SizedExpression
  sized_of (code.Constant size value) = plain.SizedConstant size.width size.signed value
  sized_of (code.Name size name) = plain.SizedName size.width size.signed name
  sized_of (code.BitSelect' size name p index) = plain.SizedBit size.width size.signed name (sized_of index)
  sized_of (code.PartSelect size name from to) = plain.SizedPart size.width size.signed name from to
  sized_of (code.WordSelect' size name p index) = plain.SizedWord size.width size.signed name (sized_of index)
  sized_of (code.Unary' size operator p operand) = plain.SizedUnary size.width size.signed operator (sized_of operand)
  sized_of (code.Binary' size operator p left q right) = plain.SizedBinary size.width size.signed operator (sized_of left) (sized_of right)
  sized_of (code.Conditional' size p condition q first r second) = plain.SizedChoice size.width size.signed (sized_of condition) (sized_of first) (sized_of second)
  sized_of (code.Concatenation' size shape parts) = plain.SizedConcatenation size.width size.signed (sized_of_row parts)
  sized_of (code.Replication' size count shape parts) = plain.SizedReplication size.width size.signed count (sized_of_row parts)

  -- the expressions of a row
  pub sized_of_row : {n : _} → Row_of-SizedExpr n → plain.SizedExpressions
  sized_of_row end_of-SizedExpr = plain.no_sized
  sized_of_row (more_of-SizedExpr first rest) = plain.more_sized (sized_of first) (sized_of_row rest)

-- a list of sized expressions
abbrev pub all_sized_of : List SizedExpr → plain.SizedExpressions
all_sized_of [] = plain.no_sized
all_sized_of (first ∷ rest) = plain.more_sized (sized_of first) (all_sized_of rest)
