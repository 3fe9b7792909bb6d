-- Readers of what the code reads together.
use Rattle.std.specs.Prelude.{ℕ, Option, Some}
use Rattle.vf_base.specs.Base.{SourcePlace}
use Rattle.v_tree.specs.Trees.{SourceExpression, SourceTarget, SourceStatement, ForStatement, BlockingStatement, NonblockingStatement, place_of_target}
use Rattle.v_tree.specs.Views.{expression_of, target_of}
use Rattle.v_readers.specs.declared.class.Class.{Class}
use Rattle.v_readers.specs.declared.class.Class.TheVariants as classes
use Rattle.v_readers.specs.Reading.{Reader, ◌>>=◌, give, wrong, by_class, expect, step}
use Rattle.v_expr.specs.Parts.{inner_expression}
use Rattle.v_stmt.specs.declared.parts.ForHead.{ForHead}
use Rattle.v_stmt.specs.declared.parts.AssignmentKind.{AssignmentKind}
use Rattle.v_stmt.specs.declared.parts.AssignmentKind.TheVariants.{Blocking, Nonblocking}
use Rattle.v_stmt.specs.Statements.{assigned, head_assignment}

-- an expression, and a token of this class
unfoldable pub ended : Class → ℕ → Reader SourceExpression
ended class k = do
  e ← inner_expression k
  closing ← expect class
  give e

-- the sign and the value of an assignment in the head of a `for`
unfoldable pub valued : ℕ → Reader SourceExpression
valued k = do
  sign ← expect classes.Assign
  inner_expression k

-- an assignment in the head of a `for`, and a token of this class
unfoldable pub head_ended : Class → ℕ → Reader (SourceTarget × SourceExpression)
head_ended class k = do
  head ← head_assignment k
  closing ← expect class
  give head

-- the condition and the second assignment in the head of a `for`
unfoldable pub for_steps : ℕ → Reader (SourceExpression × (SourceTarget × SourceExpression))
for_steps k = do
  test ← ended classes.Semicolon k
  next ← head_ended classes.RightParen k
  give (test, next)

-- the first assignment, the condition and the second assignment of a `for`
abbrev pub ForParts : Type 0
ForParts = (SourceTarget × SourceExpression) × (SourceExpression × (SourceTarget × SourceExpression))

-- the head of a `for` of the code
abbrev pub for_head_of : ForHead → ForParts
for_head_of h = ((target_of h.first.target, expression_of h.first.value), (expression_of h.steps.condition, (target_of h.steps.next.target, expression_of h.steps.next.value)))

-- a `for` of these parts
abbrev pub for_statement : SourcePlace → ForParts → SourceStatement → SourceStatement
for_statement place h body = ForStatement place h.0.0 h.0.1 h.1.0 h.1.1.0 h.1.1.1 body

-- the head of a `for`
unfoldable pub for_head : ℕ → Reader ForParts
for_head k = do
  opening ← expect classes.LeftParen
  first ← head_ended classes.Semicolon k
  steps ← for_steps k
  give (first, steps)

abbrev pub sign_by : Option Class → Reader AssignmentKind
sign_by (Some classes.Assign) = do
  sign ← step
  give Blocking
sign_by (Some classes.LessEqual) = do
  sign ← step
  give Nonblocking
sign_by _ = wrong

-- the sign of an assignment
unfoldable pub sign : Reader AssignmentKind
sign = by_class sign_by

-- the sign of an assignment, and what stands behind it
unfoldable pub signed_side : ℕ → Reader (AssignmentKind × (Option SourceExpression × SourceExpression))
signed_side k = do
  kind ← sign
  x ← assigned k
  give (kind, x)

-- an assignment of this kind to a target
abbrev pub assignment_of : AssignmentKind → SourceTarget → Option SourceExpression → SourceExpression → SourceStatement
assignment_of Blocking t delay value = BlockingStatement (place_of_target t) t delay value
assignment_of Nonblocking t delay value = NonblockingStatement (place_of_target t) t delay value
