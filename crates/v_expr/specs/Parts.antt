-- Reading selects, targets, ranges and delays.
use Rattle.std.specs.Prelude.{ℕ, zero, suc, Option, Some}
use Rattle.v_tree.specs.Trees.{SourceExpression, Selected, NoIndex, SourceSelect, SourceTarget, OneSelect, JoinedSelects, SourceRange}
use Rattle.v_readers.specs.declared.class.Class.{Class}
use Rattle.v_readers.specs.declared.class.Class.TheVariants as classes
use Rattle.v_readers.specs.Reading.{Reader, ◌>>=◌, give, wrong, by_class, expect, step, down, name}
use Rattle.v_readers.specs.Separated.{separated}
use Rattle.v_expr.specs.Expressions.{literal, index, inner_of, expression}

-- an expression one level down
unfoldable pub inner_expression : ℕ → Reader SourceExpression
inner_expression zero = wrong
inner_expression (suc k) = expression k

-- a select with at most so many levels below it
unfoldable pub select : ℕ → Reader SourceSelect
select k = do
  n ← name
  at ← index k (inner_of k)
  give (record { place = n.1; name = n.0; index = at })

-- a select one level down
unfoldable pub inner_select : ℕ → Reader SourceSelect
inner_select zero = wrong
inner_select (suc k) = select k

-- selects in braces
abbrev pub joined : ℕ → Reader SourceTarget
joined k = do
  place ← down 0 k
  selects ← separated classes.Comma (inner_select k)
  closing ← expect classes.RightBrace
  give (JoinedSelects place selects)

abbrev pub target_by : ℕ → Option Class → Reader SourceTarget
target_by k (Some classes.Name) = do
  s ← select k
  give (OneSelect s)
target_by k (Some classes.LeftBrace) = joined k
target_by k _ = wrong

-- a target with at most so many levels below it
unfoldable pub target : ℕ → Reader SourceTarget
target k = by_class (target_by k)

-- a target one level down
unfoldable pub inner_target : ℕ → Reader SourceTarget
inner_target zero = wrong
inner_target (suc k) = target k

-- a range whose bounds have at most so many levels below them
unfoldable pub range : ℕ → Reader SourceRange
range k = do
  place ← expect classes.LeftBracket
  high ← expression k
  colon ← expect classes.Colon
  low ← expression k
  closing ← expect classes.RightBracket
  give (record { place = place; high = high; low = low })

-- an expression in parentheses, without a node for them
abbrev pub parenthesised : ℕ → Reader SourceExpression
parenthesised k = do
  opening ← step
  e ← expression k
  closing ← expect classes.RightParen
  give e

abbrev pub delay_by : ℕ → Option Class → Reader SourceExpression
delay_by k (Some classes.Number) = literal
delay_by k (Some classes.Name) = do
  n ← name
  give (Selected n.1 n.0 NoIndex)
delay_by k (Some classes.LeftParen) = parenthesised k
delay_by k _ = wrong

-- a delay behind its `#`; an expression in parentheses has at most so many levels below its outermost one
unfoldable pub delay : ℕ → Reader SourceExpression
delay k = by_class (delay_by k)

-- a delay one level down
unfoldable pub inner_delay : ℕ → Reader SourceExpression
inner_delay zero = wrong
inner_delay (suc k) = delay k
