-- How many levels stand below a statement: each expression, target, entry, branch and inner statement is one level below the statement that it
-- stands in.
use Rattle.std.specs.Prelude.{ℕ, suc, max, List, [], ◌∷◌, Option, Some, None}
use Rattle.v_tree.specs.Trees.{SourceExpression, SourceEntry, SourceWaits, OnAnyRead, OnEntries, SourceStatement, NullStatement, BlockStatement, IfStatement, IfElseStatement, CaseStatement}
use Rattle.v_tree.specs.Trees.{ForStatement, WhileStatement, RepeatStatement, ForeverStatement, WaitStatement, EventStatement, DelayStatement, BlockingStatement, NonblockingStatement, IgnoredTask}
use Rattle.v_tree.specs.Trees.{FinishTask, SourceStatements, no_source_statements, more_source_statements, SourceCaseItems, no_source_items, labelled, otherwise}
use Rattle.v_expr.specs.Heights.{height_of, heights_of, select_height, target_height}

-- the greatest height of some entries
abbrev pub entries_height : List SourceEntry → ℕ
entries_height [] = 0
entries_height (e ∷ es) = max (select_height e.select) (entries_height es)

abbrev pub waits_height : SourceWaits → ℕ
waits_height OnAnyRead = 0
waits_height (OnEntries entries) = entries_height entries

-- of a delay that may be there
abbrev pub delay_height : Option SourceExpression → ℕ
delay_height None = 0
delay_height (Some delay) = height_of delay

abbrev mutual
  pub statement_height : SourceStatement → ℕ
  statement_height (NullStatement place) = 0
  statement_height (BlockStatement place statements) = body_height statements
  statement_height (IfStatement place condition first) = suc (max (height_of condition) (statement_height first))
  statement_height (IfElseStatement place condition first second) =
      suc (max (height_of condition) (max (statement_height first) (statement_height second)))
  statement_height (CaseStatement place kind value items) = suc (max (height_of value) (items_height items))
  statement_height (ForStatement place first_target first condition next_target next body) =
      suc (max (max (target_height first_target) (height_of first))
      (max (height_of condition) (max (max (target_height next_target) (height_of next)) (statement_height body))))
  statement_height (WhileStatement place condition body) = suc (max (height_of condition) (statement_height body))
  statement_height (RepeatStatement place count body) = suc (max (height_of count) (statement_height body))
  statement_height (ForeverStatement place body) = suc (statement_height body)
  statement_height (WaitStatement place condition body) = suc (max (height_of condition) (statement_height body))
  statement_height (EventStatement place waits body) = suc (max (waits_height waits) (statement_height body))
  statement_height (DelayStatement place delay body) = suc (max (height_of delay) (statement_height body))
  statement_height (BlockingStatement place target delay value) = suc (max (target_height target) (max (delay_height delay) (height_of value)))
  statement_height (NonblockingStatement place target delay value) = suc (max (target_height target) (max (delay_height delay) (height_of value)))
  statement_height (IgnoredTask place) = 0
  statement_height (FinishTask place) = 0

  -- of what the statements stand in: each is one level below it
  pub body_height : SourceStatements → ℕ
  body_height no_source_statements = 0
  body_height (more_source_statements first rest) = max (suc (statement_height first)) (body_height rest)

  -- the greatest height of the labels and the statements of a case
  pub items_height : SourceCaseItems → ℕ
  items_height no_source_items = 0
  items_height (labelled labels statement rest) = max (max (heights_of labels) (statement_height statement)) (items_height rest)
  items_height (otherwise statement rest) = max (statement_height statement) (items_height rest)
