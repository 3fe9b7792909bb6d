-- Reading statements.
use Rattle.std.specs.Prelude.{ℕ, zero, suc, ◌+◌, ◌-◌, Bool, true, false, nat_lt, List, [], ◌∷◌, ◌++◌, Option, Some, None, if◌then◌else◌}
use Rattle.vf_base.specs.Base.{SourcePlace}
use Rattle.four_value.specs.declared.logic.Edge.{Edge}
use Rattle.four_value.specs.declared.logic.Edge.TheVariants.{Any, Pos, Neg}
use Rattle.four_value.specs.declared.operator.CaseKind.{CaseKind}
use Rattle.four_value.specs.declared.operator.CaseKind.TheVariants.{Exact, IgnoreZ, IgnoreXz}
use Rattle.v_tree.specs.Trees.{SourceExpression, SourceTarget, SourceEntry, SourceWaits, OnAnyRead, OnEntries, SourceStatement, NullStatement, BlockStatement, IfStatement, IfElseStatement}
use Rattle.v_tree.specs.Trees.{CaseStatement, ForStatement, WhileStatement, RepeatStatement, ForeverStatement, WaitStatement, EventStatement, DelayStatement, BlockingStatement, NonblockingStatement}
use Rattle.v_tree.specs.Trees.{IgnoredTask, FinishTask, SourceStatements, no_source_statements, more_source_statements, SourceCaseItems, no_source_items, labelled, otherwise, place_of_target}
use Rattle.v_tree.specs.Trees.{parts_of}
use Rattle.v_readers.specs.declared.class.Class.{Class}
use Rattle.v_readers.specs.declared.class.Class.TheVariants as classes
use Rattle.v_readers.specs.Classes.{class_of, same_class}
use Rattle.v_readers.specs.Reading.{Reader, ◌>>=◌, give, wrong, by_class, expect, step, ready, down, name, repeat}
use Rattle.v_readers.specs.Separated.{separated}
use Rattle.v_expr.specs.Parts.{inner_expression, inner_select, inner_target, inner_delay}
use Rattle.v_stmt.specs.Spelling.{is_entry_separator, name_entry, defaults_in, is_unfinished}

-- Parts of statements

abbrev pub label_by : Option Class → Reader (Unit {0})
label_by (Some classes.Colon) = do
  colon ← step
  label ← name
  give tt
label_by _ = give tt

-- a label, if there is one
unfoldable pub label : Reader (Unit {0})
label = by_class label_by

abbrev pub colon_by : Option Class → Reader (Unit {0})
colon_by (Some classes.Colon) = do
  colon ← step
  give tt
colon_by _ = give tt

-- a colon, if there is one
unfoldable pub colon : Reader (Unit {0})
colon = by_class colon_by

-- a select behind the edge of an entry
abbrev pub edged : ℕ → Edge → Reader SourceEntry
edged k edge = do
  select ← inner_select k
  give (record { edge = edge; select = select })

abbrev pub entry_by : ℕ → Option Class → Reader SourceEntry
entry_by k (Some classes.PosEdge) = do
  word ← step
  edged k Pos
entry_by k (Some classes.NegEdge) = do
  word ← step
  edged k Neg
entry_by k _ = edged k Any

-- an entry of an event control
unfoldable pub entry : ℕ → Reader SourceEntry
entry k = by_class (entry_by k)

-- whether a token between two entries comes next
abbrev pub separates : Option Class → Bool
separates None = false
separates (Some class) = is_entry_separator class

-- one more entry behind its separator
abbrev pub another_entry : ℕ → List SourceEntry → Reader (Option (List SourceEntry))
another_entry k entries = do
  separator ← step
  e ← entry k
  give (Some (entries ++ e ∷ []))

abbrev pub entries_by : ℕ → List SourceEntry → Option Class → Reader (Option (List SourceEntry))
entries_by k entries (Some classes.OrWord) = another_entry k entries
entries_by k entries (Some classes.Comma) = another_entry k entries
entries_by k entries _ = give None

abbrev pub entries_turn : ℕ → List SourceEntry → Reader (Option (List SourceEntry))
entries_turn k entries = by_class (entries_by k entries)

-- entries with separators between them
unfoldable pub entry_row : ℕ → Reader (List SourceEntry)
entry_row k = do
  first ← entry k
  repeat (entries_turn k) (first ∷ [])

-- the entries of an event control, and their end
unfoldable pub entries : ℕ → Reader SourceWaits
entries k = do
  all ← entry_row k
  closing ← expect classes.RightParen
  give (OnEntries all)

abbrev pub inside_by : ℕ → Option Class → Reader SourceWaits
inside_by k (Some classes.Star) = do
  star ← step
  closing ← expect classes.RightParen
  give OnAnyRead
inside_by k _ = entries k

abbrev pub waits_by : ℕ → Option Class → Reader SourceWaits
waits_by k (Some classes.Star) = do
  star ← step
  give OnAnyRead
waits_by k (Some classes.Name) = do
  n ← name
  give (OnEntries (name_entry n.0 n.1 ∷ []))
waits_by k (Some classes.LeftParen) = do
  opening ← step
  by_class (inside_by k)
waits_by k _ = wrong

-- what stands behind the `@` of an event control
unfoldable pub waits : ℕ → Reader SourceWaits
waits k = by_class (waits_by k)

abbrev pub assigned_delay_by : ℕ → Option Class → Reader (Option SourceExpression)
assigned_delay_by k (Some classes.Hash) = do
  hash ← step
  d ← inner_delay k
  give (Some d)
assigned_delay_by k _ = give None

-- the delay inside an assignment, if there is one
unfoldable pub assigned_delay : ℕ → Reader (Option SourceExpression)
assigned_delay k = by_class (assigned_delay_by k)

-- how many parentheses are open behind a token of this class, or none where it closes the outermost one
abbrev pub depth_behind : ℕ → Class → Option ℕ
depth_behind depth class =
    if same_class classes.LeftParen class then Some (depth + 1)
    else (if same_class classes.RightParen class then (if nat_lt 0 depth then Some (depth - 1) else None)
    else Some depth)

-- any tokens up to the parenthesis that closes the outermost one of those that are left open, so many but one
unfoldable pub skipped : ℕ → Reader (Unit {0})
skipped depth [] = wrong []
skipped depth (t ∷ ts) =
    if same_class classes.LeftParen (class_of t.kind) then skipped (depth + 1) ts
    else (if same_class classes.RightParen (class_of t.kind) then (if nat_lt 0 depth then skipped (depth - 1) ts else give tt ts)
    else skipped depth ts)

-- an opening parenthesis, and any tokens up to the one that closes it
abbrev pub parenthesised : Reader (Unit {0})
parenthesised = step >>= λ opening. skipped 0

abbrev pub arguments_by : Option Class → Reader (Unit {0})
arguments_by (Some classes.LeftParen) = parenthesised
arguments_by _ = give tt

-- what stands behind the name of a system task
unfoldable pub arguments : Reader (Unit {0})
arguments = by_class arguments_by

-- the place of a system task whose name is of this class
unfoldable pub task : Class → Reader SourcePlace
task class = do
  place ← expect class
  nothing ← arguments
  closing ← expect classes.Semicolon
  give place

-- Statements

-- the delay and the value behind the sign of an assignment
unfoldable pub assigned : ℕ → Reader (Option SourceExpression × SourceExpression)
assigned k = do
  delay ← assigned_delay k
  value ← inner_expression k
  closing ← expect classes.Semicolon
  give (delay, value)

abbrev pub assignment_by : ℕ → SourceTarget → Option Class → Reader SourceStatement
assignment_by k t (Some classes.Assign) = do
  sign ← step
  x ← assigned k
  give (BlockingStatement (place_of_target t) t x.0 x.1)
assignment_by k t (Some classes.LessEqual) = do
  sign ← step
  x ← assigned k
  give (NonblockingStatement (place_of_target t) t x.0 x.1)
assignment_by k t _ = wrong

-- an assignment, blocking or nonblocking
unfoldable pub assignment : ℕ → Reader SourceStatement
assignment k = do
  level ← ready 0 k
  t ← inner_target k
  by_class (assignment_by k t)

-- one more statement one level down
abbrev pub another : ℕ → Reader SourceStatement → List SourceStatement → Reader (Option (List SourceStatement))
another k below body = do
  level ← ready 0 k
  s ← below
  give (Some (body ++ s ∷ []))

-- whether a statement begins with a token of this class
abbrev pub begins_statement : Class → Bool
begins_statement classes.Semicolon = true
begins_statement classes.Begin = true
begins_statement classes.If = true
begins_statement classes.Case = true
begins_statement classes.CaseZ = true
begins_statement classes.CaseX = true
begins_statement classes.For = true
begins_statement classes.While = true
begins_statement classes.Repeat = true
begins_statement classes.Forever = true
begins_statement classes.Wait = true
begins_statement classes.At = true
begins_statement classes.Hash = true
begins_statement classes.Name = true
begins_statement classes.LeftBrace = true
begins_statement classes.IgnoredTask = true
begins_statement classes.FinishTask = true
begins_statement _ = false

abbrev pub begins : Option Class → Bool
begins None = false
begins (Some class) = begins_statement class

abbrev pub body_by : ℕ → Reader SourceStatement → List SourceStatement → Option Class → Reader (Option (List SourceStatement))
body_by k below body class = if begins class then another k below body else give None

abbrev pub body_turn : ℕ → Reader SourceStatement → List SourceStatement → Reader (Option (List SourceStatement))
body_turn k below body = by_class (body_by k below body)

-- the statements as they stand in a tree
abbrev pub statements_list : List SourceStatement → SourceStatements
statements_list [] = no_source_statements
statements_list (s ∷ body) = more_source_statements s (statements_list body)

-- the statements of a block, behind its label
unfoldable pub block_body : ℕ → Reader SourceStatement → Reader (List SourceStatement)
block_body k below = do
  nothing ← label
  repeat (body_turn k below) []

unfoldable pub block : ℕ → Reader SourceStatement → Reader SourceStatement
block k below = do
  place ← step
  body ← block_body k below
  closing ← expect classes.End
  give (BlockStatement place (statements_list body))

-- an expression in the parentheses of a statement
unfoldable pub condition : ℕ → Reader SourceExpression
condition k = do
  opening ← expect classes.LeftParen
  e ← inner_expression k
  closing ← expect classes.RightParen
  give e

abbrev pub second_branch : Reader SourceStatement → SourcePlace → SourceExpression → SourceStatement → Reader SourceStatement
second_branch below place test first = do
  word ← step
  second ← below
  give (IfElseStatement place test first second)

abbrev pub else_by : Reader SourceStatement → SourcePlace → SourceExpression → SourceStatement → Option Class → Reader SourceStatement
else_by below place test first (Some classes.Else) =
    if is_unfinished first then give (IfStatement place test first) else second_branch below place test first
else_by below place test first _ = give (IfStatement place test first)

unfoldable pub conditional : ℕ → Reader SourceStatement → Reader SourceStatement
conditional k below = do
  place ← down 0 k
  test ← condition k
  first ← below
  by_class (else_by below place test first)

-- how a statement is made of its condition and its body
abbrev pub Looping : Type 0
Looping = SourcePlace → SourceExpression → SourceStatement → SourceStatement

-- a statement with a condition and a body
unfoldable pub looped : ℕ → Reader SourceStatement → Looping → Reader SourceStatement
looped k below made = do
  place ← down 0 k
  test ← condition k
  body ← below
  give (made place test body)

unfoldable pub forever : ℕ → Reader SourceStatement → Reader SourceStatement
forever k below = do
  place ← down 0 k
  body ← below
  give (ForeverStatement place body)

-- what is assigned in the head of a `for`, up to its sign's value
unfoldable pub head_assignment : ℕ → Reader (SourceTarget × SourceExpression)
head_assignment k = do
  t ← inner_target k
  sign ← expect classes.Assign
  value ← inner_expression k
  give (t, value)

unfoldable pub for_loop : ℕ → Reader SourceStatement → Reader SourceStatement
for_loop k below = do
  place ← down 0 k
  opening ← expect classes.LeftParen
  first ← head_assignment k
  first_end ← expect classes.Semicolon
  test ← inner_expression k
  test_end ← expect classes.Semicolon
  next ← head_assignment k
  closing ← expect classes.RightParen
  body ← below
  give (ForStatement place first.0 first.1 test next.0 next.1 body)

unfoldable pub event : ℕ → Reader SourceStatement → Reader SourceStatement
event k below = do
  place ← down 0 k
  w ← waits k
  body ← below
  give (EventStatement place w body)

unfoldable pub delayed : ℕ → Reader SourceStatement → Reader SourceStatement
delayed k below = do
  place ← down 0 k
  d ← inner_delay k
  body ← below
  give (DelayStatement place d body)

-- the labels of an item of a case, if it isn't the default, and its statement
abbrev pub CasePart : Type 0
CasePart = Option (List SourceExpression) × SourceStatement

-- an item of a case before others
abbrev pub item_before : Option (List SourceExpression) → SourceStatement → SourceCaseItems → SourceCaseItems
item_before (Some labels) s rest = labelled (parts_of labels) s rest
item_before None s rest = otherwise s rest

-- the items of a case as they stand in a tree
abbrev pub items_list : List CasePart → SourceCaseItems
items_list [] = no_source_items
items_list (part ∷ parts) = item_before part.0 part.1 (items_list parts)

-- whether a default is among the items
abbrev pub has_default : List CasePart → Bool
has_default parts = nat_lt 0 (defaults_in (items_list parts))

-- the default of a case
unfoldable pub default_item : Reader SourceStatement → List CasePart → Reader (List CasePart)
default_item below parts = do
  word ← step
  nothing ← colon
  s ← below
  give (parts ++ (None, s) ∷ [])

-- an item of a case with labels
unfoldable pub labelled_item : ℕ → Reader SourceStatement → List CasePart → Reader (List CasePart)
labelled_item k below parts = do
  labels ← separated classes.Comma (inner_expression k)
  sign ← expect classes.Colon
  s ← below
  give (parts ++ (Some labels, s) ∷ [])

abbrev pub item_by : ℕ → Reader SourceStatement → List CasePart → Option Class → Reader (List CasePart)
item_by k below parts (Some classes.Default) = if has_default parts then wrong else default_item below parts
item_by k below parts _ = labelled_item k below parts

-- one more item of a case behind others
unfoldable pub item : ℕ → Reader SourceStatement → List CasePart → Reader (List CasePart)
item k below parts = by_class (item_by k below parts)

abbrev pub items_by : ℕ → Reader SourceStatement → List CasePart → Option Class → Reader (Option (List CasePart))
items_by k below parts (Some classes.EndCase) = give None
items_by k below parts _ = item k below parts >>= λ more. give (Some more)

abbrev pub items_turn : ℕ → Reader SourceStatement → List CasePart → Reader (Option (List CasePart))
items_turn k below parts = by_class (items_by k below parts)

-- the items of a case, one at least
unfoldable pub items : ℕ → Reader SourceStatement → Reader (List CasePart)
items k below = do
  first ← item k below []
  repeat (items_turn k below) first

unfoldable pub case : ℕ → Reader SourceStatement → CaseKind → Reader SourceStatement
case k below kind = do
  place ← down 0 k
  value ← condition k
  all ← items k below
  closing ← expect classes.EndCase
  give (CaseStatement place kind value (items_list all))

-- a statement that has no statement in it
abbrev pub simple_by : ℕ → Option Class → Reader SourceStatement
simple_by k (Some classes.Semicolon) = do
  place ← step
  give (NullStatement place)
simple_by k (Some classes.Name) = assignment k
simple_by k (Some classes.LeftBrace) = assignment k
simple_by k (Some classes.IgnoredTask) = task classes.IgnoredTask >>= λ place. give (IgnoredTask place)
simple_by k (Some classes.FinishTask) = task classes.FinishTask >>= λ place. give (FinishTask place)
simple_by k _ = wrong

abbrev pub statement_by : ℕ → Reader SourceStatement → Option Class → Reader SourceStatement
statement_by k below (Some classes.Begin) = block k below
statement_by k below (Some classes.If) = conditional k below
statement_by k below (Some classes.Case) = case k below Exact
statement_by k below (Some classes.CaseZ) = case k below IgnoreZ
statement_by k below (Some classes.CaseX) = case k below IgnoreXz
statement_by k below (Some classes.For) = for_loop k below
statement_by k below (Some classes.While) = looped k below WhileStatement
statement_by k below (Some classes.Repeat) = looped k below RepeatStatement
statement_by k below (Some classes.Forever) = forever k below
statement_by k below (Some classes.Wait) = looped k below WaitStatement
statement_by k below (Some classes.At) = event k below
statement_by k below (Some classes.Hash) = delayed k below
statement_by k below class = simple_by k class

-- a statement one level down
unfoldable pub below_of : ℕ → Reader SourceStatement
below_of zero = wrong
below_of (suc k) = by_class (statement_by k (below_of k))

-- a statement with at most so many levels below it
unfoldable pub statement : ℕ → Reader SourceStatement
statement k = by_class (statement_by k (below_of k))
