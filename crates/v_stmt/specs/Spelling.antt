-- How statements are spelled, by recursion on their trees, with their places (IEEE 1364-2001, annex A.6).
use Rattle.std.specs.Prelude.{◌≡◌, ℕ, suc, ◌+◌, ◌-◌, ◌≤◌, Bool, true, false, nat_lt, ◌==◌, List, [], ◌∷◌, ◌++◌, Option, Some, None, ◌⊎◌, if◌then◌else◌}
use Rattle.vf_base.specs.Base.{SourcePlace}
use Rattle.four_value.specs.declared.logic.Edge.{Edge}
use Rattle.four_value.specs.declared.logic.Edge.TheVariants.{Any, Pos, Neg}
use Rattle.four_value.specs.declared.operator.CaseKind.{CaseKind}
use Rattle.four_value.specs.declared.operator.CaseKind.TheVariants.{Exact, IgnoreZ, IgnoreXz}
use Rattle.v_tree.specs.Tokens.{SourceToken}
use Rattle.v_tree.specs.Trees.{Identifier, SourceExpression, NoIndex, SourceEntry, SourceWaits, OnAnyRead, OnEntries, SourceStatement, NullStatement, BlockStatement, IfStatement, IfElseStatement}
use Rattle.v_tree.specs.Trees.{CaseStatement, ForStatement, WhileStatement, RepeatStatement, ForeverStatement, WaitStatement, EventStatement, DelayStatement, BlockingStatement, NonblockingStatement}
use Rattle.v_tree.specs.Trees.{IgnoredTask, FinishTask, SourceStatements, no_source_statements, more_source_statements, SourceCaseItems, no_source_items, labelled, otherwise, place_of_target}
use Rattle.v_readers.specs.declared.class.Class.{Class}
use Rattle.v_readers.specs.declared.class.Class.TheVariants as classes
use Rattle.v_readers.specs.Classes.{class_of, same_class, token_of, name_token, IsName}
use Rattle.v_readers.specs.Reading.{place_of}
use Rattle.v_expr.specs.Spelling.{SpellsExpression, SpellsParts, SpellsSelect, SpellsTarget, SpellsDelay}

-- Parts of statements

-- these tokens spell the label of a block, which is not kept, or nothing
abbrev pub SpellsLabel : List SourceToken → Type 0
SpellsLabel ts =
    (ts ≡ [])
    ⊎ ((colon_place name_place : SourcePlace) × (name : Identifier) × IsName name
    × (ts ≡ token_of classes.Colon colon_place ∷ name_token name name_place ∷ []))

-- these tokens spell a colon, or nothing
abbrev pub SpellsColon : List SourceToken → Type 0
SpellsColon ts = (ts ≡ []) ⊎ ((place : SourcePlace) × (ts ≡ token_of classes.Colon place ∷ []))

-- these tokens spell which changes an entry waits for
abbrev pub SpellsEdge : Edge → List SourceToken → Type 0
SpellsEdge Any ts = ts ≡ []
SpellsEdge Pos ts = (place : SourcePlace) × (ts ≡ token_of classes.PosEdge place ∷ [])
SpellsEdge Neg ts = (place : SourcePlace) × (ts ≡ token_of classes.NegEdge place ∷ [])

-- these tokens spell an entry of an event control
abbrev pub SpellsEntry : SourceEntry → List SourceToken → Type 0
SpellsEntry e ts = (before after : List SourceToken) × SpellsEdge e.edge before × SpellsSelect e.select after × (ts ≡ before ++ after)

-- `or` and a comma stand between entries
abbrev pub is_entry_separator : Class → Bool
is_entry_separator classes.OrWord = true
is_entry_separator classes.Comma = true
is_entry_separator _ = false

-- these tokens spell the entries, a separator before each
abbrev pub SpellsMoreEntries : List SourceEntry → List SourceToken → Type 0
SpellsMoreEntries [] ts = ts ≡ []
SpellsMoreEntries (e ∷ es) ts =
    (separator : Class) × (is_entry_separator separator ≡ true) × (place : SourcePlace) × (before after : List SourceToken)
    × SpellsEntry e before × SpellsMoreEntries es after × (ts ≡ token_of separator place ∷ (before ++ after))

-- these tokens spell the entries, one at least, with separators between them
abbrev pub SpellsEntries : List SourceEntry → List SourceToken → Type 0
SpellsEntries [] ts = ⊥
SpellsEntries (e ∷ es) ts = (before after : List SourceToken) × SpellsEntry e before × SpellsMoreEntries es after × (ts ≡ before ++ after)

-- an entry that waits for any change of a whole name
abbrev pub name_entry : Identifier → SourcePlace → SourceEntry
name_entry name place = record { edge = Any; select = record { place = place; name = name; index = NoIndex } }

-- these tokens spell what stands behind the `@` of an event control
abbrev pub SpellsWaits : SourceWaits → List SourceToken → Type 0
SpellsWaits OnAnyRead ts =
    ((place : SourcePlace) × (ts ≡ token_of classes.Star place ∷ []))
    ⊎ ((open_place place close_place : SourcePlace)
    × (ts ≡ token_of classes.LeftParen open_place ∷ token_of classes.Star place ∷ token_of classes.RightParen close_place ∷ []))
SpellsWaits (OnEntries entries) ts =
    ((name : Identifier) × (place : SourcePlace) × IsName name × (entries ≡ name_entry name place ∷ []) × (ts ≡ name_token name place ∷ []))
    ⊎ ((open_place close_place : SourcePlace) × (inside : List SourceToken) × SpellsEntries entries inside
    × (ts ≡ token_of classes.LeftParen open_place ∷ (inside ++ token_of classes.RightParen close_place ∷ [])))

-- these tokens spell the delay inside an assignment, or nothing
abbrev pub SpellsInnerDelay : Option SourceExpression → List SourceToken → Type 0
SpellsInnerDelay None ts = ts ≡ []
SpellsInnerDelay (Some delay) ts = (hash_place : SourcePlace) × (after : List SourceToken) × SpellsDelay delay after × (ts ≡ token_of classes.Hash hash_place ∷ after)

-- whether parentheses are balanced in tokens behind so many open ones
abbrev pub is_balanced : ℕ → List SourceToken → Bool
is_balanced depth [] = depth == 0
is_balanced depth (t ∷ ts) =
    if same_class classes.LeftParen (class_of t.kind) then is_balanced (depth + 1) ts
    else (if same_class classes.RightParen (class_of t.kind) then (if nat_lt 0 depth then is_balanced (depth - 1) ts else false)
    else is_balanced depth ts)

-- these tokens spell what stands behind the name of a system task, which is not kept: any tokens in balanced parentheses, or nothing
abbrev pub SpellsArguments : List SourceToken → Type 0
SpellsArguments ts =
    (ts ≡ [])
    ⊎ ((open_place close_place : SourcePlace) × (inside : List SourceToken) × (is_balanced 0 inside ≡ true)
    × (ts ≡ token_of classes.LeftParen open_place ∷ (inside ++ token_of classes.RightParen close_place ∷ [])))

-- these tokens spell a system task whose name is of this class
abbrev pub SpellsTask : Class → SourcePlace → List SourceToken → Type 0
SpellsTask class place ts =
    (name : SourceToken) × (class_of name.kind ≡ class) × (place_of name ≡ place) × (end_place : SourcePlace) × (arguments : List SourceToken)
    × SpellsArguments arguments × (ts ≡ name ∷ (arguments ++ token_of classes.Semicolon end_place ∷ []))

-- the word of a case
abbrev pub case_word : CaseKind → Class
case_word Exact = classes.Case
case_word IgnoreZ = classes.CaseZ
case_word IgnoreXz = classes.CaseX

-- how many defaults there are among the items of a case
abbrev pub defaults_in : SourceCaseItems → ℕ
defaults_in no_source_items = 0
defaults_in (labelled labels statement rest) = defaults_in rest
defaults_in (otherwise statement rest) = suc (defaults_in rest)

-- how many items a case has
abbrev pub items_in : SourceCaseItems → ℕ
items_in no_source_items = 0
items_in (labelled labels statement rest) = suc (items_in rest)
items_in (otherwise statement rest) = suc (items_in rest)

-- whether an `else` behind the statement would belong to an `if` within it
abbrev pub is_unfinished : SourceStatement → Bool
is_unfinished (IfStatement place condition first) = true
is_unfinished (IfElseStatement place condition first second) = is_unfinished second
is_unfinished (ForStatement place first_target first condition next_target next body) = is_unfinished body
is_unfinished (WhileStatement place condition body) = is_unfinished body
is_unfinished (RepeatStatement place count body) = is_unfinished body
is_unfinished (ForeverStatement place body) = is_unfinished body
is_unfinished (WaitStatement place condition body) = is_unfinished body
is_unfinished (EventStatement place waits body) = is_unfinished body
is_unfinished (DelayStatement place delay body) = is_unfinished body
is_unfinished _ = false

-- Statements

abbrev mutual
  -- These tokens spell the statement. An `else` belongs to the nearest `if`, and a case has an item at least and one default at most.
  pub SpellsStatement : SourceStatement → List SourceToken → Type 0
  SpellsStatement (NullStatement place) ts = ts ≡ token_of classes.Semicolon place ∷ []
  SpellsStatement (BlockStatement place statements) ts =
      (end_place : SourcePlace) × (label inside : List SourceToken) × SpellsLabel label × SpellsBody statements inside
      × (ts ≡ token_of classes.Begin place ∷ (label ++ (inside ++ token_of classes.End end_place ∷ [])))
  SpellsStatement (IfStatement place condition first) ts =
      (open_place close_place : SourcePlace) × (inside after : List SourceToken) × SpellsExpression condition inside × SpellsStatement first after
      × (ts ≡ token_of classes.If place ∷ token_of classes.LeftParen open_place ∷ (inside ++ token_of classes.RightParen close_place ∷ after))
  SpellsStatement (IfElseStatement place condition first second) ts =
      (is_unfinished first ≡ false) × (open_place close_place else_place : SourcePlace) × (inside between after : List SourceToken)
      × SpellsExpression condition inside × SpellsStatement first between × SpellsStatement second after
      × (ts ≡ token_of classes.If place ∷ token_of classes.LeftParen open_place
      ∷ (inside ++ token_of classes.RightParen close_place ∷ (between ++ token_of classes.Else else_place ∷ after)))
  SpellsStatement (CaseStatement place kind value items) ts =
      (1 ≤ items_in items) × (defaults_in items ≤ 1)
      × (open_place close_place end_place : SourcePlace) × (inside between : List SourceToken) × SpellsExpression value inside × SpellsItems items between
      × (ts ≡ token_of (case_word kind) place ∷ token_of classes.LeftParen open_place
      ∷ (inside ++ token_of classes.RightParen close_place ∷ (between ++ token_of classes.EndCase end_place ∷ [])))
  SpellsStatement (ForStatement place first_target first condition next_target next body) ts =
      (open_place first_sign first_end condition_end next_sign close_place : SourcePlace)
      × (target_tokens first_tokens condition_tokens next_target_tokens next_tokens after : List SourceToken)
      × SpellsTarget first_target target_tokens × SpellsExpression first first_tokens × SpellsExpression condition condition_tokens
      × SpellsTarget next_target next_target_tokens × SpellsExpression next next_tokens × SpellsStatement body after
      × (ts ≡ token_of classes.For place ∷ token_of classes.LeftParen open_place
      ∷ (target_tokens ++ token_of classes.Assign first_sign
      ∷ (first_tokens ++ token_of classes.Semicolon first_end
      ∷ (condition_tokens ++ token_of classes.Semicolon condition_end
      ∷ (next_target_tokens ++ token_of classes.Assign next_sign
      ∷ (next_tokens ++ token_of classes.RightParen close_place ∷ after))))))
  SpellsStatement (WhileStatement place condition body) ts =
      (open_place close_place : SourcePlace) × (inside after : List SourceToken) × SpellsExpression condition inside × SpellsStatement body after
      × (ts ≡ token_of classes.While place ∷ token_of classes.LeftParen open_place ∷ (inside ++ token_of classes.RightParen close_place ∷ after))
  SpellsStatement (RepeatStatement place count body) ts =
      (open_place close_place : SourcePlace) × (inside after : List SourceToken) × SpellsExpression count inside × SpellsStatement body after
      × (ts ≡ token_of classes.Repeat place ∷ token_of classes.LeftParen open_place ∷ (inside ++ token_of classes.RightParen close_place ∷ after))
  SpellsStatement (ForeverStatement place body) ts =
      (after : List SourceToken) × SpellsStatement body after × (ts ≡ token_of classes.Forever place ∷ after)
  SpellsStatement (WaitStatement place condition body) ts =
      (open_place close_place : SourcePlace) × (inside after : List SourceToken) × SpellsExpression condition inside × SpellsStatement body after
      × (ts ≡ token_of classes.Wait place ∷ token_of classes.LeftParen open_place ∷ (inside ++ token_of classes.RightParen close_place ∷ after))
  SpellsStatement (EventStatement place waits body) ts =
      (before after : List SourceToken) × SpellsWaits waits before × SpellsStatement body after × (ts ≡ token_of classes.At place ∷ (before ++ after))
  SpellsStatement (DelayStatement place delay body) ts =
      (before after : List SourceToken) × SpellsDelay delay before × SpellsStatement body after × (ts ≡ token_of classes.Hash place ∷ (before ++ after))
  SpellsStatement (BlockingStatement place target delay value) ts =
      (place_of_target target ≡ place) × (sign_place end_place : SourcePlace) × (before between after : List SourceToken)
      × SpellsTarget target before × SpellsInnerDelay delay between × SpellsExpression value after
      × (ts ≡ before ++ token_of classes.Assign sign_place ∷ (between ++ (after ++ token_of classes.Semicolon end_place ∷ [])))
  SpellsStatement (NonblockingStatement place target delay value) ts =
      (place_of_target target ≡ place) × (sign_place end_place : SourcePlace) × (before between after : List SourceToken)
      × SpellsTarget target before × SpellsInnerDelay delay between × SpellsExpression value after
      × (ts ≡ before ++ token_of classes.LessEqual sign_place ∷ (between ++ (after ++ token_of classes.Semicolon end_place ∷ [])))
  SpellsStatement (IgnoredTask place) ts = SpellsTask classes.IgnoredTask place ts
  SpellsStatement (FinishTask place) ts = SpellsTask classes.FinishTask place ts

  -- these tokens spell the statements one behind the other
  pub SpellsBody : SourceStatements → List SourceToken → Type 0
  SpellsBody no_source_statements ts = ts ≡ []
  SpellsBody (more_source_statements first rest) ts =
      (before after : List SourceToken) × SpellsStatement first before × SpellsBody rest after × (ts ≡ before ++ after)

  -- these tokens spell the items of a case one behind the other
  pub SpellsItems : SourceCaseItems → List SourceToken → Type 0
  SpellsItems no_source_items ts = ts ≡ []
  SpellsItems (labelled labels statement rest) ts =
      (colon_place : SourcePlace) × (before between after : List SourceToken) × SpellsParts labels before × SpellsStatement statement between × SpellsItems rest after
      × (ts ≡ before ++ token_of classes.Colon colon_place ∷ (between ++ after))
  SpellsItems (otherwise statement rest) ts =
      (default_place : SourcePlace) × (colon between after : List SourceToken) × SpellsColon colon × SpellsStatement statement between × SpellsItems rest after
      × (ts ≡ token_of classes.Default default_place ∷ (colon ++ (between ++ after)))
