-- What a statement of the text reads in the order of the text is sized alone, its targets are sized, its delays, its bounds and its counts end at 2 ^ 32, and what it waits for is no wider
-- than a vector may be (IEEE 1364-2001, clause 9; clause 9.7 for delays; clause 9.7.2 for events; clause 9.7.5 for what `@*` reads).
use Rattle.std.specs.Prelude.{ℕ, ◌<◌, ◌≤◌, List, length, Option, Some, None, option_map}
use Rattle.std.specs.declared.alloc.Global.{Global}
use Rattle.std.specs.declared.boxed.Box.{Box}
use Rattle.vf_base.specs.Lists.{AllHold}
use Rattle.v_design.specs.Sized.{most_bits, IsSizedAlone, IsSizedTarget, IsDelay, IsDelayIf}
use Rattle.v_tree.specs.Trees.{SourceExpression, SourceExpressions, no_parts, more_parts, SourceTarget, SourceStatement, NullStatement, BlockStatement, IfStatement, IfElseStatement, CaseStatement}
use Rattle.v_tree.specs.Trees.{ForStatement, WhileStatement, RepeatStatement, ForeverStatement, WaitStatement, EventStatement, DelayStatement, BlockingStatement, NonblockingStatement, IgnoredTask}
use Rattle.v_tree.specs.Trees.{FinishTask, SourceStatements, no_source_statements, more_source_statements, SourceCaseItems, no_source_items, labelled, otherwise, SourceSelect, SourceEntry}
use Rattle.v_tree.specs.Trees.{SourceWaits, OnAnyRead, OnEntries}
use Rattle.v_tree.specs.Views.{expressions_of, statement_of}
use Rattle.v_tree.specs.declared.statement.Stmt.{Stmt}
use Rattle.v_tree.specs.declared.statement.CaseItem.{CaseItem}
use Rattle.v_tree.specs.declared.statement.CaseItem.TheVariants.{Labelled, Default}
use Rattle.v_names.specs.Scopes.{Scope}
use Rattle.v_width.specs.Targets.{places_of_select}
use Rattle.select_bits.specs.Runs.{TakesRun}
use Rattle.v_elab.specs.Statements as plain
use Rattle.v_elab.specs.Statements.{alone_expression, targets_over, delay_number, delay_or_zero}
use Rattle.object_expr.specs.Narrow.{IsNarrow, IsNarrowTarget}
use Rattle.object_statements.specs.Meanings.{IsMeaning}
use Rattle.object_statements.specs.declared.meaning.Meaning as code

-- an expression by itself
abbrev pub IsSizedRead : plain.Meaning → SourceExpression → Type 0
IsSizedRead meaning e = IsSizedAlone (alone_expression meaning e) × IsNarrow meaning.scope e

-- the targets of an assignment
abbrev pub AreSizedTargets : plain.Meaning → SourceTarget → Type 0
AreSizedTargets meaning target = AllHold IsSizedTarget (targets_over meaning target) × IsNarrowTarget meaning.scope target

abbrev pub AreSizedLabels : plain.Meaning → SourceExpressions → Type 0
AreSizedLabels meaning no_parts = Unit {0}
AreSizedLabels meaning (more_parts label rest) = IsSizedRead meaning label × AreSizedLabels meaning rest

-- the targets of an assignment, and its value
abbrev pub IsSizedWrite : plain.Meaning → SourceTarget → SourceExpression → Type 0
IsSizedWrite meaning target value = AreSizedTargets meaning target × IsSizedRead meaning value

-- What is waited for

-- a place of a vector, or none
abbrev pub IsVectorPlace : Option ℕ → Type 0
IsVectorPlace None = Unit {0}
IsVectorPlace (Some place) = place < most_bits

-- no more places than a vector may have
abbrev pub AreFewPlaces : List (Option ℕ) → Type 0
AreFewPlaces places = (length places ≤ most_bits) × AllHold IsVectorPlace places

-- a select that takes a run of few places
abbrev pub IsNarrowSelect : Scope → SourceSelect → Type 0
IsNarrowSelect scope select = TakesRun scope select × AreFewPlaces (places_of_select scope select)

abbrev pub AreNarrowEntries : Scope → List SourceEntry → Type 0
AreNarrowEntries scope entries = AllHold (λ (e : SourceEntry). IsNarrowSelect scope e.select) entries

abbrev pub AreNarrowWaits : Scope → SourceWaits → Type 0
AreNarrowWaits scope OnAnyRead = Unit {0}
AreNarrowWaits scope (OnEntries entries) = AreNarrowEntries scope entries

-- Statements

abbrev mutual
  pub IsSizedText : plain.Meaning → SourceStatement → Type 0
  IsSizedText meaning (NullStatement place) = Unit {0}
  IsSizedText meaning (BlockStatement place statements) = AreSizedTexts meaning statements
  IsSizedText meaning (IfStatement place condition first) = IsSizedRead meaning condition × IsSizedText meaning first
  IsSizedText meaning (IfElseStatement place condition first second) = IsSizedRead meaning condition × IsSizedText meaning first × IsSizedText meaning second
  IsSizedText meaning (CaseStatement place kind value items) = IsSizedRead meaning value × AreSizedItemTexts meaning items
  IsSizedText meaning (ForStatement place first_target first condition next_target next body) =
      IsSizedWrite meaning first_target first × IsSizedRead meaning condition × IsSizedWrite meaning next_target next × IsSizedText meaning body
  IsSizedText meaning (WhileStatement place condition body) = IsSizedRead meaning condition × IsSizedText meaning body
  IsSizedText meaning (RepeatStatement place count body) = IsSizedRead meaning count × IsSizedText meaning body
  IsSizedText meaning (ForeverStatement place body) = IsSizedText meaning body
  IsSizedText meaning (WaitStatement place condition body) = IsNarrow meaning.scope condition × IsSizedText meaning body
  IsSizedText meaning (EventStatement place waits body) = AreNarrowWaits meaning.scope waits × IsSizedText meaning body
  IsSizedText meaning (DelayStatement place delay body) = IsDelay (delay_number meaning delay) × IsSizedText meaning body
  IsSizedText meaning (BlockingStatement place target delay value) = IsDelayIf (option_map (delay_number meaning) delay) × IsSizedWrite meaning target value
  IsSizedText meaning (NonblockingStatement place target delay value) = IsDelay (delay_or_zero meaning delay) × IsSizedWrite meaning target value
  IsSizedText meaning (IgnoredTask place) = Unit {0}
  IsSizedText meaning (FinishTask place) = Unit {0}

  pub AreSizedTexts : plain.Meaning → SourceStatements → Type 0
  AreSizedTexts meaning no_source_statements = Unit {0}
  AreSizedTexts meaning (more_source_statements first rest) = IsSizedText meaning first × AreSizedTexts meaning rest

  pub AreSizedItemTexts : plain.Meaning → SourceCaseItems → Type 0
  AreSizedItemTexts meaning no_source_items = Unit {0}
  AreSizedItemTexts meaning (labelled labels statement rest) = AreSizedLabels meaning labels × IsSizedText meaning statement × AreSizedItemTexts meaning rest
  AreSizedItemTexts meaning (otherwise statement rest) = IsSizedText meaning statement × AreSizedItemTexts meaning rest

-- an item of a `case` by itself
abbrev pub IsSizedItemText : plain.Meaning → CaseItem → Type 0
IsSizedItemText meaning (Labelled labels statement) = AreSizedLabels meaning (expressions_of labels) × IsSizedText meaning (statement_of statement)
IsSizedItemText meaning (Default statement) = IsSizedText meaning (statement_of statement)

-- the other branch of an `if`, where it has one
abbrev pub IsSizedSecond : plain.Meaning → Option (Box Stmt Global) → Type 0
IsSizedSecond meaning None = Unit {0}
IsSizedSecond meaning (Some second) = IsSizedText meaning (statement_of second.value)

-- the names of a process mean something of which a fact holds
abbrev pub HasMeaning : code.Meaning → (plain.Meaning → Type 0) → Type 0
HasMeaning code Fact = (meaning : plain.Meaning) × IsMeaning meaning code × Fact meaning
