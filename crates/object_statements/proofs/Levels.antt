-- How deep statements of the text go, and what stands within a list of them.
use Rattle.std.proofs.Common.{◌≡◌, ℕ, zero, suc, ◌+◌, ◌<◌, ◌≤◌, max, List, [], ◌∷◌, Option, Some, None, length, get_or, sym, subst, arith}
use Rattle.std.specs.declared.alloc.Global.{Global}
use Rattle.std.specs.declared.boxed.Box.{Box}
use Rattle.vf_base.specs.Base.{SourcePlace}
use Rattle.four_value.specs.declared.operator.CaseKind.{CaseKind}
use Rattle.v_tree.specs.Trees.{SourceExpression, SourceStatement, NullStatement, BlockStatement, IfStatement, IfElseStatement, CaseStatement, ForStatement, WhileStatement, RepeatStatement, ForeverStatement}
use Rattle.v_tree.specs.Trees.{WaitStatement, EventStatement, DelayStatement, BlockingStatement, NonblockingStatement, IgnoredTask, FinishTask, SourceStatements, no_source_statements}
use Rattle.v_tree.specs.Trees.{more_source_statements, SourceCaseItems, no_source_items, labelled, otherwise}
use Rattle.v_tree.specs.Views.{expression_of, expressions_of, statement_of, statements_of, case_items_of}
use Rattle.v_tree.specs.declared.expression.Expr.{Expr}
use Rattle.v_tree.specs.declared.statement.Stmt.{Stmt}
use Rattle.v_tree.specs.declared.statement.CaseItem.{CaseItem}
use Rattle.v_tree.specs.declared.statement.CaseItem.TheVariants.{Labelled, Default}
use Rattle.v_elab.specs.Statements.{Meaning}
use Rattle.object_statements.specs.Texts.{IsSizedRead, AreSizedLabels, IsSizedText, AreSizedTexts, IsSizedItemText, AreSizedItemTexts}

-- what stands within has a level less
abbrev mutual
  pub levels_of : SourceStatement → ℕ
  levels_of (NullStatement place) = 1
  levels_of (BlockStatement place statements) = levels_of_all statements + 1
  levels_of (IfStatement place condition first) = levels_of first + 1
  levels_of (IfElseStatement place condition first second) = max (levels_of first) (levels_of second) + 1
  levels_of (CaseStatement place kind value items) = levels_of_items items + 1
  levels_of (ForStatement place first_target first condition next_target next body) = levels_of body + 1
  levels_of (WhileStatement place condition body) = levels_of body + 1
  levels_of (RepeatStatement place count body) = levels_of body + 1
  levels_of (ForeverStatement place body) = levels_of body + 1
  levels_of (WaitStatement place condition body) = levels_of body + 1
  levels_of (EventStatement place waits body) = levels_of body + 1
  levels_of (DelayStatement place delay body) = levels_of body + 1
  levels_of (BlockingStatement place target delay value) = 1
  levels_of (NonblockingStatement place target delay value) = 1
  levels_of (IgnoredTask place) = 1
  levels_of (FinishTask place) = 1

  pub levels_of_all : SourceStatements → ℕ
  levels_of_all no_source_statements = 0
  levels_of_all (more_source_statements first rest) = max (levels_of first) (levels_of_all rest)

  pub levels_of_items : SourceCaseItems → ℕ
  levels_of_items no_source_items = 0
  levels_of_items (labelled labels statement rest) = max (levels_of statement) (levels_of_items rest)
  levels_of_items (otherwise statement rest) = max (levels_of statement) (levels_of_items rest)

abbrev pub levels_of_item : CaseItem → ℕ
levels_of_item (Labelled labels statement) = levels_of (statement_of statement)
levels_of_item (Default statement) = levels_of (statement_of statement)

abbrev pub levels_of_second : Option (Box Stmt Global) → ℕ
levels_of_second None = 0
levels_of_second (Some second) = levels_of (statement_of second.value)

-- Statements of a list

pub statement-levels : (statements : List Stmt) (i : ℕ) (x : Stmt) → i < length statements → x ≡ get_or statements i x → levels_of (statement_of x) ≤ levels_of_all (statements_of statements)
statement-levels [] i x low at = absurd (omega arith)
statement-levels (s ∷ statements) zero x low at = subst (λ (y : Stmt). levels_of (statement_of y) ≤ levels_of_all (statements_of (s ∷ statements))) (sym at) (omega arith)
statement-levels (s ∷ statements) (suc i) x low at = let rest = statement-levels statements i x (omega arith) at in omega (arith, rest)

pub statement-at : (meaning : Meaning) (statements : List Stmt) (i : ℕ) (x : Stmt) → AreSizedTexts meaning (statements_of statements) → i < length statements → x ≡ get_or statements i x →
    IsSizedText meaning (statement_of x)
statement-at meaning [] i x h low at = absurd (omega arith)
statement-at meaning (s ∷ statements) zero x h low at = subst (λ (y : Stmt). IsSizedText meaning (statement_of y)) (sym at) h.0
statement-at meaning (s ∷ statements) (suc i) x h low at = statement-at meaning statements i x h.1 (omega arith) at

-- Items of a `case`

item-first : (item : CaseItem) (items : List CaseItem) → levels_of_item item ≤ levels_of_items (case_items_of (item ∷ items))
item-first (Labelled labels statement) items = omega arith
item-first (Default statement) items = omega arith

item-later : (item : CaseItem) (items : List CaseItem) → levels_of_items (case_items_of items) ≤ levels_of_items (case_items_of (item ∷ items))
item-later (Labelled labels statement) items = omega arith
item-later (Default statement) items = omega arith

pub item-levels : (items : List CaseItem) (i : ℕ) (x : CaseItem) → i < length items → x ≡ get_or items i x → levels_of_item x ≤ levels_of_items (case_items_of items)
item-levels [] i x low at = absurd (omega arith)
item-levels (item ∷ items) zero x low at = subst (λ (y : CaseItem). levels_of_item y ≤ levels_of_items (case_items_of (item ∷ items))) (sym at) (item-first item items)
item-levels (item ∷ items) (suc i) x low at = let rest = item-levels items i x (omega arith) at in let more = item-later item items in omega (arith, rest, more)

item-split : (meaning : Meaning) (item : CaseItem) (items : List CaseItem) → AreSizedItemTexts meaning (case_items_of (item ∷ items)) →
    IsSizedItemText meaning item × AreSizedItemTexts meaning (case_items_of items)
item-split meaning (Labelled labels statement) items h = ((h.0, h.1), h.2)
item-split meaning (Default statement) items h = h

pub item-at : (meaning : Meaning) (items : List CaseItem) (i : ℕ) (x : CaseItem) → AreSizedItemTexts meaning (case_items_of items) → i < length items → x ≡ get_or items i x → IsSizedItemText meaning x
item-at meaning [] i x h low at = absurd (omega arith)
item-at meaning (item ∷ items) zero x h low at = subst (IsSizedItemText meaning) (sym at) (item-split meaning item items h).0
item-at meaning (item ∷ items) (suc i) x h low at = item-at meaning items i x (item-split meaning item items h).1 (omega arith) at

-- Labels

pub label-at : (meaning : Meaning) (labels : List Expr) (i : ℕ) (x : Expr) → AreSizedLabels meaning (expressions_of labels) → i < length labels → x ≡ get_or labels i x →
    IsSizedRead meaning (expression_of x)
label-at meaning [] i x h low at = absurd (omega arith)
label-at meaning (label ∷ labels) zero x h low at = subst (λ (y : Expr). IsSizedRead meaning (expression_of y)) (sym at) h.0
label-at meaning (label ∷ labels) (suc i) x h low at = label-at meaning labels i x h.1 (omega arith) at

-- the items of a `case`
pub items-of : (meaning : Meaning) (place : SourcePlace) (kind : CaseKind) (value : SourceExpression) (items : SourceCaseItems) (s : SourceStatement) → s ≡ CaseStatement place kind value items →
    IsSizedText meaning s → AreSizedItemTexts meaning items
items-of meaning place kind value items s same h = let whole : IsSizedText meaning (CaseStatement place kind value items) = subst (IsSizedText meaning) same h in whole.1
