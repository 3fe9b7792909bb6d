-- The plain data of a variant that holds a `Vec` of its own type is that of the items (nothing of the language).
use Rattle.std.proofs.Common.{◌≡◌, ℕ, Bool, List, [], ◌∷◌, refl, ap, ◌∙◌}
use Rattle.std.specs.Prelude.{Vec}
use mathlib.Core.Former.{Count}
use Rattle.std.specs.declared.alloc.Global.{Global}
use Rattle.vf_base.specs.Base.{source_place}
use Rattle.vf_base.specs.declared.ids.Place.{Place}
use Rattle.v_design.specs.Trees as plain
use Rattle.v_design.specs.Plain.{expression_of, expressions_of, expressions_of_row, statement_of, statements_of_row, items_of_row}
use Rattle.four_value.specs.declared.operator.CaseKind.{CaseKind}
use Rattle.v_design.specs.declared.tree.FlatExpr.{FlatExpr, Row_of-FlatExpr, end_of-FlatExpr, more_of-FlatExpr, items-the_row-FlatExpr, items_hidden-the_row-FlatExpr-0}
use Rattle.v_design.specs.declared.tree.FlatExpr.TheBlock.{hidden-the_row-FlatExpr-0}
use Rattle.v_design.specs.declared.tree.FlatExpr.TheVariants.{Concatenation, Replication}
use Rattle.v_design.specs.declared.tree.FlatStmt.{FlatStmt, Row_of-FlatStmt, end_of-FlatStmt, more_of-FlatStmt, items-the_row-FlatStmt, items_hidden-the_row-FlatStmt-0, Row_of-CaseItem}
use Rattle.v_design.specs.declared.tree.FlatStmt.{end_of-CaseItem, more_of-CaseItem, items-the_row-CaseItem, items_hidden-the_row-CaseItem-1}
use Rattle.v_design.specs.declared.tree.CaseItem.{CaseItem}
use Rattle.std.specs.declared.boxed.Box.{Box}
use Rattle.v_design.specs.declared.tree.FlatStmt.TheBlock.{hidden-the_row-FlatStmt-0, hidden-the_row-CaseItem-1}
use Rattle.v_design.specs.declared.tree.FlatStmt.TheVariants.{Block, Case}

-- the expressions of a row are those of its items
pub expressions_of_row-items : (n : Count) (row : Row_of-FlatExpr n) → expressions_of_row row ≡ expressions_of (items-the_row-FlatExpr n row)
expressions_of_row-items n end_of-FlatExpr = refl
expressions_of_row-items n (more_of-FlatExpr first rest) = ap (plain.more_expressions (expression_of first)) (expressions_of_row-items _ rest)

-- a concatenation
pub expression_of-Concatenation : (width : ℕ) (signed : Bool) (parts : Vec FlatExpr Global) →
    expression_of (Concatenation width signed parts) ≡ plain.Concatenation width signed (expressions_of parts.items)
expression_of-Concatenation width signed parts =
    ap (plain.Concatenation width signed) (expressions_of_row-items _ (hidden-the_row-FlatExpr-0 parts) ∙ ap expressions_of (items_hidden-the_row-FlatExpr-0 parts))

-- a replication
pub expression_of-Replication : (width : ℕ) (signed : Bool) (count : ℕ) (parts : Vec FlatExpr Global) →
    expression_of (Replication width signed count parts) ≡ plain.Replication width signed count (expressions_of parts.items)
expression_of-Replication width signed count parts =
    ap (plain.Replication width signed count) (expressions_of_row-items _ (hidden-the_row-FlatExpr-0 parts) ∙ ap expressions_of (items_hidden-the_row-FlatExpr-0 parts))

-- the statements of a block
abbrev pub statements_of : List FlatStmt → plain.Statements
statements_of [] = plain.no_statements
statements_of (first ∷ rest) = plain.more_statements (statement_of first) (statements_of rest)

-- the statements of a row are those of its items
pub statements_of_row-items : (n : Count) (row : Row_of-FlatStmt n) → statements_of_row row ≡ statements_of (items-the_row-FlatStmt n row)
statements_of_row-items n end_of-FlatStmt = refl
statements_of_row-items n (more_of-FlatStmt first rest) = ap (plain.more_statements (statement_of first)) (statements_of_row-items _ rest)

-- a block
pub statement_of-Block : (place : Place) (statements : Vec FlatStmt Global) → statement_of (Block place statements) ≡ plain.Block (statements_of statements.items)
statement_of-Block place statements = ap plain.Block (statements_of_row-items _ (hidden-the_row-FlatStmt-0 statements) ∙ ap statements_of (items_hidden-the_row-FlatStmt-0 statements))

-- the items of a case
abbrev pub items_of : List CaseItem → plain.CaseItems
items_of [] = plain.no_items
items_of (first ∷ rest) = plain.more_items (expressions_of first.labels.items) (statement_of first.statement) (items_of rest)

-- the items of a row's case are those of its items
pub items_of_row-items : (n : Count) (row : Row_of-CaseItem n) → items_of_row row ≡ items_of (items-the_row-CaseItem n row)
items_of_row-items n end_of-CaseItem = refl
items_of_row-items n (more_of-CaseItem labels statement rest) = ap (plain.more_items (expressions_of labels.items) (statement_of statement)) (items_of_row-items _ rest)

-- a case
pub statement_of-Case : (place : Place) (kind : CaseKind) (value : FlatExpr) (items : Vec CaseItem Global) (default : Box FlatStmt Global) →
    statement_of (Case place kind value items default) ≡ plain.Case (source_place place) kind (expression_of value) (items_of items.items) (statement_of default.value)
statement_of-Case place kind value items default =
    ap (λ all. plain.Case (source_place place) kind (expression_of value) all (statement_of default.value))
    (items_of_row-items _ (hidden-the_row-CaseItem-1 items) ∙ ap items_of (items_hidden-the_row-CaseItem-1 items))
