-- What a tree that is built of a list is seen as.
use Rattle.std.proofs.Common.{◌≡◌, List, [], ◌∷◌, map, refl, ap, ◌∙◌, Global}
use Rattle.std.specs.declared.vec.Vec.{Vec}
use Rattle.vf_base.specs.Base.{source_place}
use Rattle.vf_base.specs.declared.ids.Place.{Place}
use Rattle.four_value.specs.declared.operator.CaseKind.{CaseKind}
use Rattle.v_tree.specs.Trees as plain
use Rattle.v_tree.specs.Views.{expression_of, expressions_of, expressions_of_row, statement_of, statements_of, statements_of_row, item_before, items_of_row, case_items_of}
use Rattle.v_tree.specs.declared.expression.Expr.{Expr, Row_of-Expr, end_of-Expr, more_of-Expr, items-the_row-Expr, items_hidden-the_row-Expr-0}
use Rattle.v_tree.specs.declared.expression.Expr.TheBlock.{hidden-the_row-Expr-0}
use Rattle.v_tree.specs.declared.expression.Expr.TheVariants as code
use Rattle.v_tree.specs.declared.statement.Stmt.{Stmt, Row_of-Stmt, end_of-Stmt, more_of-Stmt, items-the_row-Stmt, items_hidden-the_row-Stmt-0, Row_of-CaseItem, end_of-CaseItem, more_of-CaseItem}
use Rattle.v_tree.specs.declared.statement.Stmt.{items-the_row-CaseItem, items_hidden-the_row-CaseItem-1}
use Rattle.v_tree.specs.declared.statement.CaseItem.{CaseItem}
use Rattle.v_tree.specs.declared.statement.CaseItem.TheBlock.{hidden-the_row-Stmt-0, hidden-the_row-CaseItem-1}
use Rattle.v_tree.specs.declared.statement.Stmt.TheVariants as statements

expressions-row : {n : _} (row : Row_of-Expr n) → expressions_of_row row ≡ expressions_of (items-the_row-Expr n row)
expressions-row end_of-Expr = refl
expressions-row (more_of-Expr first rest) = ap (plain.more_parts (expression_of first)) (expressions-row rest)

-- the parts that a vector holds
pub expressions-hidden : (parts : Vec Expr Global) → expressions_of_row (hidden-the_row-Expr-0 parts) ≡ expressions_of parts.items
expressions-hidden parts = expressions-row (hidden-the_row-Expr-0 parts) ∙ ap expressions_of (items_hidden-the_row-Expr-0 parts)

pub expressions-map : (parts : List Expr) → expressions_of parts ≡ plain.parts_of (map expression_of parts)
expressions-map [] = refl
expressions-map (first ∷ rest) = ap (plain.more_parts (expression_of first)) (expressions-map rest)

-- the parts that a vector holds, as a list
pub row-seen : (parts : Vec Expr Global) → expressions_of_row (hidden-the_row-Expr-0 parts) ≡ plain.parts_of (map expression_of parts.items)
row-seen parts = expressions-hidden parts ∙ expressions-map parts.items

pub expression_of-Concat : (place : Place) (parts : Vec Expr Global) → expression_of (code.Concat place parts) ≡ plain.Concatenated (source_place place) (expressions_of parts.items)
expression_of-Concat place parts = ap (plain.Concatenated (source_place place)) (expressions-hidden parts)

statements-row : {n : _} (row : Row_of-Stmt n) → statements_of_row row ≡ statements_of (items-the_row-Stmt n row)
statements-row end_of-Stmt = refl
statements-row (more_of-Stmt first rest) = ap (plain.more_source_statements (statement_of first)) (statements-row rest)

-- the statements that a vector holds
pub statements-hidden : (body : Vec Stmt Global) → statements_of_row (hidden-the_row-Stmt-0 body) ≡ statements_of body.items
statements-hidden body = statements-row (hidden-the_row-Stmt-0 body) ∙ ap statements_of (items_hidden-the_row-Stmt-0 body)

pub statement_of-Block : (place : Place) (body : Vec Stmt Global) → statement_of (statements.Block place body) ≡ plain.BlockStatement (source_place place) (statements_of body.items)
statement_of-Block place body = ap (plain.BlockStatement (source_place place)) (statements-hidden body)

items-row : {n : _} (row : Row_of-CaseItem n) → items_of_row row ≡ case_items_of (items-the_row-CaseItem n row)
items-row end_of-CaseItem = refl
items-row (more_of-CaseItem first rest) = ap (item_before first) (items-row rest)

-- the items of a case that a vector holds
pub items-hidden : (items : Vec CaseItem Global) → items_of_row (hidden-the_row-CaseItem-1 items) ≡ case_items_of items.items
items-hidden items = items-row (hidden-the_row-CaseItem-1 items) ∙ ap case_items_of (items_hidden-the_row-CaseItem-1 items)

pub statement_of-Case : (place : Place) (kind : CaseKind) (value : Expr) (items : Vec CaseItem Global)
    → statement_of (statements.Case place kind value items) ≡ plain.CaseStatement (source_place place) kind (expression_of value) (case_items_of items.items)
statement_of-Case place kind value items = ap (plain.CaseStatement (source_place place) kind (expression_of value)) (items-hidden items)
