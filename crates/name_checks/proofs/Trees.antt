-- What is wrong with trees that are built of lists.
use Rattle.std.proofs.Common.{◌≡◌, ◌++◌, List, ◌∷◌, Option, Some, None, ap, ap₂, sym, ◌∙◌, refl, append_assoc, Global}
use Rattle.std.specs.declared.vec.Vec.{Vec}
use Rattle.std.specs.declared.boxed.Box.{Box}
use Rattle.vf_base.specs.declared.ids.Place.{Place}
use Rattle.four_value.specs.declared.operator.CaseKind.{CaseKind}
use Rattle.v_tree.specs.Views.{expression_of, expressions_of, expressions_of_row, statement_of, statements_of, case_items_of}
use Rattle.v_tree.specs.ViewLaws.{expressions-hidden, statement_of-Block, statement_of-Case}
use Rattle.v_tree.specs.declared.expression.Expr.{Expr}
use Rattle.v_tree.specs.declared.expression.Expr.TheVariants as code
use Rattle.v_tree.specs.declared.statement.Stmt.{Stmt}
use Rattle.v_tree.specs.declared.statement.Stmt.TheVariants as statements
use Rattle.v_tree.specs.declared.statement.CaseItem.{CaseItem}
use Rattle.v_tree.specs.declared.statement.CaseItem.TheVariants.{Labelled, Default}
use Rattle.v_names.specs.Faults.{Fault}
use Rattle.v_names.specs.Scopes.{Scope}
use Rattle.v_names.specs.Constants.{IndexOrCount, constant_name_faults, constant_part_faults, value_faults, constant_faults, name_faults, part_faults}
use Rattle.v_names.specs.Names.{statement_name_faults, statements_name_faults, case_name_faults}
use Rattle.name_checks.specs.CodeFaults.{case_item_faults}

pub constant-concat : (scope : Scope) (place : Place) (parts : Vec Expr Global) → constant_name_faults scope (expression_of (code.Concat place parts)) ≡ constant_part_faults scope
    (expressions_of parts.items)
constant-concat scope place parts = ap (constant_part_faults scope) (expressions-hidden parts)

pub constant-repeat : (scope : Scope) (place : Place) (count : Box Expr Global) (parts : Vec Expr Global) (one two : Expr) (list : List Expr) → one ≡ count.value → two ≡ count.value →
    list ≡ parts.items
    → constant_name_faults scope (expression_of (code.Repeat place count parts)) ≡ constant_name_faults scope (expression_of one)
    ++ (value_faults scope IndexOrCount (expression_of two) ++ constant_part_faults scope (expressions_of list))
constant-repeat scope place count parts one two list e f g =
    ap (λ ps. constant_name_faults scope (expression_of count.value) ++ (value_faults scope IndexOrCount (expression_of count.value) ++ constant_part_faults scope ps))
    (expressions-hidden parts ∙ ap expressions_of (sym g))
    ∙ ap₂ (λ (x y : Expr). constant_name_faults scope (expression_of x) ++ (value_faults scope IndexOrCount (expression_of y) ++ constant_part_faults scope (expressions_of list))) (sym e) (sym f)

pub names-concat : (scope : Scope) (place : Place) (parts : Vec Expr Global) → name_faults scope (expression_of (code.Concat place parts)) ≡ part_faults scope (expressions_of parts.items)
names-concat scope place parts = ap (part_faults scope) (expressions-hidden parts)

pub names-repeat : (scope : Scope) (place : Place) (count : Box Expr Global) (parts : Vec Expr Global) (one : Expr) (list : List Expr) → one ≡ count.value → list ≡ parts.items
    → name_faults scope (expression_of (code.Repeat place count parts)) ≡ constant_faults scope IndexOrCount (expression_of one) ++ part_faults scope (expressions_of list)
names-repeat scope place count parts one list e g =
    ap (λ ps. constant_faults scope IndexOrCount (expression_of count.value) ++ part_faults scope ps) (expressions-hidden parts ∙ ap expressions_of (sym g))
    ∙ ap (λ (x : Expr). constant_faults scope IndexOrCount (expression_of x) ++ part_faults scope (expressions_of list)) (sym e)

pub block-faults : (scope : Scope) (place : Place) (body : Vec Stmt Global) → statement_name_faults scope (statement_of (statements.Block place body)) ≡ statements_name_faults scope
    (statements_of body.items)
block-faults scope place body = ap (statement_name_faults scope) (statement_of-Block place body)

pub case-faults : (scope : Scope) (place : Place) (kind : CaseKind) (value : Expr) (items : Vec CaseItem Global)
    → statement_name_faults scope (statement_of (statements.Case place kind value items)) ≡ name_faults scope (expression_of value) ++ case_name_faults scope (case_items_of items.items)
case-faults scope place kind value items = ap (statement_name_faults scope) (statement_of-Case place kind value items)

pub if-faults-none : (scope : Scope) (place : Place) (condition : Expr) (first : Box Stmt Global) (second : Option (Box Stmt Global)) → second ≡ None
    → statement_name_faults scope (statement_of (statements.If place condition first second)) ≡ name_faults scope (expression_of condition) ++ statement_name_faults scope (statement_of first.value)
if-faults-none scope place condition first second e = ap (λ (other : Option (Box Stmt Global)). statement_name_faults scope (statement_of (statements.If place condition first other))) e

pub if-faults-some : (scope : Scope) (place : Place) (condition : Expr) (first other : Box Stmt Global) (second : Option (Box Stmt Global)) → second ≡ Some other
    → statement_name_faults scope (statement_of (statements.If place condition first second))
    ≡ name_faults scope (expression_of condition) ++ (statement_name_faults scope (statement_of first.value) ++ statement_name_faults scope (statement_of other.value))
if-faults-some scope place condition first other second e = ap (λ (o : Option (Box Stmt Global)). statement_name_faults scope (statement_of (statements.If place condition first o))) e

-- the items of a case from one on
pub item-first : (scope : Scope) (item : CaseItem) (rest : List CaseItem) → case_name_faults scope (case_items_of (item ∷ rest)) ≡ case_item_faults scope item
    ++ case_name_faults scope (case_items_of rest)
item-first scope (Labelled labels statement) rest = sym (append_assoc (part_faults scope (expressions_of labels)) (statement_name_faults scope (statement_of statement))
    (case_name_faults scope (case_items_of rest)))
item-first scope (Default statement) rest = refl
