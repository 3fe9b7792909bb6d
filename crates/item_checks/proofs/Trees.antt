-- What is wrong with trees that are built of lists.
use Rattle.std.proofs.Common.{◌≡◌, ◌++◌, List, ◌∷◌, ap, ap₂, sym, ◌∙◌, refl, append_assoc, Global}
use Rattle.std.specs.declared.vec.Vec.{Vec}
use Rattle.vf_base.specs.declared.ids.Place.{Place}
use Rattle.four_value.specs.declared.operator.CaseKind.{CaseKind}
use Rattle.v_tree.specs.Views.{expression_of, expressions_of, statement_of, statements_of, case_items_of}
use Rattle.v_tree.specs.ViewLaws.{statement_of-Block, statement_of-Case}
use Rattle.v_tree.specs.declared.expression.Expr.{Expr}
use Rattle.v_tree.specs.declared.statement.Stmt.{Stmt}
use Rattle.v_tree.specs.declared.statement.Stmt.TheVariants as statements
use Rattle.v_tree.specs.declared.statement.CaseItem.{CaseItem}
use Rattle.v_tree.specs.declared.statement.CaseItem.TheVariants.{Labelled, Default}
use Rattle.v_names.specs.Scopes.{Scope}
use Rattle.v_elab.specs.ItemFaults.{case_faults, statement_faults, statements_faults, items_faults}
use Rattle.item_checks.specs.CodeFaults.{case_item_faults}

pub block-faults : (scope : Scope) (place : Place) (body : Vec Stmt Global) → statement_faults scope (statement_of (statements.Block place body)) ≡ statements_faults scope (statements_of body.items)
block-faults scope place body = ap (statement_faults scope) (statement_of-Block place body)

pub case-faults : (scope : Scope) (place : Place) (kind : CaseKind) (value : Expr) (items : Vec CaseItem Global) (one two : List CaseItem) → one ≡ items.items → two ≡ items.items
    → statement_faults scope (statement_of (statements.Case place kind value items)) ≡ case_faults scope (expression_of value) (case_items_of one) ++ items_faults scope (case_items_of two)
case-faults scope place kind value items one two e f =
    ap (statement_faults scope) (statement_of-Case place kind value items)
    ∙ ap₂ (λ (x y : List CaseItem). case_faults scope (expression_of value) (case_items_of x) ++ items_faults scope (case_items_of y)) (sym e) (sym f)

-- the items of a case from one on
pub item-first : (scope : Scope) (item : CaseItem) (rest : List CaseItem) → items_faults scope (case_items_of (item ∷ rest)) ≡ case_item_faults scope item ++ items_faults scope (case_items_of rest)
item-first scope (Labelled labels statement) rest = refl
item-first scope (Default statement) rest = refl
