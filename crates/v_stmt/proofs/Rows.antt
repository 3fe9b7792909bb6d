-- Statements and items in a row, as they stand in a tree.
use Rattle.std.proofs.Common.{◌≡◌, List, [], ◌∷◌, map, refl, ap, ◌∙◌, Global}
use Rattle.std.specs.declared.vec.Vec.{Vec}
use Rattle.vf_base.specs.Base.{source_place}
use Rattle.vf_base.specs.declared.ids.Place.{Place}
use Rattle.four_value.specs.declared.operator.CaseKind.{CaseKind}
use Rattle.v_tree.specs.Trees as plain
use Rattle.v_tree.specs.CaseParts.{case_part_of}
use Rattle.v_tree.specs.Views.{expression_of, statement_of, statements_of, item_before, case_items_of}
use Rattle.v_tree.specs.ViewLaws.{expressions-map, statement_of-Block, statement_of-Case}
use Rattle.v_tree.specs.declared.expression.Expr.{Expr}
use Rattle.v_tree.specs.declared.statement.Stmt.{Stmt}
use Rattle.v_tree.specs.declared.statement.Stmt.TheVariants as statements
use Rattle.v_tree.specs.declared.statement.CaseItem.{CaseItem}
use Rattle.v_tree.specs.declared.statement.CaseItem.TheVariants.{Labelled, Default}
use Rattle.v_stmt.specs.Statements as read

statements-seen : (xs : List Stmt) → statements_of xs ≡ read.statements_list (map statement_of xs)
statements-seen [] = refl
statements-seen (s ∷ ss) = ap (plain.more_source_statements (statement_of s)) (statements-seen ss)

-- a block of the statements that a vector holds
pub block_seen : (place : Place) (body : Vec Stmt Global)
    → statement_of (statements.Block place body) ≡ plain.BlockStatement (source_place place) (read.statements_list (map statement_of body.items))
block_seen place body = statement_of-Block place body ∙ ap (plain.BlockStatement (source_place place)) (statements-seen body.items)

item-seen : (item : CaseItem) (rest : plain.SourceCaseItems) → item_before item rest ≡ read.item_before (case_part_of item).0 (case_part_of item).1 rest
item-seen (Labelled labels s) rest = ap (λ p. plain.labelled p (statement_of s) rest) (expressions-map labels)
item-seen (Default s) rest = refl

items-seen : (xs : List CaseItem) → case_items_of xs ≡ read.items_list (map case_part_of xs)
items-seen [] = refl
items-seen (i ∷ is) = item-seen i (case_items_of is) ∙ ap (read.item_before (case_part_of i).0 (case_part_of i).1) (items-seen is)

-- a case of the items that a vector holds
pub case_seen : (place : Place) (kind : CaseKind) (value : Expr) (items : Vec CaseItem Global)
    → statement_of (statements.Case place kind value items) ≡ plain.CaseStatement (source_place place) kind (expression_of value) (read.items_list (map case_part_of items.items))
case_seen place kind value items = statement_of-Case place kind value items ∙ ap (plain.CaseStatement (source_place place) kind (expression_of value)) (items-seen items.items)
