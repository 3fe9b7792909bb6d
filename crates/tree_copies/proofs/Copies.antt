-- Lists of statements and of items of a case with the same views.
use Rattle.std.proofs.Common.{◌≡◌, List, [], ◌∷◌, map, Option, Some, None, refl, sym, ◌∙◌, ap, Global}
use Rattle.std.specs.declared.vec.Vec.{Vec}
use Rattle.vf_base.specs.Base.{source_place}
use Rattle.vf_base.specs.declared.ids.Place.{Place}
use Rattle.four_value.specs.declared.operator.CaseKind.{CaseKind}
use Rattle.v_tree.specs.Trees as plain
use Rattle.v_tree.specs.CaseParts.{case_part_of}
use Rattle.v_tree.specs.Views.{expression_of, statement_of, statements_of, item_before, case_items_of}
use Rattle.v_tree.specs.ViewLaws.{expressions-map, statement_of-Block, statement_of-Case}
use Rattle.v_tree.specs.declared.expression.Expr.{Expr}
use Rattle.v_tree.specs.declared.statement.Stmt.{Stmt}
use Rattle.v_tree.specs.declared.statement.Stmt.TheVariants as statements
use Rattle.v_tree.specs.declared.statement.CaseItem.{CaseItem}
use Rattle.v_tree.specs.declared.statement.CaseItem.TheVariants.{Labelled, Default}

abbrev body_of : List plain.SourceStatement → plain.SourceStatements
body_of [] = plain.no_source_statements
body_of (s ∷ ss) = plain.more_source_statements s (body_of ss)

statements-map : (xs : List Stmt) → statements_of xs ≡ body_of (map statement_of xs)
statements-map [] = refl
statements-map (s ∷ ss) = ap (plain.more_source_statements (statement_of s)) (statements-map ss)

pub copied-block : (place : Place) (a b : Vec Stmt Global) → map statement_of a.items ≡ map statement_of b.items → statement_of (statements.Block place a) ≡ statement_of (statements.Block place b)
copied-block place a b e =
    statement_of-Block place a ∙ ap (plain.BlockStatement (source_place place)) (statements-map a.items ∙ ap body_of e ∙ sym (statements-map b.items))
    ∙ sym (statement_of-Block place b)

abbrev before : Option (List plain.SourceExpression) × plain.SourceStatement → plain.SourceCaseItems → plain.SourceCaseItems
before (Some labels, s) rest = plain.labelled (plain.parts_of labels) s rest
before (None, s) rest = plain.otherwise s rest

part-before : (item : CaseItem) (rest : plain.SourceCaseItems) → item_before item rest ≡ before (case_part_of item) rest
part-before (Labelled labels s) rest = ap (λ p. plain.labelled p (statement_of s) rest) (expressions-map labels)
part-before (Default s) rest = refl

abbrev items_from : List (Option (List plain.SourceExpression) × plain.SourceStatement) → plain.SourceCaseItems
items_from [] = plain.no_source_items
items_from (p ∷ ps) = before p (items_from ps)

items-map : (xs : List CaseItem) → case_items_of xs ≡ items_from (map case_part_of xs)
items-map [] = refl
items-map (i ∷ is) = part-before i (case_items_of is) ∙ ap (before (case_part_of i)) (items-map is)

pub copied-case : (place : Place) (kind : CaseKind) (v w : Expr) (a b : Vec CaseItem Global) → expression_of v ≡ expression_of w → map case_part_of a.items ≡ map case_part_of b.items
    → statement_of (statements.Case place kind v a) ≡ statement_of (statements.Case place kind w b)
copied-case place kind v w a b d e =
    statement_of-Case place kind v a ∙ ap (λ x. plain.CaseStatement (source_place place) kind x (case_items_of a.items)) d
    ∙ ap (plain.CaseStatement (source_place place) kind (expression_of w)) (items-map a.items ∙ ap items_from e ∙ sym (items-map b.items))
    ∙ sym (statement_of-Case place kind w b)
