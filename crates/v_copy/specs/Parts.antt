-- Parts with the same views.
use Rattle.std.proofs.Common.{◌≡◌, map, sym, ◌∙◌, ap, Global}
use Rattle.std.specs.declared.vec.Vec.{Vec}
use Rattle.std.specs.declared.boxed.Box.{Box}
use Rattle.vf_base.specs.Base.{source_place}
use Rattle.vf_base.specs.declared.ids.Place.{Place}
use Rattle.v_tree.specs.Trees as plain
use Rattle.v_tree.specs.Views.{expression_of, expressions_of_row}
use Rattle.v_tree.specs.ViewLaws.{row-seen}
use Rattle.v_tree.specs.declared.expression.Expr.{Expr}
use Rattle.v_tree.specs.declared.expression.Expr.TheVariants as code
use Rattle.v_tree.specs.declared.expression.Expr.TheBlock.{hidden-the_row-Expr-0}

copied-parts : (a b : Vec Expr Global) → map expression_of a.items ≡ map expression_of b.items → expressions_of_row (hidden-the_row-Expr-0 a) ≡ expressions_of_row (hidden-the_row-Expr-0 b)
copied-parts a b e = row-seen a ∙ ap plain.parts_of e ∙ sym (row-seen b)

pub copied-concat : (place : Place) (a b : Vec Expr Global) → map expression_of a.items ≡ map expression_of b.items → expression_of (code.Concat place a) ≡ expression_of (code.Concat place b)
copied-concat place a b e = ap (plain.Concatenated (source_place place)) (copied-parts a b e)

pub copied-repeat : (place : Place) (m n : Box Expr Global) (a b : Vec Expr Global) → expression_of m.value ≡ expression_of n.value → map expression_of a.items ≡ map expression_of b.items
    → expression_of (code.Repeat place m a) ≡ expression_of (code.Repeat place n b)
copied-repeat place m n a b c e =
    ap (λ k. plain.Replicated (source_place place) k (expressions_of_row (hidden-the_row-Expr-0 a))) c ∙ ap (plain.Replicated (source_place place) (expression_of n.value)) (copied-parts a b e)
