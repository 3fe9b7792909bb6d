use Rattle.std.proofs.Common.{◌≡◌, List, [], ◌∷◌, ◌++◌, map, refl, ap, sym, ◌∙◌}
use Rattle.std.proofs.lemmas.List.{map_push}
use Rattle.v_tree.specs.Views.{expression_of}
use Rattle.v_tree.specs.declared.expression.Expr.{Expr}
use Rattle.v_names.specs.Scopes.{Scope}
use Rattle.v_names.specs.SizedTrees.{SizedExpression, more_sized}
use Rattle.v_names.specs.Readings.{tree_in, reading_of}
use Rattle.v_elab.specs.Walk.{terminals_of}
use Rattle.v_width.specs.SizedViews.{sized_of, all_sized_of}
use Rattle.v_width.specs.declared.expression.SizedExpr.{SizedExpr}
use Rattle.name_checks.specs.Rows.{list-more}
use Rattle.elab_items.specs.Gates.{listed_sized}
use Rattle.elab_items.proofs.Rows.{list-done}
use Rattle.elab_items.proofs.gates.terminals_of.Goals as goal

sized-listed : (trees : List SizedExpr) → all_sized_of trees ≡ listed_sized (map sized_of trees)
sized-listed [] = refl
sized-listed (tree ∷ trees) = ap (more_sized (sized_of tree)) (sized-listed trees)

terminals-listed : (scope : Scope) (inputs : List Expr) → terminals_of scope (map expression_of inputs) ≡ listed_sized (map (λ (e : Expr). tree_in 1 (reading_of scope (expression_of e))) inputs)
terminals-listed scope [] = refl
terminals-listed scope (input ∷ inputs) = ap (more_sized (tree_in 1 (reading_of scope (expression_of input)))) (terminals-listed scope inputs)

pub inputs-preserved : goal.inputs-preserved
inputs-preserved c =
    let tree = λ (e : Expr). tree_in 1 (reading_of c.args.scope.now (expression_of e)) in
    list-more (λ (e : Expr). tree e ∷ []) (λ (es : List Expr). map tree es) c.args.inputs.now c.inputs.input-index c.input-item.result (map sized_of c.inputs.terminals.items)
    (map sized_of c.push.new.self.items) _ (λ y ys. refl) c.inputs-test.true c.input-item.is
    (ap (λ (ts : List SizedExpr). map sized_of ts) c.in_ok-push.ensures.items ∙ map_push sized_of c.inputs.terminals.items c.tree_in.result
    ∙ ap (λ (t : SizedExpression). map sized_of c.inputs.terminals.items ++ t ∷ []) (c.tree_in.ensures (reading_of c.args.scope.now (expression_of c.input-item.result)) c.in_ok-read.ensures))
    c.inputs.invariant

pub returns : goal.returns
returns c =
    let tree = λ (e : Expr). tree_in 1 (reading_of c.args.scope.now (expression_of e)) in
    sized-listed c.inputs.terminals.items
    ∙ ap listed_sized (list-done (λ (es : List Expr). map tree es) c.args.inputs.now c.inputs.input-index (map sized_of c.inputs.terminals.items)
    (map tree c.args.inputs.now) refl c.inputs-test.false c.inputs.invariant)
    ∙ sym (terminals-listed c.args.scope.now c.args.inputs.now)
