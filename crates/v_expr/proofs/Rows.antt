-- Parts in a row, as they stand in a tree.
use Rattle.std.proofs.Common.{◌≡◌, List, [], ◌∷◌, ◌++◌, map, ap, ◌∙◌}
use Rattle.std.proofs.lemmas.List.{map_push}
use Rattle.v_tree.specs.Views.{expression_of}
use Rattle.v_tree.specs.declared.expression.Expr.{Expr}

-- the parts after a push
pub push-seen : (new old : List Expr) (e : Expr) → new ≡ old ++ e ∷ [] → map expression_of new ≡ map expression_of old ++ expression_of e ∷ []
push-seen new old e h = ap (map expression_of) h ∙ map_push expression_of old e
