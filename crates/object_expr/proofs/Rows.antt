-- Rows of expressions over objects.
use Rattle.std.proofs.Common.{◌≡◌, ℕ, ◌+◌, ◌<◌, List, [], ◌∷◌, ◌++◌, map, take, length, get_or, refl, sym, ap, ◌∙◌}
use Rattle.std.proofs.lemmas.List.{take_more, map-append}
use Rattle.v_design.specs.Trees.{Expression, Expressions, no_expressions, more_expressions}
use Rattle.v_design.specs.Plain.{expression_of, expressions_of}
use Rattle.v_design.specs.declared.tree.FlatExpr.{FlatExpr}
use Rattle.v_names.specs.SizedTrees.{Holders, over_objects, all_over_objects}
use Rattle.v_width.specs.declared.expression.SizedExpr.{SizedExpr}
use Rattle.v_width.specs.SizedViews.{sized_of, all_sized_of}

-- a sized expression of the code over objects
abbrev pub seen_over : Holders → SizedExpr → Expression
seen_over holders e = over_objects holders (sized_of e)

abbrev row_of : List Expression → Expressions
row_of [] = no_expressions
row_of (first ∷ rest) = more_expressions first (row_of rest)

row-flat : (flats : List FlatExpr) → expressions_of flats ≡ row_of (map expression_of flats)
row-flat [] = refl
row-flat (first ∷ rest) = ap (more_expressions (expression_of first)) (row-flat rest)

row-sized : (holders : Holders) (exprs : List SizedExpr) → all_over_objects holders (all_sized_of exprs) ≡ row_of (map (seen_over holders) exprs)
row-sized holders [] = refl
row-sized holders (first ∷ rest) = ap (more_expressions (seen_over holders first)) (row-sized holders rest)

-- expressions that are the same one by one
pub rows-same : (holders : Holders) (flats : List FlatExpr) (exprs : List SizedExpr) → map expression_of flats ≡ map (seen_over holders) exprs
    → expressions_of flats ≡ all_over_objects holders (all_sized_of exprs)
rows-same holders flats exprs e = row-flat flats ∙ ap row_of e ∙ sym (row-sized holders exprs)

-- one more item of a list of which each is seen as another's item
pub one-more : {A B C : Type 0} (one : A → C) (other : B → C) (xs : List A) (ys : List B) (i : ℕ) (x : A) (y : B) → i < length ys → y ≡ get_or ys i y → one x ≡ other y
    → map one xs ≡ map other (take i ys) → map one (xs ++ (x ∷ [])) ≡ map other (take (i + 1) ys)
one-more one other xs ys i x y lt at same so_far =
    map-append one xs (x ∷ []) ∙ ap (λ l. l ++ (one x ∷ [])) so_far ∙ ap (λ v. map other (take i ys) ++ (v ∷ [])) same
    ∙ sym (ap (map other) (take_more ys i y lt) ∙ map-append other (take i ys) (get_or ys i y ∷ []) ∙ ap (λ z. map other (take i ys) ++ (other z ∷ [])) (sym at))
