-- What is asked of each name of an expression, from its parts.
use Rattle.std.proofs.Common.{◌≡◌, ℕ, ◌+◌, ◌<◌, ◌≤◌, Bool, true, false, not, ◌&&◌, ◌||◌, List, [], ◌∷◌, ◌++◌, map, length, drop, get_or, refl, sym, ap, ◌∙◌}
use Rattle.std.specs.List.{list_all, list_any}
use Rattle.std.proofs.lemmas.List.{drop_all}
use Rattle.std.proofs.lemmas.List.Folds.{list_all-append}
use Rattle.v_tree.specs.declared.expression.Expr.{Expr}
use Rattle.v_tree.specs.Views.{expression_of, expressions_of}
use Rattle.v_tree.specs.Trees.{NamedPlace, named_in, named_in_parts}
use Rattle.v_names.specs.declared.constant_place.Asked.{Asked}
use Rattle.v_names.specs.declared.constant_place.Asked.TheVariants.{Parameter, NotWaiting}
use Rattle.v_names.specs.Scopes.{Scope, looked_up, is_parameter, is_waiting}
use Rattle.v_names.specs.Asked.{passes, all_pass}
use Rattle.v_names.proofs.PartLaws.{drop-step}

pub pass-append : (asked : Asked) (scope : Scope) (xs ys : List NamedPlace) → all_pass asked scope (xs ++ ys) ≡ (all_pass asked scope xs && all_pass asked scope ys)
pass-append asked scope xs ys = list_all-append (λ (n : NamedPlace). passes asked (looked_up scope n.name)) xs ys

pub pass-false : (asked : Asked) (scope : Scope) (xs ys : List NamedPlace) → all_pass asked scope xs ≡ false → false ≡ all_pass asked scope (xs ++ ys)
pass-false asked scope xs ys e = sym (pass-append asked scope xs ys ∙ ap (λ b. b && all_pass asked scope ys) e)

pub pass-rest : (asked : Asked) (scope : Scope) (xs ys : List NamedPlace) → all_pass asked scope xs ≡ true → all_pass asked scope ys ≡ all_pass asked scope (xs ++ ys)
pass-rest asked scope xs ys e = sym (pass-append asked scope xs ys ∙ ap (λ b. b && all_pass asked scope ys) e)

-- the parts so far pass
pub parts-left : (asked : Asked) (scope : Scope) (parts : List Expr) (i : ℕ) (part : Expr) → i < length parts → part ≡ get_or parts i part
    → all_pass asked scope (named_in_parts (expressions_of parts)) ≡ all_pass asked scope (named_in_parts (expressions_of (drop i parts)))
    → all_pass asked scope (named_in_parts (expressions_of parts))
    ≡ (all_pass asked scope (named_in (expression_of part)) && all_pass asked scope (named_in_parts (expressions_of (drop (i + 1) parts))))
parts-left asked scope parts i part below at h =
    h ∙ ap (λ l. all_pass asked scope (named_in_parts (expressions_of l))) (drop-step parts i part below at)
    ∙ pass-append asked scope (named_in (expression_of part)) (named_in_parts (expressions_of (drop (i + 1) parts)))

pub parts-more : (asked : Asked) (scope : Scope) (parts : List Expr) (i : ℕ) (part : Expr) → i < length parts → part ≡ get_or parts i part
    → all_pass asked scope (named_in_parts (expressions_of parts)) ≡ all_pass asked scope (named_in_parts (expressions_of (drop i parts)))
    → all_pass asked scope (named_in (expression_of part)) ≡ true
    → all_pass asked scope (named_in_parts (expressions_of parts)) ≡ all_pass asked scope (named_in_parts (expressions_of (drop (i + 1) parts)))
parts-more asked scope parts i part below at h e =
    parts-left asked scope parts i part below at h ∙ ap (λ b. b && all_pass asked scope (named_in_parts (expressions_of (drop (i + 1) parts)))) e

pub parts-false : (asked : Asked) (scope : Scope) (parts : List Expr) (i : ℕ) (part : Expr) → i < length parts → part ≡ get_or parts i part
    → all_pass asked scope (named_in_parts (expressions_of parts)) ≡ all_pass asked scope (named_in_parts (expressions_of (drop i parts)))
    → all_pass asked scope (named_in (expression_of part)) ≡ false → false ≡ all_pass asked scope (named_in_parts (expressions_of parts))
parts-false asked scope parts i part below at h e =
    sym (parts-left asked scope parts i part below at h ∙ ap (λ b. b && all_pass asked scope (named_in_parts (expressions_of (drop (i + 1) parts)))) e)

pub parts-end : (asked : Asked) (scope : Scope) (parts : List Expr) (i : ℕ) → length parts ≤ i
    → all_pass asked scope (named_in_parts (expressions_of parts)) ≡ all_pass asked scope (named_in_parts (expressions_of (drop i parts)))
    → true ≡ all_pass asked scope (named_in_parts (expressions_of parts))
parts-end asked scope parts i past h = sym (h ∙ ap (λ l. all_pass asked scope (named_in_parts (expressions_of l))) (drop_all i parts past))

pub parameters-pass : (scope : Scope) (named : List NamedPlace) → all_pass Parameter scope named ≡ list_all (λ name. is_parameter (looked_up scope name)) (map (λ (n : NamedPlace). n.name) named)
parameters-pass scope [] = refl
parameters-pass scope (n ∷ named) = ap (λ b. is_parameter (looked_up scope n.name) && b) (parameters-pass scope named)

not-both : (a b : Bool) → not (not a && b) ≡ (a || not b)
not-both true b = refl
not-both false b = refl

pub waiting-pass : (scope : Scope) (named : List NamedPlace) → not (all_pass NotWaiting scope named) ≡ list_any (λ name. is_waiting (looked_up scope name)) (map (λ (n : NamedPlace). n.name) named)
waiting-pass scope [] = refl
waiting-pass scope (n ∷ named) =
    not-both (is_waiting (looked_up scope n.name)) (all_pass NotWaiting scope named) ∙ ap (λ b. is_waiting (looked_up scope n.name) || b) (waiting-pass scope named)
