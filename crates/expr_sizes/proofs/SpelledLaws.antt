-- Turns over the parts of a concatenation that spells a target, from the left.
use Rattle.std.proofs.Common.{◌≡◌, ℕ, ◌+◌, ◌<◌, ◌≤◌, List, [], ◌∷◌, ◌++◌, map, length, drop, get_or, Option, Some, None, refl, sym, ap, ◌∙◌, append_assoc}
use Rattle.std.proofs.lemmas.List.{drop_more, drop_all, append-nil, map-append}
use Rattle.v_tree.specs.declared.expression.Expr.{Expr}
use Rattle.v_tree.specs.declared.expression.Select.{Select}
use Rattle.v_tree.specs.Trees.{SourceExpression, Number, Selected, Parenthesised, Prefixed, Infixed, Chosen, Concatenated, Replicated, SourceExpressions, more_parts, SourceSelect}
use Rattle.v_tree.specs.Views.{expression_of, expressions_of, select_of}
use Rattle.v_width.specs.Targets.{with_select, selects_of_parts}
use Rattle.expr_sizes.specs.Spelled.{select_spelled}

drop-step : {A : Type 0} (xs : List A) (i : ℕ) (x : A) → i < length xs → x ≡ get_or xs i x → drop i xs ≡ x ∷ drop (i + 1) xs
drop-step xs i x below at = drop_more xs i x below ∙ ap (λ y. y ∷ drop (i + 1) xs) (sym at)

select_before : Option SourceSelect → Option (List SourceSelect) → Option (List SourceSelect)
select_before None rest = None
select_before (Some select) rest = with_select select rest

-- the selects that some are with the rest behind them
abbrev pub selects_before : List SourceSelect → Option (List SourceSelect) → Option (List SourceSelect)
selects_before selects None = None
selects_before selects (Some rest) = Some (selects ++ rest)

spelled-more : (first : SourceExpression) (rest : SourceExpressions) → selects_of_parts (more_parts first rest) ≡ select_before (select_spelled first) (selects_of_parts rest)
unfolding select_before
spelled-more (Number place form value) rest = refl
spelled-more (Selected place name index) rest = refl
spelled-more (Parenthesised place inner) rest = refl
spelled-more (Prefixed place operator operand) rest = refl
spelled-more (Infixed place operator left right) rest = refl
spelled-more (Chosen place condition first second) rest = refl
spelled-more (Concatenated place parts) rest = refl
spelled-more (Replicated place count parts) rest = refl

parts-from : (parts : List Expr) (i : ℕ) (part : Expr) → i < length parts → part ≡ get_or parts i part
    → selects_of_parts (expressions_of (drop i parts)) ≡ select_before (select_spelled (expression_of part)) (selects_of_parts (expressions_of (drop (i + 1) parts)))
parts-from parts i part below at = ap (λ l. selects_of_parts (expressions_of l)) (drop-step parts i part below at) ∙ spelled-more (expression_of part) (expressions_of (drop (i + 1) parts))

pub selects-start : (whole : Option (List SourceSelect)) → whole ≡ selects_before [] whole
selects-start None = refl
selects-start (Some rest) = refl

-- a part that is no select
pub selects-none : (parts : List Expr) (i : ℕ) (selects : List Select) (part : Expr) → i < length parts → part ≡ get_or parts i part
    → selects_of_parts (expressions_of parts) ≡ selects_before (map select_of selects) (selects_of_parts (expressions_of (drop i parts))) → None ≡ select_spelled (expression_of part)
    → None ≡ selects_of_parts (expressions_of parts)
unfolding select_before
selects-none parts i selects part below at h e =
    sym (h ∙ ap (selects_before (map select_of selects)) (parts-from parts i part below at ∙ ap (λ x. select_before x (selects_of_parts (expressions_of (drop (i + 1) parts)))) (sym e)))

one-more : (selects : List SourceSelect) (select : SourceSelect) (rest : Option (List SourceSelect)) → selects_before selects (with_select select rest) ≡ selects_before (selects ++ select ∷ []) rest
one-more selects select None = refl
one-more selects select (Some rest) = ap (λ l. Some l) (sym (append_assoc selects (select ∷ []) rest))

-- one select more
pub selects-more : (parts : List Expr) (i : ℕ) (selects longer : List Select) (part : Expr) (select : Select) → i < length parts → part ≡ get_or parts i part
    → selects_of_parts (expressions_of parts) ≡ selects_before (map select_of selects) (selects_of_parts (expressions_of (drop i parts))) →
    Some (select_of select) ≡ select_spelled (expression_of part)
    → longer ≡ selects ++ select ∷ [] → selects_of_parts (expressions_of parts) ≡ selects_before (map select_of longer) (selects_of_parts (expressions_of (drop (i + 1) parts)))
unfolding select_before
selects-more parts i selects longer part select below at h e q =
    let rest = selects_of_parts (expressions_of (drop (i + 1) parts)) in
    h ∙ ap (selects_before (map select_of selects)) (parts-from parts i part below at ∙ ap (λ x. select_before x rest) (sym e)) ∙ one-more (map select_of selects) (select_of select) rest
    ∙ ap (λ l. selects_before l rest) (sym (ap (map select_of) q ∙ map-append select_of selects (select ∷ [])))

pub selects-end : (parts : List Expr) (i : ℕ) (selects : List Select) → length parts ≤ i
    → selects_of_parts (expressions_of parts) ≡ selects_before (map select_of selects) (selects_of_parts (expressions_of (drop i parts))) →
    Some (map select_of selects) ≡ selects_of_parts (expressions_of parts)
selects-end parts i selects past h =
    sym (h ∙ ap (λ l. selects_before (map select_of selects) (selects_of_parts (expressions_of l))) (drop_all i parts past) ∙ ap (λ l. Some l) (append-nil (map select_of selects)))
