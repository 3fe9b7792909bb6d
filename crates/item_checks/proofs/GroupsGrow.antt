-- Groups of expressions that are sized together, as they grow.
use Rattle.std.proofs.Common.{◌≡◌, ℕ, ◌+◌, ◌<◌, ◌≤◌, List, [], ◌∷◌, ◌++◌, drop, get_or, length, refl, sym, ap, ap₂, subst, ◌∙◌, append_assoc, append-nil}
use Rattle.v_tree.specs.Trees.{SourceExpression, SourceExpressions, no_parts, more_parts}
use Rattle.v_tree.specs.Views.{expression_of, expressions_of, case_items_of}
use Rattle.v_tree.specs.declared.expression.Expr.{Expr}
use Rattle.v_tree.specs.declared.statement.CaseItem.{CaseItem}
use Rattle.v_tree.specs.declared.statement.CaseItem.TheVariants.{Labelled, Default}
use Rattle.v_names.specs.Faults.{Fault}
use Rattle.v_names.specs.Scopes.{Scope}
use Rattle.v_names.specs.Readings.{Reading, reading_of}
use Rattle.v_width.specs.Summaries.{AreFaults}
use Rattle.v_width.specs.declared.faults.Faults.{Faults}
use Rattle.v_elab.specs.ItemFaults.{GroupFaults, with_reading, labels_faults, items_labels_faults}
use Rattle.name_checks.specs.Rows.{drop-step, drop-past}
use Rattle.item_checks.specs.Groups.{no_group, joined_groups, group_of, labels_group, item_group, Grows}

abbrev group_with : List Fault → List Fault → GroupFaults
group_with here inside = record { here = here; inside = inside }

-- labels before a group are the labels alone, and the group behind them
pub labels-before : (scope : Scope) (labels : SourceExpressions) (group : GroupFaults) → labels_faults scope labels group ≡ joined_groups (labels_group scope labels) group
labels-before scope no_parts group = refl
labels-before scope (more_parts label rest) group =
    ap (with_reading (reading_of scope label)) (labels-before scope rest group)
    ∙ ap₂ group_with (sym (append_assoc (reading_of scope label).here (labels_group scope rest).here group.here))
    (sym (append_assoc (reading_of scope label).inside (labels_group scope rest).inside group.inside))

-- the labels of the items of a case, from one item on
pub items-first : (scope : Scope) (item : CaseItem) (rest : List CaseItem)
    → items_labels_faults scope (case_items_of (item ∷ rest)) ≡ joined_groups (item_group scope item) (items_labels_faults scope (case_items_of rest))
items-first scope (Labelled labels statement) rest = labels-before scope (expressions_of labels) (items_labels_faults scope (case_items_of rest))
items-first scope (Default statement) rest = refl

-- nothing more
pub grows-none : (faults : Faults) → Grows no_group faults faults
grows-none faults = record {
  grows = λ here inside are.
      subst (λ (group : GroupFaults). AreFaults group.here group.inside faults) (sym (ap₂ group_with (append-nil here) (append-nil inside))) are;
}

-- something and then something more
pub grows-then : (one other : GroupFaults) (a b c : Faults) → Grows one a b → Grows other b c → Grows (joined_groups one other) a c
grows-then one other a b c g h = record {
  grows = λ here inside are.
      subst (λ (group : GroupFaults). AreFaults group.here group.inside c) (ap₂ group_with (append_assoc here one.here other.here) (append_assoc inside one.inside other.inside))
      (h.grows (here ++ one.here) (inside ++ one.inside) (g.grows here inside are));
}

-- what is left of a list, behind one turn
pub grows-step : {A : Type 0} (g : A → GroupFaults) (h : List A → GroupFaults) (xs : List A) (i : ℕ) (x : A) (old new final : Faults) →
    ((y : A) (ys : List A) → h (y ∷ ys) ≡ joined_groups (g y) (h ys)) → i < length xs → x ≡ get_or xs i x
    → Grows (g x) old new → Grows (h (drop (i + 1) xs)) new final → Grows (h (drop i xs)) old final
grows-step {A} g h xs i x old new final c below at turn rest =
    subst (λ (group : GroupFaults). Grows group old final) (sym (ap h (drop-step xs i x below at) ∙ c x (drop (i + 1) xs))) (grows-then (g x) (h (drop (i + 1) xs)) old new final turn rest)

-- nothing is left at the end
pub grows-end : {A : Type 0} (h : List A → GroupFaults) (xs : List A) (i : ℕ) (faults : Faults) → h [] ≡ no_group → length xs ≤ i → Grows (h (drop i xs)) faults faults
grows-end {A} h xs i faults none past = subst (λ (group : GroupFaults). Grows group faults faults) (sym (ap h (drop-past xs i past) ∙ none)) (grows-none faults)
