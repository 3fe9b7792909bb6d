-- Items of a case, targets and parts of them, by their numbers (IEEE 1364-2001, clauses 9.2 and 9.5).
use Rattle.std.proofs.Common.{◌≡◌, ℕ, zero, suc, ◌+◌, ◌<◌, ◌≤◌, Bool, true, false, List, [], ◌∷◌, length, get_or, drop, map, Option, Some, None, refl, ap, sym, ◌∙◌, subst, arith, inl, inr}
use Rattle.std.proofs.lemmas.List.{drop_more, length-map}
use Rattle.std.proofs.Math.ListN.{get_or-map}
use Rattle.std.proofs.lemmas.List.Sums.{sum_by-cons}
use Rattle.four_value.specs.Values.{LogicValue}
use Rattle.four_value.specs.declared.logic.Bit.TheVariants.{X}
use Rattle.four_value.specs.declared.operator.CaseKind.{CaseKind}
use Rattle.v_design.specs.declared.tree.FlatExpr.{FlatExpr}
use Rattle.v_design.specs.declared.tree.FlatTarget.{FlatTarget}
use Rattle.v_design.specs.declared.tree.CaseItem.{CaseItem}
use Rattle.v_design.specs.Trees.{Statement, CaseItems, Target, WholeTarget, BitTarget, PartTarget, WordTarget}
use Rattle.vf_base.specs.Lists.{AllHold}
use Rattle.v_design.specs.Plain.{expression_of, expressions_of, statement_of, target_of}
use Rattle.v_design.specs.PlainLemmas.{items_of}
use Rattle.v_design.specs.Sized.{IsSized, IsWithWhole, AreLabels, AreSizedItems, IsSizedTarget}
use Rattle.v_design.specs.Assignments.{some_label_matches, part_update, part_width, target_width, targets_width}
use Rattle.v_design.specs.Expressions.{Has, then_with, read_each}
use Rattle.v_design.specs.Processes.{read_items, either_statement}
use Rattle.expr_eval.specs.PartLaws.{part_width-up, part_width-down}
use Rattle.expr_eval.specs.WidthLaws.{AllHold-get_or}
use Rattle.process_operands.specs.Sought.{got}
use Rattle.process_operands.specs.PartReads.{got-same, then_with-got}
use Rattle.process_operands.specs.ReadLaws.{then-has, then_with-is, got-got}
use Rattle.process_operands.specs.Choices.{chosen_by, chosen_or, choice_after}
use Rattle.std.proofs.lemmas.Bool.{cases_lt}

-- a label of an item
pub label_at : (width : ℕ) (signed : Bool) (labels : List FlatExpr) (i : ℕ) (d : FlatExpr) → i < length labels → AreLabels width signed (expressions_of labels) →
    IsWithWhole width signed (expression_of (get_or labels i d)) × IsSized (expression_of (get_or labels i d))
label_at width signed [] i d low h = absurd (omega (arith, low))
label_at width signed (label ∷ labels) zero d low h = (h.0, h.1)
label_at width signed (label ∷ labels) (suc i) d low h = label_at width signed labels i d (omega (arith, low)) h.2

-- the labels of an item
pub labels_at : (width : ℕ) (signed : Bool) (items : List CaseItem) (i : ℕ) (d : CaseItem) → i < length items → AreSizedItems width signed (items_of items) →
    AreLabels width signed (expressions_of (get_or items i d).labels.items)
labels_at width signed [] i d low h = absurd (omega (arith, low))
labels_at width signed (item ∷ items) zero d low h = h.0
labels_at width signed (item ∷ items) (suc i) d low h = labels_at width signed items i d (omega (arith, low)) h.2

-- the statement of an item
pub chosen-at : (items : List CaseItem) (i : ℕ) (d : CaseItem) (default : Statement) → i < length items → chosen_by (items_of items) default (Some i) ≡ statement_of (get_or items i d).statement
chosen-at [] i d default low = absurd (omega (arith, low))
chosen-at (item ∷ items) zero d default low = refl
chosen-at (item ∷ items) (suc i) d default low = chosen-at items i d default (omega (arith, low))

choice-step : (all : CaseItems) (default statement otherwise : Statement) (choice : Option ℕ) (matches : Bool) (i : ℕ) → chosen_by all default (Some i) ≡ statement →
    chosen_or all default choice (either_statement matches statement otherwise) ≡ chosen_or all default (choice_after choice matches i) otherwise
choice-step all default statement otherwise (Some n) matches i h = refl
choice-step all default statement otherwise None true i h = sym h
choice-step all default statement otherwise None false i h = refl

-- one item more
pub items-more : (kind : CaseKind) (value : LogicValue) (items : List CaseItem) (i : ℕ) (d : CaseItem) (default : Statement) (choice : Option ℕ) (matches : Bool) (operands left : List LogicValue) →
    i < length items →
    got (some_label_matches kind value) (read_each (expressions_of (get_or items i d).labels.items) operands) ≡ Has matches left →
    got (chosen_or (items_of items) default choice) (read_items kind value (items_of (drop i items)) default operands)
    ≡ got (chosen_or (items_of items) default (choice_after choice matches i)) (read_items kind value (items_of (drop (i + 1) items)) default left)
items-more kind value items i d default choice matches operands left low has =
    let item = get_or items i d in
    let statement = statement_of item.statement in
    let rest = items_of (drop (i + 1) items) in
    let labels = expressions_of item.labels.items in
    ap (λ l. got (chosen_or (items_of items) default choice) (read_items kind value (items_of l) default operands)) (drop_more items i d low)
    ∙ ap (got (chosen_or (items_of items) default choice))
    (sym (then_with-got (some_label_matches kind value) (read_each labels operands) (λ m others. then_with (read_items kind value rest default others) (λ o l. Has (either_statement m statement o) l)))
    ∙ then-has (got (some_label_matches kind value) (read_each labels operands)) _ matches left has
    ∙ then_with-is (λ o. either_statement matches statement o) (read_items kind value rest default left))
    ∙ got-got (chosen_or (items_of items) default choice) (λ o. either_statement matches statement o) (read_items kind value rest default left)
    ∙ got-same (λ o. chosen_or (items_of items) default choice (either_statement matches statement o)) (chosen_or (items_of items) default (choice_after choice matches i))
    (read_items kind value rest default left)
    (λ o. choice-step (items_of items) default statement o choice matches i (chosen-at items i d default low))

-- Parts

-- bits of a part that lie outside are skipped
pub part-skip : (line object i d : ℕ) (f : ℕ → Option ℕ) (indexes : List ℕ) (value : LogicValue) → i < length indexes → length value ≡ length indexes → f (get_or indexes i d) ≡ None →
    part_update line object (map f (drop (i + 1) indexes)) (drop (i + 1) value) ≡ part_update line object (map f (drop i indexes)) (drop i value)
part-skip line object i d f indexes value low same none =
    sym (ap (λ l. part_update line object (map f l) (drop i value)) (drop_more indexes i d low)
    ∙ ap (λ l. part_update line object (f (get_or indexes i d) ∷ map f (drop (i + 1) indexes)) l) (drop_more value i X (omega (arith, low, same)))
    ∙ ap (λ place. part_update line object (place ∷ map f (drop (i + 1) indexes)) (get_or value i X ∷ drop (i + 1) value)) none)

-- the first bit that lies inside begins the update
pub part-found : (line object i d place : ℕ) (f : ℕ → Option ℕ) (indexes : List ℕ) (value : LogicValue) → i < length indexes → f (get_or indexes i d) ≡ Some place →
    part_update line object (map f (drop i indexes)) (drop i value) ≡ Some (record { object = object; low = place; value = drop i value; line = line })
part-found line object i d place f indexes value low some =
    ap (λ l. part_update line object (map f l) (drop i value)) (drop_more indexes i d low)
    ∙ ap (λ p. part_update line object (p ∷ map f (drop (i + 1) indexes)) (drop i value)) some

-- Targets

-- a part has at least one bit
pub part_width-some : (from to : ℕ) → 1 ≤ part_width from to
part_width-some from to =
    elim (cases_lt from to) [
      | inl h ↦ omega (arith, part_width-down from to h)
      | inr h ↦ omega (arith, part_width-up from to h)
    ]

-- a target has at least one bit
pub target_width-some : (target : Target) → IsSizedTarget target → 1 ≤ target_width target
target_width-some (WholeTarget variable) h = omega (arith, h.0)
target_width-some (BitTarget variable index) h = omega arith
target_width-some (PartTarget variable from to) h = part_width-some from to
target_width-some (WordTarget memory index) h = h.0.1

-- the targets from a number on
pub targets_width-at : (targets : List FlatTarget) (i : ℕ) (d : FlatTarget) → i < length targets →
    targets_width (map target_of (drop i targets)) ≡ target_width (target_of (get_or targets i d)) + targets_width (map target_of (drop (i + 1) targets))
targets_width-at targets i d low =
    ap (λ l. targets_width (map target_of l)) (drop_more targets i d low)
    ∙ sum_by-cons target_width (target_of (get_or targets i d)) (map target_of (drop (i + 1) targets))

-- no more than all of them
pub targets_width-from : (targets : List FlatTarget) (i : ℕ) → targets_width (map target_of (drop i targets)) ≤ targets_width (map target_of targets)
targets_width-from targets zero = omega arith
targets_width-from [] (suc i) = omega arith
targets_width-from (target ∷ targets) (suc i) =
    omega (arith, targets_width-from targets i, sum_by-cons target_width (target_of target) (map target_of targets))

pub target_at : (targets : List FlatTarget) (i : ℕ) (d : FlatTarget) → i < length targets → AllHold IsSizedTarget (map target_of targets) → IsSizedTarget (target_of (get_or targets i d))
target_at targets i d low h =
    subst IsSizedTarget (get_or-map target_of targets i d) (AllHold-get_or IsSizedTarget (map target_of targets) i (target_of d) h (omega (arith, low, length-map targets target_of)))
