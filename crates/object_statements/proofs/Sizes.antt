-- The sizes of expressions that are sized together, in whatever order they are taken.
use Rattle.std.proofs.Common.{◌≡◌, ℕ, max, Bool, true, false, ◌&&◌, List, ◌∷◌, Option, Some, None, refl, ap, ap₂, ◌∙◌, arith}
use Rattle.v_tree.specs.Trees.{SourceExpressions, no_parts, more_parts, SourceCaseItems, no_source_items, labelled, otherwise}
use Rattle.v_tree.specs.Views.{expressions_of, case_items_of}
use Rattle.v_tree.specs.declared.statement.CaseItem.{CaseItem}
use Rattle.v_tree.specs.declared.statement.CaseItem.TheVariants.{Labelled, Default}
use Rattle.v_names.specs.Readings.{Size, larger_size, reading_of}
use Rattle.v_names.specs.Scopes.{Scope}
use Rattle.v_elab.specs.Statements.{labels_size, items_size}
use Rattle.object_statements.specs.CaseItems.{item_size}

max-turned : (a b c : ℕ) → max a (max b c) ≡ max b (max a c)
max-turned a b c = omega arith

and-turned : (a b c : Bool) → (a && (b && c)) ≡ (b && (a && c))
and-turned true b c = refl
and-turned false true c = refl
and-turned false false c = refl

larger-turned : (a b c : Option Size) → larger_size a (larger_size b c) ≡ larger_size b (larger_size a c)
larger-turned None None c = refl
larger-turned None (Some b) c = refl
larger-turned (Some a) None c = refl
larger-turned (Some a) (Some b) None = refl
larger-turned (Some a) (Some b) (Some c) =
    ap₂ (λ (width : ℕ) (signed : Bool). Some (record { width = width; signed = signed })) (max-turned a.width b.width c.width) (and-turned a.signed b.signed c.signed)

-- a size that is taken before some labels or behind them
pub labels-turned : (scope : Scope) (labels : SourceExpressions) (a size : Option Size) → labels_size scope labels (larger_size a size) ≡ larger_size a (labels_size scope labels size)
labels-turned scope no_parts a size = refl
labels-turned scope (more_parts label rest) a size =
    ap (larger_size (reading_of scope label).size) (labels-turned scope rest a size) ∙ larger-turned (reading_of scope label).size a (labels_size scope rest size)

-- an item that is taken before some others or behind them
items-turned : (scope : Scope) (items : SourceCaseItems) (a size : Option Size) → items_size scope items (larger_size a size) ≡ larger_size a (items_size scope items size)
items-turned scope no_source_items a size = refl
items-turned scope (labelled labels statement rest) a size = ap (labels_size scope labels) (items-turned scope rest a size) ∙ labels-turned scope labels a (items_size scope rest size)
items-turned scope (otherwise statement rest) a size = items-turned scope rest a size

items-labels : (scope : Scope) (items : SourceCaseItems) (labels : SourceExpressions) (size : Option Size) →
    items_size scope items (labels_size scope labels size) ≡ labels_size scope labels (items_size scope items size)
items-labels scope items no_parts size = refl
items-labels scope items (more_parts label rest) size =
    items-turned scope items (reading_of scope label).size (labels_size scope rest size) ∙ ap (larger_size (reading_of scope label).size) (items-labels scope items rest size)

-- the labels of one item behind those of the items after it
pub item-behind : (scope : Scope) (item : CaseItem) (rest : List CaseItem) (size : Option Size)
    → items_size scope (case_items_of rest) (item_size scope item size) ≡ items_size scope (case_items_of (item ∷ rest)) size
item-behind scope (Labelled labels statement) rest size = items-labels scope (case_items_of rest) (expressions_of labels) size
item-behind scope (Default statement) rest size = refl
