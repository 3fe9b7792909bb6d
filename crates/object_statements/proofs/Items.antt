-- The items of a `case`, from one on.
use Rattle.std.proofs.Common.{◌≡◌, ℕ, ◌++◌, List, ◌∷◌, Option, refl, sym, ap, ◌∙◌, append_assoc}
use Rattle.vf_base.specs.Base.{SourcePlace}
use Rattle.four_value.specs.declared.operator.CaseKind.{CaseKind}
use Rattle.v_design.specs.Trees.{Expression, Target, CaseItems, Statement, Case, For, Blocking, Nonblocking}
use Rattle.v_tree.specs.Trees.{SourceExpression, SourceCaseItems, CaseStatement}
use Rattle.v_tree.specs.Views.{expressions_of, statement_of, case_items_of}
use Rattle.v_tree.specs.declared.statement.CaseItem.{CaseItem}
use Rattle.v_tree.specs.declared.statement.CaseItem.TheVariants.{Labelled, Default}
use Rattle.v_names.specs.Readings.{Size, reading_of, tree_at}
use Rattle.v_names.specs.SizedTrees.{over_objects}
use Rattle.v_elab.specs.Statements.{Meaning, labels_in_text, read_in_text, items_read_in_text, items_size, items_over, default_over, statement_over}
use Rattle.object_statements.specs.CaseItems.{item_read_in_text, item_over}

-- what they read
pub item-read : (meaning : Meaning) (item : CaseItem) (rest : List CaseItem) → items_read_in_text meaning (case_items_of (item ∷ rest)) ≡ item_read_in_text meaning item
    ++ items_read_in_text meaning (case_items_of rest)
item-read meaning (Labelled labels statement) rest = sym (append_assoc (labels_in_text meaning (expressions_of labels)) (read_in_text meaning (statement_of statement))
    (items_read_in_text meaning (case_items_of rest)))
item-read meaning (Default statement) rest = refl

-- what they are over objects
pub item-first : (meaning : Meaning) (size : Option Size) (item : CaseItem) (rest : List CaseItem) →
    item_over meaning size item (items_over meaning size (case_items_of rest)) ≡ items_over meaning size (case_items_of (item ∷ rest))
item-first meaning size (Labelled labels statement) rest = refl
item-first meaning size (Default statement) rest = refl

-- a `case` whose parts are sized together
pub case-over : (meaning : Meaning) (place : SourcePlace) (kind : CaseKind) (flat : Expression) (flats : CaseItems) (other : Statement) (size : Option Size) (value : SourceExpression)
    (items : SourceCaseItems)
    → size ≡ items_size meaning.scope items (reading_of meaning.scope value).size → flat ≡ over_objects meaning.holders (tree_at (reading_of meaning.scope value) size)
    → flats ≡ items_over meaning size items → other ≡ default_over meaning items → Case place kind flat flats other ≡ statement_over meaning (CaseStatement place kind value items)
case-over meaning place kind flat flats other size value items s e f g =
    ap (λ x. Case place kind x flats other) e ∙ ap (λ x. Case place kind (over_objects meaning.holders (tree_at (reading_of meaning.scope value) size)) x other) f
    ∙ ap (Case place kind (over_objects meaning.holders (tree_at (reading_of meaning.scope value) size)) (items_over meaning size items)) g
    ∙ ap (λ x. Case place kind (over_objects meaning.holders (tree_at (reading_of meaning.scope value) x)) (items_over meaning x items) (default_over meaning items)) s

-- statements of equal parts
pub for-over : (ts ts2 us us2 : List Target) (e e2 f f2 g g2 : Expression) (s s2 : Statement) (place : SourcePlace) → ts ≡ ts2 → e ≡ e2 → g ≡ g2 → us ≡ us2 → f ≡ f2 → s ≡ s2
    → For place ts e g us f s ≡ For place ts2 e2 g2 us2 f2 s2
for-over ts ts2 us us2 e e2 f f2 g g2 s s2 place h i j k l m =
    ap (λ x. For place x e g us f s) h ∙ ap (λ x. For place ts2 x g us f s) i ∙ ap (λ x. For place ts2 e2 x us f s) j ∙ ap (λ x. For place ts2 e2 g2 x f s) k
    ∙ ap (λ x. For place ts2 e2 g2 us2 x s) l ∙ ap (For place ts2 e2 g2 us2 f2) m

pub blocking-over : (ts ts2 : List Target) (d d2 : Option ℕ) (e e2 : Expression) (place : SourcePlace) → ts ≡ ts2 → d ≡ d2 → e ≡ e2 → Blocking place ts d e ≡ Blocking place ts2 d2 e2
blocking-over ts ts2 d d2 e e2 place h i j = ap (λ x. Blocking place x d e) h ∙ ap (λ x. Blocking place ts2 x e) i ∙ ap (Blocking place ts2 d2) j

pub nonblocking-over : (ts ts2 : List Target) (d d2 : ℕ) (e e2 : Expression) (place : SourcePlace) → ts ≡ ts2 → d ≡ d2 → e ≡ e2 → Nonblocking place ts d e ≡ Nonblocking place ts2 d2 e2
nonblocking-over ts ts2 d d2 e e2 place h i j = ap (λ x. Nonblocking place x d e) h ∙ ap (λ x. Nonblocking place ts2 x e) i ∙ ap (Nonblocking place ts2 d2) j
