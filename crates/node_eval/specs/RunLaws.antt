-- Parts of a statement that may be run, and the item that a case chooses (IEEE 1364-2001, clause 9.4 and clause 9.5).
use Rattle.std.proofs.Common.{◌≡◌, ℕ, zero, suc, ◌+◌, ◌<◌, ◌≤◌, Bool, true, false, ◌||◌, List, [], ◌∷◌, ◌++◌, length, get_or, drop, refl, ap, arith}
use Rattle.std.specs.Prelude.{nat_eq}
use Rattle.std.proofs.lemmas.Bool.{or_right}
use Rattle.std.proofs.lemmas.List.{drop_more}
use Rattle.vf_base.specs.Base.{SourcePlace}
use Rattle.vf_base.specs.declared.ids.ObjectId.{ObjectId}
use Rattle.four_value.specs.Values.{LogicValue}
use Rattle.four_value.specs.declared.operator.CaseKind.{CaseKind}
use Rattle.vf_base.specs.Lists.{has}
use Rattle.v_design.specs.Trees.{Expression, Statement, Block, If, Case, CaseItems}
use Rattle.v_design.specs.Plain.{expression_of, expressions_of, statement_of}
use Rattle.v_design.specs.declared.tree.FlatExpr.{FlatExpr}
use Rattle.v_design.specs.Expressions.{value_of}
use Rattle.four_value.specs.Operators.{label_matches}
use Rattle.v_design.specs.PlainLemmas.{statements_of, items_of}
use Rattle.v_design.specs.declared.tree.FlatStmt.{FlatStmt}
use Rattle.v_design.specs.declared.tree.CaseItem.{CaseItem}
use Rattle.v_design.specs.Assignments.{value_at, either_values, some_label_matches, label_values, run_statement, run_statements, run_items}
use Rattle.v_design.specs.Reads.{named_in, named_in_parts, named_by, named_by_all, named_by_items, written_objects, all_written, items_written}
use Rattle.v_design.specs.Sized.{levels_of_parts, IsSizedStatement, AreSizedItems, AreLabels, levels_of_statement, levels_of_statements, levels_of_items}
use Rattle.expr_eval.specs.Operands.{AreThere}
use Rattle.expr_eval.specs.WidthLaws.{AllHold-left, AllHold-right}
use Rattle.node_eval.specs.Running.{MayRun}

keep-left : (b c d : Bool) → (c ≡ true → d ≡ true) → (b || c) ≡ true → (b || d) ≡ true
keep-left true c d more h = refl
keep-left false c d more h = more h

pub has-left : (xs ys : List ℕ) (object : ℕ) → has xs object ≡ true → has (xs ++ ys) object ≡ true
has-left [] ys object h = cc
has-left (x ∷ xs) ys object h = keep-left (nat_eq x object) (has xs object) (has (xs ++ ys) object) (λ e. has-left xs ys object e) h

pub has-right : (xs ys : List ℕ) (object : ℕ) → has ys object ≡ true → has (xs ++ ys) object ≡ true
has-right [] ys object h = h
has-right (x ∷ xs) ys object h = or_right (nat_eq x object) (has (xs ++ ys) object) (has-right xs ys object h)

-- the branches of an if
pub may-first : (values : List LogicValue) (outputs : List ObjectId) (place : SourcePlace) (condition : Expression) (first second : Statement) →
    MayRun values outputs (If place condition first second) → MayRun values outputs first
may-first values outputs place condition first second may = record {
  sized = may.sized.1;
  there = AllHold-left _ (named_by first) (named_by second) (AllHold-right _ (named_in condition) (named_by first ++ named_by second) may.there);
  written = λ object h. may.written object (has-left (written_objects first) (written_objects second) object h);
  levels = omega (arith, may.levels);
}

pub may-second : (values : List LogicValue) (outputs : List ObjectId) (place : SourcePlace) (condition : Expression) (first second : Statement) →
    MayRun values outputs (If place condition first second) → MayRun values outputs second
may-second values outputs place condition first second may = record {
  sized = may.sized.2;
  there = AllHold-right _ (named_by first) (named_by second) (AllHold-right _ (named_in condition) (named_by first ++ named_by second) may.there);
  written = λ object h. may.written object (has-right (written_objects first) (written_objects second) object h);
  levels = omega (arith, may.levels);
}

-- a statement of a block
pub may-at : (values : List LogicValue) (outputs : List ObjectId) (statements : List FlatStmt) (i : ℕ) (d : FlatStmt) → i < length statements →
    MayRun values outputs (Block (statements_of statements)) → MayRun values outputs (statement_of (get_or statements i d))
may-at values outputs [] i d low may = absurd (omega arith)
may-at values outputs (s ∷ statements) zero d low may = record {
  sized = may.sized.0;
  there = AllHold-left _ (named_by (statement_of s)) (named_by_all (statements_of statements)) may.there;
  written = λ object h. may.written object (has-left (written_objects (statement_of s)) (all_written (statements_of statements)) object h);
  levels = omega (arith, may.levels);
}
may-at values outputs (s ∷ statements) (suc i) d low may = may-at values outputs statements i d (omega arith) (record {
  sized = may.sized.1;
  there = AllHold-right _ (named_by (statement_of s)) (named_by_all (statements_of statements)) may.there;
  written = λ object h. may.written object (has-right (written_objects (statement_of s)) (all_written (statements_of statements)) object h);
  levels = omega (arith, may.levels);
})

pub levels-at : (statements : List FlatStmt) (i : ℕ) (d : FlatStmt) → i < length statements →
    levels_of_statement (statement_of (get_or statements i d)) ≤ levels_of_statements (statements_of statements)
levels-at [] i d low = absurd (omega arith)
levels-at (s ∷ statements) zero d low = omega arith
levels-at (s ∷ statements) (suc i) d low = let rest = levels-at statements i d (omega arith) in omega arith

-- one statement more
pub statements-from : (statements : List FlatStmt) (i : ℕ) (d : FlatStmt) (values : List LogicValue) → i < length statements →
    run_statements (statements_of (drop i statements)) values ≡ run_statements (statements_of (drop (i + 1) statements)) (run_statement (statement_of (get_or statements i d)) values)
statements-from statements i d values low = ap (λ l. run_statements (statements_of l) values) (drop_more statements i d low)

-- Cases

-- the default
pub may-default : (values : List LogicValue) (outputs : List ObjectId) (place : SourcePlace) (kind : CaseKind) (value : Expression) (items : CaseItems) (default : Statement) →
    MayRun values outputs (Case place kind value items default) → MayRun values outputs default
may-default values outputs place kind value items default may = record {
  sized = may.sized.3;
  there = AllHold-right _ (named_by_items items) (named_by default) (AllHold-right _ (named_in value) (named_by_items items ++ named_by default) may.there);
  written = λ object h. may.written object (has-right (items_written items) (written_objects default) object h);
  levels = omega (arith, may.levels);
}

sized-item : (width : ℕ) (signed : Bool) (items : List CaseItem) (i : ℕ) (d : CaseItem) → i < length items → AreSizedItems width signed (items_of items) →
    IsSizedStatement (statement_of (get_or items i d).statement)
sized-item width signed [] i d low h = absurd (omega arith)
sized-item width signed (item ∷ items) zero d low h = h.1
sized-item width signed (item ∷ items) (suc i) d low h = sized-item width signed items i d (omega arith) h.2

there-item : (values : List LogicValue) (items : List CaseItem) (i : ℕ) (d : CaseItem) → i < length items → AreThere values (named_by_items (items_of items)) →
    AreThere values (named_by (statement_of (get_or items i d).statement))
there-item values [] i d low h = absurd (omega arith)
there-item values (item ∷ items) zero d low h =
    AllHold-left _ (named_by (statement_of item.statement)) (named_by_items (items_of items))
    (AllHold-right _ (named_in_parts (expressions_of item.labels.items)) (named_by (statement_of item.statement) ++ named_by_items (items_of items)) h)
there-item values (item ∷ items) (suc i) d low h =
    there-item values items i d (omega arith)
    (AllHold-right _ (named_by (statement_of item.statement)) (named_by_items (items_of items))
    (AllHold-right _ (named_in_parts (expressions_of item.labels.items)) (named_by (statement_of item.statement) ++ named_by_items (items_of items)) h))

written-item : (items : List CaseItem) (i : ℕ) (d : CaseItem) (object : ℕ) → i < length items → has (written_objects (statement_of (get_or items i d).statement)) object ≡ true →
    has (items_written (items_of items)) object ≡ true
written-item [] i d object low h = absurd (omega arith)
written-item (item ∷ items) zero d object low h = has-left (written_objects (statement_of item.statement)) (items_written (items_of items)) object h
written-item (item ∷ items) (suc i) d object low h =
    has-right (written_objects (statement_of item.statement)) (items_written (items_of items)) object (written-item items i d object (omega arith) h)

pub levels-item : (items : List CaseItem) (i : ℕ) (d : CaseItem) → i < length items → levels_of_statement (statement_of (get_or items i d).statement) ≤ levels_of_items (items_of items)
levels-item [] i d low = absurd (omega arith)
levels-item (item ∷ items) zero d low = omega arith
levels-item (item ∷ items) (suc i) d low = let rest = levels-item items i d (omega arith) in omega arith

-- an item
pub may-item : (values : List LogicValue) (outputs : List ObjectId) (place : SourcePlace) (kind : CaseKind) (value : Expression) (items : List CaseItem) (default : Statement) (i : ℕ)
    (d : CaseItem) → i < length items →
    MayRun values outputs (Case place kind value (items_of items) default) → MayRun values outputs (statement_of (get_or items i d).statement)
may-item values outputs place kind value items default i d low may =
    let named = AllHold-left _ (named_by_items (items_of items)) (named_by default) (AllHold-right _ (named_in value) (named_by_items (items_of items) ++ named_by default) may.there) in
    record {
      sized = sized-item _ _ items i d low may.sized.2;
      there = there-item values items i d low named;
      written = λ object h. may.written object (has-left (items_written (items_of items)) (written_objects default) object (written-item items i d object low h));
      levels = let most = levels-item items i d low in omega (arith, may.levels, most);
    }

-- the labels of an item
pub labels-sized : (width : ℕ) (signed : Bool) (items : List CaseItem) (i : ℕ) (d : CaseItem) → i < length items → AreSizedItems width signed (items_of items) →
    AreLabels width signed (expressions_of (get_or items i d).labels.items)
labels-sized width signed [] i d low h = absurd (omega arith)
labels-sized width signed (item ∷ items) zero d low h = h.0
labels-sized width signed (item ∷ items) (suc i) d low h = labels-sized width signed items i d (omega arith) h.2

pub labels-there : (values : List LogicValue) (items : List CaseItem) (i : ℕ) (d : CaseItem) → i < length items → AreThere values (named_by_items (items_of items)) →
    AreThere values (named_in_parts (expressions_of (get_or items i d).labels.items))
labels-there values [] i d low h = absurd (omega arith)
labels-there values (item ∷ items) zero d low h =
    AllHold-left _ (named_in_parts (expressions_of item.labels.items)) (named_by (statement_of item.statement) ++ named_by_items (items_of items)) h
labels-there values (item ∷ items) (suc i) d low h =
    labels-there values items i d (omega arith)
    (AllHold-right _ (named_by (statement_of item.statement)) (named_by_items (items_of items))
    (AllHold-right _ (named_in_parts (expressions_of item.labels.items)) (named_by (statement_of item.statement) ++ named_by_items (items_of items)) h))

pub labels-levels : (items : List CaseItem) (i : ℕ) (d : CaseItem) → i < length items → levels_of_parts (expressions_of (get_or items i d).labels.items) ≤ levels_of_items (items_of items)
labels-levels [] i d low = absurd (omega arith)
labels-levels (item ∷ items) zero d low = omega arith
labels-levels (item ∷ items) (suc i) d low = let rest = labels-levels items i d (omega arith) in omega arith

-- one label
pub label-there : (values : List LogicValue) (labels : List FlatExpr) (i : ℕ) (d : FlatExpr) → i < length labels → AreThere values (named_in_parts (expressions_of labels)) →
    AreThere values (named_in (expression_of (get_or labels i d)))
label-there values [] i d low h = absurd (omega arith)
label-there values (label ∷ labels) zero d low h = AllHold-left _ (named_in (expression_of label)) (named_in_parts (expressions_of labels)) h
label-there values (label ∷ labels) (suc i) d low h =
    label-there values labels i d (omega arith) (AllHold-right _ (named_in (expression_of label)) (named_in_parts (expressions_of labels)) h)

-- one label more
pub labels-more : (kind : CaseKind) (value : LogicValue) (values : ℕ → LogicValue) (labels : List FlatExpr) (i : ℕ) (d : FlatExpr) → i < length labels →
    some_label_matches kind value (label_values values (expressions_of (drop i labels)))
    ≡ (label_matches kind value (value_of values (expression_of (get_or labels i d))) || some_label_matches kind value (label_values values (expressions_of (drop (i + 1) labels))))
labels-more kind value values labels i d low = ap (λ l. some_label_matches kind value (label_values values (expressions_of l))) (drop_more labels i d low)

-- one item more
pub items-from : (kind : CaseKind) (value : LogicValue) (items : List CaseItem) (i : ℕ) (d : CaseItem) (values otherwise : List LogicValue) → i < length items →
    run_items kind value (items_of (drop i items)) values otherwise
    ≡ either_values (some_label_matches kind value (label_values (value_at values) (expressions_of (get_or items i d).labels.items))) (run_statement (statement_of (get_or items i d).statement) values)
    (run_items kind value (items_of (drop (i + 1) items)) values otherwise)
items-from kind value items i d values otherwise low = ap (λ l. run_items kind value (items_of l) values otherwise) (drop_more items i d low)
