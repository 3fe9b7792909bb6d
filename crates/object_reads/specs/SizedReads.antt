-- Expressions of which each is sized by itself, whatever sizes they take (IEEE 1364-2001, clause 4.4).
use Rattle.std.proofs.Common.{◌≡◌, ℕ, zero, suc, ◌<◌, ◌≤◌, Bool, List, [], ◌∷◌, length, map, get_or, sym, subst, arith}
use Rattle.vf_base.specs.Lists.{AllHold}
use Rattle.v_design.specs.Trees.{Expressions, no_expressions, more_expressions}
use Rattle.v_design.specs.Plain.{expression_of, expressions_of, statement_of}
use Rattle.v_design.specs.PlainLemmas.{statements_of, items_of}
use Rattle.v_design.specs.Sized.{IsSized, AreSizedAlone, AreLabels, IsSizedStatement, AreSizedStatements, AreSizedItems, levels_of_statement, levels_of_statements, levels_of_items}
use Rattle.v_design.specs.declared.tree.FlatExpr.{FlatExpr}
use Rattle.v_design.specs.declared.tree.FlatStmt.{FlatStmt}
use Rattle.v_design.specs.declared.tree.CaseItem.{CaseItem}

abbrev pub AreSized : Expressions → Type 0
AreSized no_expressions = Unit {0}
AreSized (more_expressions e rest) = IsSized e × AreSized rest

pub alone-are : (es : Expressions) → AreSizedAlone es → AreSized es
alone-are no_expressions h = tt
alone-are (more_expressions e rest) h = (h.1, alone-are rest h.2)

pub labels-are : (width : ℕ) (signed : Bool) (labels : Expressions) → AreLabels width signed labels → AreSized labels
labels-are width signed no_expressions h = tt
labels-are width signed (more_expressions label rest) h = (h.1, labels-are width signed rest h.2)

-- one of some

pub sized-at : (exprs : List FlatExpr) (i : ℕ) (x : FlatExpr) → AreSized (expressions_of exprs) → i < length exprs → x ≡ get_or exprs i x → IsSized (expression_of x)
sized-at [] i x h low at = absurd (omega arith)
sized-at (e ∷ exprs) zero x h low at = subst (λ (y : FlatExpr). IsSized (expression_of y)) (sym at) h.0
sized-at (e ∷ exprs) (suc i) x h low at = sized-at exprs i x h.1 (omega arith) at

pub holds-at : {A B : Type 0} (P : B → Type 0) (f : A → B) (xs : List A) (i : ℕ) (x : A) → AllHold P (map f xs) → i < length xs → x ≡ get_or xs i x → P (f x)
holds-at P f [] i x h low at = absurd (omega arith)
holds-at {A} P f (y ∷ xs) zero x h low at = subst (λ (z : A). P (f z)) (sym at) h.0
holds-at P f (y ∷ xs) (suc i) x h low at = holds-at P f xs i x h.1 (omega arith) at

pub statement-at : (statements : List FlatStmt) (i : ℕ) (x : FlatStmt) → AreSizedStatements (statements_of statements) → i < length statements → x ≡ get_or statements i x →
    IsSizedStatement (statement_of x)
statement-at [] i x h low at = absurd (omega arith)
statement-at (s ∷ statements) zero x h low at = subst (λ (y : FlatStmt). IsSizedStatement (statement_of y)) (sym at) h.0
statement-at (s ∷ statements) (suc i) x h low at = statement-at statements i x h.1 (omega arith) at

-- an item of a case
abbrev pub IsSizedItem : CaseItem → Type 0
IsSizedItem item = AreSized (expressions_of item.labels.items) × IsSizedStatement (statement_of item.statement)

pub item-at : (width : ℕ) (signed : Bool) (items : List CaseItem) (i : ℕ) (x : CaseItem) → AreSizedItems width signed (items_of items) → i < length items → x ≡ get_or items i x → IsSizedItem x
item-at width signed [] i x h low at = absurd (omega arith)
item-at width signed (item ∷ items) zero x h low at = subst IsSizedItem (sym at) (labels-are width signed (expressions_of item.labels.items) h.0, h.1)
item-at width signed (item ∷ items) (suc i) x h low at = item-at width signed items i x h.2 (omega arith) at

-- its levels are within those of all

pub statement-levels : (statements : List FlatStmt) (i : ℕ) (x : FlatStmt) → i < length statements → x ≡ get_or statements i x →
    levels_of_statement (statement_of x) ≤ levels_of_statements (statements_of statements)
statement-levels [] i x low at = absurd (omega arith)
statement-levels (s ∷ statements) zero x low at =
    subst (λ (y : FlatStmt). levels_of_statement (statement_of y) ≤ levels_of_statements (statements_of (s ∷ statements))) (sym at) (omega arith)
statement-levels (s ∷ statements) (suc i) x low at = let rest = statement-levels statements i x (omega arith) at in omega (arith, rest)

pub item-levels : (items : List CaseItem) (i : ℕ) (x : CaseItem) → i < length items → x ≡ get_or items i x → levels_of_statement (statement_of x.statement) ≤ levels_of_items (items_of items)
item-levels [] i x low at = absurd (omega arith)
item-levels (item ∷ items) zero x low at =
    subst (λ (y : CaseItem). levels_of_statement (statement_of y.statement) ≤ levels_of_items (items_of (item ∷ items))) (sym at) (omega arith)
item-levels (item ∷ items) (suc i) x low at = let rest = item-levels items i x (omega arith) at in omega (arith, rest)
