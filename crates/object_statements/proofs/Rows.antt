-- Lists of the code that are built of a source list, one after another.
use Rattle.std.proofs.Common.{◌≡◌, ℕ, ◌+◌, ◌<◌, ◌≤◌, List, [], ◌∷◌, ◌++◌, length, get_or, drop, refl, sym, ap, append_assoc, ◌∙◌}
use Rattle.v_design.specs.Trees.{Expressions, no_expressions, more_expressions, Statements, no_statements, more_statements, CaseItems, no_items, more_items}
use Rattle.v_design.specs.Plain.{expression_of, expressions_of, statement_of}
use Rattle.v_design.specs.PlainLemmas.{statements_of, items_of}
use Rattle.v_design.specs.declared.tree.FlatExpr.{FlatExpr}
use Rattle.v_design.specs.declared.tree.FlatStmt.{FlatStmt}
use Rattle.v_design.specs.declared.tree.CaseItem.{CaseItem}
use Rattle.object_statements.specs.CaseItems.{then_items}
use Rattle.name_checks.specs.Rows.{drop-step, drop-past}

-- expressions behind others
abbrev pub then_expressions : Expressions → Expressions → Expressions
then_expressions no_expressions rest = rest
then_expressions (more_expressions e es) rest = more_expressions e (then_expressions es rest)

pub expressions-push : (es : List FlatExpr) (e : FlatExpr) (rest : Expressions) → then_expressions (expressions_of (es ++ e ∷ [])) rest ≡ then_expressions (expressions_of es)
    (more_expressions (expression_of e) rest)
expressions-push [] e rest = refl
expressions-push (x ∷ es) e rest = ap (more_expressions (expression_of x)) (expressions-push es e rest)

pub expressions-end : (es : Expressions) → then_expressions es no_expressions ≡ es
expressions-end no_expressions = refl
expressions-end (more_expressions e es) = ap (more_expressions e) (expressions-end es)

-- statements behind others
abbrev pub then_statements : Statements → Statements → Statements
then_statements no_statements rest = rest
then_statements (more_statements s ss) rest = more_statements s (then_statements ss rest)

pub statements-push : (ss : List FlatStmt) (s : FlatStmt) (rest : Statements) → then_statements (statements_of (ss ++ s ∷ [])) rest ≡ then_statements (statements_of ss)
    (more_statements (statement_of s) rest)
statements-push [] s rest = refl
statements-push (x ∷ ss) s rest = ap (more_statements (statement_of x)) (statements-push ss s rest)

pub statements-end : (ss : Statements) → then_statements ss no_statements ≡ ss
statements-end no_statements = refl
statements-end (more_statements s ss) = ap (more_statements s) (statements-end ss)

pub items-push : (items : List CaseItem) (item : CaseItem) (rest : CaseItems) → then_items (items_of (items ++ item ∷ [])) rest ≡ then_items (items_of items)
    (more_items (expressions_of item.labels.items) (statement_of item.statement) rest)
items-push [] item rest = refl
items-push (x ∷ items) item rest = ap (more_items (expressions_of x.labels.items) (statement_of x.statement)) (items-push items item rest)

pub items-end : (items : CaseItems) → then_items items no_items ≡ items
items-end no_items = refl
items-end (more_items labels s items) = ap (more_items labels s) (items-end items)

-- what is made of a list that is taken apart from its front
pub made-step : {A C : Type 0} (h : List A → C) (xs : List A) (i : ℕ) (x : A) (whole : C) → i < length xs → x ≡ get_or xs i x → h (drop i xs) ≡ whole → h (x ∷ drop (i + 1) xs) ≡ whole
made-step h xs i x whole below at e = ap h (sym (drop-step xs i x below at)) ∙ e

pub made-end : {A C : Type 0} (h : List A → C) (xs : List A) (i : ℕ) (whole : C) → length xs ≤ i → h (drop i xs) ≡ whole → h [] ≡ whole
made-end h xs i whole past e = ap h (sym (drop-past xs i past)) ∙ e

-- two lists behind a list
pub then-more : {A : Type 0} (a b c x y : List A) → b ≡ a ++ x → c ≡ b ++ y → c ≡ a ++ (x ++ y)
then-more a b c x y e f = f ∙ ap (λ l. l ++ y) e ∙ append_assoc a x y

-- the same, where the second one is known by another word
pub then-same : {A : Type 0} (a b c x y z : List A) → b ≡ a ++ x → c ≡ b ++ y → y ≡ z → c ≡ a ++ (x ++ z)
then-same a b c x y z e f g = then-more a b c x y e f ∙ ap (λ l. a ++ (x ++ l)) g

-- three lists behind a list
pub then-three : {A : Type 0} (a b c d x y z v w : List A) → b ≡ a ++ x → c ≡ b ++ y → d ≡ c ++ z → y ≡ v → z ≡ w → d ≡ a ++ (x ++ (v ++ w))
then-three a b c d x y z v w e f g h k = then-more a b d x (v ++ w) e (then-same b c d v z w (f ∙ ap (λ l. b ++ l) h) g k)

-- four lists behind a list
pub then-four : {A : Type 0} (a b c d e x y z v w : List A) → b ≡ a ++ x → c ≡ b ++ y → d ≡ c ++ z → e ≡ d ++ v → v ≡ w → e ≡ a ++ (x ++ (y ++ (z ++ w)))
then-four a b c d e x y z v w p q r s h = then-more a b e x (y ++ (z ++ w)) p (then-more b c e y (z ++ w) q (then-same c d e z v w r s h))
