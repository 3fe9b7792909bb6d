-- Reading selects, targets, ranges and delays is exact, and each spelled one is read.
use Rattle.std.proofs.Common.{◌≡◌, ℕ, zero, suc, ◌<◌, ◌≤◌, List, [], ◌∷◌, ◌++◌, Option, Some, Ok, refl, sym, ◌∙◌, ap, subst, arith, append_assoc, lt-ltb, true, inl, inr}
use Rattle.std.specs.Prelude.{nat_lt}
use Rattle.v_tree.specs.Tokens.{SourceToken}
use Rattle.v_tree.specs.Trees.{SourceExpression, Number, Selected, Parenthesised, Prefixed, Infixed, Chosen, Concatenated, Replicated, NoIndex, IndexAt, IndexRange, SourceSelect, SourceTarget}
use Rattle.v_tree.specs.Trees.{OneSelect, JoinedSelects, SourceRange}
use Rattle.v_tree.specs.declared.token.NumberForm.TheVariants.{Plain}
use Rattle.v_tree.specs.declared.token.TokenKind.TheVariants as kinds
use Rattle.v_readers.specs.declared.class.Class.{Class}
use Rattle.v_readers.specs.declared.class.Class.TheVariants as classes
use Rattle.v_readers.specs.Classes.{token_at, token_of, name_token}
use Rattle.v_readers.specs.Reading.{followed, give, wrong}
use Rattle.v_readers.specs.Exact.{Language, Family, Exact, exact-bind, exact-under, exact-give, exact-weaken, exact-shift}
use Rattle.v_readers.specs.Branches.{nowhere, Some-of, Branch, branch, branch-wrong, branch-step, branch-down, exact-by_class, exact-after, exact-name, exact-number}
use Rattle.v_readers.specs.Repeat.{append-nil}
use Rattle.v_readers.specs.SeparatedLaws.{EachFits, exact-separated}
use Rattle.v_readers.specs.Reads.{name-reads, separated-reads}
use Rattle.v_expr.specs.Spelling.{SpellsExpression, SpellsIndex, SpellsSelect, SpellsTarget, SpellsRange, SpellsBareDelay, SpellsDelay}
use Rattle.v_expr.specs.Heights.{height_of, select_height, select_heights, target_height, range_height}
use Rattle.v_expr.specs.Expressions.{index, inner_of, expression}
use Rattle.v_expr.specs.Parts.{inner_expression, select, inner_select, target_by, target, inner_target, range, delay_by, delay, inner_delay}
use Rattle.v_expr.specs.ExpressionExact.{Within, Below, index-exact, inner-exact, expression-exact}
use Rattle.v_expr.specs.ExpressionReads.{Ends, EndsBefore, index-reads, inner-reads, expression-reads}

abbrev pub SelectWithin : ℕ → SourceSelect → Type 0
SelectWithin k s = select_height s ≤ k

abbrev pub SelectBelow : ℕ → SourceSelect → Type 0
SelectBelow k s = select_height s < k

abbrev pub TargetWithin : ℕ → SourceTarget → Type 0
TargetWithin k t = target_height t ≤ k

abbrev pub RangeWithin : ℕ → SourceRange → Type 0
RangeWithin k r = range_height r ≤ k

-- a reader one level down
pub exact-inner : {A : Type 0} {P R : Family A} {L : Language A} (height : A → ℕ) → ((tokens : List SourceToken) → R 0 tokens ≡ wrong tokens) →
    ((k : ℕ) (tokens : List SourceToken) → R (suc k) tokens ≡ P k tokens)
    → ((k : ℕ) → Exact (Unit {0}) P k L (λ x. height x ≤ k)) → (k : ℕ) → Exact (0 < k) R k L (λ x. height x < k)
exact-inner {A} {P} {R} {L} height none same exact zero = record {
  any = (exact 0).any;
  some = λ c. absurd (let p : 0 < 0 = c in omega arith);
  tells = λ c tokens. absurd (let p : 0 < 0 = c in omega arith);
}
exact-inner {A} {P} {R} {L} height none same exact (suc k) = exact-shift {C = Unit {0}} R (λ x. height x < suc k) same (λ x h. omega (arith, h)) (λ d. tt) (exact k)

-- Expressions

pub expression-within : {C : Type 0} (k : ℕ) → Exact C expression k SpellsExpression (Within k)
expression-within k = exact-weaken (λ e ts s. s.1) (expression-exact k)

pub inner_expression-exact : (k : ℕ) → Exact (0 < k) inner_expression k SpellsExpression (Below k)
unfolding inner_expression
inner_expression-exact = exact-inner {R = inner_expression} height_of (λ tokens. refl) (λ k tokens. refl) expression-within

pub inner_expression-reads : (k : ℕ) (e : SourceExpression) (ts rest : List SourceToken) → SpellsExpression e ts → height_of e < k → Ends 11 rest → inner_expression k (ts ++ rest) ≡ Ok (e, rest)
unfolding inner_expression
inner_expression-reads zero e ts rest s low ends = absurd (let p : height_of e < 0 = low in omega arith)
inner_expression-reads (suc k) e ts rest s low ends = expression-reads k e ts rest s (omega (arith, low)) ends

-- Selects

pub select-exact : {C : Type 0} (k : ℕ) → Exact C select k SpellsSelect (SelectWithin k)
unfolding select
select-exact {C} k =
    exact-bind exact-name (λ n front spelled.
    exact-bind (index-exact k (inner-exact k)) (λ at after ends.
    exact-give (record { place = n.1; name = n.0; index = at })
    (spelled.0, after ++ [], subst (SpellsIndex at) (sym (append-nil after)) ends, ap (λ f. f ++ (after ++ [])) spelled.1) (λ c. c.1)))

pub inner_select-exact : (k : ℕ) → Exact (0 < k) inner_select k SpellsSelect (SelectBelow k)
unfolding inner_select
inner_select-exact = exact-inner {R = inner_select} select_height (λ tokens. refl) (λ k tokens. refl) select-exact

pub select-reads : (k : ℕ) (s : SourceSelect) (ts rest : List SourceToken) → SpellsSelect s ts → select_height s ≤ k → Ends 0 rest → select k (ts ++ rest) ≡ Ok (s, rest)
unfolding select
select-reads k s ts rest h low ends =
    ap (λ f. select k (f ++ rest)) h.3
    ∙ ap (λ r. followed r (λ n tokens. followed (index k (inner_of k) tokens) (λ at. give (record { place = n.1; name = n.0; index = at })))) (name-reads s.name s.place (h.1 ++ rest) h.0)
    ∙ ap (λ r. followed r (λ at. give (record { place = s.place; name = s.name; index = at }))) (index-reads k (inner-reads k) s.index h.1 rest h.2 low ends)

pub inner_select-reads : (k : ℕ) (s : SourceSelect) (ts rest : List SourceToken) → SpellsSelect s ts → select_height s < k → Ends 0 rest → inner_select k (ts ++ rest) ≡ Ok (s, rest)
unfolding inner_select
inner_select-reads zero s ts rest h low ends = absurd (let p : select_height s < 0 = low in omega arith)
inner_select-reads (suc k) s ts rest h low ends = select-reads k s ts rest h (omega (arith, low)) ends

-- Targets

selects-below : (k : ℕ) (ss : List SourceSelect) → 0 < k → EachFits (SelectBelow k) ss → select_heights ss < k
selects-below k [] some h = some
selects-below k (s ∷ ss) some h = let rest : select_heights ss < k = selects-below k ss some h.1 in let first : select_height s < k = h.0 in omega arith

each-below : (k : ℕ) (ss : List SourceSelect) → select_heights ss < k → EachFits (SelectBelow k) ss
each-below k [] h = tt
each-below k (s ∷ ss) h = (omega (arith, h), each-below k ss (omega (arith, h)))

pub target-exact : {C : Type 0} (k : ℕ) → Exact C target k SpellsTarget (TargetWithin k)
unfolding target
target-exact {C} k = exact-by_class target_by some each
  where
    some : Some-of C SpellsTarget (TargetWithin k)
    some =
        let x = select-exact {C = Unit {0}} k in
        let y = x.some tt in
        ((OneSelect y.0, y.1, y.2), λ c. (OneSelect y.0, y.1, y.2, y.3))

    other : {class : Option Class} → Branch C (λ m. wrong) k SpellsTarget (TargetWithin k) class
    other = branch-wrong some

    each : (class : Option Class) → Branch C (λ m. target_by m class) k SpellsTarget (TargetWithin k) class
    each (Some classes.Name) = branch (exact-bind (select-exact k) (λ s front spelled. exact-give (OneSelect s) (subst (SpellsSelect s) (sym (append-nil front)) spelled) (λ c. c.1)))
    each (Some classes.LeftBrace) = branch-down refl 0 (λ place.
        exact-bind (exact-under (λ c. c.1) (exact-separated inner_select k SpellsSelect (SelectBelow k) classes.Comma refl (inner_select-exact k))) (λ selects inside all.
        exact-after classes.RightBrace refl (λ closing.
        exact-give (JoinedSelects place selects) (closing, inside, all, refl)
        (λ c. let low : select_heights selects < k = selects-below k selects c.0.1 c.1 in omega arith))))
    each _ = other

pub inner_target-exact : (k : ℕ) → Exact (0 < k) inner_target k SpellsTarget (λ t. target_height t < k)
unfolding inner_target
inner_target-exact = exact-inner {R = inner_target} target_height (λ tokens. refl) (λ k tokens. refl) target-exact

pub target-reads : (k : ℕ) (t : SourceTarget) (ts rest : List SourceToken) → SpellsTarget t ts → target_height t ≤ k → Ends 0 rest → target k (ts ++ rest) ≡ Ok (t, rest)
unfolding target
target-reads k (OneSelect s) ts rest h low ends =
    ap (λ f. target k (f ++ rest)) h.3
    ∙ ap (λ c. target_by k c (name_token s.name s.place ∷ (h.1 ++ rest))) (ap (λ (c : Class). Some c) h.0)
    ∙ ap (λ f. followed (select k (f ++ rest)) (λ s. give (OneSelect s))) (sym h.3)
    ∙ ap (λ r. followed r (λ s. give (OneSelect s))) (select-reads k s ts rest h low ends)
target-reads k (JoinedSelects place selects) ts rest h low ends =
    let some : nat_lt 0 k ≡ true = lt-ltb 0 k (omega (arith, low)) in
    let brace = token_of classes.RightBrace h.0 ∷ rest in
    let read = separated-reads (inner_select k) SpellsSelect (SelectBelow k) (EndsBefore 0) classes.Comma (omega arith) (inner_select-reads k) selects h.1 brace h.2
    (each-below k selects (omega (arith, low))) (omega arith) refl in
    ap (λ f. target k (f ++ rest)) h.3
    ∙ rw (some, append_assoc h.1 (token_of classes.RightBrace h.0 ∷ []) rest, read) refl

pub inner_target-reads : (k : ℕ) (t : SourceTarget) (ts rest : List SourceToken) → SpellsTarget t ts → target_height t < k → Ends 0 rest → inner_target k (ts ++ rest) ≡ Ok (t, rest)
unfolding inner_target
inner_target-reads zero t ts rest s low ends = absurd (let p : target_height t < 0 = low in omega arith)
inner_target-reads (suc k) t ts rest s low ends = target-reads k t ts rest s (omega (arith, low)) ends

-- Ranges

pub range-exact : {C : Type 0} (k : ℕ) → Exact C range k SpellsRange (RangeWithin k)
unfolding range
range-exact {C} k =
    exact-after classes.LeftBracket refl (λ place.
    exact-bind (expression-exact k) (λ high before first.
    exact-after classes.Colon refl (λ colon.
    exact-bind (expression-exact k) (λ low after second.
    exact-after classes.RightBracket refl (λ closing.
    exact-give (record { place = place; high = high; low = low }) (colon, closing, before, after, first.1, second.1, refl)
    (λ c. omega (arith, c.0.1, c.1)))))))

pub range-reads : (k : ℕ) (r : SourceRange) (ts rest : List SourceToken) → SpellsRange r ts → range_height r ≤ k → range k (ts ++ rest) ≡ Ok (r, rest)
unfolding range
range-reads k r ts rest s h =
    let close = token_of classes.RightBracket s.1 in
    let colon = token_of classes.Colon s.0 in
    let high = expression-reads k r.high s.2 (colon ∷ (s.3 ++ close ∷ rest)) s.4 (omega (arith, h)) (omega arith) in
    let low = expression-reads k r.low s.3 (close ∷ rest) s.5 (omega (arith, h)) (omega arith) in
    let regrouped : (s.2 ++ colon ∷ (s.3 ++ close ∷ [])) ++ rest ≡ s.2 ++ (colon ∷ (s.3 ++ close ∷ rest)) =
    append_assoc s.2 (colon ∷ (s.3 ++ close ∷ [])) rest ∙ ap (λ f. s.2 ++ colon ∷ f) (append_assoc s.3 (close ∷ []) rest) in
    ap (λ f. range k (f ++ rest)) s.6 ∙ rw (regrouped, high, low) refl

-- Delays

pub delay-exact : {C : Type 0} (k : ℕ) → Exact C delay k SpellsDelay (Within k)
unfolding delay
delay-exact {C} k = exact-by_class delay_by some each
  where
    some : Some-of C SpellsDelay (Within k)
    some =
        let e = Number nowhere Plain [] in
        let ts = token_at (kinds.Number [] Plain) nowhere ∷ [] in
        ((e, ts, inl refl), λ c. (e, ts, inl refl, omega arith))

    other : {class : Option Class} → Branch C (λ m. wrong) k SpellsDelay (Within k) class
    other = branch-wrong some

    each : (class : Option Class) → Branch C (λ m. delay_by m class) k SpellsDelay (Within k) class
    each (Some classes.Number) = branch (exact-bind exact-number (λ n front spelled. exact-give (Number n.1 n.0.1 n.0.0) (inl (ap (λ f. f ++ []) spelled)) (λ c. omega arith)))
    each (Some classes.Name) = branch (exact-bind exact-name (λ n front spelled.
        exact-give (Selected n.1 n.0 NoIndex) (inl (spelled.0, ap (λ f. f ++ []) spelled.1)) (λ c. omega arith)))
    each (Some classes.LeftParen) = branch-step refl (λ opening.
        exact-bind (expression-exact k) (λ e inside spelled.
        exact-after classes.RightParen refl (λ closing.
        exact-give e (inr (opening, closing, inside, spelled.1, refl)) (λ c. c.1))))
    each _ = other

pub inner_delay-exact : (k : ℕ) → Exact (0 < k) inner_delay k SpellsDelay (Below k)
unfolding inner_delay
inner_delay-exact = exact-inner {R = inner_delay} height_of (λ tokens. refl) (λ k tokens. refl) delay-exact

bare-reads : (k : ℕ) (d : SourceExpression) (ts rest : List SourceToken) → SpellsBareDelay d ts → delay k (ts ++ rest) ≡ Ok (d, rest)
unfolding delay
bare-reads k (Number place form value) ts rest s = ap (λ f. delay k (f ++ rest)) s
bare-reads k (Selected place name NoIndex) ts rest s =
    ap (λ f. delay k (f ++ rest)) s.1
    ∙ ap (λ c. delay_by k c (name_token name place ∷ rest)) (ap (λ (c : Class). Some c) s.0)
    ∙ ap (λ r. followed r (λ n. give (Selected n.1 n.0 NoIndex))) (name-reads name place rest s.0)
bare-reads k (Selected place name (IndexAt at)) ts rest s = absurd s
bare-reads k (Selected place name (IndexRange from to)) ts rest s = absurd s
bare-reads k (Parenthesised place e) ts rest s = absurd s
bare-reads k (Prefixed place o e) ts rest s = absurd s
bare-reads k (Infixed place o a b) ts rest s = absurd s
bare-reads k (Chosen place a b c) ts rest s = absurd s
bare-reads k (Concatenated place es) ts rest s = absurd s
bare-reads k (Replicated place n es) ts rest s = absurd s

pub delay-reads : (k : ℕ) (d : SourceExpression) (ts rest : List SourceToken) → SpellsDelay d ts → height_of d ≤ k → delay k (ts ++ rest) ≡ Ok (d, rest)
unfolding delay
delay-reads k d ts rest (inl s) low = bare-reads k d ts rest s
delay-reads k d ts rest (inr s) low =
    let read = expression-reads k d s.2 (token_of classes.RightParen s.1 ∷ rest) s.3 low (omega arith) in
    ap (λ f. delay k (f ++ rest)) s.4 ∙ rw (append_assoc s.2 (token_of classes.RightParen s.1 ∷ []) rest, read) refl

pub inner_delay-reads : (k : ℕ) (d : SourceExpression) (ts rest : List SourceToken) → SpellsDelay d ts → height_of d < k → inner_delay k (ts ++ rest) ≡ Ok (d, rest)
unfolding inner_delay
inner_delay-reads zero d ts rest s low = absurd (let p : height_of d < 0 = low in omega arith)
inner_delay-reads (suc k) d ts rest s low = delay-reads k d ts rest s (omega (arith, low))
