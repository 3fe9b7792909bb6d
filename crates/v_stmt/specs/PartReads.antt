-- Each spelled part of a statement is read.
use Rattle.std.proofs.Common.{◌≡◌, ℕ, ◌+◌, ◌-◌, ◌<◌, Bool, true, false, List, [], ◌∷◌, ◌++◌, Option, Some, None, Ok, refl, sym, ◌∙◌, ap, subst, arith, append_assoc, length-append, eqb-true, inl, inr}
use Rattle.std.specs.Prelude.{nat_lt, if◌then◌else◌}
use Rattle.vf_base.specs.Base.{SourcePlace}
use Rattle.four_value.specs.declared.logic.Edge.{Edge}
use Rattle.four_value.specs.declared.logic.Edge.TheVariants.{Any, Pos, Neg}
use Rattle.four_value.specs.declared.operator.UnaryOperator.{UnaryOperator}
use Rattle.v_tree.specs.Tokens.{SourceToken}
use Rattle.v_tree.specs.Trees.{SourceExpression, Number, Selected, Parenthesised, Prefixed, Infixed, Chosen, Concatenated, Replicated, SourceSelect, SourceTarget, SourceEntry, SourceWaits}
use Rattle.v_tree.specs.Trees.{OnAnyRead, OnEntries}
use Rattle.v_readers.specs.declared.class.Class.{Class}
use Rattle.v_readers.specs.declared.class.Class.TheVariants as classes
use Rattle.v_readers.specs.Classes.{class_of, same_class, token_of, name_token}
use Rattle.v_readers.specs.ClassLaws.{class_of-kind_of}
use Rattle.v_readers.specs.Reading.{Reading, followed, give, next_class, by_class, repeat}
use Rattle.v_readers.specs.Reads.{next-class, name-reads, turn-is, last-is}
use Rattle.v_expr.specs.Operators.{unary_of}
use Rattle.v_expr.specs.Spelling.{SpellsExpression, SpellsSelect}
use Rattle.v_expr.specs.Heights.{height_of, select_height, target_height}
use Rattle.v_expr.specs.ExpressionReads.{Ends, EndsBefore}
use Rattle.v_expr.specs.PartLaws.{inner_expression-reads, inner_select-reads, inner_target-reads, inner_delay-reads}
use Rattle.v_stmt.specs.Spelling.{SpellsLabel, SpellsColon, SpellsEdge, SpellsEntry, is_entry_separator, SpellsMoreEntries, SpellsEntries, name_entry, SpellsWaits, SpellsInnerDelay, is_balanced}
use Rattle.v_stmt.specs.Spelling.{SpellsArguments}
use Rattle.v_stmt.specs.Heights.{entries_height, waits_height, delay_height}
use Rattle.v_stmt.specs.Statements.{label_by, label, colon_by, colon, edged, entry_by, entry, another_entry, entries_by, entries_turn, entry_row, entries, inside_by, waits_by, waits}
use Rattle.v_stmt.specs.Statements.{assigned_delay_by, assigned_delay, skipped, arguments, condition, head_assignment}
use Rattle.v_stmt.specs.PartExact.{SpellsCondition, SpellsHead}

-- What an expression begins with

-- whether an expression begins with a token of this class
abbrev pub begins_expression : Class → Bool
begins_expression classes.Number = true
begins_expression classes.Name = true
begins_expression classes.LeftParen = true
begins_expression classes.LeftBrace = true
begins_expression classes.Plus = true
begins_expression classes.Minus = true
begins_expression classes.Bang = true
begins_expression classes.Tilde = true
begins_expression classes.And = true
begins_expression classes.Nand = true
begins_expression classes.Or = true
begins_expression classes.Nor = true
begins_expression classes.Caret = true
begins_expression classes.TildeCaret = true
begins_expression classes.CaretTilde = true
begins_expression _ = false

abbrev pub leads : Option Class → Bool
leads None = false
leads (Some class) = begins_expression class

sign-begins : (sign : Class) (operator : UnaryOperator) → unary_of sign ≡ Some operator → begins_expression sign ≡ true
sign-begins classes.Plus operator h = refl
sign-begins classes.Minus operator h = refl
sign-begins classes.Bang operator h = refl
sign-begins classes.Tilde operator h = refl
sign-begins classes.And operator h = refl
sign-begins classes.Nand operator h = refl
sign-begins classes.Or operator h = refl
sign-begins classes.Nor operator h = refl
sign-begins classes.Caret operator h = refl
sign-begins classes.TildeCaret operator h = refl
sign-begins classes.CaretTilde operator h = refl
sign-begins _ operator h = absurd (let p : ◌≡◌ {A = Option UnaryOperator} None (Some operator) = h in cc)

pub expression-first : (e : SourceExpression) (ts rest : List SourceToken) → SpellsExpression e ts → leads (next_class (ts ++ rest)) ≡ true
expression-first (Number place form value) ts rest h = ap (λ f. leads (next_class (f ++ rest))) h
expression-first (Selected place name index) ts rest h = ap (λ f. leads (next_class (f ++ rest))) h.3 ∙ ap begins_expression h.0
expression-first (Parenthesised place inner) ts rest h = ap (λ f. leads (next_class (f ++ rest))) h.3
expression-first (Prefixed place operator operand) ts rest h =
    ap (λ f. leads (next_class (f ++ rest))) h.5 ∙ ap begins_expression (class_of-kind_of h.1) ∙ sign-begins h.1 operator h.2
expression-first (Infixed place operator left right) ts rest h =
    ap (λ f. leads (next_class (f ++ rest))) h.10 ∙ ap (λ f. leads (next_class f)) (append_assoc h.6 (token_of h.3 h.5 ∷ h.7) rest)
    ∙ expression-first left h.6 (token_of h.3 h.5 ∷ (h.7 ++ rest)) h.8
expression-first (Chosen place condition first second) ts rest h =
    ap (λ f. leads (next_class (f ++ rest))) h.10 ∙ ap (λ f. leads (next_class f)) (append_assoc h.4 (token_of classes.Question h.2 ∷ (h.5 ++ token_of classes.Colon h.3 ∷ h.6)) rest)
    ∙ expression-first condition h.4 (token_of classes.Question h.2 ∷ ((h.5 ++ token_of classes.Colon h.3 ∷ h.6) ++ rest)) h.7
expression-first (Concatenated place parts) ts rest h = ap (λ f. leads (next_class (f ++ rest))) h.3
expression-first (Replicated place count parts) ts rest h = ap (λ f. leads (next_class (f ++ rest))) h.7

pub leads-not : (class : Option Class) → leads class ≡ true → (other : Class) → begins_expression other ≡ false → class ≡ Some other → ⊥
leads-not class h other g e = let p : true ≡ false = sym h ∙ ap leads e ∙ g in cc

-- Labels and colons

label_by-other : (class : Option Class) (tokens : List SourceToken) → (class ≡ Some classes.Colon → ⊥) → label_by class tokens ≡ Ok (tt, tokens)
label_by-other (Some classes.Colon) tokens h = absurd (h refl)
label_by-other _ tokens h = refl

pub label-reads : (ts tail : List SourceToken) → SpellsLabel ts → (next_class tail ≡ Some classes.Colon → ⊥) → label (ts ++ tail) ≡ Ok (tt, tail)
unfolding label
label-reads ts tail (inl e) other = ap (λ f. label (f ++ tail)) e ∙ label_by-other (next_class tail) tail other
label-reads ts tail (inr h) other = ap (λ f. label (f ++ tail)) h.4 ∙ rw (name-reads h.2 h.1 tail h.3) refl

colon_by-other : (class : Option Class) (tokens : List SourceToken) → (class ≡ Some classes.Colon → ⊥) → colon_by class tokens ≡ Ok (tt, tokens)
colon_by-other (Some classes.Colon) tokens h = absurd (h refl)
colon_by-other _ tokens h = refl

pub colon-reads : (ts tail : List SourceToken) → SpellsColon ts → (next_class tail ≡ Some classes.Colon → ⊥) → colon (ts ++ tail) ≡ Ok (tt, tail)
unfolding colon
colon-reads ts tail (inl e) other = ap (λ f. colon (f ++ tail)) e ∙ colon_by-other (next_class tail) tail other
colon-reads ts tail (inr h) other = ap (λ f. colon (f ++ tail)) h.1

-- Event controls

edged-reads : (k : ℕ) (edge : Edge) (s : SourceSelect) (ts rest : List SourceToken) → SpellsSelect s ts → select_height s < k → Ends 0 rest
    → edged k edge (ts ++ rest) ≡ Ok (record { edge = edge; select = s }, rest)
edged-reads k edge s ts rest h low ends = ap (λ r. followed r (λ select. give (record { edge = edge; select = select }))) (inner_select-reads k s ts rest h low ends)

entry_by-edge : (k : ℕ) (edge : Edge) (s : SourceSelect) (before after rest : List SourceToken) → SpellsEdge edge before → SpellsSelect s after → select_height s < k → Ends 0 rest
    → entry k (before ++ (after ++ rest)) ≡ Ok (record { edge = edge; select = s }, rest)
unfolding entry
entry_by-edge k Any s before after rest h g low ends =
    ap (λ f. entry k (f ++ (after ++ rest))) h
    ∙ ap (λ c. entry_by k c (after ++ rest)) (ap (λ f. next_class (f ++ rest)) g.3 ∙ ap (λ (c : Class). Some c) g.0)
    ∙ edged-reads k Any s after rest g low ends
entry_by-edge k Pos s before after rest h g low ends =
    ap (λ f. entry k (f ++ (after ++ rest))) h.1
    ∙ ap (λ c. entry_by k c (token_of classes.PosEdge h.0 ∷ (after ++ rest))) (next-class classes.PosEdge h.0 (after ++ rest))
    ∙ edged-reads k Pos s after rest g low ends
entry_by-edge k Neg s before after rest h g low ends =
    ap (λ f. entry k (f ++ (after ++ rest))) h.1
    ∙ ap (λ c. entry_by k c (token_of classes.NegEdge h.0 ∷ (after ++ rest))) (next-class classes.NegEdge h.0 (after ++ rest))
    ∙ edged-reads k Neg s after rest g low ends

entry-reads : (k : ℕ) (e : SourceEntry) (ts rest : List SourceToken) → SpellsEntry e ts → select_height e.select < k → Ends 0 rest → entry k (ts ++ rest) ≡ Ok (e, rest)
entry-reads k e ts rest h low ends =
    ap (λ f. entry k (f ++ rest)) h.4 ∙ ap (entry k) (append_assoc h.0 h.1 rest) ∙ entry_by-edge k e.edge e.select h.0 h.1 rest h.2 h.3 low ends

separator-ends : (separator : Class) → is_entry_separator separator ≡ true → EndsBefore 0 (Some separator)
separator-ends classes.OrWord h = omega arith
separator-ends classes.Comma h = omega arith
separator-ends _ h = absurd (let p : false ≡ true = h in cc)

separator-another : (k : ℕ) (done : List SourceEntry) (separator : Class) (tokens : List SourceToken) → is_entry_separator separator ≡ true
    → entries_by k done (Some separator) tokens ≡ another_entry k done tokens
separator-another k done classes.OrWord tokens h = refl
separator-another k done classes.Comma tokens h = refl
separator-another k done _ tokens h = absurd (let p : false ≡ true = h in cc)

more_entries-ends : (es : List SourceEntry) (ts rest : List SourceToken) → SpellsMoreEntries es ts → Ends 0 rest → Ends 0 (ts ++ rest)
more_entries-ends [] ts rest h ends = subst (λ f. Ends 0 (f ++ rest)) (sym h) ends
more_entries-ends (e ∷ es) ts rest h ends = subst (λ f. Ends 0 (f ++ rest)) (sym h.7)
    (subst (EndsBefore 0) (sym (next-class h.0 h.2 ((h.3 ++ h.4) ++ rest))) (separator-ends h.0 h.1))

more_entries-reads : (k : ℕ) (es done : List SourceEntry) (ts : List SourceToken) (closing : SourcePlace) (rest : List SourceToken) → SpellsMoreEntries es ts → entries_height es < k
    → repeat (entries_turn k) done (ts ++ token_of classes.RightParen closing ∷ rest) ≡ Ok (done ++ es, token_of classes.RightParen closing ∷ rest)
more_entries-reads k [] done ts closing rest h low =
    ap (λ f. repeat (entries_turn k) done (f ++ token_of classes.RightParen closing ∷ rest)) h
    ∙ last-is (entries_turn k) done (token_of classes.RightParen closing ∷ rest) refl
    ∙ ap (λ w. Ok (w, token_of classes.RightParen closing ∷ rest)) (sym (append-nil-entries done))
  where
    append-nil-entries : (es : List SourceEntry) → es ++ [] ≡ es
    append-nil-entries [] = refl
    append-nil-entries (e ∷ es) = ap (λ f. e ∷ f) (append-nil-entries es)
more_entries-reads k (e ∷ es) done ts closing rest h low =
    let end = token_of classes.RightParen closing ∷ rest in
    let tokens = token_of h.0 h.2 ∷ (h.3 ++ (h.4 ++ token_of classes.RightParen closing ∷ rest)) in
    let read = entry-reads k e h.3 (h.4 ++ token_of classes.RightParen closing ∷ rest) h.5 (omega arith) (more_entries-ends es h.4 (token_of classes.RightParen closing ∷ rest) h.6 (omega arith)) in
    let turn : entries_turn k done tokens ≡ Ok (Some (done ++ e ∷ []), h.4 ++ token_of classes.RightParen closing ∷ rest) =
    ap (λ c. entries_by k done c tokens) (next-class h.0 h.2 (h.3 ++ (h.4 ++ token_of classes.RightParen closing ∷ rest)))
    ∙ separator-another k done h.0 tokens h.1
    ∙ ap (λ r. followed r (λ e. give (Some (done ++ e ∷ [])))) read in
    ap (λ f. repeat (entries_turn k) done (f ++ token_of classes.RightParen closing ∷ rest)) h.7
    ∙ ap (λ f. repeat (entries_turn k) done (token_of h.0 h.2 ∷ f)) (append_assoc h.3 h.4 (token_of classes.RightParen closing ∷ rest))
    ∙ turn-is (entries_turn k) done (done ++ e ∷ []) tokens (h.4 ++ token_of classes.RightParen closing ∷ rest) turn
    (omega (arith, length-append h.3 (h.4 ++ token_of classes.RightParen closing ∷ rest)))
    ∙ more_entries-reads k es (done ++ e ∷ []) h.4 closing rest h.6 (omega arith)
    ∙ ap (λ w. Ok (w, token_of classes.RightParen closing ∷ rest)) (append_assoc done (e ∷ []) es)

entry_row-reads : (k : ℕ) (es : List SourceEntry) (ts : List SourceToken) (closing : SourcePlace) (rest : List SourceToken) → SpellsEntries es ts → entries_height es < k
    → entry_row k (ts ++ token_of classes.RightParen closing ∷ rest) ≡ Ok (es, token_of classes.RightParen closing ∷ rest)
unfolding entry_row
entry_row-reads k [] ts closing rest h low = absurd h
entry_row-reads k (e ∷ es) ts closing rest h low =
    let read = entry-reads k e h.0 (h.1 ++ token_of classes.RightParen closing ∷ rest) h.2 (omega arith) (more_entries-ends es h.1 (token_of classes.RightParen closing ∷ rest) h.3 (omega arith)) in
    let more = more_entries-reads k es (e ∷ []) h.1 closing rest h.3 (omega arith) in
    ap (λ f. entry_row k (f ++ token_of classes.RightParen closing ∷ rest)) h.4
    ∙ ap (entry_row k) (append_assoc h.0 h.1 (token_of classes.RightParen closing ∷ rest))
    ∙ rw (read, more) refl

entries-reads : (k : ℕ) (es : List SourceEntry) (ts : List SourceToken) (closing : SourcePlace) (rest : List SourceToken) → SpellsEntries es ts → entries_height es < k
    → entries k (ts ++ token_of classes.RightParen closing ∷ rest) ≡ Ok (OnEntries es, rest)
unfolding entries
entries-reads k es ts closing rest h low = rw (entry_row-reads k es ts closing rest h low) refl

-- an entry begins with none of these
entry-first : (e : SourceEntry) (ts rest : List SourceToken) → SpellsEntry e ts → next_class (ts ++ rest) ≡ Some classes.Star → ⊥
entry-first e ts rest h is = by e.edge h.2 (ap next_class (sym (append_assoc h.0 h.1 rest)) ∙ ap (λ f. next_class (f ++ rest)) (sym h.4) ∙ is)
  where
    by : (edge : Edge) → SpellsEdge edge h.0 → next_class (h.0 ++ (h.1 ++ rest)) ≡ Some classes.Star → ⊥
    by Any g is = let p : ◌≡◌ {A = Option Class} (Some classes.Name) (Some classes.Star) =
        sym (ap (λ f. next_class (f ++ (h.1 ++ rest))) g ∙ ap (λ f. next_class (f ++ rest)) h.3.3 ∙ ap (λ (c : Class). Some c) h.3.0) ∙ is in cc
    by Pos g is = let p : ◌≡◌ {A = Option Class} (Some classes.PosEdge) (Some classes.Star) =
        sym (ap (λ f. next_class (f ++ (h.1 ++ rest))) g.1 ∙ next-class classes.PosEdge g.0 (h.1 ++ rest)) ∙ is in cc
    by Neg g is = let p : ◌≡◌ {A = Option Class} (Some classes.NegEdge) (Some classes.Star) =
        sym (ap (λ f. next_class (f ++ (h.1 ++ rest))) g.1 ∙ next-class classes.NegEdge g.0 (h.1 ++ rest)) ∙ is in cc

entries-first : (es : List SourceEntry) (ts rest : List SourceToken) → SpellsEntries es ts → next_class (ts ++ rest) ≡ Some classes.Star → ⊥
entries-first [] ts rest h is = absurd h
entries-first (e ∷ es) ts rest h is = entry-first e h.0 (h.1 ++ rest) h.2 (ap next_class (sym (append_assoc h.0 h.1 rest)) ∙ ap (λ f. next_class (f ++ rest)) (sym h.4) ∙ is)

inside_by-other : (k : ℕ) (class : Option Class) (tokens : List SourceToken) → (class ≡ Some classes.Star → ⊥) → inside_by k class tokens ≡ entries k tokens
inside_by-other k (Some classes.Star) tokens h = absurd (h refl)
inside_by-other k _ tokens h = refl

pub waits-reads : (k : ℕ) (w : SourceWaits) (ts rest : List SourceToken) → SpellsWaits w ts → waits_height w < k → waits k (ts ++ rest) ≡ Ok (w, rest)
unfolding waits
waits-reads k OnAnyRead ts rest (inl h) low = ap (λ f. waits k (f ++ rest)) h.1
waits-reads k OnAnyRead ts rest (inr h) low = ap (λ f. waits k (f ++ rest)) h.3
waits-reads k (OnEntries es) ts rest (inl h) low =
    ap (λ f. waits k (f ++ rest)) h.4
    ∙ ap (λ c. waits_by k c (name_token h.0 h.1 ∷ rest)) (ap (λ (c : Class). Some c) h.2)
    ∙ ap (λ r. followed r (λ n. give (OnEntries (name_entry n.0 n.1 ∷ [])))) (name-reads h.0 h.1 rest h.2)
    ∙ ap (λ l. Ok (OnEntries l, rest)) (sym h.3)
waits-reads k (OnEntries es) ts rest (inr h) low =
    let tokens = h.2 ++ token_of classes.RightParen h.1 ∷ rest in
    ap (λ f. waits k (f ++ rest)) h.4
    ∙ ap (λ f. by_class (inside_by k) f) (append_assoc h.2 (token_of classes.RightParen h.1 ∷ []) rest)
    ∙ inside_by-other k (next_class tokens) tokens (entries-first es h.2 (token_of classes.RightParen h.1 ∷ rest) h.3)
    ∙ entries-reads k es h.2 h.1 rest h.3 low

-- Delays inside assignments

assigned_delay_by-other : (k : ℕ) (class : Option Class) (tokens : List SourceToken) → (class ≡ Some classes.Hash → ⊥) → assigned_delay_by k class tokens ≡ Ok (None, tokens)
assigned_delay_by-other k (Some classes.Hash) tokens h = absurd (h refl)
assigned_delay_by-other k _ tokens h = refl

pub assigned_delay-reads : (k : ℕ) (d : Option SourceExpression) (ts rest : List SourceToken) → SpellsInnerDelay d ts → delay_height d < k → (next_class rest ≡ Some classes.Hash → ⊥)
    → assigned_delay k (ts ++ rest) ≡ Ok (d, rest)
unfolding assigned_delay
assigned_delay-reads k None ts rest h low other = ap (λ f. assigned_delay k (f ++ rest)) h ∙ assigned_delay_by-other k (next_class rest) rest other
assigned_delay-reads k (Some d) ts rest h low other =
    ap (λ f. assigned_delay k (f ++ rest)) h.3 ∙ ap (λ r. followed r (λ d. give (Some d))) (inner_delay-reads k d h.1 rest h.2 low)

-- Conditions, and assignments in the head of a `for`

pub condition-reads : (k : ℕ) (e : SourceExpression) (ts rest : List SourceToken) → SpellsCondition e ts → height_of e < k → condition k (ts ++ rest) ≡ Ok (e, rest)
unfolding condition
condition-reads k e ts rest h low =
    let read = inner_expression-reads k e h.2 (token_of classes.RightParen h.1 ∷ rest) h.3 low (omega arith) in
    ap (λ f. condition k (f ++ rest)) h.4 ∙ rw (append_assoc h.2 (token_of classes.RightParen h.1 ∷ []) rest, read) refl

pub head-reads : (k : ℕ) (x : SourceTarget × SourceExpression) (ts rest : List SourceToken) → SpellsHead x ts → target_height x.0 < k → height_of x.1 < k → Ends 11 rest
    → head_assignment k (ts ++ rest) ≡ Ok (x, rest)
unfolding head_assignment
head-reads k x ts rest h target_low low ends =
    let target = inner_target-reads k x.0 h.1 (token_of classes.Assign h.0 ∷ (h.2 ++ rest)) h.3 target_low (omega arith) in
    let value = inner_expression-reads k x.1 h.2 rest h.4 low ends in
    ap (λ f. head_assignment k (f ++ rest)) h.5 ∙ rw (append_assoc h.1 (token_of classes.Assign h.0 ∷ h.2) rest, target, value) refl

-- Arguments of system tasks

-- what a token does to the depth, by whether it opens, closes, and closes one that was opened
abbrev skip_by : Bool → Bool → Bool → ℕ → List SourceToken → Reading (Unit {0})
skip_by opens closes deeper depth ts =
    if opens then skipped (depth + 1) ts
    else (if closes then (if deeper then skipped (depth - 1) ts else give tt ts)
    else skipped depth ts)

abbrev balanced_by : Bool → Bool → Bool → ℕ → List SourceToken → Bool
balanced_by opens closes deeper depth ts =
    if opens then is_balanced (depth + 1) ts
    else (if closes then (if deeper then is_balanced (depth - 1) ts else false)
    else is_balanced depth ts)

skipped-reads : (inside : List SourceToken) (depth : ℕ) (closing : SourcePlace) (rest : List SourceToken) → is_balanced depth inside ≡ true
    → skipped depth (inside ++ token_of classes.RightParen closing ∷ rest) ≡ Ok (tt, rest)
unfolding skipped
skipped-reads [] depth closing rest h =
    let none : depth ≡ 0 = eqb-true depth 0 h in
    ap (λ d. skipped d (token_of classes.RightParen closing ∷ rest)) none
skipped-reads (t ∷ inside) depth closing rest h =
    by (same_class classes.LeftParen (class_of t.kind)) (same_class classes.RightParen (class_of t.kind)) (nat_lt 0 depth) h (λ d. skipped-reads inside d closing rest)
  where
    by : (opens closes deeper : Bool) → balanced_by opens closes deeper depth inside ≡ true
        → ((d : ℕ) → is_balanced d inside ≡ true → skipped d (inside ++ token_of classes.RightParen closing ∷ rest) ≡ Ok (tt, rest))
        → skip_by opens closes deeper depth (inside ++ token_of classes.RightParen closing ∷ rest) ≡ Ok (tt, rest)
    by true closes deeper h later = later (depth + 1) h
    by false true true h later = later (depth - 1) h
    by false true false h later = absurd (let p : false ≡ true = h in cc)
    by false false deeper h later = later depth h

pub arguments-reads : (ts : List SourceToken) (closing : SourcePlace) (rest : List SourceToken) → SpellsArguments ts
    → arguments (ts ++ token_of classes.Semicolon closing ∷ rest) ≡ Ok (tt, token_of classes.Semicolon closing ∷ rest)
unfolding arguments
arguments-reads ts closing rest (inl e) = ap (λ f. arguments (f ++ token_of classes.Semicolon closing ∷ rest)) e
arguments-reads ts closing rest (inr h) =
    let tail = token_of classes.Semicolon closing ∷ rest in
    ap (λ f. arguments (f ++ token_of classes.Semicolon closing ∷ rest)) h.4
    ∙ ap (skipped 0) (append_assoc h.2 (token_of classes.RightParen h.1 ∷ []) (token_of classes.Semicolon closing ∷ rest))
    ∙ skipped-reads h.2 0 h.1 (token_of classes.Semicolon closing ∷ rest) h.3
