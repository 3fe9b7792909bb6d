-- Loops that look for a node that reads too many objects.
use Rattle.std.proofs.Common.{◌≡◌, ℕ, ◌+◌, ◌-◌, ◌<◌, ◌≤◌, Bool, true, false, ◌&&◌, ◌||◌, List, [], ◌∷◌, ◌++◌, Option, Some, None, is_some, drop, get_or, length, flat_map, map, refl, sym, ap, ◌∙◌}
use Rattle.std.specs.List.{list_any}
use Rattle.vf_base.specs.Base.{SourcePlace}
use Rattle.v_tree.specs.Trees.{Identifier, SourceWaits, SourceStatement, EventStatement, NamedPlace, names_in}
use Rattle.v_tree.specs.Views.{expression_of}
use Rattle.v_tree.specs.declared.expression.Expr.{Expr}
use Rattle.v_comb.specs.CombinationalForm.{BlockWaits, Star, NetForm, block_form, form_if, each_once, names_read, assigned_names, all_assigned, assigned_after, waits_for}
use Rattle.v_comb.specs.Occurrences.{names_of_expr}
use Rattle.v_names.specs.Scopes.{Scope, looked_up, is_memory}
use Rattle.name_checks.specs.Rows.{drop-step, drop-past}
use Rattle.v_elab.specs.Blocks.{block_waits, net_targets, block_targets}
use Rattle.v_elab.specs.ReadCounts.{reads_over, some_reads_over, reads_beside}
use Rattle.input_counts.specs.FormReads.{form_reads_over}

or-false : (b : Bool) → (b || false) ≡ b
or-false true = refl
or-false false = refl

or-grouped : (p q r : Bool) → (p || (q || r)) ≡ ((p || q) || r)
or-grouped true q r = refl
or-grouped false q r = refl

-- one node alone
pub one-over : (scope : Scope) (names : List Identifier) (over : Bool) → over ≡ reads_over scope names → over ≡ some_reads_over scope (names ∷ [])
one-over scope names over e = e ∙ sym (or-false (reads_over scope names))

over-append : (scope : Scope) (one other : List (List Identifier)) → some_reads_over scope (one ++ other) ≡ (some_reads_over scope one || some_reads_over scope other)
over-append scope [] other = refl
over-append scope (names ∷ one) other = ap (λ b. reads_over scope names || b) (over-append scope one other)
    ∙ or-grouped (reads_over scope names) (some_reads_over scope one) (some_reads_over scope other)

over-front : {A : Type 0} (scope : Scope) (g : A → List (List Identifier)) (h : ℕ → List A → List (List Identifier)) (xs : List A) (i : ℕ) (x : A) →
    ((y : A) (ys : List A) → h i (y ∷ ys) ≡ g y ++ h (i + 1) ys) → i < length xs → x ≡ get_or xs i x
    → some_reads_over scope (h i (drop i xs)) ≡ (some_reads_over scope (g x) || some_reads_over scope (h (i + 1) (drop (i + 1) xs)))
over-front {A} scope g h xs i x c below at =
    ap (λ ys. some_reads_over scope (h i ys)) (drop-step xs i x below at) ∙ ap (some_reads_over scope) (c x (drop (i + 1) xs)) ∙ over-append scope (g x) (h (i + 1) (drop (i + 1) xs))

-- the first of those that are left reads few
pub over-next : {A : Type 0} (scope : Scope) (g : A → List (List Identifier)) (h : ℕ → List A → List (List Identifier)) (xs : List A) (i : ℕ) (x : A) (whole over : Bool) →
    ((y : A) (ys : List A) → h i (y ∷ ys) ≡ g y ++ h (i + 1) ys) → i < length xs → x ≡ get_or xs i x
    → over ≡ some_reads_over scope (g x) → over ≡ false → some_reads_over scope (h i (drop i xs)) ≡ whole → some_reads_over scope (h (i + 1) (drop (i + 1) xs)) ≡ whole
over-next {A} scope g h xs i x whole over c below at e few k =
    sym (over-front scope g h xs i x c below at ∙ ap (λ b. b || some_reads_over scope (h (i + 1) (drop (i + 1) xs))) (sym e ∙ few)) ∙ k

-- it reads too many
pub over-stop : {A : Type 0} (scope : Scope) (g : A → List (List Identifier)) (h : ℕ → List A → List (List Identifier)) (xs : List A) (i : ℕ) (x : A) (whole over : Bool) →
    ((y : A) (ys : List A) → h i (y ∷ ys) ≡ g y ++ h (i + 1) ys) → i < length xs → x ≡ get_or xs i x
    → over ≡ some_reads_over scope (g x) → over ≡ true → some_reads_over scope (h i (drop i xs)) ≡ whole → true ≡ whole
over-stop {A} scope g h xs i x whole over c below at e many k =
    sym (over-front scope g h xs i x c below at ∙ ap (λ b. b || some_reads_over scope (h (i + 1) (drop (i + 1) xs))) (sym e ∙ many)) ∙ k

-- none is left
pub over-done : {A : Type 0} (scope : Scope) (h : ℕ → List A → List (List Identifier)) (xs : List A) (i : ℕ) (whole : Bool) → h i [] ≡ [] → length xs ≤ i →
    some_reads_over scope (h i (drop i xs)) ≡ whole → false ≡ whole
over-done scope h xs i whole none past k = sym (ap (λ ys. some_reads_over scope (h i ys)) (drop-past xs i past) ∙ ap (some_reads_over scope) none) ∙ k

-- the names in the inputs of a gate
pub inputs-named : (inputs : List Expr) → flat_map names_of_expr inputs ≡ flat_map names_in (map expression_of inputs)
inputs-named [] = refl
inputs-named (e ∷ inputs) = ap (λ (ns : List Identifier). names_of_expr e ++ ns) (inputs-named inputs)

-- Blocks

-- the names that a statement assigns, each once, and those that it reads beside them
abbrev own_targets : SourceStatement → List Identifier
own_targets body = each_once [] (map (λ (n : NamedPlace). n.name) (assigned_names body))

-- the targets of a block, where it has some by itself, are those that its statement assigns on every path
record AreOwn (body : SourceStatement) (targets : List Identifier) : Type 0 where
  are : targets ≡ own_targets body
  whole : all_assigned (own_targets body) (assigned_after (own_targets body) [] body) ≡ true

own-if : (scope : Scope) (body : SourceStatement) (assigned waited memory : Bool) (reads targets : List Identifier) →
    all_assigned (own_targets body) (assigned_after (own_targets body) [] body) ≡ assigned
    → list_any (λ name. is_memory (looked_up scope name)) (own_targets body) ≡ memory → net_targets scope (form_if (assigned && waited) (own_targets body) reads) ≡ Some targets → AreOwn body targets
own-if scope body false waited memory reads targets a m e = absurd (cc)
own-if scope body true false memory reads targets a m e = absurd (cc)
own-if scope body true true true reads targets a m e =
    let other : net_targets scope (NetForm (own_targets body) reads) ≡ None = rw m refl in
    let wrong : None ≡ Some targets = sym other ∙ e in
    absurd (cc)
own-if scope body true true false reads targets a m e =
    let other : net_targets scope (NetForm (own_targets body) reads) ≡ Some (own_targets body) = rw m refl in
    let same : Some (own_targets body) ≡ Some targets = sym other ∙ e in
    record { are = cc; whole = a }

own-waiting : (scope : Scope) (body : SourceStatement) (waits : BlockWaits) (targets : List Identifier) → net_targets scope (block_form body waits) ≡ Some targets → AreOwn body targets
own-waiting scope body waits targets e =
    own-if scope body (all_assigned (own_targets body) (assigned_after (own_targets body) [] body)) (waits_for waits (each_once (own_targets body) (names_read body)))
    (list_any (λ name. is_memory (looked_up scope name)) (own_targets body))
    (each_once (own_targets body) (names_read body)) targets refl refl e

own-by : (scope : Scope) (body : SourceStatement) (place : SourcePlace) (waits : SourceWaits) (names : Option BlockWaits) (targets : List Identifier) → block_waits scope waits ≡ names
    → block_targets scope (EventStatement place waits body) ≡ Some targets → AreOwn body targets
own-by scope body place waits None targets w e =
    let none : block_targets scope (EventStatement place waits body) ≡ None = rw w refl in
    let wrong : None ≡ Some targets = sym none ∙ e in
    absurd (cc)
own-by scope body place waits (Some names) targets w e =
    let some : block_targets scope (EventStatement place waits body) ≡ net_targets scope (block_form body names) = rw w refl in
    own-waiting scope body names targets (sym some ∙ e)

-- what a block that is a node reads is what its form says
own-reads : (scope : Scope) (body : SourceStatement) (targets : List Identifier) → AreOwn body targets →
    some_reads_over scope (each_once targets (names_read body) ∷ []) ≡ form_reads_over scope (block_form body Star)
own-reads scope body targets own =
    or-false (reads_over scope (each_once targets (names_read body))) ∙ ap (λ ts. reads_over scope (each_once ts (names_read body))) own.are
    ∙ sym (ap (λ b. form_reads_over scope (form_if (b && true) (own_targets body) (each_once (own_targets body) (names_read body)))) own.whole)

block-by : (scope : Scope) (body : SourceStatement) (place : SourcePlace) (waits : SourceWaits) (targets : Option (List Identifier)) (over : Bool) →
    block_targets scope (EventStatement place waits body) ≡ targets
    → form_reads_over scope (block_form body Star) ≡ over → some_reads_over scope (reads_beside targets body) ≡ (over && is_some targets)
block-by scope body place waits None true e f = refl
block-by scope body place waits None false e f = refl
block-by scope body place waits (Some targets) true e f = own-reads scope body targets (own-by scope body place waits (block_waits scope waits) targets refl e) ∙ f
block-by scope body place waits (Some targets) false e f = own-reads scope body targets (own-by scope body place waits (block_waits scope waits) targets refl e) ∙ f

-- a block whose form reads few objects
pub block-few : (scope : Scope) (body : SourceStatement) (place : SourcePlace) (waits : SourceWaits) (block : SourceStatement) (over : Bool) → block ≡ EventStatement place waits body →
    over ≡ form_reads_over scope (block_form body Star) → over ≡ false
    → false ≡ some_reads_over scope (reads_beside (block_targets scope block) body)
block-few scope body place waits block over is e few =
    sym (ap (λ b. some_reads_over scope (reads_beside (block_targets scope b) body)) is ∙ block-by scope body place waits (block_targets scope (EventStatement place waits body)) false refl
    (sym e ∙ few))

-- a block whose form reads too many is refused where it is a node by itself
pub block-many : (scope : Scope) (body : SourceStatement) (place : SourcePlace) (waits : SourceWaits) (block : SourceStatement) (over : Bool) → block ≡ EventStatement place waits body →
    over ≡ form_reads_over scope (block_form body Star) → over ≡ true
    → (targets : Option (List Identifier)) → targets ≡ block_targets scope block → is_some targets ≡ some_reads_over scope (reads_beside (block_targets scope block) body)
block-many scope body place waits block over is e many targets same =
    ap is_some same ∙ ap (λ b. is_some (block_targets scope b)) is
    ∙ sym (ap (λ b. some_reads_over scope (reads_beside (block_targets scope b) body)) is ∙ block-by scope body place waits (block_targets scope (EventStatement place waits body)) true refl
    (sym e ∙ many))
