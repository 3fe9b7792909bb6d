-- How often a place stands among places, and places of which none stands twice (nothing of the language); each place of a text has one token at most (IEEE 1364-2001, clause 2.1).
use Rattle.std.proofs.Common.{◌≡◌, ℕ, ◌+◌, ◌≤◌, Bool, true, false, List, [], ◌∷◌, ◌++◌, refl, ap, ap₂, ◌∙◌, arith}
use Rattle.std.specs.Prelude.{nat_eq, ◌&&◌}
use Rattle.std.specs.List.{AllByRecursion, IsDistinct}
use Rattle.std.proofs.lemmas.Bool.{eqb-true, eq-eqb}
use Rattle.vf_base.specs.Base.{SourcePlace, source_place}
use Rattle.vf_base.specs.Lists.{AllHold}
use Rattle.v_design.specs.Places.{same_place}
use Rattle.v_tree.specs.Tokens.{SourceToken}
use Rattle.v_names.specs.SizedLaws.{and-left, and-right}
use Rattle.source_laws.specs.InOrder.{IsInOrder}
use Rattle.source_laws.specs.Ascending.{ComesBefore, never-before}

-- How often

abbrev pub one_if : Bool → ℕ
one_if true = 1
one_if false = 0

-- how often a place stands in a list
abbrev pub times : SourcePlace → List SourcePlace → ℕ
times p [] = 0
times p (q ∷ rest) = one_if (same_place p q) + times p rest

pub times-append : (p : SourcePlace) (one other : List SourcePlace) → times p (one ++ other) ≡ times p one + times p other
times-append p [] other = omega arith
times-append p (q ∷ one) other = omega (arith, times-append p one other)

-- Places that differ

place-same : (p : SourcePlace) → same_place p p ≡ true
place-same p = both (nat_eq p.line p.line) (nat_eq p.column p.column) (eq-eqb p.line p.line refl) (eq-eqb p.column p.column refl)
  where
    both : (a b : Bool) → a ≡ true → b ≡ true → (a && b) ≡ true
    both true b one other = other
    both false b one other = absurd (cc)

place-equal : (p q : SourcePlace) → same_place p q ≡ true → p ≡ q
place-equal p q e =
    let line = eqb-true p.line q.line (and-left (nat_eq p.line q.line) (nat_eq p.column q.column) e) in
    let column = eqb-true p.column q.column (and-right (nat_eq p.line q.line) (nat_eq p.column q.column) e) in
    ap₂ (λ l c. record { line = l; column = c }) line column

none-same : (p : SourcePlace) (places : List SourcePlace) → times p places ≤ 0 → AllByRecursion (λ q. same_place p q ≡ false) places
none-same p [] few = tt
none-same p (q ∷ rest) few = (by_test (same_place p q) refl, none-same p rest (omega (arith, few)))
  where
    by_test : (test : Bool) → same_place p q ≡ test → same_place p q ≡ false
    by_test true e = absurd (let one : one_if (same_place p q) ≡ 1 = ap one_if e in omega (arith, one, few))
    by_test false e = e

-- places of which none stands twice differ
pub once-distinct : (places : List SourcePlace) → ((p : SourcePlace) → times p places ≤ 1) → IsDistinct same_place places
unfolding IsDistinct
once-distinct [] once = tt
once-distinct (p ∷ rest) once =
    let here : one_if (same_place p p) ≡ 1 = ap one_if (place-same p) in
    let few = once p in
    (none-same p rest (omega (arith, here, few)), once-distinct rest (λ q. let most = once q in omega (arith, most)))

-- Tokens

abbrev pub token_place : SourceToken → SourcePlace
token_place t = source_place t.place

-- how many of the tokens stand at a place
abbrev pub standing : SourcePlace → List SourceToken → ℕ
standing p [] = 0
standing p (t ∷ ts) = one_if (same_place p (token_place t)) + standing p ts

pub standing-append : (p : SourcePlace) (one other : List SourceToken) → standing p (one ++ other) ≡ standing p one + standing p other
standing-append p [] other = omega arith
standing-append p (t ∷ one) other = omega (arith, standing-append p one other)

token-places : (t u : SourceToken) → token_place t ≡ token_place u → t.place ≡ u.place
token-places t u e = ap (λ (p : SourcePlace). record { line = p.line; column = p.column }) e

none-later : (t : SourceToken) (ts : List SourceToken) → AllHold (ComesBefore t) ts → standing (token_place t) ts ≡ 0
none-later t [] later = refl
none-later t (u ∷ ts) later = by_test (same_place (token_place t) (token_place u)) refl (none-later t ts later.1)
  where
    by_test : (test : Bool) → same_place (token_place t) (token_place u) ≡ test → standing (token_place t) ts ≡ 0 → one_if test + standing (token_place t) ts ≡ 0
    by_test true e none = absurd (never-before t.place u.place (token-places t u (place-equal (token_place t) (token_place u) e)) later.0)
    by_test false e none = omega (arith, none)

-- no place has two tokens of a text
pub one-standing : (ts : List SourceToken) → IsInOrder ComesBefore ts → (p : SourcePlace) → standing p ts ≤ 1
one-standing [] order p = omega arith
one-standing (t ∷ ts) order p = by_test (same_place p (token_place t)) refl (one-standing ts order.1 p)
  where
    by_test : (test : Bool) → same_place p (token_place t) ≡ test → standing p ts ≤ 1 → one_if test + standing p ts ≤ 1
    by_test true e few = let none : standing p ts ≡ 0 = ap (λ q. standing q ts) (place-equal p (token_place t) e) ∙ none-later t ts order.0 in omega (arith, none)
    by_test false e few = omega (arith, few)
