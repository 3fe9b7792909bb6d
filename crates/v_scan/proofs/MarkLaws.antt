-- The mark at the front of a text is the longest.
use Rattle.std.proofs.Common.{◌≡◌, ℕ, ◌≤◌, Bool, true, false, ◌&&◌, List, [], ◌∷◌, ◌++◌, length, Option, Some, None, refl, sym, ◌∙◌, ap, subst, arith, leb-true, inl, inr, ◌⊎◌}
use Rattle.std.specs.Prelude.{◌==◌, nat_le, if◌then◌else◌}
use Rattle.v_scan.specs.Bytes.{is_blank}
use Rattle.v_tree.specs.declared.token.Mark.{Mark}
use Rattle.v_tree.specs.declared.token.Mark.TheVariants.{CaseEqual}
use Rattle.v_scan.specs.Words.{mark_bytes}
use Rattle.v_scan.specs.Reading.{starts, marks, first_mark, sort_of, AsMark}
use Rattle.v_scan.proofs.Spans.{and-true, starts-append, starts-rest}

-- no longer one stands behind
abbrev at_most : ℕ → List Mark → Bool
at_most n [] = true
at_most n (m ∷ ms) = nat_le (length (mark_bytes m)) n && at_most n ms

-- the longest first
abbrev descending : List Mark → Bool
descending [] = true
descending (m ∷ ms) = at_most (length (mark_bytes m)) ms && descending ms

marks-descending : descending marks ≡ true
marks-descending = refl

-- one of these
abbrev IsAmong : Mark → List Mark → Type 0
IsAmong v [] = ⊥
IsAmong v (m ∷ ms) = (m ≡ v) ⊎ IsAmong v ms

some_mark : (m n : Mark) → ◌≡◌ {A = Option Mark} (Some m) (Some n) → m ≡ n
some_mark m n e = cc

-- each mark is read where it stands alone
pub mark-alone : (m : Mark) → first_mark marks (mark_bytes m) ≡ Some m
mark-alone CaseEqual = refl
mark-alone _ = refl

-- two marks have different bytes
pub mark-one : (m n : Mark) → mark_bytes m ≡ mark_bytes n → m ≡ n
mark-one m n e = some_mark m n (sym (mark-alone m) ∙ ap (first_mark marks) e ∙ mark-alone n)

at-most : (n : ℕ) (ms : List Mark) (v : Mark) → at_most n ms ≡ true → IsAmong v ms → length (mark_bytes v) ≤ n
at-most n [] v h i = absurd i
at-most n (m ∷ ms) v h (inl e) =
    omega (arith, leb-true (length (mark_bytes m)) n (and-true (nat_le (length (mark_bytes m)) n) (at_most n ms) h).0, ap (λ k. length (mark_bytes k)) e)
at-most n (m ∷ ms) v h (inr i) = at-most n ms v (and-true (nat_le (length (mark_bytes m)) n) (at_most n ms) h).1 i

-- what is found is one of them and stands there
first-found : (ms : List Mark) (text : List ℕ) (m : Mark) → first_mark ms text ≡ Some m → IsAmong m ms × (starts (mark_bytes m) text ≡ true)
first-found [] text m e = absurd (let q : ◌≡◌ {A = Option Mark} None (Some m) = e in cc)
first-found (n ∷ ms) text m e = at (first-found ms text m) (starts (mark_bytes n) text) refl e
  where
    at : (first_mark ms text ≡ Some m → IsAmong m ms × (starts (mark_bytes m) text ≡ true)) → (t : Bool) → starts (mark_bytes n) text ≡ t
        → (if t then Some n else first_mark ms text) ≡ Some m → IsAmong m (n ∷ ms) × (starts (mark_bytes m) text ≡ true)
    at next true h g = let same : n ≡ m = some_mark n m g in (inl same, subst (λ w. starts (mark_bytes w) text ≡ true) same h)
    at next false h g = let r = next g in (inr r.0, r.1)

-- and is the longest
first-longest : (ms : List Mark) (text : List ℕ) (v : Mark) → descending ms ≡ true → IsAmong v ms → starts (mark_bytes v) text ≡ true
    → (m : Mark) × (first_mark ms text ≡ Some m) × (length (mark_bytes v) ≤ length (mark_bytes m))
first-longest [] text v d i h = absurd i
first-longest (n ∷ ms) text v d i h = at (λ j. first-longest ms text v both.1 j h) i (starts (mark_bytes n) text) refl
  where
    both : (at_most (length (mark_bytes n)) ms ≡ true) × (descending ms ≡ true)
    both = and-true (at_most (length (mark_bytes n)) ms) (descending ms) d

    at : (IsAmong v ms → (m : Mark) × (first_mark ms text ≡ Some m) × (length (mark_bytes v) ≤ length (mark_bytes m))) → IsAmong v (n ∷ ms) → (t : Bool) → starts (mark_bytes n) text ≡ t
        → (m : Mark) × ((if t then Some n else first_mark ms text) ≡ Some m) × (length (mark_bytes v) ≤ length (mark_bytes m))
    at next (inl e) true g = (n, refl, omega (arith, ap (λ k. length (mark_bytes k)) e))
    at next (inr j) true g = (n, refl, at-most (length (mark_bytes n)) ms v both.0 j)
    at next (inl e) false g = absurd (let q : false ≡ true = sym g ∙ ap (λ w. starts (mark_bytes w) text) e ∙ h in cc)
    at next (inr j) false g = next j

-- where a mark stands, the longest is found
pub mark-longest : (text : List ℕ) (v : Mark) (more : List ℕ) → mark_bytes v ++ more ≡ text
    → (m : Mark) × (first_mark marks text ≡ Some m) × (length (mark_bytes v) ≤ length (mark_bytes m))
mark-longest text v more e =
    let among = (first-found marks (mark_bytes v) v (mark-alone v)).0 in
    first-longest marks text v marks-descending among (subst (λ t. starts (mark_bytes v) t ≡ true) e (starts-append (mark_bytes v) more))

-- the mark that is found stands there
pub mark-found : (text : List ℕ) (m : Mark) → first_mark marks text ≡ Some m → (back : List ℕ) × (text ≡ mark_bytes m ++ back)
mark-found text m e = starts-rest (mark_bytes m) text (first-found marks text m e).1

-- the first byte of a mark
pub mark-first : (m : Mark) → (b : ℕ) × (bs : List ℕ) × (mark_bytes m ≡ b ∷ bs) × (sort_of b ≡ AsMark) × (is_blank b ≡ false) × ((b == 96) ≡ false)
mark-first CaseEqual = (_, _, refl, refl, refl, refl)
mark-first _ = (_, _, refl, refl, refl, refl)
