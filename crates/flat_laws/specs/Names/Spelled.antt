-- How names of a hierarchy are spelled: those of its instances, each with a `.` behind it, and then a declared name, in which there is none (IEEE 1364-2001, clause 2.7 for names,
-- clause 12.4 for those of a hierarchy; that an instance path is a text is own).
use Rattle.std.proofs.Common.{◌≡◌, ℕ, zero, suc, ◌+◌, ◌<◌, ◌≤◌, Bool, true, false, List, [], ◌∷◌, ◌++◌, Option, Some, None, refl, sym, ap, ◌∙◌, arith}
use Rattle.std.specs.Prelude.{nat_eq, ◌||◌, slice_get, sum_by, codes}
use Rattle.std.proofs.lemmas.Bool.{eq-eqb, ne_eqb, eqb-true}
use Rattle.std.proofs.lemmas.List.{append_assoc}
use Rattle.std.proofs.lemmas.List.Sums.{sum_by-cons}
use Rattle.vf_base.specs.Lists.{AllHold}
use Rattle.v_design.specs.Expressions.{up_from}
use Rattle.v_design.specs.WellFormed.{ends_word, IsOneWord}
use Rattle.v_tree.specs.Trees.{Identifier, same_name}
use Rattle.graph_order.specs.ListLaws.{sum_by-none}
use Rattle.flat_laws.specs.Hierarchy.Given.{equal-name}

-- Declared names

abbrev pub IsDotless : Identifier → Type 0
IsDotless name = AllHold (λ (byte : ℕ). byte ≡ 46 → ⊥) name

-- which bytes end no word
pub no-word-end : (byte : ℕ) → (byte ≡ 9 → ⊥) → (byte ≡ 10 → ⊥) → (byte ≡ 13 → ⊥) → (byte ≡ 32 → ⊥) → ends_word byte ≡ false
no-word-end byte tab feed return space =
    ap (λ b. b || nat_eq byte 10 || nat_eq byte 13 || nat_eq byte 32) (ne_eqb byte 9 tab)
    ∙ ap (λ b. b || nat_eq byte 13 || nat_eq byte 32) (ne_eqb byte 10 feed)
    ∙ ap (λ b. b || nat_eq byte 32) (ne_eqb byte 13 return)
    ∙ ne_eqb byte 32 space

-- a byte that is no `.`, no `[`, and ends no word
pub record IsNameByte (byte : ℕ) : Type 0 where
  pub no_dot : byte ≡ 46 → ⊥
  pub no_bracket : byte ≡ 91 → ⊥
  pub in_word : ends_word byte ≡ false

-- a declared name begins behind the digits and `$`, and has no `.`, no `[` and no blank
abbrev pub IsSpelled : Identifier → Type 0
IsSpelled [] = ⊥
IsSpelled (first ∷ rest) = (57 < first) × AllHold IsNameByte (first ∷ rest)

bytes-dotless : (name : Identifier) → AllHold IsNameByte name → IsDotless name
bytes-dotless [] h = tt
bytes-dotless (byte ∷ rest) h = (h.0.no_dot, bytes-dotless rest h.1)

pub spelled-dotless : (name : Identifier) → IsSpelled name → IsDotless name
spelled-dotless [] h = absurd h
spelled-dotless (first ∷ rest) h = bytes-dotless (first ∷ rest) h.1

bytes-word : (name : Identifier) → AllHold IsNameByte name → IsOneWord name
bytes-word [] h = tt
bytes-word (byte ∷ rest) h = (h.0.in_word, bytes-word rest h.1)

pub spelled-word : (name : Identifier) → IsSpelled name → IsOneWord name
spelled-word [] h = absurd h
spelled-word (first ∷ rest) h = bytes-word (first ∷ rest) h.1

-- Names behind a path

abbrev pub behind_if : Bool → Option Identifier → Option Identifier
behind_if true rest = rest
behind_if false rest = None

-- what stands in a name behind a path
abbrev pub behind : Identifier → Identifier → Option Identifier
behind [] name = Some name
behind (byte ∷ path) [] = None
behind (byte ∷ path) (other ∷ name) = behind_if (nat_eq byte other) (behind path name)

pub behind-own : (path name : Identifier) → behind path (path ++ name) ≡ Some name
behind-own [] name = refl
behind-own (byte ∷ path) name = ap (λ b. behind_if b (behind path (path ++ name))) (eq-eqb byte byte refl) ∙ behind-own path name

pub behind-is : (path name rest : Identifier) → behind path name ≡ Some rest → name ≡ path ++ rest
behind-is [] name rest e = cc
behind-is (byte ∷ path) [] rest e = absurd (cc)
behind-is (byte ∷ path) (other ∷ name) rest e = by_test (nat_eq byte other) refl e (λ d. behind-is path name rest d)
  where
    by_test : (test : Bool) → nat_eq byte other ≡ test → behind_if test (behind path name) ≡ Some rest → (behind path name ≡ Some rest → name ≡ path ++ rest) → other ∷ name ≡ byte ∷ (path ++ rest)
    by_test true same d more = let is : byte ≡ other = eqb-true byte other same in let tail = more d in ap (λ b. b ∷ name) (sym is) ∙ ap (λ (l : Identifier). byte ∷ l) tail
    by_test false same d more = absurd (cc)

-- up to the first `.`

abbrev pub dot_or : Bool → ℕ → Identifier → Identifier
dot_or true byte rest = []
dot_or false byte rest = byte ∷ rest

abbrev pub up_to_dot : Identifier → Identifier
up_to_dot [] = []
up_to_dot (byte ∷ rest) = dot_or (nat_eq byte 46) byte (up_to_dot rest)

pub up_to_dot-whole : (name : Identifier) → IsDotless name → up_to_dot name ≡ name
up_to_dot-whole [] h = refl
up_to_dot-whole (byte ∷ rest) h = ap (λ b. dot_or b byte (up_to_dot rest)) (ne_eqb byte 46 h.0) ∙ ap (λ (l : Identifier). byte ∷ l) (up_to_dot-whole rest h.1)

pub up_to_dot-front : (name rest : Identifier) → IsDotless name → up_to_dot (name ++ 46 ∷ rest) ≡ name
up_to_dot-front [] rest h = refl
up_to_dot-front (byte ∷ name) rest h = ap (λ b. dot_or b byte (up_to_dot (name ++ 46 ∷ rest))) (ne_eqb byte 46 h.0) ∙ ap (λ (l : Identifier). byte ∷ l) (up_to_dot-front name rest h.1)

-- what stands behind the path of an instance in one stands behind the instance's name
pub behind-instance : (path name whole rest : Identifier) → behind ((path ++ name) ++ codes ".") whole ≡ Some rest → behind path whole ≡ Some (name ++ 46 ∷ rest)
behind-instance path name whole rest e =
    let is : whole ≡ ((path ++ name) ++ codes ".") ++ rest = behind-is ((path ++ name) ++ codes ".") whole rest e in
    let grouped : ((path ++ name) ++ codes ".") ++ rest ≡ path ++ (name ++ 46 ∷ rest) = append_assoc (path ++ name) (codes ".") rest ∙ append_assoc path name (46 ∷ rest) in
    ap (behind path) (is ∙ grouped) ∙ behind-own path (name ++ 46 ∷ rest)

-- How often

abbrev pub one_if : Bool → ℕ
one_if true = 1
one_if false = 0

pub one_if-most : (test : Bool) → one_if test ≤ 1
one_if-most true = omega arith
one_if-most false = omega arith

-- a name of a path stands at most as often as what is bound to it behind the path
pub own-bound : (path name whole : Identifier) (bound : Option Identifier → ℕ) → 1 ≤ bound (Some name) → one_if (same_name (path ++ name) whole) ≤ bound (behind path whole)
own-bound path name whole bound some = by_test (same_name (path ++ name) whole) refl
  where
    by_test : (test : Bool) → same_name (path ++ name) whole ≡ test → one_if test ≤ bound (behind path whole)
    by_test true same =
        let is : path ++ name ≡ whole = equal-name (path ++ name) whole same in
        let e : bound (behind path whole) ≡ bound (Some name) = ap (λ w. bound (behind path w)) (sym is) ∙ ap bound (behind-own path name) in
        omega (arith, some, e)
    by_test false same = omega arith

-- a sum of numbers up to 1 of which no two are 1
pub sum-once : {A : Type 0} (f : A → ℕ) (xs : List A) → AllHold (λ x. f x ≤ 1) xs → ((i j : ℕ) (x y : A) → slice_get xs i ≡ Some x → slice_get xs j ≡ Some y → i < j → 1 ≤ f x → 1 ≤ f y → ⊥) →
    sum_by f xs ≤ 1
sum-once f [] most apart = omega arith
sum-once f (x ∷ xs) most apart = by_number (f x) refl (sum-once f xs most.1 (λ i j y z at_y at_z less one other. apart (suc i) (suc j) y z at_y at_z (omega (arith, less)) one other))
  where
    is_none : (m k : ℕ) → k ≡ m → (1 ≤ k → ⊥) → k ≡ 0
    is_none zero k d never = d
    is_none (suc m) k d never = absurd (never (omega (arith, d)))

    by_number : (n : ℕ) → f x ≡ n → sum_by f xs ≤ 1 → sum_by f (x ∷ xs) ≤ 1
    by_number zero e rest = omega (arith, sum_by-cons f x xs, e, rest)
    by_number (suc n) e rest =
        let none : sum_by f xs ≡ 0 = sum_by-none f xs (λ j y at. is_none (f y) (f y) refl (λ some. apart 0 (suc j) x y refl at (omega arith) (omega (arith, e)) some)) in
        omega (arith, sum_by-cons f x xs, none, most.0)

-- a sum over numbers upwards in two parts
pub sum-up_from : (f : ℕ → ℕ) (start one other : ℕ) → sum_by f (up_from start (one + other)) ≡ sum_by f (up_from start one) + sum_by f (up_from (start + one) other)
sum-up_from f start zero other = let same : start + 0 ≡ start = omega arith in let none : 0 + other ≡ other = omega arith in
    ap (λ n. sum_by f (up_from start n)) none ∙ ap (λ s. sum_by f (up_from s other)) (sym same) ∙ omega arith
sum-up_from f start (suc one) other =
    let more : suc one + other ≡ suc (one + other) = omega arith in
    let same : (start + 1) + one ≡ start + suc one = omega arith in
    let rest = sum-up_from f (start + 1) one other in
    let moved : sum_by f (up_from ((start + 1) + one) other) ≡ sum_by f (up_from (start + suc one) other) = ap (λ s. sum_by f (up_from s other)) same in
    ap (λ n. sum_by f (up_from start n)) more
    ∙ omega (arith, sum_by-cons f start (up_from (start + 1) (one + other)), sum_by-cons f start (up_from (start + 1) one), rest, moved)
