-- Turns of loops over lists.
use Rattle.std.proofs.Common.{◌≡◌, ℕ, zero, suc, ◌+◌, ◌<◌, ◌≤◌, Bool, true, false, cond, ◌&&◌, ◌||◌, List, [], ◌∷◌, ◌++◌, drop, take, length, get_or, set, refl, sym, ap, ap₂, ◌∙◌, append_assoc}
use Rattle.std.proofs.Common.{arith, add-one}
use Rattle.std.proofs.Math.Seq.{drop-cons, drop-length}
use Rattle.std.proofs.lemmas.List.{take_more}
use Rattle.v_tree.specs.Trees.{Identifier, same_name, has_name}
use Rattle.v_comb.specs.NameTables.{with_name}
use Rattle.v_comb.specs.Flags.{flags_met}
use Rattle.v_comb.proofs.Tables.{same-equal}
use Rattle.v_comb.proofs.FlagLaws.{has-append}

-- what is left begins with the item of the turn
pub drop-step : {A : Type 0} (xs : List A) (i : ℕ) (x : A) → i < length xs → x ≡ get_or xs i x → drop i xs ≡ x ∷ drop (i + 1) xs
drop-step xs i x below at = rw add-one (drop-cons xs i x below ∙ ap (λ y. y ∷ drop (suc i) xs) (sym at))

-- nothing is left at the end
pub drop-past : {A : Type 0} (xs : List A) (i : ℕ) → length xs ≤ i → drop i xs ≡ []
drop-past [] zero e = refl
drop-past [] (suc i) e = refl
drop-past (x ∷ xs) zero e = absurd (omega arith)
drop-past (x ∷ xs) (suc i) e = drop-past xs i (omega arith)

-- the first flags of a list that are met with those of another
abbrev pub met_first : ℕ → List Bool → List Bool → List Bool
met_first zero flags other = flags
met_first (suc n) [] other = []
met_first (suc n) (flag ∷ flags) [] = false ∷ met_first n flags []
met_first (suc n) (flag ∷ flags) (two ∷ other) = (flag && two) ∷ met_first n flags other

pub met-step : (i : ℕ) (flags other : List Bool) (d : Bool) → i < length flags → met_first (suc i) flags other ≡ set (met_first i flags other) i
    (get_or (met_first i flags other) i d && get_or other i false)
met-step i [] other d below = absurd (omega arith)
met-step zero (flag ∷ flags) [] d below = ap (λ b. b ∷ flags) (and-none flag)
  where
    and-none : (b : Bool) → false ≡ (b && false)
    and-none true = refl
    and-none false = refl
met-step (suc i) (flag ∷ flags) [] d below = ap (λ rest. false ∷ rest) (met-step i flags [] d (omega arith))
met-step zero (flag ∷ flags) (two ∷ other) d below = refl
met-step (suc i) (flag ∷ flags) (two ∷ other) d below = ap (λ rest. (flag && two) ∷ rest) (met-step i flags other d (omega arith))

pub met-whole : (n : ℕ) (flags other : List Bool) → length flags ≤ n → met_first n flags other ≡ flags_met flags other
met-whole zero [] other e = refl
met-whole (suc n) [] other e = refl
met-whole zero (flag ∷ flags) other e = absurd (omega arith)
met-whole (suc n) (flag ∷ flags) [] e = ap (λ rest. false ∷ rest) (met-whole n flags [] (omega arith))
met-whole (suc n) (flag ∷ flags) (two ∷ other) e = ap (λ rest. (flag && two) ∷ rest) (met-whole n flags other (omega arith))

pub met-turn : (i : ℕ) (flags other now : List Bool) (flag : Bool) → i < length flags → now ≡ met_first i flags other → flag ≡ (get_or now i false && get_or other i false) →
    set now i flag ≡ met_first (i + 1) flags other
met-turn i flags other now flag below e s =
    rw add-one (ap₂ (λ n b. set n i b) e (s ∙ ap (λ n. get_or n i false && get_or other i false) e) ∙ sym (met-step i flags other false below))

or-false : (b : Bool) → (b || false) ≡ b
or-false true = refl
or-false false = refl

with-by : (names : List Identifier) (x name : Identifier) (b c : Bool) → has_name names x ≡ b → same_name x name ≡ c →
    has_name (cond b names (names ++ x ∷ [])) name ≡ (has_name names name || (c || false))
with-by names x name true true e s = let there : has_name names name ≡ true = ap (has_name names) (sym (same-equal x name s)) ∙ e in rw there refl
with-by names x name true false e s = sym (or-false (has_name names name))
with-by names x name false c e s = has-append names (x ∷ []) name ∙ ap (λ b. has_name names name || (b || false)) s

-- a table that has the first texts of a list, with one text more
pub table-turn : (table texts new : List Identifier) (i : ℕ) (bytes text : Identifier) → i < length texts → new ≡ with_name table bytes → bytes ≡ text → text ≡ get_or texts i text
    → ((name : Identifier) → has_name table name ≡ has_name (take i texts) name) → (name : Identifier) → has_name new name ≡ has_name (take (i + 1) texts) name
table-turn table texts new i bytes text below e s at same name =
    ap (λ names. has_name names name) (e ∙ ap (with_name table) (s ∙ at))
    ∙ with-by table (get_or texts i text) name (has_name table (get_or texts i text)) (same_name (get_or texts i text) name) refl refl
    ∙ ap (λ b. b || (same_name (get_or texts i text) name || false)) (same name)
    ∙ sym (ap (λ names. has_name names name) (take_more texts i text below) ∙ has-append (take i texts) (get_or texts i text ∷ []) name)

-- names that are added in one or in two steps
pub one-more : {A : Type 0} (old new : List A) {x y : List A} → new ≡ old ++ x → x ≡ y → new ≡ old ++ y
one-more old new e s = e ∙ ap (λ names. old ++ names) s

pub two-more : {A : Type 0} (old middle new : List A) {x y x' y' all : List A} → middle ≡ old ++ x → new ≡ middle ++ y → x ≡ x' → y ≡ y' → all ≡ x' ++ y' → new ≡ old ++ all
two-more old middle new {x} {y} {x'} {y'} {all} e f s t u =
    f ∙ ap₂ (λ a b. a ++ b) (e ∙ ap (λ names. old ++ names) s) t ∙ append_assoc old x' y' ∙ ap (λ names. old ++ names) (sym u)

pub three-more : {A : Type 0} (old one two new : List A) {x y z x' y' z' all : List A} → one ≡ old ++ x → two ≡ one ++ y → new ≡ two ++ z → x ≡ x' → y ≡ y' → z ≡ z' → all ≡ x' ++ (y' ++ z') →
    new ≡ old ++ all
three-more old one two new {x} {y} {z} {x'} {y'} {z'} {all} e f g s t u v =
    two-more old one new e (g ∙ ap (λ names. names ++ z) f ∙ append_assoc one y z) s (ap₂ (λ a b. a ++ b) t u) v
