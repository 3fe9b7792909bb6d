-- Names at their first occurrence alone, one after the other.
use Rattle.std.proofs.Common.{◌≡◌, Bool, true, false, cond, ◌||◌, List, [], ◌∷◌, ◌++◌, refl, sym, ap, ap₂, ◌∙◌, append_assoc}
use Rattle.std.proofs.lemmas.List.{append-nil}
use Rattle.v_tree.specs.Trees.{Identifier, same_name, has_name}
use Rattle.v_comb.specs.CombinationalForm.{fresh_name, each_once}
use Rattle.v_comb.specs.NameTables.{with_name, with_other}
use Rattle.v_comb.proofs.Tables.{same-equal, equal-same}
use Rattle.v_comb.proofs.FlagLaws.{AreApart, has-append}

-- a table with some names more
abbrev pub gathered : List Identifier → List Identifier → List Identifier → List Identifier
gathered others table [] = table
gathered others table (name ∷ names) = gathered others (with_other others table name) names

-- what was seen, with one name more that was seen
seen-again : (name : Identifier) (seen : List Identifier) (x : Identifier) (b : Bool) → same_name name x ≡ b → has_name seen name ≡ true → (b || has_name seen x) ≡ has_name seen x
seen-again name seen x true e there = sym (ap (has_name seen) (sym (same-equal name x e)) ∙ there)
seen-again name seen x false e there = refl

-- what was seen is in the others or in the table
abbrev Known : List Identifier → List Identifier → List Identifier → Type 0
Known others table seen = (x : Identifier) → has_name seen x ≡ (has_name others x || has_name table x)

or-last : (b c : Bool) → (b || (c || false)) ≡ (b || c)
or-last true c = refl
or-last false true = refl
or-last false false = refl

or-moved : (s b c : Bool) → (s || (b || c)) ≡ (b || (c || (s || false)))
or-moved true true c = refl
or-moved true false true = refl
or-moved true false false = refl
or-moved false true c = refl
or-moved false false true = refl
or-moved false false false = refl

once-by : (others table seen : List Identifier) (name : Identifier) (names : List Identifier) (b c : Bool) → has_name others name ≡ b → has_name table name ≡ c
    → Known others table seen
    → ((table' seen' : List Identifier) → Known others table' seen' → gathered others table' names ≡ table' ++ each_once seen' names)
    → gathered others (cond b table (cond c table (table ++ name ∷ []))) names ≡ table ++ fresh_name (b || c) name (each_once (name ∷ seen) names)
once-by others table seen name names true c e s known more =
    more table (name ∷ seen) (λ x. seen-again name seen x (same_name name x) refl (known name ∙ ap (λ y. y || has_name table name) e) ∙ known x)
once-by others table seen name names false true e s known more =
    more table (name ∷ seen) (λ x. seen-again name seen x (same_name name x) refl (known name ∙ ap₂ (λ y z. y || z) e s) ∙ known x)
once-by others table seen name names false false e s known more =
    more (table ++ name ∷ []) (name ∷ seen)
    (λ x. ap (λ y. same_name name x || y) (known x) ∙ or-moved (same_name name x) (has_name others x) (has_name table x) ∙ ap (λ y. has_name others x || y) (sym (has-append table (name ∷ []) x)))
    ∙ append_assoc table (name ∷ []) (each_once (name ∷ seen) names)

once-gathered : (others table seen names : List Identifier) → Known others table seen → gathered others table names ≡ table ++ each_once seen names
once-gathered others table seen [] known = sym (append-nil table)
once-gathered others table seen (name ∷ names) known =
    once-by others table seen name names (has_name others name) (has_name table name) refl refl known (λ table' seen'. once-gathered others table' seen' names)
    ∙ ap (λ b. table ++ fresh_name b name (each_once (name ∷ seen) names)) (sym (known name))

or-none : (b : Bool) → b ≡ (b || false)
or-none true = refl
or-none false = refl

-- what is gathered from the beginning
pub gathered-once : (others names : List Identifier) → gathered others [] names ≡ each_once others names
gathered-once others names = once-gathered others [] others names (λ x. or-none (has_name others x))

-- Apart

seen-fresh : (seen : List Identifier) (name x : Identifier) (names : List Identifier) (b c : Bool) → has_name seen name ≡ b → same_name name x ≡ c → has_name seen x ≡ true
    → has_name (each_once (name ∷ seen) names) x ≡ false → has_name (fresh_name b name (each_once (name ∷ seen) names)) x ≡ false
seen-fresh seen name x names true c e s there more = more
seen-fresh seen name x names false true e s there more = let same : has_name seen name ≡ has_name seen x = ap (has_name seen) (same-equal name x s) in cc
seen-fresh seen name x names false false e s there more = rw s more

or-right : (b c : Bool) → c ≡ true → (b || c) ≡ true
or-right true c e = refl
or-right false c e = e

once-unseen : (seen names : List Identifier) (x : Identifier) → has_name seen x ≡ true → has_name (each_once seen names) x ≡ false
once-unseen seen [] x there = refl
once-unseen seen (name ∷ names) x there =
    seen-fresh seen name x names (has_name seen name) (same_name name x) refl refl there (once-unseen (name ∷ seen) names x (or-right (same_name name x) (has_name seen x) there))

apart-by : (name : Identifier) (rest : List Identifier) (b : Bool) → has_name rest name ≡ false → AreApart rest → AreApart (fresh_name b name rest)
apart-by name rest true unseen apart = apart
apart-by name rest false unseen apart = (unseen, apart)

pub once-apart : (seen names : List Identifier) → AreApart (each_once seen names)
once-apart seen [] = tt
once-apart seen (name ∷ names) =
    apart-by name (each_once (name ∷ seen) names) (has_name seen name) (once-unseen (name ∷ seen) names name (or-here name (has_name seen name))) (once-apart (name ∷ seen) names)
  where
    or-here : (name : Identifier) (b : Bool) → (same_name name name || b) ≡ true
    or-here name b = rw (equal-same name name refl) refl
