-- Declarations of a name, from the first on.
use Rattle.std.proofs.Common.{◌≡◌, ℕ, ◌+◌, ◌<◌, Bool, true, false, not, ◌||◌, List, [], ◌∷◌, ◌++◌, map, drop, get_or, length, Option, Some, None, is_some, refl, sym, ap}
use Rattle.std.proofs.Common.{ap₂, ◌∙◌, append_assoc, append-nil, ◌≤◌, subst}
use Rattle.v_tree.specs.Trees.{Identifier, same_name}
use Rattle.v_names.specs.Names.{Declared, DeclaredParameter, DeclaredPort, DeclaredNet, DeclaredReg, DeclaredMemory, DeclaredGate, DeclaredInstance, Declaration, is_plain, of_name, plain_of_name}
use Rattle.v_names.specs.Names.{joined_declared, joined_declaration, first_of_name, first_declarations}
use Rattle.v_names.specs.Readings.{is_empty}
use Rattle.name_checks.specs.Rows.{drop-step, drop-past}
use Rattle.module_scope.specs.Declarations.{joined_with, joined_by, first_in, or_first, unless_there}

-- what is joined depends on the first of the other declarations alone
with-declared : (d : Declared) (again : Declaration) (others : List Declaration) → joined_declared d (again ∷ others) ≡ joined_with d again.declared
with-declared (DeclaredParameter is_local signed bounds value) again others = refl
with-declared (DeclaredPort direction is_reg signed bounds first) again others = by again.declared
  where
    by : (e : Declared) → joined_declared (DeclaredPort direction is_reg signed bounds first) (record { name = again.name; place = again.place; declared = e } ∷ others) ≡ joined_with
        (DeclaredPort direction is_reg signed bounds first) e
    by (DeclaredParameter is_local signed' bounds' value) = refl
    by (DeclaredPort direction' is_reg' signed' bounds' first') = refl
    by (DeclaredNet signed' bounds') = refl
    by (DeclaredReg signed' bounds' first') = refl
    by (DeclaredMemory signed' bounds' addresses) = refl
    by DeclaredGate = refl
    by DeclaredInstance = refl
with-declared (DeclaredNet signed bounds) again others = refl
with-declared (DeclaredReg signed bounds first) again others = refl
with-declared (DeclaredMemory signed bounds addresses) again others = refl
with-declared DeclaredGate again others = refl
with-declared DeclaredInstance again others = refl

no-others : (d : Declared) → joined_declared d [] ≡ d
no-others d = refl

joined-list : (d : Declaration) (others : List Declaration) → record { name = d.name; place = d.place; declared = joined_declared d.declared others } ≡ joined_by d (first_in others)
joined-list d [] = refl
joined-list d (again ∷ others) = ap (λ (e : Declared). record { name = d.name; place = d.place; declared = e }) (with-declared d.declared again others)

pub joined-first : (all : List Declaration) (d : Declaration) → joined_declaration all d ≡ joined_by d (first_in (plain_of_name d.name all))
joined-first all d = joined-list d (plain_of_name d.name all)

-- a list with one declaration before it
plain-by : (d : Declaration) (rest : List Declaration) (name : Identifier) (old : Option Declaration) (same plain : Bool) → same_name d.name name ≡ same → is_plain d.declared ≡ plain
    → or_first (or_first old (plain_of_name name (d ∷ []))) (plain_of_name name rest) ≡ or_first old (plain_of_name name (d ∷ rest))
plain-by d rest name (Some x) same plain e f = refl
plain-by d rest name None true true e f = rw (e, f) refl
plain-by d rest name None true false e f = rw (e, f) refl
plain-by d rest name None false plain e f = rw e refl

pub plain-turn : (d : Declaration) (rest : List Declaration) (name : Identifier) (old : Option Declaration) →
    or_first (or_first old (plain_of_name name (d ∷ []))) (plain_of_name name rest) ≡ or_first old (plain_of_name name (d ∷ rest))
plain-turn d rest name old = plain-by d rest name old (same_name d.name name) (is_plain d.declared) refl refl

-- the names that were seen are those of the earlier declarations, and what is pushed and what is to come are the first declarations
pub record ArePushed {V : Type 0} (seen : List ℕ → Option V) (list all rest : List Declaration) : Type 0 where
  pub earlier : List Declaration
  pub are_seen : (name : Identifier) → is_some (seen name) ≡ not (is_empty (of_name name earlier))
  pub are_first : list ++ first_declarations all earlier rest ≡ first_declarations all [] all

seen-by : (d : Declaration) (earlier : List Declaration) (name : Identifier) (same : Bool) → same_name d.name name ≡ same →
    (same || not (is_empty (of_name name earlier))) ≡ not (is_empty (of_name name (d ∷ earlier)))
seen-by d earlier name true e = rw e refl
seen-by d earlier name false e = rw e refl

pushed-by : (b : Bool) (d : Declaration) (list rest : List Declaration) → (list ++ unless_there (not b) d) ++ rest ≡ list ++ first_of_name b d rest
pushed-by true d list rest = append_assoc list (d ∷ []) rest
pushed-by false d list rest = append_assoc list [] rest

not-not : (b : Bool) → not (not b) ≡ b
not-not true = refl
not-not false = refl

pub pushed-turn : {V : Type 0} (seen new : List ℕ → Option V) (list more all rest : List Declaration) (d : Declaration) (plain : Option Declaration) → ArePushed seen list all (d ∷ rest)
    → ((name : Identifier) → is_some (new name) ≡ (same_name d.name name || is_some (seen name))) → plain ≡ first_in (plain_of_name d.name all)
    → more ≡ list ++ unless_there (is_some (seen d.name)) (joined_by d plain) → ArePushed new more all rest
pushed-turn seen new list more all rest d plain before news plains pushes = record {
  earlier = d ∷ before.earlier;
  are_seen = λ name. news name ∙ ap (λ b. same_name d.name name || b) (before.are_seen name) ∙ seen-by d before.earlier name (same_name d.name name) refl;
  are_first =
      ap (λ m. m ++ first_declarations all (d ∷ before.earlier) rest)
      (pushes ∙ ap₂ (λ b j. list ++ unless_there b j) (before.are_seen d.name) (ap (joined_by d) plains ∙ sym (joined-first all d)))
      ∙ pushed-by (is_empty (of_name d.name before.earlier)) (joined_declaration all d) list (first_declarations all (d ∷ before.earlier) rest)
      ∙ before.are_first;
}

pub pushed-step : {A V : Type 0} (view : A → Declaration) (xs : List A) (i : ℕ) (x : A) (seen new : List ℕ → Option V) (list more all : List Declaration) (plain : Option Declaration) →
    i < length xs → x ≡ get_or xs i x
    → ArePushed seen list all (map view (drop i xs)) → ((name : Identifier) → is_some (new name) ≡ (same_name (view x).name name || is_some (seen name))) →
    plain ≡ first_in (plain_of_name (view x).name all)
    → more ≡ list ++ unless_there (is_some (seen (view x).name)) (joined_by (view x) plain) → ArePushed new more all (map view (drop (i + 1) xs))
pushed-step {A} view xs i x seen new list more all plain below at before news plains pushes =
    let P : List A → Type 0 = λ ys. ArePushed seen list all (map view ys) in
    pushed-turn seen new list more all (map view (drop (i + 1) xs)) (view x) plain (subst P (drop-step xs i x below at) before) news plains pushes

pub pushed-end : {A V : Type 0} (view : A → Declaration) (xs : List A) (i : ℕ) (seen : List ℕ → Option V) (list all : List Declaration) → length xs ≤ i →
    ArePushed seen list all (map view (drop i xs)) → list ≡ first_declarations all [] all
pushed-end {A} view xs i seen list all past before =
    let P : List A → Type 0 = λ ys. ArePushed seen list all (map view ys) in
    let last = subst P (drop-past xs i past) before in
    sym (append-nil list) ∙ last.are_first
