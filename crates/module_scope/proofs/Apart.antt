-- The declarations of a scope have each name once.
use Rattle.std.proofs.Common.{◌≡◌, ℕ, zero, suc, ◌<◌, Bool, true, false, cond, List, [], ◌∷◌, take, get_or, length, Some, None, refl, sym, ap, ◌∙◌, arith}
use Rattle.v_tree.specs.Trees.{Identifier, same_name}
use Rattle.v_names.specs.Scopes.{ScopeEntry, entry_if, looked_up}
use Rattle.v_names.specs.Names.{Declaration, of_name, joined_declaration, first_of_name, first_declarations}
use Rattle.v_names.specs.Readings.{is_empty}
use Rattle.v_names.specs.Meanings.{found, named_by}
use Rattle.module_scope.specs.Settled.{NoneNamed, AreApart}
use Rattle.module_scope.proofs.Maps.{equal-same}

none-step : (name : Identifier) (d : Declaration) (later : List Declaration) (b : Bool) → (b ≡ true → same_name name d.name ≡ false) → NoneNamed name later → NoneNamed name (first_of_name b d later)
none-step name d later true h k = (h refl, k)
none-step name d later false h k = k

apart-step : (d : Declaration) (later : List Declaration) (b : Bool) → NoneNamed d.name later → AreApart later → AreApart (first_of_name b d later)
apart-step d later true h k = (h, k)
apart-step d later false h k = k

-- a name that is among the earlier ones isn't declared once more
none-later : (name : Identifier) (all earlier rest : List Declaration) → ((other : Identifier) → same_name name other ≡ true → is_empty (of_name other earlier) ≡ false) →
    NoneNamed name (first_declarations all earlier rest)
none-later name all earlier [] h = tt
none-later name all earlier (d ∷ rest) h =
    none-step name (joined_declaration all d) (first_declarations all (d ∷ earlier) rest) (is_empty (of_name d.name earlier)) (no (same_name name d.name) refl)
    (none-later name all (d ∷ earlier) rest more)
  where
    more : (other : Identifier) → same_name name other ≡ true → is_empty (of_name other (d ∷ earlier)) ≡ false
    more other s = step (same_name d.name other) refl
      where
        step : (b : Bool) → same_name d.name other ≡ b → is_empty (of_name other (d ∷ earlier)) ≡ false
        step true e = rw e refl
        step false e = rw e (h other s)

    no : (b : Bool) → same_name name d.name ≡ b → is_empty (of_name d.name earlier) ≡ true → same_name name d.name ≡ false
    no true e f = let wrong : false ≡ true = sym (h d.name e) ∙ f in absurd (let z : ⊥ = cc in z)
    no false e f = e

pub first-apart : (all earlier rest : List Declaration) → AreApart (first_declarations all earlier rest)
first-apart all earlier [] = tt
first-apart all earlier (d ∷ rest) =
    apart-step (joined_declaration all d) (first_declarations all (d ∷ earlier) rest) (is_empty (of_name d.name earlier)) (none-later d.name all (d ∷ earlier) rest here)
    (first-apart all (d ∷ earlier) rest)
  where
    here : (other : Identifier) → same_name d.name other ≡ true → is_empty (of_name other (d ∷ earlier)) ≡ false
    here other s = rw s refl

none-at : (name : Identifier) (ds : List Declaration) (i : ℕ) (d : Declaration) → NoneNamed name ds → i < length ds → d ≡ get_or ds i d → same_name name d.name ≡ false
none-at name [] i d h below at = absurd (omega arith)
none-at name (x ∷ xs) zero d h below at = ap (λ (y : Declaration). same_name name y.name) at ∙ h.0
none-at name (x ∷ xs) (suc i) d h below at = none-at name xs i d h.1 (omega arith) at

-- each declaration is the first of its name
pub found-at : (ds : List Declaration) (i : ℕ) (d : Declaration) → AreApart ds → i < length ds → d ≡ get_or ds i d → found ds d.name ≡ Some d
found-at [] i d h below at = absurd (omega arith)
found-at (x ∷ xs) zero d h below at =
    ap (λ b. cond b (Some x) (found xs d.name)) (ap (λ (y : Declaration). same_name x.name y.name) at ∙ equal-same x.name x.name refl) ∙ ap (λ (y : Declaration). Some y) (sym at)
found-at (x ∷ xs) (suc i) d h below at = ap (λ b. cond b (Some x) (found xs d.name)) (none-at x.name xs i d h.0 (omega arith) at) ∙ found-at xs i d h.1 (omega arith) at

not-among : (f : Declaration → ScopeEntry) (name : Identifier) (ds : List Declaration) (i : ℕ) (d : Declaration) → AreApart ds → i < length ds → d ≡ get_or ds i d →
    looked_up (named_by f (take i ds)) d.name ≡ None
not-among f name [] i d h below at = absurd (omega arith)
not-among f name (x ∷ xs) zero d h below at = refl
not-among f name (x ∷ xs) (suc i) d h below at =
    ap (λ b. entry_if b (f x) (looked_up (named_by f (take i xs)) d.name)) (none-at x.name xs i d h.0 (omega arith) at) ∙ not-among f name xs i d h.1 (omega arith) at

-- a name isn't declared before its turn
pub not-declared : (f : Declaration → ScopeEntry) (ds : List Declaration) (i : ℕ) (d : Declaration) → AreApart ds → i < length ds → d ≡ get_or ds i d → looked_up (named_by f (take i ds)) d.name ≡ None
not-declared f ds i d h below at = not-among f d.name ds i d h below at
