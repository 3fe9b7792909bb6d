-- As many rounds as a module has parameters suffice: in each round one more parameter gets its value, or none ever will (IEEE 1364-2001, clause 12.2).
use Rattle.std.proofs.Common.{◌≡◌, ℕ, zero, suc, ◌+◌, ◌≤◌, ◌⊎◌, Bool, true, false, ◌&&◌, cond, List, [], ◌∷◌, filter, length, Some, refl, sym, ap, ◌∙◌, inl, inr, arith, add-one}
use Rattle.std.specs.Prelude.{slice_get}
use Rattle.v_tree.specs.Trees.{Identifier, SourceModule, same_name}
use Rattle.v_names.specs.Scopes.{Scope, looked_up, is_waiting}
use Rattle.v_names.specs.Names.{Declared, DeclaredParameter, DeclaredPort, DeclaredNet, DeclaredReg, DeclaredMemory, DeclaredGate, DeclaredInstance, Declaration, GivenParameter, names_declared}
use Rattle.v_names.specs.Names.{meaning_of, meanings, is_parameter_declared, waiting_entry, scope_after, parameter_count, scope_of}
use Rattle.v_names.specs.SizedLaws.{and-left, and-right}
use Rattle.flat_laws.specs.Lists.{same_some}
use Rattle.flat_laws.specs.Hierarchy.Given.{equal-name, both-true}
use Rattle.v_names.specs.Agreement.{constant_part, part-waiting}
use Rattle.v_names.specs.Meanings.{found, in-meanings, in-waiting}
use Rattle.v_names.specs.Rounds.{entry-waits, waits-by, waiting-part, meanings-by, round-grows, fewer}

-- Counts

-- whether the same of some pass both
abbrev PassAlike : {A : Type 0} → (A → Bool) → (A → Bool) → List A → Type 0
PassAlike {A} p q xs = (i : ℕ) (x : A) → slice_get xs i ≡ Some x → q x ≡ true → p x ≡ true

alike-before : {A : Type 0} (p q : A → Bool) (y : A) (xs : List A) → (q y ≡ true → p y ≡ true) → PassAlike p q xs → PassAlike p q (y ∷ xs)
alike-before p q y xs h k zero x at e = let same = same_some y x at in ap p (sym same) ∙ h (ap q same ∙ e)
alike-before p q y xs h k (suc i) x at e = k i x at e

fewer-or-by : {A : Type 0} (p q : A → Bool) (x : A) (xs : List A) (a b : Bool) → p x ≡ a → q x ≡ b → (a ≡ true → b ≡ true) → length (filter p xs) ≤ length (filter q xs) →
    (length (filter p xs) + 1 ≤ length (filter q xs)) ⊎ PassAlike p q xs → (length (filter p (x ∷ xs)) + 1 ≤ length (filter q (x ∷ xs))) ⊎ PassAlike p q (x ∷ xs)
fewer-or-by p q x xs true true e f h k (inl less) = inl (rw (e, f) (omega (arith, less)))
fewer-or-by p q x xs true true e f h k (inr alike) = inr (alike-before p q x xs (λ g. e) alike)
fewer-or-by p q x xs true false e f h k rest = absurd (let n : false ≡ true = h refl in let x : ⊥ = cc in x)
fewer-or-by p q x xs false true e f h k rest = inl (rw (e, f) (omega (arith, k)))
fewer-or-by p q x xs false false e f h k (inl less) = inl (rw (e, f) less)
fewer-or-by p q x xs false false e f h k (inr alike) = inr (alike-before p q x xs (λ g. absurd (let n : false ≡ true = sym f ∙ g in let x : ⊥ = cc in x)) alike)

-- so fewer pass, or the same
fewer-or : {A : Type 0} (p q : A → Bool) (xs : List A) → ((x : A) → p x ≡ true → q x ≡ true) → (length (filter p xs) + 1 ≤ length (filter q xs)) ⊎ PassAlike p q xs
fewer-or p q [] h = inr (λ i x at e. absurd (cc))
fewer-or p q (x ∷ xs) h = fewer-or-by p q x xs (p x) (q x) refl refl (h x) (fewer p q xs h) (fewer-or p q xs h)

-- Declarations of names

found-by : (x d : Declaration) (xs : List Declaration) (name : Identifier) (same : Bool) → same_name x.name name ≡ same → cond same (Some x) (found xs name) ≡ Some d →
    (found xs name ≡ Some d → (i : ℕ) × (slice_get xs i ≡ Some d) × (d.name ≡ name)) → (i : ℕ) × (slice_get (x ∷ xs) i ≡ Some d) × (d.name ≡ name)
found-by x d xs name true s e rest = (0, e, ap (λ (y : Declaration). y.name) (sym (same_some x d e)) ∙ equal-name x.name name s)
found-by x d xs name false s e rest = let r = rest e in (suc r.0, r.1, r.2)

-- the declaration of a name is one of them
pub found-in : (ds : List Declaration) (name : Identifier) (d : Declaration) → found ds name ≡ Some d → (i : ℕ) × (slice_get ds i ≡ Some d) × (d.name ≡ name)
found-in [] name d e = absurd (cc)
found-in (x ∷ xs) name d e = found-by x d xs name (same_name x.name name) refl e (λ f. found-in xs name d f)

meaning-waits : (s : Scope) (given : List GivenParameter) (name : Identifier) (d : Declared) → is_waiting (Some (meaning_of s given name d)) ≡ true → is_parameter_declared d ≡ true
meaning-waits s given name (DeclaredParameter is_local signed bounds value) w = refl
meaning-waits s given name (DeclaredPort direction true signed bounds first) w = cc
meaning-waits s given name (DeclaredPort direction false signed bounds first) w = cc
meaning-waits s given name (DeclaredNet signed bounds) w = cc
meaning-waits s given name (DeclaredReg signed bounds first) w = cc
meaning-waits s given name (DeclaredMemory signed bounds addresses) w = cc
meaning-waits s given name DeclaredGate w = cc
meaning-waits s given name DeclaredInstance w = cc

-- a name that waits is a parameter's
waiting-parameter : (rounds : ℕ) (given : List GivenParameter) (ds : List Declaration) (name : Identifier) → is_waiting (looked_up (scope_after rounds given ds) name) ≡ true →
    (x : Declaration) × (found ds name ≡ Some x) × (is_parameter_declared x.declared ≡ true)
waiting-parameter zero given ds name w = waits-by (λ d. waiting_entry d.declared) ds name (found ds name) refl (λ x v. entry-waits x.declared v) (sym (ap is_waiting (in-waiting ds name)) ∙ w)
waiting-parameter (suc rounds) given ds name w =
    let s = scope_after rounds given ds in
    waits-by (λ d. meaning_of s given d.name d.declared) ds name (found ds name) refl (λ x v. meaning-waits s given x.name x.declared v) (sym (ap is_waiting (in-meanings s given ds name)) ∙ w)

-- Rounds that change nothing

module _ (given : List GivenParameter) (ds : List Declaration) where
  abbrev after : ℕ → Scope
  after rounds = scope_after rounds given ds

  -- a parameter that waits
  abbrev waits : ℕ → Declaration → Bool
  waits rounds d = is_parameter_declared d.declared && is_waiting (looked_up (scope_after rounds given ds) d.name)

  abbrev left : ℕ → ℕ
  left rounds = length (filter (λ (d : Declaration). is_parameter_declared d.declared && is_waiting (looked_up (scope_after rounds given ds) d.name)) ds)

  -- the next round gives no parameter another value
  abbrev Still : ℕ → Type 0
  Still rounds = (name : Identifier) → constant_part (looked_up (scope_after rounds given ds) name) ≡ constant_part (looked_up (scope_after (suc rounds) given ds) name)

  -- and then none after it does
  still-on : (rounds : ℕ) → Still rounds → Still (suc rounds)
  still-on rounds h name = ap (λ s. constant_part (looked_up s name)) (meanings-by (after rounds) (after (suc rounds)) given ds h)

  -- one that waits in the next round waits in this one
  waits-before : (rounds : ℕ) (name : Identifier) → is_waiting (looked_up (after (suc rounds)) name) ≡ true → is_waiting (looked_up (after rounds) name) ≡ true
  waits-before rounds name w = by (is_waiting (looked_up (after rounds) name)) refl
    where
      by : (b : Bool) → is_waiting (looked_up (after rounds) name) ≡ b → is_waiting (looked_up (after rounds) name) ≡ true
      by true e = e
      by false e =
          let kept = (round-grows rounds given ds).agrees name e in
          let no : false ≡ true = sym e ∙ part-waiting (looked_up (after rounds) name) ∙ ap (λ p. is_waiting (Some p)) kept ∙ sym (part-waiting (looked_up (after (suc rounds)) name)) ∙ w in
          absurd (let x : ⊥ = cc in x)

  fewer-wait : (rounds : ℕ) (x : Declaration) → waits (suc rounds) x ≡ true → waits rounds x ≡ true
  fewer-wait rounds x e =
      both-true (is_parameter_declared x.declared) (is_waiting (looked_up (after rounds) x.name)) (and-left (is_parameter_declared x.declared) (is_waiting (looked_up (after (suc rounds)) x.name)) e)
      (waits-before rounds x.name (and-right (is_parameter_declared x.declared) (is_waiting (looked_up (after (suc rounds)) x.name)) e))

  -- where the same wait the round gives nothing
  still-alike : (rounds : ℕ) → PassAlike (waits (suc rounds)) (waits rounds) ds → Still rounds
  still-alike rounds alike name = by (is_waiting (looked_up (after rounds) name)) refl
    where
      by : (b : Bool) → is_waiting (looked_up (after rounds) name) ≡ b → constant_part (looked_up (after rounds) name) ≡ constant_part (looked_up (after (suc rounds)) name)
      by false e = (round-grows rounds given ds).agrees name e
      by true e =
          let it = waiting-parameter rounds given ds name e in
          let place = found-in ds name it.0 it.1 in
          let here : waits rounds it.0 ≡ true = both-true (is_parameter_declared it.0.declared) (is_waiting (looked_up (after rounds) it.0.name)) it.2
          (ap (λ n. is_waiting (looked_up (after rounds) n)) place.2 ∙ e) in
          let there = and-right (is_parameter_declared it.0.declared) (is_waiting (looked_up (after (suc rounds)) it.0.name)) (alike place.0 it.0 place.1 here) in
          waiting-part (looked_up (after rounds) name) e ∙ sym (waiting-part (looked_up (after (suc rounds)) name) (ap (λ n. is_waiting (looked_up (after (suc rounds)) n)) (sym place.2) ∙ there))

  step : (rounds : ℕ) → rounds + left rounds ≤ parameter_count ds → (suc rounds + left (suc rounds) ≤ parameter_count ds) ⊎ Still rounds
  step rounds bound =
      elim (fewer-or (waits (suc rounds)) (waits rounds) ds (fewer-wait rounds)) [
        | inl less ↦ inl (omega (arith, less, bound))
        | inr alike ↦ inr (still-alike rounds alike)
      ]

  falls : (rounds : ℕ) → (suc rounds + left (suc rounds) ≤ parameter_count ds) ⊎ Still rounds
  falls zero =
      let h = fewer (waits 0) (λ (d : Declaration). is_parameter_declared d.declared) ds (λ x e. and-left (is_parameter_declared x.declared) (is_waiting (looked_up (after 0) x.name)) e) in
      step 0 (omega (arith, h))
  falls (suc rounds) =
      elim (falls rounds) [
        | inl bound ↦ step (suc rounds) bound
        | inr still ↦ inr (still-on rounds still)
      ]

  -- after as many rounds as there are parameters one more gives none another value
  pub rounds-suffice : (name : Identifier) → constant_part (looked_up (scope_after (parameter_count ds) given ds) name) ≡ constant_part
      (looked_up (scope_after (suc (parameter_count ds)) given ds) name)
  rounds-suffice name =
      elim (falls (parameter_count ds)) [
        | inl bound ↦ absurd (omega (arith, bound))
        | inr still ↦ still name
      ]

-- so the scope of a module gives what its declarations mean in that very scope
pub scope-fixed : (m : SourceModule) (given : List GivenParameter) → scope_of m given ≡ meanings (scope_of m given) given (names_declared m)
scope-fixed m given =
    let ds = names_declared m in
    let n = parameter_count ds in
    let next : scope_of m given ≡ scope_after (suc n) given ds = ap (λ k. scope_after k given ds) (add-one n) in
    next ∙ meanings-by (scope_after n given ds) (scope_after (suc n) given ds) given ds (rounds-suffice given ds) ∙ ap (λ s. meanings s given ds) (sym next)
