-- A scope in which no parameter can get a value any more gives the scope of the definition.
use Rattle.std.proofs.Common.{◌≡◌, ℕ, zero, suc, ◌+◌, Bool, true, false, List, Option, Some, None, option_map, refl, sym, ap, ◌∙◌, arith, add-one}
use Rattle.v_tree.specs.Trees.{Identifier}
use Rattle.v_names.specs.Scopes.{Scope, looked_up, is_waiting}
use Rattle.v_names.specs.Names.{Declaration, GivenParameter, meaning_of, meanings, is_parameter_declared, waiting_entry, scope_after, parameter_count}
use Rattle.v_names.specs.Agreement.{constant_part, part-waiting}
use Rattle.v_names.specs.Meanings.{Under, found, still-settled, meaning-kept, in-meanings, in-waiting}
use Rattle.v_names.specs.Rounds.{parameter-waits, waiting-part, meanings-by}
use Rattle.module_scope.specs.Settled.{IsSettled, AreStill}
use Rattle.module_scope.proofs.Settling.{rounds-grow, rounds-up-to, found-still, found-named, no-parameter}

-- a name that waits in the scope of some rounds is that of a parameter, so one that is no parameter's waits nowhere
other-name : (given : List GivenParameter) (ds : List Declaration) (scope : Scope) (name : Identifier) → IsSettled given ds scope → (rounds : ℕ) (d : Option Declaration) → found ds name ≡ d
    → ((x : Declaration) → d ≡ Some x → is_parameter_declared x.declared ≡ false) → constant_part (looked_up (scope_after rounds given ds) name) ≡ constant_part (looked_up scope name)
other-name given ds scope name s rounds d e h = no-parameter rounds given ds name d e h ∙ sym
    (s.under.agrees name (by (is_waiting (looked_up scope name)) refl) ∙ no-parameter s.rounds given ds name d e h)
  where
    never : (x : Option Declaration) → ((y : Declaration) → x ≡ Some y → is_parameter_declared y.declared ≡ false) → (y : Declaration) → x ≡ Some y → is_parameter_declared y.declared ≡ true → ⊥
    never x h y e p = let no : true ≡ false = sym p ∙ h y e in cc

    by : (w : Bool) → is_waiting (looked_up scope name) ≡ w → is_waiting (looked_up scope name) ≡ false
    by true w = let it = s.waits name w in absurd (never d h it.0 (sym e ∙ it.1) it.2)
    by false w = w

-- two rounds in which a name has values give it one
one-value : (given : List GivenParameter) (ds : List Declaration) (name : Identifier) (a b : ℕ) → is_waiting (looked_up (scope_after a given ds) name) ≡ false →
    is_waiting (looked_up (scope_after b given ds) name) ≡ false
    → constant_part (looked_up (scope_after a given ds) name) ≡ constant_part (looked_up (scope_after b given ds) name)
one-value given ds name a b v w =
    let e : a + b ≡ b + a = omega arith in
    (rounds-grow b a given ds).agrees name v
    ∙ ap (λ (n : ℕ). constant_part (looked_up (scope_after n given ds) name)) (sym e)
    ∙ sym ((rounds-grow a b given ds).agrees name w)

some : (a b : Declaration) → Some a ≡ Some b → a ≡ b
some a b e = cc

first-waits : (given : List GivenParameter) (ds : List Declaration) (name : Identifier) (d : Declaration) → found ds name ≡ Some d → is_parameter_declared d.declared ≡ true →
    is_waiting (looked_up (scope_after 0 given ds) name) ≡ false → ⊥
first-waits given ds name d e p w = parameter-waits d.declared p (sym (ap is_waiting (in-waiting ds name ∙ ap (option_map (λ (x : Declaration). waiting_entry x.declared)) e)) ∙ w)

-- a declaration that could get a value has one
has-value : (given : List GivenParameter) (ds : List Declaration) (scope : Scope) (name : Identifier) (d : Declaration) → AreStill given scope ds → found ds name ≡ Some d
    → is_waiting (Some (meaning_of scope given d.name d.declared)) ≡ false → is_waiting (looked_up scope name) ≡ false
has-value given ds scope name d still e goes = by (is_waiting (looked_up scope name)) refl
  where
    by : (w : Bool) → is_waiting (looked_up scope name) ≡ w → is_waiting (looked_up scope name) ≡ false
    by true w =
        let no : false ≡ true = sym goes ∙ found-still given scope ds name d still e (ap (λ n. is_waiting (looked_up scope n)) (found-named ds name d e) ∙ w) in absurd (let z : ⊥ = cc in z)
    by false w = w

round-by : (given : List GivenParameter) (ds : List Declaration) (scope : Scope) → IsSettled given ds scope → AreStill given scope ds → (rounds : ℕ) → Under (scope_after rounds given ds) scope →
    (name : Identifier)
    → is_waiting (looked_up (scope_after (suc rounds) given ds) name) ≡ false → (d : Option Declaration) → found ds name ≡ d →
    constant_part (looked_up (scope_after (suc rounds) given ds) name) ≡ constant_part (looked_up scope name)
round-by given ds scope s still rounds under name w None e = other-name given ds scope name s (suc rounds) None e (λ x f. absurd (let z : ⊥ = cc in z))
round-by given ds scope s still rounds under name w (Some d) e =
    let old = scope_after rounds given ds in
    let means : looked_up (scope_after (suc rounds) given ds) name ≡ Some (meaning_of old given d.name d.declared) =
    in-meanings old given ds name ∙ ap (option_map (λ (x : Declaration). meaning_of old given x.name x.declared)) e in
    let kept = meaning-kept old scope under given d.name d.declared (sym (ap is_waiting means) ∙ w) in
    let goes : is_waiting (Some (meaning_of scope given d.name d.declared)) ≡ false =
    part-waiting (Some (meaning_of scope given d.name d.declared)) ∙ ap (λ p. is_waiting (Some p)) (sym kept) ∙ sym (part-waiting (Some (meaning_of old given d.name d.declared)))
    ∙ sym (ap is_waiting means) ∙ w in
    let settled = has-value given ds scope name d still e goes in
    one-value given ds name (suc rounds) s.rounds w (sym (still-settled scope (scope_after s.rounds given ds) name (s.under.agrees name settled)) ∙ settled)
    ∙ sym (s.under.agrees name settled)

-- each value of a round is there
pub rounds-under : (given : List GivenParameter) (ds : List Declaration) (scope : Scope) → IsSettled given ds scope → AreStill given scope ds → (rounds : ℕ) → Under (scope_after rounds given ds) scope
rounds-under given ds scope s still zero = record { agrees = λ name w. by name w (found ds name) refl }
  where
    by : (name : Identifier) → is_waiting (looked_up (scope_after 0 given ds) name) ≡ false → (d : Option Declaration) → found ds name ≡ d
        → constant_part (looked_up (scope_after 0 given ds) name) ≡ constant_part (looked_up scope name)
    by name w None e = other-name given ds scope name s 0 None e (λ x f. absurd (let z : ⊥ = cc in z))
    by name w (Some d) e = split (is_parameter_declared d.declared) refl
      where
        split : (p : Bool) → is_parameter_declared d.declared ≡ p → constant_part (looked_up (scope_after 0 given ds) name) ≡ constant_part (looked_up scope name)
        split true p = absurd (first-waits given ds name d e p w)
        split false p = other-name given ds scope name s 0 (Some d) e (λ x f. ap (λ (y : Declaration). is_parameter_declared y.declared) (sym (some d x f)) ∙ p)
rounds-under given ds scope s still (suc rounds) = record { agrees = λ name w. round-by given ds scope s still rounds (rounds-under given ds scope s still rounds) name w (found ds name) refl }

-- after as many rounds as there are parameters a constant sees the same
same-at-end : (given : List GivenParameter) (ds : List Declaration) (scope : Scope) → IsSettled given ds scope → AreStill given scope ds → (name : Identifier)
    → constant_part (looked_up scope name) ≡ constant_part (looked_up (scope_after (parameter_count ds) given ds) name)
same-at-end given ds scope s still name = by (is_waiting (looked_up scope name)) refl
  where
    by : (w : Bool) → is_waiting (looked_up scope name) ≡ w → constant_part (looked_up scope name) ≡ constant_part (looked_up (scope_after (parameter_count ds) given ds) name)
    by false w =
        let bound = s.bounded in
        s.under.agrees name w
        ∙ (rounds-up-to s.rounds (parameter_count ds) given ds (omega (arith, bound))).agrees name (sym (still-settled scope (scope_after s.rounds given ds) name (s.under.agrees name w)) ∙ w)
    by true w = waiting-part (looked_up scope name) w ∙ sym (waiting-part (looked_up (scope_after (parameter_count ds) given ds) name)
        (end (is_waiting (looked_up (scope_after (parameter_count ds) given ds) name)) refl))
      where
        end : (v : Bool) → is_waiting (looked_up (scope_after (parameter_count ds) given ds) name) ≡ v → is_waiting (looked_up (scope_after (parameter_count ds) given ds) name) ≡ true
        end true v = v
        end false v =
            let e = (rounds-under given ds scope s still (parameter_count ds)).agrees name v in
            let no : false ≡ true = sym v ∙ still-settled (scope_after (parameter_count ds) given ds) scope name e ∙ w in absurd (let z : ⊥ = cc in z)

-- what the declarations mean by the parameters of the scope is the scope of the definition
pub settled-scope : (given : List GivenParameter) (ds : List Declaration) (scope : Scope) → IsSettled given ds scope → AreStill given scope ds →
    meanings scope given ds ≡ scope_after (parameter_count ds + 1) given ds
settled-scope given ds scope s still =
    meanings-by scope (scope_after (parameter_count ds) given ds) given ds (same-at-end given ds scope s still) ∙ ap (λ (n : ℕ). scope_after n given ds) (sym (add-one (parameter_count ds)))
