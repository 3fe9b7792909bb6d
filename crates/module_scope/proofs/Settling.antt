-- Parameters that have got their values, in any order, against the rounds of the definition.
use Rattle.std.proofs.Common.{◌≡◌, ℕ, zero, suc, ◌+◌, ◌-◌, ◌≤◌, ◌<◌, Bool, true, false, cond, List, [], ◌∷◌, filter, length, get_or, Option, Some, None, option_map, refl, sym, ap, ◌∙◌, subst, arith}
use Rattle.v_tree.specs.Trees.{Identifier, same_name}
use Rattle.v_names.specs.Scopes.{ScopeEntry, RefusedParameter, Scope, entry_if, looked_up, is_waiting}
use Rattle.v_names.specs.Names.{Declaration, GivenParameter, meaning_of, is_parameter_declared, waiting_entry, waiting_scope, scope_after}
use Rattle.v_names.specs.Agreement.{constant_part}
use Rattle.v_names.specs.Meanings.{Under, found, under-same, under-joins, meaning-kept, no-constant, in-meanings, in-waiting}
use Rattle.v_names.specs.Rounds.{entry-waits, start-constant, waits-by, round-grows, count-by, fewer}
use Rattle.module_scope.proofs.Maps.{same-equal}
use Rattle.module_scope.specs.Settled.{waits_in, waiting_left, IsSettled, AreStill, AreApart}
use Rattle.module_scope.proofs.Apart.{found-at}

true-or-false : {X : Type 0} (b : Bool) → b ≡ true → b ≡ false → X
true-or-false true e f = cc
true-or-false false e f = cc

-- The rounds have more and more values

pub rounds-grow : (more rounds : ℕ) (given : List GivenParameter) (ds : List Declaration) → Under (scope_after rounds given ds) (scope_after (more + rounds) given ds)
rounds-grow zero rounds given ds = let e : rounds ≡ 0 + rounds = omega arith in subst (λ (n : ℕ). Under (scope_after rounds given ds) (scope_after n given ds)) e
    (under-same (scope_after rounds given ds))
rounds-grow (suc more) rounds given ds =
    let e : suc (more + rounds) ≡ suc more + rounds = omega arith in
    subst (λ (n : ℕ). Under (scope_after rounds given ds) (scope_after n given ds)) e
    (under-joins (scope_after rounds given ds) (scope_after (more + rounds) given ds) (scope_after (suc (more + rounds)) given ds) (rounds-grow more rounds given ds)
    (round-grows (more + rounds) given ds))

pub rounds-up-to : (rounds most : ℕ) (given : List GivenParameter) (ds : List Declaration) → rounds ≤ most → Under (scope_after rounds given ds) (scope_after most given ds)
rounds-up-to rounds most given ds below =
    let e : (most - rounds) + rounds ≡ most = omega arith in
    subst (λ (n : ℕ). Under (scope_after rounds given ds) (scope_after n given ds)) e (rounds-grow (most - rounds) rounds given ds)

-- Counts

pub fewer-in : {A : Type 0} (p q : A → Bool) (xs : List A) → ((i : ℕ) (x : A) → i < length xs → x ≡ get_or xs i x → p x ≡ true → q x ≡ true) → length (filter p xs) ≤ length (filter q xs)
fewer-in p q [] h = omega arith
fewer-in p q (x ∷ xs) h = count-by p q x xs (p x) (q x) refl refl (h 0 x (omega arith) refl) (fewer-in p q xs (λ i y below at. h (suc i) y (omega arith) at))

fewer-by : {A : Type 0} (p q : A → Bool) (x : A) (xs : List A) (a b : Bool) → p x ≡ a → q x ≡ b → (a ≡ true → b ≡ true) → length (filter p xs) + 1 ≤ length (filter q xs) →
    length (filter p (x ∷ xs)) + 1 ≤ length (filter q (x ∷ xs))
fewer-by p q x xs true true e f h k = rw (e, f) (omega arith)
fewer-by p q x xs true false e f h k = absurd (let n : false ≡ true = h refl in let x : ⊥ = cc in x)
fewer-by p q x xs false true e f h k = rw (e, f) (omega arith)
fewer-by p q x xs false false e f h k = rw (e, f) k

one-fewer : {A : Type 0} (p q : A → Bool) (x : A) (xs : List A) → p x ≡ false → q x ≡ true → length (filter p xs) ≤ length (filter q xs) → length (filter p (x ∷ xs)) + 1 ≤ length (filter q (x ∷ xs))
one-fewer p q x xs e f k = rw (e, f) (omega arith)

-- A parameter gets its value

abbrev put_in : Scope → Scope → Declaration → ScopeEntry → Type 0
put_in new scope d entry = (other : Identifier) → looked_up new other ≡ entry_if (same_name d.name other) entry (looked_up scope other)

-- what the name of a turn waits for no more, and others as before
waits-less : (new scope : Scope) (d : Declaration) (entry : ScopeEntry) → put_in new scope d entry → is_waiting (Some entry) ≡ false → (x : Declaration) → waits_in new x ≡ true →
    waits_in scope x ≡ true
waits-less new scope d entry h w x e = by (same_name d.name x.name) refl
  where
    by : (same : Bool) → same_name d.name x.name ≡ same → waits_in scope x ≡ true
    by true s = let no : false ≡ true = sym w ∙ ap is_waiting (sym (h x.name ∙ ap (λ b. entry_if b entry (looked_up scope x.name)) s)) ∙ e in absurd (let x : ⊥ = cc in x)
    by false s = ap is_waiting (sym (h x.name ∙ ap (λ b. entry_if b entry (looked_up scope x.name)) s)) ∙ e

settled-here : (new scope : Scope) (d : Declaration) (entry : ScopeEntry) → put_in new scope d entry → is_waiting (Some entry) ≡ false → same_name d.name d.name ≡ true → waits_in new d ≡ false
settled-here new scope d entry h w same = ap is_waiting (h d.name ∙ ap (λ b. entry_if b entry (looked_up scope d.name)) same) ∙ w

left-falls : (p q : Declaration → Bool) (ds : List Declaration) (i : ℕ) (d : Declaration) → i < length ds → d ≡ get_or ds i d → p d ≡ false → q d ≡ true → ((x : Declaration) → p x ≡ true → q x ≡ true)
    → length (filter p ds) + 1 ≤ length (filter q ds)
left-falls p q [] i d below at e f h = absurd (omega arith)
left-falls p q (x ∷ xs) zero d below at e f h = one-fewer p q x xs (ap p (sym at) ∙ e) (ap q (sym at) ∙ f) (fewer p q xs h)
left-falls p q (x ∷ xs) (suc i) d below at e f h = fewer-by p q x xs (p x) (q x) refl refl (h x) (left-falls p q xs i d (omega arith) at e f h)

pub settle-fewer : (ds : List Declaration) (scope new : Scope) (i : ℕ) (d : Declaration) (entry : ScopeEntry) → i < length ds → d ≡ get_or ds i d → same_name d.name d.name ≡ true
    → waits_in scope d ≡ true → is_waiting (Some entry) ≡ false → put_in new scope d entry → waiting_left new ds + 1 ≤ waiting_left scope ds
settle-fewer ds scope new i d entry below at same waits settled puts = left-falls (waits_in new) (waits_in scope) ds i d below at (settled-here new scope d entry puts settled same) waits
    (waits-less new scope d entry puts settled)

pub settle-turn : (given : List GivenParameter) (ds : List Declaration) (scope new : Scope) (i : ℕ) (d : Declaration) (entry : ScopeEntry) → IsSettled given ds scope → i < length ds →
    d ≡ get_or ds i d
    → found ds d.name ≡ Some d → same_name d.name d.name ≡ true → waits_in scope d ≡ true → entry ≡ meaning_of scope given d.name d.declared → is_waiting (Some entry) ≡ false →
    put_in new scope d entry
    → IsSettled given ds new
settle-turn given ds scope new i d entry before below at here same waits means settled puts =
    let falls = settle-fewer ds scope new i d entry below at same waits settled puts in
    let bound = before.bounded in
    let next = scope_after (suc before.rounds) given ds in
    record {
      rounds = suc before.rounds;
      bounded = omega (arith, falls, bound);
      under = record { agrees = λ name w. by name w (same_name d.name name) refl };
      waits = λ name w. still name w (same_name d.name name) refl;
    }
  where
    value-kept : is_waiting (Some entry) ≡ false → constant_part (Some entry) ≡ constant_part (Some (meaning_of (scope_after before.rounds given ds) given d.name d.declared))
    value-kept w =
        ap (λ m. constant_part (Some m)) means
        ∙ meaning-kept scope (scope_after before.rounds given ds) before.under given d.name d.declared (sym (ap (λ m. is_waiting (Some m)) means) ∙ w)

    round-is : constant_part (looked_up (scope_after (suc before.rounds) given ds) d.name) ≡ constant_part (Some (meaning_of (scope_after before.rounds given ds) given d.name d.declared))
    round-is = ap constant_part (in-meanings (scope_after before.rounds given ds) given ds d.name
        ∙ ap (option_map (λ (x : Declaration). meaning_of (scope_after before.rounds given ds) given x.name x.declared)) here)

    by : (name : Identifier) → is_waiting (looked_up new name) ≡ false → (b : Bool) → same_name d.name name ≡ b →
        constant_part (looked_up new name) ≡ constant_part (looked_up (scope_after (suc before.rounds) given ds) name)
    by name w true s =
        ap constant_part (puts name ∙ ap (λ b. entry_if b entry (looked_up scope name)) s) ∙ value-kept settled ∙ sym round-is
        ∙ ap (λ n. constant_part (looked_up (scope_after (suc before.rounds) given ds) n)) (same-equal d.name name s)
    by name w false s =
        let at-old = puts name ∙ ap (λ b. entry_if b entry (looked_up scope name)) s in
        ap constant_part at-old
        ∙ (under-joins scope (scope_after before.rounds given ds) (scope_after (suc before.rounds) given ds) before.under (round-grows before.rounds given ds)).agrees name
        (sym (ap is_waiting at-old) ∙ w)

    still : (name : Identifier) → is_waiting (looked_up new name) ≡ true → (b : Bool) → same_name d.name name ≡ b →
        (x : Declaration) × (found ds name ≡ Some x) × (is_parameter_declared x.declared ≡ true)
    still name w true s =
        let no : false ≡ true = sym settled ∙ sym (ap is_waiting (puts name ∙ ap (λ b. entry_if b entry (looked_up scope name)) s)) ∙ w in absurd (let x : ⊥ = cc in x)
    still name w false s = before.waits name (sym (ap is_waiting (puts name ∙ ap (λ b. entry_if b entry (looked_up scope name)) s)) ∙ w)

-- At the start

some-start : (a b : Declaration) → Some a ≡ Some b → a ≡ b
some-start a b e = cc

start-waits : (ds : List Declaration) (scope : Scope) → scope ≡ waiting_scope ds → (name : Identifier) → is_waiting (looked_up scope name) ≡ true →
    (x : Declaration) × (found ds name ≡ Some x) × (is_parameter_declared x.declared ≡ true)
start-waits ds scope e name w =
    waits-by (λ (x : Declaration). waiting_entry x.declared) ds name (found ds name) refl (λ x v. entry-waits x.declared v)
    (sym (ap is_waiting (ap (λ s. looked_up s name) e ∙ in-waiting ds name)) ∙ w)

start-parameter : (ds : List Declaration) (scope : Scope) → AreApart ds → scope ≡ waiting_scope ds → (i : ℕ) (x : Declaration) → i < length ds → x ≡ get_or ds i x → waits_in scope x ≡ true →
    is_parameter_declared x.declared ≡ true
start-parameter ds scope apart e i x below at w =
    let it = start-waits ds scope e x.name w in
    ap (λ (d : Declaration). is_parameter_declared d.declared) (some-start x it.0 (sym (found-at ds i x apart below at) ∙ it.1)) ∙ it.2

pub settled-start : (given : List GivenParameter) (ds : List Declaration) (scope : Scope) → AreApart ds → scope ≡ waiting_scope ds → IsSettled given ds scope
settled-start given ds scope apart e = record {
  rounds = 0;
  bounded = let h = fewer-in (waits_in scope) (λ (d : Declaration). is_parameter_declared d.declared) ds (start-parameter ds scope apart e) in omega (arith, h);
  under = subst (λ s. Under scope s) e (under-same scope);
  waits = start-waits ds scope e;
}

-- At the end: no declaration has a value that waits in the scope

still-by : (given : List GivenParameter) (scope : Scope) (x d : Declaration) (others : Option Declaration) (b : Bool) →
    (waits_in scope x ≡ true → is_waiting (Some (meaning_of scope given x.name x.declared)) ≡ true)
    → (others ≡ Some d → waits_in scope d ≡ true → is_waiting (Some (meaning_of scope given d.name d.declared)) ≡ true) → cond b (Some x) others ≡ Some d → waits_in scope d ≡ true
    → is_waiting (Some (meaning_of scope given d.name d.declared)) ≡ true
still-by given scope x d others true h r e w =
    let is : x ≡ d = some-start x d e in
    ap (λ (z : Declaration). is_waiting (Some (meaning_of scope given z.name z.declared))) (sym is) ∙ h (ap (waits_in scope) is ∙ w)
still-by given scope x d others false h r e w = r e w

pub found-still : (given : List GivenParameter) (scope : Scope) (ds : List Declaration) (name : Identifier) (d : Declaration) → AreStill given scope ds → found ds name ≡ Some d
    → waits_in scope d ≡ true → is_waiting (Some (meaning_of scope given d.name d.declared)) ≡ true
found-still given scope [] name d h e w = absurd (let x : ⊥ = cc in x)
found-still given scope (x ∷ xs) name d h e w = still-by given scope x d (found xs name) (same_name x.name name) h.0 (λ f v. found-still given scope xs name d h.1 f v) e w

named-by : (x d : Declaration) (name : Identifier) (others : Option Declaration) (b : Bool) → same_name x.name name ≡ b → (others ≡ Some d → d.name ≡ name) → cond b (Some x) others ≡ Some d →
    d.name ≡ name
named-by x d name others true s r e = ap (λ (z : Declaration). z.name) (sym (some-start x d e)) ∙ same-equal x.name name s
named-by x d name others false s r e = r e

pub found-named : (ds : List Declaration) (name : Identifier) (d : Declaration) → found ds name ≡ Some d → d.name ≡ name
found-named [] name d e = absurd (let x : ⊥ = cc in x)
found-named (x ∷ xs) name d e = named-by x d name (found xs name) (same_name x.name name) refl (λ f. found-named xs name d f) e

-- a name that is no parameter is nothing to a constant, in every round
pub no-parameter : (rounds : ℕ) (given : List GivenParameter) (ds : List Declaration) (name : Identifier) (d : Option Declaration) → found ds name ≡ d →
    ((x : Declaration) → d ≡ Some x → is_parameter_declared x.declared ≡ false)
    → constant_part (looked_up (scope_after rounds given ds) name) ≡ RefusedParameter
no-parameter zero given ds name None e h = ap constant_part (in-waiting ds name ∙ ap (option_map (λ (x : Declaration). waiting_entry x.declared)) e)
no-parameter zero given ds name (Some d) e h = ap constant_part (in-waiting ds name ∙ ap (option_map (λ (x : Declaration). waiting_entry x.declared)) e) ∙ start-constant d.declared (h d refl)
no-parameter (suc rounds) given ds name None e h =
    ap constant_part (in-meanings (scope_after rounds given ds) given ds name ∙ ap (option_map (λ (x : Declaration). meaning_of (scope_after rounds given ds) given x.name x.declared)) e)
no-parameter (suc rounds) given ds name (Some d) e h =
    ap constant_part (in-meanings (scope_after rounds given ds) given ds name ∙ ap (option_map (λ (x : Declaration). meaning_of (scope_after rounds given ds) given x.name x.declared)) e)
    ∙ no-constant (scope_after rounds given ds) given d.name d.declared (h d refl)
