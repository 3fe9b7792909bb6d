-- The scopes of the rounds in which the parameters of a module get their values: each keeps the values of the one before (IEEE 1364-2001, clause 12.2).
use Rattle.std.proofs.Common.{◌≡◌, ℕ, zero, suc, ◌≤◌, Bool, true, false, List, [], ◌∷◌, filter, length, Option, Some, None, option_map, refl, sym, ap, ap₂, ◌∙◌, arith}
use Rattle.v_tree.specs.Trees.{Identifier}
use Rattle.v_names.specs.Scopes.{ScopeEntry, RefusedParameter, WaitingParameter, ParameterEntry, NetEntry, RegEntry, MemoryEntry, GateEntry, InstanceEntry, ScopeName, Scope, looked_up, is_waiting}
use Rattle.v_names.specs.Names.{Declared, DeclaredParameter, DeclaredPort, DeclaredNet, DeclaredReg, DeclaredMemory, DeclaredGate, DeclaredInstance, Declaration, GivenParameter, meaning_of}
use Rattle.v_names.specs.Names.{meanings, is_parameter_declared, waiting_entry, waiting_scope, scope_after}
use Rattle.v_names.specs.Agreement.{constant_part}
use Rattle.v_names.specs.Meanings.{Under, found, meaning-kept, meaning-agree, no-constant, in-meanings, in-waiting}

-- At the start

-- a parameter waits
pub parameter-waits : (d : Declared) → is_parameter_declared d ≡ true → is_waiting (Some (waiting_entry d)) ≡ false → ⊥
parameter-waits (DeclaredParameter is_local signed bounds value) e w = cc
parameter-waits (DeclaredPort direction is_reg signed bounds first) e w = cc
parameter-waits (DeclaredNet signed bounds) e w = cc
parameter-waits (DeclaredReg signed bounds first) e w = cc
parameter-waits (DeclaredMemory signed bounds addresses) e w = cc
parameter-waits DeclaredGate e w = cc
parameter-waits DeclaredInstance e w = cc

-- and nothing else does
pub entry-waits : (d : Declared) → is_waiting (Some (waiting_entry d)) ≡ true → is_parameter_declared d ≡ true
entry-waits (DeclaredParameter is_local signed bounds value) w = refl
entry-waits (DeclaredPort direction is_reg signed bounds first) w = cc
entry-waits (DeclaredNet signed bounds) w = cc
entry-waits (DeclaredReg signed bounds first) w = cc
entry-waits (DeclaredMemory signed bounds addresses) w = cc
entry-waits DeclaredGate w = cc
entry-waits DeclaredInstance w = cc

-- what is no parameter is nothing to a constant
pub start-constant : (d : Declared) → is_parameter_declared d ≡ false → constant_part (Some (waiting_entry d)) ≡ RefusedParameter
start-constant (DeclaredParameter is_local signed bounds value) e = cc
start-constant (DeclaredPort direction is_reg signed bounds first) e = refl
start-constant (DeclaredNet signed bounds) e = refl
start-constant (DeclaredReg signed bounds first) e = refl
start-constant (DeclaredMemory signed bounds addresses) e = refl
start-constant DeclaredGate e = refl
start-constant DeclaredInstance e = refl

-- The rounds have more and more values

first-by : (given : List GivenParameter) (s : Scope) (d : Declaration) (parameter : Bool) → is_parameter_declared d.declared ≡ parameter → is_waiting (Some (waiting_entry d.declared)) ≡ false →
    constant_part (Some (waiting_entry d.declared)) ≡ constant_part (Some (meaning_of s given d.name d.declared))
first-by given s d true e w = absurd (parameter-waits d.declared e w)
first-by given s d false e w = start-constant d.declared e ∙ sym (no-constant s given d.name d.declared e)

-- what holds of what a name means by a declaration, if it has one
option-by : (f g : Declaration → ScopeEntry) (d : Option Declaration) → ((x : Declaration) → is_waiting (Some (f x)) ≡ false → constant_part (Some (f x)) ≡ constant_part (Some (g x))) →
    is_waiting (option_map f d) ≡ false → constant_part (option_map f d) ≡ constant_part (option_map g d)
option-by f g None h w = refl
option-by f g (Some d) h w = h d w

grow-by : (s t : Scope) (ds : List Declaration) (f g : Declaration → ScopeEntry) → ((name : Identifier) → looked_up s name ≡ option_map f (found ds name)) →
    ((name : Identifier) → looked_up t name ≡ option_map g (found ds name)) →
    ((x : Declaration) → is_waiting (Some (f x)) ≡ false → constant_part (Some (f x)) ≡ constant_part (Some (g x))) → Under s t
grow-by s t ds f g es et h = record {
  agrees = λ name w. ap constant_part (es name) ∙ option-by f g (found ds name) h (sym (ap is_waiting (es name)) ∙ w) ∙ sym (ap constant_part (et name));
}

-- a round keeps the values of the one before
pub round-grows : (rounds : ℕ) (given : List GivenParameter) (ds : List Declaration) → Under (scope_after rounds given ds) (scope_after (suc rounds) given ds)
round-grows zero given ds =
    grow-by (waiting_scope ds) (meanings (waiting_scope ds) given ds) ds (λ d. waiting_entry d.declared) (λ d. meaning_of (waiting_scope ds) given d.name d.declared) (in-waiting ds)
    (in-meanings (waiting_scope ds) given ds) (λ d w. first-by given (waiting_scope ds) d (is_parameter_declared d.declared) refl w)
round-grows (suc rounds) given ds =
    let s = scope_after rounds given ds in
    let t = scope_after (suc rounds) given ds in
    grow-by t (scope_after (suc (suc rounds)) given ds) ds (λ d. meaning_of s given d.name d.declared) (λ d. meaning_of t given d.name d.declared) (in-meanings s given ds) (in-meanings t given ds)
    (λ d w. meaning-kept s t (round-grows rounds given ds) given d.name d.declared w)

-- a name that waits is that of a parameter, where what other declarations mean doesn't wait
pub waits-by : (f : Declaration → ScopeEntry) (ds : List Declaration) (name : Identifier) (d : Option Declaration) → found ds name ≡ d →
    ((x : Declaration) → is_waiting (Some (f x)) ≡ true → is_parameter_declared x.declared ≡ true) →
    is_waiting (option_map f d) ≡ true → (x : Declaration) × (found ds name ≡ Some x) × (is_parameter_declared x.declared ≡ true)
waits-by f ds name None e h w = absurd (let x : ⊥ = cc in x)
waits-by f ds name (Some d) e h w = (d, e, h d w)

-- Scopes that are the same to a constant

-- what waits is the same to a constant everywhere
pub waiting-part : (e : Option ScopeEntry) → is_waiting e ≡ true → constant_part e ≡ WaitingParameter
waiting-part None w = cc
waiting-part (Some (ParameterEntry value signed)) w = cc
waiting-part (Some RefusedParameter) w = cc
waiting-part (Some WaitingParameter) w = refl
waiting-part (Some (NetEntry range signed)) w = cc
waiting-part (Some (RegEntry range signed)) w = cc
waiting-part (Some (MemoryEntry range first last signed)) w = cc
waiting-part (Some GateEntry) w = cc
waiting-part (Some InstanceEntry) w = cc

-- so declarations mean the same in them
pub meanings-by : (s t : Scope) (given : List GivenParameter) (ds : List Declaration) → ((name : Identifier) → constant_part (looked_up s name) ≡ constant_part (looked_up t name)) →
    meanings s given ds ≡ meanings t given ds
meanings-by s t given [] h = refl
meanings-by s t given (d ∷ ds) h =
    ap₂ (λ (entry : ScopeEntry) (rest : Scope). let n : ScopeName = record { name = d.name; entry = entry } in n ∷ rest) (meaning-agree s t h given d.name d.declared) (meanings-by s t given ds h)

-- Counts

-- one element more, which passes the one test only if it passes the other
pub count-by : {A : Type 0} (p q : A → Bool) (x : A) (xs : List A) (a b : Bool) → p x ≡ a → q x ≡ b → (a ≡ true → b ≡ true) → length (filter p xs) ≤ length (filter q xs) →
    length (filter p (x ∷ xs)) ≤ length (filter q (x ∷ xs))
count-by p q x xs true true e f h k = rw (e, f) (omega arith)
count-by p q x xs true false e f h k = absurd (let n : false ≡ true = h refl in let x : ⊥ = cc in x)
count-by p q x xs false true e f h k = rw (e, f) (omega arith)
count-by p q x xs false false e f h k = rw (e, f) k

-- what passes the one test passes the other too, so no more pass
pub fewer : {A : Type 0} (p q : A → Bool) (xs : List A) → ((x : A) → p x ≡ true → q x ≡ true) → length (filter p xs) ≤ length (filter q xs)
fewer p q [] h = omega arith
fewer p q (x ∷ xs) h = count-by p q x xs (p x) (q x) refl refl (h x) (fewer p q xs h)
