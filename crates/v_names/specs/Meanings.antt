-- A declaration means the same in scopes that give the parameters that it names the same values (IEEE 1364-2001, clause 12.2 for parameters).
use Rattle.std.proofs.Common.{◌≡◌, ℕ, Bool, true, false, ◌||◌, cond, List, [], ◌∷◌, map, Option, Some, None, option_map, refl, sym, ap, ap₂, ◌∙◌}
use Rattle.v_tree.specs.Trees.{Identifier, SourceExpression, NamedPlace, named_in, same_name}
use Rattle.v_names.specs.Scopes.{SignedValue, DeclaredRange, ScopeEntry, RefusedParameter, ScopeName, Scope, entry_if, looked_up, is_waiting}
use Rattle.v_names.specs.Readings.{number_or, constant_of}
use Rattle.v_names.specs.Constants.{some_waiting}
use Rattle.v_names.specs.Names.{Bounds, Unbounded, IntegerBounds, RangeBounds, Declared, DeclaredParameter, DeclaredPort, DeclaredNet, DeclaredReg, DeclaredMemory, DeclaredGate, DeclaredInstance}
use Rattle.v_names.specs.Names.{Declaration, GivenParameter, given_of, bound_number, range_of, bounds_wait, parameter_entry, waiting_or, context_width, parameter_of, vector_entry, memory_entry}
use Rattle.v_names.specs.Names.{meaning_of, meanings, is_parameter_declared, waiting_entry, waiting_scope}
use Rattle.v_names.specs.Agreement.{constant_part, part-waiting, Agree, some_wait, agree-waiting, agree-constant, agree-number}

-- one scope has values that another has too
pub record Under (s t : Scope) : Type 0 where
  pub agrees : (name : Identifier) → is_waiting (looked_up s name) ≡ false → constant_part (looked_up s name) ≡ constant_part (looked_up t name)

-- the first declaration of a name
abbrev pub found : List Declaration → Identifier → Option Declaration
found [] name = None
found (d ∷ ds) name = cond (same_name d.name name) (Some d) (found ds name)

pub or-false-left : (a b : Bool) → (a || b) ≡ false → a ≡ false
or-false-left true b e = e
or-false-left false b e = refl

pub or-false-right : (a b : Bool) → (a || b) ≡ false → b ≡ false
or-false-right true b e = cc
or-false-right false b e = e

under-agree : (s t : Scope) → Under s t → (names : List NamedPlace) → some_wait s names ≡ false → Agree s t names
under-agree s t u [] w = tt
under-agree s t u (n ∷ ns) w =
    (u.agrees n.name (or-false-left (is_waiting (looked_up s n.name)) (some_wait s ns) w), under-agree s t u ns (or-false-right (is_waiting (looked_up s n.name)) (some_wait s ns) w))

pub under-same : (s : Scope) → Under s s
under-same s = record { agrees = λ name w. refl }

pub still-settled : (s t : Scope) (name : Identifier) → constant_part (looked_up s name) ≡ constant_part (looked_up t name) → is_waiting (looked_up s name) ≡ is_waiting (looked_up t name)
still-settled s t name e = part-waiting (looked_up s name) ∙ ap (λ p. is_waiting (Some p)) e ∙ sym (part-waiting (looked_up t name))

pub under-joins : (s t r : Scope) → Under s t → Under t r → Under s r
under-joins s t r u v = record { agrees = λ name w. let e = u.agrees name w in e ∙ v.agrees name (sym (still-settled s t name e) ∙ w) }

-- Meanings in scopes that agree

-- the names in bounds
abbrev AgreeIn : Scope → Scope → Bounds → Type 0
AgreeIn s t Unbounded = Unit {0}
AgreeIn s t IntegerBounds = Unit {0}
AgreeIn s t (RangeBounds range) = Agree s t (named_in range.high) × Agree s t (named_in range.low)

in-wait : (s t : Scope) (bounds : Bounds) → AgreeIn s t bounds → bounds_wait s bounds ≡ bounds_wait t bounds
in-wait s t Unbounded h = refl
in-wait s t IntegerBounds h = refl
in-wait s t (RangeBounds range) h = ap₂ (λ a b. a || b) (agree-waiting s t (named_in range.high) h.0) (agree-waiting s t (named_in range.low) h.1)

in-number : (s t : Scope) (e : SourceExpression) → Agree s t (named_in e) → bound_number s e ≡ bound_number t e
in-number s t e h = ap (number_or 0) (agree-number s t e h)

in-range : (s t : Scope) (bounds : Bounds) → AgreeIn s t bounds → range_of s bounds ≡ range_of t bounds
in-range s t Unbounded h = refl
in-range s t IntegerBounds h = refl
in-range s t (RangeBounds range) h = ap₂ (λ (a b : ℕ). let r : DeclaredRange = record { ranged = true; high = a; low = b } in r) (in-number s t range.high h.0) (in-number s t range.low h.1)

-- a parameter means the same where the names in its bounds, and those in its value if that counts, are the same to a constant
abbrev AgreeValue : Scope → Scope → SourceExpression → Option SignedValue → Type 0
AgreeValue s t value None = Agree s t (named_in value)
AgreeValue s t value (Some c) = Unit {0}

parameter-agree : (s t : Scope) (signed : Bool) (bounds : Bounds) (value : SourceExpression) (given : Option SignedValue) → AgreeIn s t bounds → AgreeValue s t value given
    → parameter_of s signed bounds value given ≡ parameter_of t signed bounds value given
parameter-agree s t signed bounds value (Some c) h k = ap₂ (λ b r. waiting_or b (parameter_entry signed r (Some c))) (in-wait s t bounds h) (in-range s t bounds h)
parameter-agree s t signed bounds value None h k =
    ap₂ (λ b r. waiting_or (b || some_waiting s value) (parameter_entry signed r (constant_of s (context_width r) value))) (in-wait s t bounds h) (in-range s t bounds h)
    ∙ ap₂ (λ b c. waiting_or (bounds_wait t bounds || b) (parameter_entry signed (range_of t bounds) c)) (agree-waiting s t (named_in value) k)
    (agree-constant s t (context_width (range_of t bounds)) value k)

under-bounds : (s t : Scope) → Under s t → (bounds : Bounds) → bounds_wait s bounds ≡ false → AgreeIn s t bounds
under-bounds s t u Unbounded w = tt
under-bounds s t u IntegerBounds w = tt
under-bounds s t u (RangeBounds range) w = (
  under-agree s t u (named_in range.high) (or-false-left (some_waiting s range.high) (some_waiting s range.low) w),
  under-agree s t u (named_in range.low) (or-false-right (some_waiting s range.high) (some_waiting s range.low) w),
)

pub not-waiting : (b : Bool) (entry : ScopeEntry) → is_waiting (Some (waiting_or b entry)) ≡ false → b ≡ false
not-waiting true entry w = w
not-waiting false entry w = refl

-- what a parameter means once it doesn't wait it means in each scope that has more values
parameter-kept : (s t : Scope) → Under s t → (signed : Bool) (bounds : Bounds) (value : SourceExpression) (given : Option SignedValue) →
    is_waiting (Some (parameter_of s signed bounds value given)) ≡ false
    → parameter_of s signed bounds value given ≡ parameter_of t signed bounds value given
parameter-kept s t u signed bounds value (Some c) w =
    parameter-agree s t signed bounds value (Some c) (under-bounds s t u bounds (not-waiting (bounds_wait s bounds) (parameter_entry signed (range_of s bounds) (Some c)) w)) tt
parameter-kept s t u signed bounds value None w =
    let none = not-waiting (bounds_wait s bounds || some_waiting s value) (parameter_entry signed (range_of s bounds) (constant_of s (context_width (range_of s bounds)) value)) w in
    parameter-agree s t signed bounds value None (under-bounds s t u bounds (or-false-left (bounds_wait s bounds) (some_waiting s value) none))
    (under-agree s t u (named_in value) (or-false-right (bounds_wait s bounds) (some_waiting s value) none))

-- a net, a variable, a gate or an instance is nothing to a constant
pub no-constant : (s : Scope) (given : List GivenParameter) (name : Identifier) (d : Declared) → is_parameter_declared d ≡ false → constant_part (Some (meaning_of s given name d)) ≡ RefusedParameter
no-constant s given name (DeclaredParameter is_local signed bounds value) e = cc
no-constant s given name (DeclaredPort direction true signed bounds first) e = refl
no-constant s given name (DeclaredPort direction false signed bounds first) e = refl
no-constant s given name (DeclaredNet signed bounds) e = refl
no-constant s given name (DeclaredReg signed bounds first) e = refl
no-constant s given name (DeclaredMemory signed bounds addresses) e = refl
no-constant s given name DeclaredGate e = refl
no-constant s given name DeclaredInstance e = refl

kept-by : (s t : Scope) → Under s t → (given : List GivenParameter) (name : Identifier) (d : Declared) (parameter : Bool) → is_parameter_declared d ≡ parameter →
    is_waiting (Some (meaning_of s given name d)) ≡ false
    → constant_part (Some (meaning_of s given name d)) ≡ constant_part (Some (meaning_of t given name d))
kept-by s t u given name (DeclaredParameter is_local signed bounds value) true e w = ap (λ p. constant_part (Some p)) (parameter-kept s t u signed bounds value (given_of given name) w)
kept-by s t u given name d false e w = no-constant s given name d e ∙ sym (no-constant t given name d e)
kept-by s t u given name (DeclaredPort direction is_reg signed bounds first) true e w = cc
kept-by s t u given name (DeclaredNet signed bounds) true e w = cc
kept-by s t u given name (DeclaredReg signed bounds first) true e w = cc
kept-by s t u given name (DeclaredMemory signed bounds addresses) true e w = cc
kept-by s t u given name DeclaredGate true e w = cc
kept-by s t u given name DeclaredInstance true e w = cc

pub meaning-kept : (s t : Scope) → Under s t → (given : List GivenParameter) (name : Identifier) (d : Declared) → is_waiting (Some (meaning_of s given name d)) ≡ false
    → constant_part (Some (meaning_of s given name d)) ≡ constant_part (Some (meaning_of t given name d))
meaning-kept s t u given name d w = kept-by s t u given name d (is_parameter_declared d) refl w

all-agree : (s t : Scope) → ((name : Identifier) → constant_part (looked_up s name) ≡ constant_part (looked_up t name)) → (names : List NamedPlace) → Agree s t names
all-agree s t h [] = tt
all-agree s t h (n ∷ ns) = (h n.name, all-agree s t h ns)

all-in : (s t : Scope) → ((name : Identifier) → constant_part (looked_up s name) ≡ constant_part (looked_up t name)) → (bounds : Bounds) → AgreeIn s t bounds
all-in s t h Unbounded = tt
all-in s t h IntegerBounds = tt
all-in s t h (RangeBounds range) = (all-agree s t h (named_in range.high), all-agree s t h (named_in range.low))

all-value : (s t : Scope) → ((name : Identifier) → constant_part (looked_up s name) ≡ constant_part (looked_up t name)) → (value : SourceExpression) (given : Option SignedValue) →
    AgreeValue s t value given
all-value s t h value None = all-agree s t h (named_in value)
all-value s t h value (Some c) = tt

-- a declaration means the same in scopes that are the same to a constant
pub meaning-agree : (s t : Scope) → ((name : Identifier) → constant_part (looked_up s name) ≡ constant_part (looked_up t name)) → (given : List GivenParameter) (name : Identifier) (d : Declared)
    → meaning_of s given name d ≡ meaning_of t given name d
meaning-agree s t h given name (DeclaredParameter is_local signed bounds value) = parameter-agree s t signed bounds value (given_of given name) (all-in s t h bounds)
    (all-value s t h value (given_of given name))
meaning-agree s t h given name (DeclaredPort direction is_reg signed bounds first) = ap (λ r. vector_entry is_reg r signed) (in-range s t bounds (all-in s t h bounds))
meaning-agree s t h given name (DeclaredNet signed bounds) = ap (λ r. vector_entry false r signed) (in-range s t bounds (all-in s t h bounds))
meaning-agree s t h given name (DeclaredReg signed bounds first) = ap (λ r. vector_entry true r signed) (in-range s t bounds (all-in s t h bounds))
meaning-agree s t h given name (DeclaredMemory signed bounds addresses) =
    ap₂ (λ r a. memory_entry r a (bound_number s addresses.low) signed) (in-range s t bounds (all-in s t h bounds)) (in-number s t addresses.high (all-agree s t h (named_in addresses.high)))
    ∙ ap (λ b. memory_entry (range_of t bounds) (bound_number t addresses.high) b signed) (in-number s t addresses.low (all-agree s t h (named_in addresses.low)))
meaning-agree s t h given name DeclaredGate = refl
meaning-agree s t h given name DeclaredInstance = refl

-- Names in the scopes of the rounds

found-by : (f : Declaration → ScopeEntry) (d : Declaration) (others : Option Declaration) (rest : Option ScopeEntry) (same : Bool) → rest ≡ option_map f others →
    entry_if same (f d) rest ≡ option_map f (cond same (Some d) others)
found-by f d others rest true e = refl
found-by f d others rest false e = e

-- the names of declarations with what each means
abbrev pub named_by : (Declaration → ScopeEntry) → List Declaration → Scope
named_by f ds = map (λ (d : Declaration). let n : ScopeName = record { name = d.name; entry = f d } in n) ds

looked-up-found : (f : Declaration → ScopeEntry) (ds : List Declaration) (name : Identifier) → looked_up (named_by f ds) name ≡ option_map f (found ds name)
looked-up-found f [] name = refl
looked-up-found f (d ∷ ds) name = found-by f d (found ds name) (looked_up (named_by f ds) name) (same_name d.name name) (looked-up-found f ds name)

pub in-meanings : (s : Scope) (given : List GivenParameter) (ds : List Declaration) (name : Identifier) →
    looked_up (meanings s given ds) name ≡ option_map (λ (d : Declaration). meaning_of s given d.name d.declared) (found ds name)
in-meanings s given ds name = looked-up-found (λ (d : Declaration). meaning_of s given d.name d.declared) ds name

pub in-waiting : (ds : List Declaration) (name : Identifier) → looked_up (waiting_scope ds) name ≡ option_map (λ (d : Declaration). waiting_entry d.declared) (found ds name)
in-waiting ds name = looked-up-found (λ (d : Declaration). waiting_entry d.declared) ds name
