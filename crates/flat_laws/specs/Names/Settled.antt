-- Each parameter of an instance that a walk comes to has a value (IEEE 1364-2001, clause 12.2).
use Rattle.std.proofs.Common.{◌≡◌, ℕ, zero, suc, ◌+◌, Bool, true, false, ◌||◌, List, [], ◌∷◌, map, Option, Some, None, Ok, option_map, refl, sym, ap, ◌∙◌, subst}
use Rattle.std.specs.Prelude.{slice_get, nat_lt}
use Rattle.std.specs.List.{list_all, list_any}
use Rattle.v_design.specs.Sized.{span, most_bits}
use Rattle.v_tree.specs.Trees.{Identifier, SourceExpression, NamedPlace, named_in, SourceModule}
use Rattle.v_names.specs.Scopes.{SignedValue, DeclaredRange, ScopeEntry, ParameterEntry, RefusedParameter, WaitingParameter, NetEntry, RegEntry, MemoryEntry, GateEntry, InstanceEntry, Scope}
use Rattle.v_names.specs.Scopes.{looked_up, range_width, is_parameter, is_known, is_waiting}
use Rattle.v_names.specs.Readings.{constant_of}
use Rattle.v_names.specs.Constants.{ParameterValue, some_waiting}
use Rattle.v_names.specs.Names.{Bounds, Declared, DeclaredParameter, DeclaredPort, DeclaredNet, DeclaredReg, DeclaredMemory, DeclaredGate, DeclaredInstance, Declaration, names_declared}
use Rattle.v_names.specs.Names.{GivenParameter, given_of, range_of, bounds_wait, parameter_by_range, parameter_entry, waiting_or, context_width, parameter_of, meaning_of, waiting_entry, scope_after}
use Rattle.v_names.specs.Names.{parameter_count, scope_of, module_name_faults}
use Rattle.v_names.specs.SizedLaws.{and-left, and-right}
use Rattle.v_names.specs.ConstantLaws.{are_known}
use Rattle.v_elab.specs.declared.Mode.{Mode}
use Rattle.v_elab.specs.Parts.{Part}
use Rattle.v_elab.specs.Walk.{walked_from}
use Rattle.flat_laws.specs.Hierarchy.Given.{both-true}
use Rattle.flat_laws.specs.Sizes.Complete.{IsSettledEntry, IsSettled}
use Rattle.flat_laws.specs.Hierarchy.Processes.{unless_faulty-ok}
use Rattle.flat_laws.specs.Hierarchy.Visits.{IsAt}
use Rattle.v_names.specs.Meanings.{found, or-false-left, or-false-right, not-waiting, in-meanings, in-waiting}
use Rattle.flat_laws.specs.Names.Rounds.{found-in, scope-fixed}
use Rattle.flat_laws.specs.Names.Valued.{names-parameters, constant-ready, constant-valued}
use Rattle.flat_laws.specs.Names.Faultless.{IsFaultless, bounds-ready, bounds-narrow, declared-faultless}

-- a parameter whose sizes are refused
abbrev is_refused : Option ScopeEntry → Bool
is_refused (Some RefusedParameter) = true
is_refused _ = false

entry-settled : (entry : Option ScopeEntry) → is_waiting entry ≡ false → is_refused entry ≡ false → IsSettledEntry entry
entry-settled None w r = tt
entry-settled (Some (ParameterEntry value signed)) w r = tt
entry-settled (Some RefusedParameter) w r = absurd (cc)
entry-settled (Some WaitingParameter) w r = absurd (cc)
entry-settled (Some (NetEntry range signed)) w r = tt
entry-settled (Some (RegEntry range signed)) w r = tt
entry-settled (Some (MemoryEntry range first last signed)) w r = tt
entry-settled (Some GateEntry) w r = tt
entry-settled (Some InstanceEntry) w r = tt

known-entry : (entry : Option ScopeEntry) → is_parameter entry ≡ true → is_waiting entry ≡ false → is_refused entry ≡ false → is_known entry ≡ true
known-entry None p w r = absurd (cc)
known-entry (Some (ParameterEntry value signed)) p w r = refl
known-entry (Some RefusedParameter) p w r = absurd (cc)
known-entry (Some WaitingParameter) p w r = absurd (cc)
known-entry (Some (NetEntry range signed)) p w r = absurd (cc)
known-entry (Some (RegEntry range signed)) p w r = absurd (cc)
known-entry (Some (MemoryEntry range first last signed)) p w r = absurd (cc)
known-entry (Some GateEntry) p w r = absurd (cc)
known-entry (Some InstanceEntry) p w r = absurd (cc)

-- What a parameter means

by-range : (signed : Bool) (range : DeclaredRange) (c : SignedValue) (ranged : Bool) → range.ranged ≡ ranged → nat_lt most_bits (span range.high range.low) ≡ false →
    (is_waiting (Some (parameter_by_range signed range c)) ≡ false) × (is_refused (Some (parameter_by_range signed range c)) ≡ false)
by-range signed range c true e d = (rw (e, d) refl, rw (e, d) refl)
by-range signed range c false e d = (rw (e) refl, rw (e) refl)

entry-ready : (signed : Bool) (range : DeclaredRange) (c : Option SignedValue) → nat_lt most_bits (range_width range) ≡ false → is_waiting (Some (parameter_entry signed range c)) ≡ false
entry-ready signed range None d = refl
entry-ready signed range (Some c) d = (by-range signed range c range.ranged refl d).0

entry-valued : (signed : Bool) (range : DeclaredRange) (c : SignedValue) (found : Option SignedValue) → found ≡ Some c → nat_lt most_bits (range_width range) ≡ false →
    is_refused (Some (parameter_entry signed range found)) ≡ false
entry-valued signed range c found e d = ap (λ f. is_refused (Some (parameter_entry signed range f))) e ∙ (by-range signed range c range.ranged refl d).1

waiting-off : (waits : Bool) (entry : ScopeEntry) → waits ≡ false → waiting_or waits entry ≡ entry
waiting-off waits entry e = ap (λ b. waiting_or b entry) e

-- a parameter of which nothing is wrong doesn't wait
parameter-ready : (scope : Scope) (is_local signed : Bool) (bounds : Bounds) (value : SourceExpression) (c : Option SignedValue) → IsFaultless scope (DeclaredParameter is_local signed bounds value) →
    is_waiting (Some (parameter_of scope signed bounds value c)) ≡ false
parameter-ready scope is_local signed bounds value (Some c) h =
    let range = range_of scope bounds in
    ap (λ (e : ScopeEntry). is_waiting (Some e)) (waiting-off (bounds_wait scope bounds) (parameter_entry signed range (Some c)) (bounds-ready scope bounds h.0))
    ∙ entry-ready signed range (Some c) (bounds-narrow scope bounds h.0)
parameter-ready scope is_local signed bounds value None h =
    let range = range_of scope bounds in
    let c = constant_of scope (context_width range) value in
    let ready : (bounds_wait scope bounds || some_waiting scope value) ≡ false =
    ap (λ b. b || some_waiting scope value) (bounds-ready scope bounds h.0) ∙ constant-ready (context_width range) scope ParameterValue value h.1 h.2 in
    ap (λ (e : ScopeEntry). is_waiting (Some e)) (waiting-off (bounds_wait scope bounds || some_waiting scope value) (parameter_entry signed range c) ready)
    ∙ entry-ready signed range c (bounds-narrow scope bounds h.0)

meaning-ready : (scope : Scope) (given : List GivenParameter) (name : Identifier) (d : Declared) → IsFaultless scope d → is_waiting (Some (meaning_of scope given name d)) ≡ false
meaning-ready scope given name (DeclaredParameter is_local signed bounds value) h = parameter-ready scope is_local signed bounds value (given_of given name) h
meaning-ready scope given name (DeclaredPort direction true signed bounds first) h = refl
meaning-ready scope given name (DeclaredPort direction false signed bounds first) h = refl
meaning-ready scope given name (DeclaredNet signed bounds) h = refl
meaning-ready scope given name (DeclaredReg signed bounds first) h = refl
meaning-ready scope given name (DeclaredMemory signed bounds addresses) h = refl
meaning-ready scope given name DeclaredGate h = refl
meaning-ready scope given name DeclaredInstance h = refl

-- and it isn't refused, if the names in its value that wait in no round before it aren't
parameter-sound : (scope before : Scope) (is_local signed : Bool) (bounds : Bounds) (value : SourceExpression) (c : Option SignedValue) →
    IsFaultless scope (DeclaredParameter is_local signed bounds value) →
    (some_waiting before value ≡ false → are_known scope (named_in value) ≡ true) → is_waiting (Some (parameter_of before signed bounds value c)) ≡ false →
    is_refused (Some (parameter_of scope signed bounds value c)) ≡ false
parameter-sound scope before is_local signed bounds value (Some c) h known w =
    let range = range_of scope bounds in
    ap (λ (e : ScopeEntry). is_refused (Some e)) (waiting-off (bounds_wait scope bounds) (parameter_entry signed range (Some c)) (bounds-ready scope bounds h.0))
    ∙ entry-valued signed range c (Some c) refl (bounds-narrow scope bounds h.0)
parameter-sound scope before is_local signed bounds value None h known w =
    let range = range_of scope bounds in
    let c = constant_of scope (context_width range) value in
    let ready : (bounds_wait scope bounds || some_waiting scope value) ≡ false =
    ap (λ b. b || some_waiting scope value) (bounds-ready scope bounds h.0) ∙ constant-ready (context_width range) scope ParameterValue value h.1 h.2 in
    let none =
    not-waiting (bounds_wait before bounds || some_waiting before value) (parameter_entry signed (range_of before bounds) (constant_of before (context_width (range_of before bounds)) value)) w in
    let there = constant-valued scope (context_width range) value (known (or-false-right (bounds_wait before bounds) (some_waiting before value) none)) h.1 h.3 in
    ap (λ (e : ScopeEntry). is_refused (Some e)) (waiting-off (bounds_wait scope bounds || some_waiting scope value) (parameter_entry signed range c) ready)
    ∙ entry-valued signed range there.0 c there.1 (bounds-narrow scope bounds h.0)

abbrev ReadsKnown : Scope → Scope → Declared → Type 0
ReadsKnown scope before (DeclaredParameter is_local signed bounds value) = some_waiting before value ≡ false → are_known scope (named_in value) ≡ true
ReadsKnown scope before _ = Unit {0}

meaning-sound : (scope before : Scope) (given : List GivenParameter) (name : Identifier) (d : Declared) → IsFaultless scope d → ReadsKnown scope before d →
    is_waiting (Some (meaning_of before given name d)) ≡ false →
    is_refused (Some (meaning_of scope given name d)) ≡ false
meaning-sound scope before given name (DeclaredParameter is_local signed bounds value) h known w = parameter-sound scope before is_local signed bounds value (given_of given name) h known w
meaning-sound scope before given name (DeclaredPort direction true signed bounds first) h known w = refl
meaning-sound scope before given name (DeclaredPort direction false signed bounds first) h known w = refl
meaning-sound scope before given name (DeclaredNet signed bounds) h known w = refl
meaning-sound scope before given name (DeclaredReg signed bounds first) h known w = refl
meaning-sound scope before given name (DeclaredMemory signed bounds addresses) h known w = refl
meaning-sound scope before given name DeclaredGate h known w = refl
meaning-sound scope before given name DeclaredInstance h known w = refl

-- at the start each parameter waits
first-sound : (scope : Scope) (given : List GivenParameter) (name : Identifier) (d : Declared) → is_waiting (Some (waiting_entry d)) ≡ false → is_refused (Some (meaning_of scope given name d)) ≡ false
first-sound scope given name (DeclaredParameter is_local signed bounds value) w = absurd (cc)
first-sound scope given name (DeclaredPort direction true signed bounds first) w = refl
first-sound scope given name (DeclaredPort direction false signed bounds first) w = refl
first-sound scope given name (DeclaredNet signed bounds) w = refl
first-sound scope given name (DeclaredReg signed bounds first) w = refl
first-sound scope given name (DeclaredMemory signed bounds addresses) w = refl
first-sound scope given name DeclaredGate w = refl
first-sound scope given name DeclaredInstance w = refl

-- Names

option-holds : (test : Option ScopeEntry → Bool) (f : Declaration → ScopeEntry) (d : Option Declaration) → test None ≡ false → ((x : Declaration) → d ≡ Some x → test (Some (f x)) ≡ false) →
    test (option_map f d) ≡ false
option-holds test f None e h = e
option-holds test f (Some x) e h = h x refl

-- names that are parameters, wait neither in a scope nor in a round before it, and aren't refused if they don't wait in that round, are known
all-known : (scope before : Scope) → ((name : Identifier) → is_waiting (looked_up scope name) ≡ false) →
    ((name : Identifier) → is_waiting (looked_up before name) ≡ false → is_refused (looked_up scope name) ≡ false) →
    (names : List NamedPlace) → list_all (λ name. is_parameter (looked_up scope name)) (map (λ (n : NamedPlace). n.name) names) ≡ true →
    list_any (λ name. is_waiting (looked_up before name)) (map (λ (n : NamedPlace). n.name) names) ≡ false → are_known scope names ≡ true
all-known scope before ready sound [] p w = refl
all-known scope before ready sound (n ∷ ns) p w =
    let here = is_parameter (looked_up scope n.name) in
    let waits = is_waiting (looked_up before n.name) in
    let others = list_all (λ name. is_parameter (looked_up scope name)) (map (λ (m : NamedPlace). m.name) ns) in
    let later = list_any (λ name. is_waiting (looked_up before name)) (map (λ (m : NamedPlace). m.name) ns) in
    both-true (is_known (looked_up scope n.name)) (are_known scope ns)
    (known-entry (looked_up scope n.name) (and-left here others p) (ready n.name) (sound n.name (or-false-left waits later w)))
    (all-known scope before ready sound ns (and-right here others p) (or-false-right waits later w))

module _ (m : SourceModule) (given : List GivenParameter) (faultless : (number : ℕ) (d : Declaration) → slice_get (names_declared m) number ≡ Some d → IsFaultless (scope_of m given) d.declared) where
  own : (name : Identifier) → looked_up (scope_of m given) name ≡ option_map (λ (d : Declaration). meaning_of (scope_of m given) given d.name d.declared) (found (names_declared m) name)
  own name = ap (λ s. looked_up s name) (scope-fixed m given) ∙ in-meanings (scope_of m given) given (names_declared m) name

  found-faultless : (name : Identifier) (d : Declaration) → found (names_declared m) name ≡ Some d → IsFaultless (scope_of m given) d.declared
  found-faultless name d e = let place = found-in (names_declared m) name d e in faultless place.0 d place.1

  -- no parameter waits
  none-waits : (name : Identifier) → is_waiting (looked_up (scope_of m given) name) ≡ false
  none-waits name =
      ap is_waiting (own name)
      ∙ option-holds is_waiting (λ (d : Declaration). meaning_of (scope_of m given) given d.name d.declared) (found (names_declared m) name) refl
      (λ d e. meaning-ready (scope_of m given) given d.name d.declared (found-faultless name d e))

  reads-known : (rounds : ℕ) → ((name : Identifier) → is_waiting (looked_up (scope_after rounds given (names_declared m)) name) ≡ false → is_refused (looked_up (scope_of m given) name) ≡ false) →
      (d : Declared) →
      IsFaultless (scope_of m given) d → ReadsKnown (scope_of m given) (scope_after rounds given (names_declared m)) d
  reads-known rounds sound (DeclaredParameter is_local signed bounds value) h = λ w.
      all-known (scope_of m given) (scope_after rounds given (names_declared m)) none-waits sound (named_in value) (names-parameters (scope_of m given) value h.1) w
  reads-known rounds sound (DeclaredPort direction is_reg signed bounds first) h = tt
  reads-known rounds sound (DeclaredNet signed bounds) h = tt
  reads-known rounds sound (DeclaredReg signed bounds first) h = tt
  reads-known rounds sound (DeclaredMemory signed bounds addresses) h = tt
  reads-known rounds sound DeclaredGate h = tt
  reads-known rounds sound DeclaredInstance h = tt

  -- what has a value after some rounds isn't refused
  none-refused : (rounds : ℕ) (name : Identifier) → is_waiting (looked_up (scope_after rounds given (names_declared m)) name) ≡ false → is_refused (looked_up (scope_of m given) name) ≡ false
  none-refused zero name w =
      ap is_refused (own name)
      ∙ option-holds is_refused (λ (d : Declaration). meaning_of (scope_of m given) given d.name d.declared) (found (names_declared m) name) refl
      (λ d e.
      first-sound (scope_of m given) given d.name d.declared
      (sym (ap is_waiting (in-waiting (names_declared m) name ∙ ap (option_map (λ (x : Declaration). waiting_entry x.declared)) e)) ∙ w))
  none-refused (suc rounds) name w =
      let before = scope_after rounds given (names_declared m) in
      ap is_refused (own name)
      ∙ option-holds is_refused (λ (d : Declaration). meaning_of (scope_of m given) given d.name d.declared) (found (names_declared m) name) refl
      (λ d e.
      let h = found-faultless name d e in
      meaning-sound (scope_of m given) before given d.name d.declared h (reads-known rounds (none-refused rounds) d.declared h)
      (sym (ap is_waiting (in-meanings before given (names_declared m) name ∙ ap (option_map (λ (x : Declaration). meaning_of before given x.name x.declared)) e)) ∙ w))

  -- each parameter of the module has a value
  pub scope-settled : IsSettled (scope_of m given)
  scope-settled name = entry-settled (looked_up (scope_of m given) name) (none-waits name) (none-refused (parameter_count (names_declared m) + 1) name (none-waits name))

-- each parameter of an instance that a walk comes to has a value
pub walk-settled : (modules : List SourceModule) (mode : Mode) (top : SourceModule) (parts : List Part) → walked_from modules mode top ≡ Ok parts → (path : Identifier) (scope : Scope) →
    IsAt modules mode top path scope → IsSettled scope
walk-settled modules mode top parts e path scope at =
    let m = at.instance.inner in
    let given = at.instance.given in
    let scope_is : scope_of m given ≡ scope = (unless_faulty-ok (module_name_faults (scope_of m given) m) (scope_of m given) scope at.named).1 in
    let none = declared-faultless modules mode top parts e at.instance at.visited scope at.named in
    subst IsSettled scope_is
    (scope-settled m given (subst (λ (s : Scope). (number : ℕ) (d : Declaration) → slice_get (names_declared m) number ≡ Some d → IsFaultless s d.declared) (sym scope_is) none))
