-- The nets, variables and memories of each instance that a walk comes to stand among the parts under their hierarchical names (IEEE 1364-2001, clause 12.4 and clause 12.5).
use Rattle.std.proofs.Common.{◌≡◌, ℕ, zero, suc, Bool, true, false, List, [], ◌∷◌, ◌++◌, Option, Some, None, Ok, refl, sym, ap, ◌∙◌, subst}
use Rattle.std.specs.Prelude.{◌||◌, nat_eq, nat_lt, slice_get, filter, flat_map}
use Rattle.std.proofs.lemmas.Bool.{eq-eqb}
use Rattle.vf_base.specs.Base.{SourcePlace}
use Rattle.vf_base.specs.Lists.{AllHold}
use Rattle.v_design.specs.Sized.{span, most_bits}
use Rattle.v_tree.specs.Trees.{Identifier, SourceExpression, NamedPlace, SourceParameter, SourceGate, SourceInstance, SourceItem, ParameterItem, PortItem, WireItem, RegItem, IntegerItem, AssignItem}
use Rattle.v_tree.specs.Trees.{GateItem, InstanceItem, InitialItem, AlwaysItem, SourceModule, same_name}
use Rattle.v_names.specs.Faults.{same_place}
use Rattle.v_names.specs.Scopes.{SignedValue, DeclaredRange, ScopeEntry, ParameterEntry, RefusedParameter, WaitingParameter, NetEntry, RegEntry, MemoryEntry, GateEntry, InstanceEntry, Scope}
use Rattle.v_names.specs.Scopes.{looked_up, is_parameter, range_width}
use Rattle.v_names.specs.Readings.{constant_of}
use Rattle.v_names.specs.Constants.{some_waiting}
use Rattle.v_names.specs.Names.{Bounds, Declared, DeclaredParameter, DeclaredPort, DeclaredNet, DeclaredReg, DeclaredMemory, DeclaredGate, DeclaredInstance, Declaration, gate_declarations}
use Rattle.v_names.specs.Names.{item_declarations, declarations_of, of_name, plain_of_name, joined_declared, joined_declaration, names_declared, GivenParameter, given_of, range_of, bounds_wait}
use Rattle.v_names.specs.Names.{context_width, parameter_by_range, parameter_entry, waiting_or, parameter_of, meaning_of, scope_after, parameter_count, scope_of, module_name_faults, names}
use Rattle.v_elab.specs.declared.Mode.{Mode}
use Rattle.v_elab.specs.Parts.{Signal, WalkedMemory, Part, MemoryPart}
use Rattle.v_elab.specs.Walk.{Entered, Here, first_content_of, content_of, joining_of, signal_part, part_by_entry, parts_of_own, declared_parts, item_parts, wire_parts, walked_from}
use Rattle.graph_order.specs.ListLaws.{AllHold-slice_get}
use Rattle.flat_laws.specs.Lists.{same_some, filter-at}
use Rattle.flat_laws.specs.Numbered.{AllHold-map, AllHold-all}
use Rattle.flat_laws.specs.Hierarchy.Given.{name-same, both-true}
use Rattle.flat_laws.specs.Drivers.Held.{IsDeclaredAs, IsScopeAt}
use Rattle.flat_laws.specs.Hierarchy.Visits.{IsVisited, IsAt}
use Rattle.flat_laws.specs.Names.Declared.{scope-declared, IsNoInstance, item-there}
use Rattle.flat_laws.specs.Hierarchy.Processes.{unless_faulty-ok}

-- Lists

pub at-flat : {A B : Type 0} (f : A → List B) (xs : List A) (j : ℕ) (x : A) (m : ℕ) (y : B) → slice_get xs j ≡ Some x → slice_get (f x) m ≡ Some y → (i : ℕ) × (slice_get (flat_map f xs) i ≡ Some y)
at-flat f [] j x m y at found = absurd (cc)
at-flat f (z ∷ xs) zero x m y at found = (m, front (f z) (flat_map f xs) m y (ap (λ w. slice_get (f w) m) (same_some z x at) ∙ found))
  where
    front : {B : Type 0} (one two : List B) (i : ℕ) (b : B) → slice_get one i ≡ Some b → slice_get (one ++ two) i ≡ Some b
    front [] two i b e = absurd (cc)
    front (c ∷ one) two zero b e = e
    front (c ∷ one) two (suc i) b e = front one two i b e
at-flat f (z ∷ xs) (suc j) x m y at found = let r = at-flat f xs j x m y at found in back (f z) (flat_map f xs) r.0 y r.1
  where
    back : {B : Type 0} (one two : List B) (i : ℕ) (b : B) → slice_get two i ≡ Some b → (k : ℕ) × (slice_get (one ++ two) k ≡ Some b)
    back [] two i b e = (i, e)
    back (c ∷ one) two i b e = let r = back one two i b e in (suc r.0, r.1)

-- Names that stand for no object

-- a net, a variable or a memory
abbrev pub HasObjects : ScopeEntry → Type 0
HasObjects (NetEntry range signed) = Unit {0}
HasObjects (RegEntry range signed) = Unit {0}
HasObjects (MemoryEntry range first last signed) = Unit {0}
HasObjects (ParameterEntry value signed) = ⊥
HasObjects RefusedParameter = ⊥
HasObjects WaitingParameter = ⊥
HasObjects GateEntry = ⊥
HasObjects InstanceEntry = ⊥

parameter-none : (entry : ScopeEntry) → is_parameter (Some entry) ≡ true → HasObjects entry → ⊥
parameter-none (NetEntry range signed) e h = absurd (cc)
parameter-none (RegEntry range signed) e h = absurd (cc)
parameter-none (MemoryEntry range first last signed) e h = absurd (cc)
parameter-none (ParameterEntry value signed) e h = h
parameter-none RefusedParameter e h = h
parameter-none WaitingParameter e h = h
parameter-none GateEntry e h = h
parameter-none InstanceEntry e h = h

waiting-parameter : (waits : Bool) (entry : ScopeEntry) → is_parameter (Some entry) ≡ true → is_parameter (Some (waiting_or waits entry)) ≡ true
waiting-parameter true entry e = refl
waiting-parameter false entry e = e

ranged-parameter : (signed : Bool) (range : DeclaredRange) (c : SignedValue) (ranged wide : Bool) → range.ranged ≡ ranged → nat_lt most_bits (span range.high range.low) ≡ wide →
    is_parameter (Some (parameter_by_range signed range c)) ≡ true
ranged-parameter signed range c false wide e d = rw e
ranged-parameter signed range c true true e d = rw (e, d)
ranged-parameter signed range c true false e d = rw (e, d)

entry-parameter : (signed : Bool) (range : DeclaredRange) (c : Option SignedValue) → is_parameter (Some (parameter_entry signed range c)) ≡ true
entry-parameter signed range None = refl
entry-parameter signed range (Some c) = ranged-parameter signed range c range.ranged (nat_lt most_bits (span range.high range.low)) refl refl

pub is-parameter : (scope : Scope) (signed : Bool) (bounds : Bounds) (value : SourceExpression) (c : Option SignedValue) → is_parameter (Some (parameter_of scope signed bounds value c)) ≡ true
is-parameter scope signed bounds value (Some c) =
    let range = range_of scope bounds in waiting-parameter (bounds_wait scope bounds) (parameter_entry signed range (Some c)) (entry-parameter signed range (Some c))
is-parameter scope signed bounds value None =
    let range = range_of scope bounds in
    let c = constant_of scope (context_width range) value in
    waiting-parameter (bounds_wait scope bounds || some_waiting scope value) (parameter_entry signed range c) (entry-parameter signed range c)

-- a parameter, a gate or an instance
abbrev HasNone : Declared → Type 0
HasNone (DeclaredParameter is_local signed bounds value) = Unit {0}
HasNone DeclaredGate = Unit {0}
HasNone DeclaredInstance = Unit {0}
HasNone (DeclaredPort direction is_reg signed bounds first) = ⊥
HasNone (DeclaredNet signed bounds) = ⊥
HasNone (DeclaredReg signed bounds first) = ⊥
HasNone (DeclaredMemory signed bounds addresses) = ⊥

declared-none : (scope : Scope) (given : List GivenParameter) (name : Identifier) (declared : Declared) (others : List Declaration) → HasNone declared →
    HasObjects (meaning_of scope given name (joined_declared declared others)) → ⊥
declared-none scope given name (DeclaredParameter is_local signed bounds value) [] n h = parameter-none (parameter_of scope signed bounds value (given_of given name))
    (is-parameter scope signed bounds value (given_of given name)) h
declared-none scope given name (DeclaredParameter is_local signed bounds value) (again ∷ others) n h =
    parameter-none (parameter_of scope signed bounds value (given_of given name)) (is-parameter scope signed bounds value (given_of given name)) h
declared-none scope given name DeclaredGate [] n h = h
declared-none scope given name DeclaredGate (again ∷ others) n h = h
declared-none scope given name DeclaredInstance [] n h = h
declared-none scope given name DeclaredInstance (again ∷ others) n h = h
declared-none scope given name (DeclaredPort direction is_reg signed bounds first) others n h = n
declared-none scope given name (DeclaredNet signed bounds) others n h = n
declared-none scope given name (DeclaredReg signed bounds first) others n h = n
declared-none scope given name (DeclaredMemory signed bounds addresses) others n h = n

gate-none : (gate : SourceGate) (name : Option NamedPlace) (gates : List SourceGate) → AllHold (λ (d : Declaration). HasNone d.declared) (gate_declarations gates) →
    AllHold (λ (d : Declaration). HasNone d.declared) (gate_declarations (record gate { name = name } ∷ gates))
gate-none gate None gates h = h
gate-none gate (Some n) gates h = (tt, h)

gates-none : (gates : List SourceGate) → AllHold (λ (d : Declaration). HasNone d.declared) (gate_declarations gates)
gates-none [] = tt
gates-none (gate ∷ gates) = gate-none gate gate.name gates (gates-none gates)

-- The parts of a declaration

-- what an item declares with objects has its parts among the item's
declared-among : (here : Here) (gates : ℕ) (item : SourceItem) (place : ℕ) (own : Declaration) → slice_get (item_declarations item) place ≡ Some own → (HasNone own.declared → ⊥) →
    IsNoInstance item × ((k : ℕ) (part : Part) → slice_get (declared_parts here item) k ≡ Some part → (j : ℕ) × (slice_get (item_parts here gates item) j ≡ Some part))
declared-among here gates (PortItem group) place own at some = (tt, λ k part found. (k, found))
declared-among here gates (RegItem at_place signed range regs) place own at some = (tt, λ k part found. (k, found))
declared-among here gates (IntegerItem at_place regs) place own at some = (tt, λ k part found. (k, found))
declared-among here gates (WireItem at_place signed range wires) place own at some = (
  tt,
  λ k part found.
      (k, front (declared_parts here (WireItem at_place signed range wires)) (flat_map (wire_parts here) wires) k part found),
)
  where
    front : (one two : List Part) (i : ℕ) (b : Part) → slice_get one i ≡ Some b → slice_get (one ++ two) i ≡ Some b
    front [] two i b e = absurd (cc)
    front (c ∷ one) two zero b e = e
    front (c ∷ one) two (suc i) b e = front one two i b e
declared-among here gates (ParameterItem group) place own at some =
    absurd (some (AllHold-slice_get (λ (d : Declaration). HasNone d.declared) (item_declarations (ParameterItem group)) place own
    (AllHold-map (λ (d : Declaration). HasNone d.declared) _ group.parameters (AllHold-all _ group.parameters (λ (p : SourceParameter). tt))) at))
declared-among here gates (GateItem at_place kind all) place own at some = absurd (some (AllHold-slice_get (λ (d : Declaration). HasNone d.declared) (gate_declarations all) place own
    (gates-none all) at))
declared-among here gates (InstanceItem at_place module_name parameters instances) place own at some =
    absurd (some (AllHold-slice_get (λ (d : Declaration). HasNone d.declared) (item_declarations (InstanceItem at_place module_name parameters instances)) place own
    (AllHold-map (λ (d : Declaration). HasNone d.declared) _ instances (AllHold-all _ instances (λ (i : SourceInstance). tt))) at))
declared-among here gates (AssignItem at_place assignments) place own at some = absurd (cc)
declared-among here gates (InitialItem at_place body) place own at some = absurd (cc)
declared-among here gates (AlwaysItem at_place body) place own at some = absurd (cc)

place-same : (place : SourcePlace) → same_place place place ≡ true
place-same place = both-true (nat_eq place.line place.line) (nat_eq place.column place.column) (eq-eqb place.line place.line refl) (eq-eqb place.column place.column refl)

-- the part of a declared name is one of the item of its declaration
own-part : (here : Here) (declared own : Declaration) (number : ℕ) → slice_get (names_declared here.instance.inner) number ≡ Some declared →
    joined_declaration (declarations_of here.instance.inner) own ≡ declared → (item : SourceItem) (place : ℕ) →
    slice_get (item_declarations item) place ≡ Some own → (part : Part) → part_by_entry here declared (looked_up here.scope declared.name) ≡ part ∷ [] →
    (k : ℕ) × (slice_get (declared_parts here item) k ≡ Some part)
own-part here declared own number is joined item place at part parts =
    let all = names_declared here.instance.inner in
    let name : declared.name ≡ own.name = ap (λ (d : Declaration). d.name) (sym joined) in
    let where_is : declared.place ≡ own.place = ap (λ (d : Declaration). d.place) (sym joined) in
    let same : same_name declared.name own.name ≡ true = ap (same_name declared.name) (sym name) ∙ name-same declared.name in
    let here_is : same_place declared.place own.place ≡ true = ap (same_place declared.place) (sym where_is) ∙ place-same declared.place in
    let named = filter-at (λ (d : Declaration). same_name d.name own.name) all number declared is same in
    let placed = filter-at (λ (d : Declaration). same_place d.place own.place) (of_name own.name all) named.0 declared named.1 here_is in
    let found = at-flat (λ (d : Declaration). part_by_entry here d (looked_up here.scope d.name))
    (filter (λ (d : Declaration). same_place d.place own.place) (of_name own.name all)) placed.0 declared 0 part placed.1 (ap (λ l. slice_get l 0) parts) in
    at-flat (parts_of_own here all) (item_declarations item) place own found.0 part at found.1

-- the part of a name of a scope that a walk comes to stands among all parts
pub name-part : (modules : List SourceModule) (mode : Mode) (top : SourceModule) (parts : List Part) → walked_from modules mode top ≡ Ok parts → (instance : Entered) →
    IsVisited modules mode top instance → (scope : Scope) →
    names instance.inner instance.given ≡ Ok scope → (name : Identifier) (entry : ScopeEntry) → HasObjects entry → looked_up scope name ≡ Some entry → (make : Declaration → Part) →
    ((d : Declaration) → part_by_entry (record { modules = modules; mode = mode; instance = instance; scope = scope }) d (Some entry) ≡ make d ∷ []) →
    (d : Declaration) × (d.name ≡ name) × ((k : ℕ) × (slice_get parts k ≡ Some (make d)))
name-part modules mode top parts e instance visited scope named name entry objects found make by =
    let m = instance.inner in
    let given = instance.given in
    let here : Here = record { modules = modules; mode = mode; instance = instance; scope = scope } in
    let scope_is : scope_of m given ≡ scope = (unless_faulty-ok (module_name_faults (scope_of m given) m) (scope_of m given) scope named).1 in
    let d = scope-declared m given name entry (ap (λ s. looked_up s name) scope_is ∙ found) in
    let round = scope_after (parameter_count (names_declared m)) given (names_declared m) in
    let means : meaning_of round given d.own.name (joined_declared d.own.declared (plain_of_name d.own.name (declarations_of m))) ≡ entry =
    ap (λ (own : Declaration). meaning_of round given own.name own.declared) d.joined ∙ d.means in
    let some : HasNone d.own.declared → ⊥ = λ none.
    declared-none round given d.own.name d.own.declared (plain_of_name d.own.name (declarations_of m)) none (subst HasObjects (sym means) objects) in
    let kind = declared-among here 0 d.item d.place d.own d.at some in
    let there = item-there modules mode top parts e instance visited scope named d.item d.of kind.0 in
    let looked : looked_up scope d.declared.name ≡ Some entry = ap (looked_up scope) d.name_is ∙ found in
    let own = own-part here d.declared d.own d.number d.is d.joined d.item d.place d.at (make d.declared) (ap (part_by_entry here d.declared) looked ∙ by d.declared) in
    let inside = (declared-among here there.gates d.item d.place d.own d.at some).1 own.0 (make d.declared) own.1 in
    (d.declared, d.name_is, there.there inside.0 (make d.declared) inside.1)

-- Scopes

abbrev pub signal_record : Here → Declaration → Bool → DeclaredRange → Signal
signal_record here d is_reg range = record {
  name = here.instance.path ++ d.name;
  is_reg = is_reg;
  range = range;
  first = content_of here.scope (range_width range) (first_content_of d.declared);
  place = d.place;
  depth = here.instance.depth;
  joined = joining_of here.instance.joins d.name;
}

-- a name of an instance that a walk comes to
name-at : (modules : List SourceModule) (mode : Mode) (top : SourceModule) (parts : List Part) → walked_from modules mode top ≡ Ok parts → (path : Identifier) (scope : Scope) →
    IsAt modules mode top path scope → (name : Identifier) (entry : Option ScopeEntry) →
    looked_up scope name ≡ entry → IsDeclaredAs parts (path ++ name) entry
name-at modules mode top parts e path scope at name (Some (NetEntry range signed)) found =
    let here : Here = record { modules = modules; mode = mode; instance = at.instance; scope = scope } in
    let r = name-part modules mode top parts e at.instance at.visited scope at.named name (NetEntry range signed) tt found (λ d. signal_part here d false range) (λ d. refl) in
    (r.2.0, signal_record here r.0 false range, r.2.1, ap (λ n. at.instance.path ++ n) r.1 ∙ ap (λ (p : Identifier). p ++ name) at.path_is, refl)
name-at modules mode top parts e path scope at name (Some (RegEntry range signed)) found =
    let here : Here = record { modules = modules; mode = mode; instance = at.instance; scope = scope } in
    let r = name-part modules mode top parts e at.instance at.visited scope at.named name (RegEntry range signed) tt found (λ d. signal_part here d true range) (λ d. refl) in
    (r.2.0, signal_record here r.0 true range, r.2.1, ap (λ n. at.instance.path ++ n) r.1 ∙ ap (λ (p : Identifier). p ++ name) at.path_is, refl)
name-at modules mode top parts e path scope at name (Some (MemoryEntry range first last signed)) found =
    let here : Here = record { modules = modules; mode = mode; instance = at.instance; scope = scope } in
    let make : Declaration → WalkedMemory = λ d. record { name = here.instance.path ++ d.name; range = range; first = first; last = last; place = d.place } in
    let r = name-part modules mode top parts e at.instance at.visited scope at.named name (MemoryEntry range first last signed) tt found (λ d. MemoryPart (make d)) (λ d. refl) in
    (r.2.0, make r.0, r.2.1, ap (λ n. at.instance.path ++ n) r.1 ∙ ap (λ (p : Identifier). p ++ name) at.path_is, refl)
name-at modules mode top parts e path scope at name None found = tt
name-at modules mode top parts e path scope at name (Some (ParameterEntry value signed)) found = tt
name-at modules mode top parts e path scope at name (Some RefusedParameter) found = tt
name-at modules mode top parts e path scope at name (Some WaitingParameter) found = tt
name-at modules mode top parts e path scope at name (Some GateEntry) found = tt
name-at modules mode top parts e path scope at name (Some InstanceEntry) found = tt

-- what the names of a scope that a walk comes to mean stands among the parts
pub scope-at : (modules : List SourceModule) (mode : Mode) (top : SourceModule) (parts : List Part) → walked_from modules mode top ≡ Ok parts → (path : Identifier) (scope : Scope) →
    IsAt modules mode top path scope → IsScopeAt parts path scope
scope-at modules mode top parts e path scope at = λ name. name-at modules mode top parts e path scope at name (looked_up scope name) refl
