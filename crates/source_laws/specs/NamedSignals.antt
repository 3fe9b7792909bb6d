-- The nets and variables of a walk: each has a declared name behind its instance's path, and bounds of few bits; and each name of a walk is one word (IEEE 1364-2001, clause 12.4 for
-- names, clause 3.3 for bounds).
use Rattle.std.proofs.Common.{◌≡◌, ℕ, zero, suc, ◌+◌, ◌≤◌, Bool, true, false, List, [], ◌∷◌, ◌++◌, map, Option, Some, None, Ok, option_map, refl, sym, ap, ◌∙◌, subst, inl, inr, arith}
use Rattle.std.specs.Prelude.{slice_get, filter, flat_map, codes, decimal, nat_lt, if◌then◌else◌}
use Rattle.four_value.specs.declared.operator.GateKind.{GateKind}
use Rattle.std.proofs.lemmas.Bool.{ltb-false}
use Rattle.vf_base.specs.Lists.{AllHold}
use Rattle.v_design.specs.WellFormed.{IsOneWord}
use Rattle.v_tree.specs.declared.item.Direction.{Direction}
use Rattle.v_tree.specs.declared.item.Direction.TheVariants.{Input, Output}
use Rattle.v_tree.specs.Trees.{Identifier, NamedPlace, SourceExpression, SourceTarget, SourceWire, SourceAssignment, SourceGate, SourceConnection, SourceInstance, SourceItem, ParameterItem}
use Rattle.v_tree.specs.Trees.{PortItem, WireItem, RegItem, IntegerItem, AssignItem, GateItem, InstanceItem, InitialItem, AlwaysItem, SourceModule, same_name}
use Rattle.v_names.specs.Faults.{same_place}
use Rattle.v_names.specs.Readings.{is_empty}
use Rattle.v_names.specs.Scopes.{ScopeEntry, ParameterEntry, RefusedParameter, WaitingParameter, NetEntry, RegEntry, MemoryEntry, GateEntry, InstanceEntry, Scope, looked_up, is_parameter}
use Rattle.v_names.specs.Names.{Bounds, Unbounded, IntegerBounds, RangeBounds, Declared, DeclaredParameter, DeclaredPort, DeclaredNet, DeclaredReg, DeclaredMemory, DeclaredGate, DeclaredInstance}
use Rattle.v_names.specs.Names.{Declaration, declarations_of, gate_declarations, item_declarations, of_name, joined_declaration, first_of_name, first_declarations, names_declared, GivenParameter}
use Rattle.v_names.specs.Names.{parameter_of, range_of, most_kept, kept_bound, kept_range, meaning_of, given_of, scope_of, module_name_faults, names}
use Rattle.v_width.specs.Targets.{target_of}
use Rattle.v_elab.specs.declared.Mode.{Mode}
use Rattle.v_elab.specs.Parts.{Signal, Part, SignalPart, MemoryPart, GatePart}
use Rattle.v_elab.specs.Connections.{Child, Paths, joined_name, port_direction, actual_parts, output_parts, connection_parts, connections_parts, connected_name, head_names}
use Rattle.v_elab.specs.Walk.{Entered, Here, part_by_entry, parts_of_own, declared_parts, assign_part, wire_parts, gate_name, gate_parts, item_parts, child_of, paths_of, entered, walked_from}
use Rattle.graph_order.specs.ListLaws.{AllHold-slice_get}
use Rattle.flat_laws.specs.Lists.{same_some, AllHold-from}
use Rattle.flat_laws.specs.Numbered.{AllHold-append, AllHold-filter, AllHold-flat_map, AllHold-map, AllHold-all, AllHold-each}
use Rattle.flat_laws.specs.Names.Declared.{items-declare}
use Rattle.flat_laws.specs.Hierarchy.Levelled.{IsModule, enters-module}
use Rattle.v_names.specs.Meanings.{found, in-meanings}
use Rattle.flat_laws.specs.Names.OnceDeclared.{IsNamedUnit}
use Rattle.flat_laws.specs.Names.Placed.{is-parameter, at-flat}
use Rattle.flat_laws.specs.Hierarchy.Processes.{unless_faulty-ok}
use Rattle.flat_laws.specs.Names.Rounds.{scope-fixed}
use Rattle.flat_laws.specs.Names.Spelled.{IsSpelled, spelled-word}
use Rattle.flat_laws.specs.Hierarchy.Walks.{items_of, IsOf, IsHere, IsInstance, walk-holds}
use Rattle.source_laws.specs.Indexes.{IsDeclaredRange}
use Rattle.source_laws.specs.Spelling.{IsPlainName, EndsInDot, IsObjectName, own-plain}
use Rattle.source_laws.specs.WordLaws.{decimal-word, words-append}

-- Bounds

abbrev pub IsDeclaredEntry : Option ScopeEntry → Type 0
IsDeclaredEntry (Some (NetEntry range signed)) = IsDeclaredRange range
IsDeclaredEntry (Some (RegEntry range signed)) = IsDeclaredRange range
IsDeclaredEntry _ = Unit {0}

kept-most : (n : ℕ) → kept_bound n ≤ most_kept
kept-most n = by_test (nat_lt most_kept n) refl
  where
    by_test : (test : Bool) → nat_lt most_kept n ≡ test → (if test then 0 else n) ≤ most_kept
    by_test true e = omega arith
    by_test false e = omega (arith, ltb-false most_kept n e)

range-kept : (scope : Scope) (bounds : Bounds) → IsDeclaredRange (kept_range (range_of scope bounds))
range-kept scope Unbounded = record { high = omega arith; low = omega arith; single = λ e. omega arith }
range-kept scope IntegerBounds = record { high = omega arith; low = omega arith; single = λ e. absurd (cc) }
range-kept scope (RangeBounds range) =
    record { high = kept-most (range_of scope (RangeBounds range)).high; low = kept-most (range_of scope (RangeBounds range)).low; single = λ e. absurd (cc) }

parameter-declared : (entry : ScopeEntry) → is_parameter (Some entry) ≡ true → IsDeclaredEntry (Some entry)
parameter-declared (ParameterEntry value signed) e = tt
parameter-declared RefusedParameter e = tt
parameter-declared WaitingParameter e = tt
parameter-declared (NetEntry range signed) e = absurd (cc)
parameter-declared (RegEntry range signed) e = absurd (cc)
parameter-declared (MemoryEntry range first last signed) e = tt
parameter-declared GateEntry e = tt
parameter-declared InstanceEntry e = tt

meaning-declared : (scope : Scope) (given : List GivenParameter) (name : Identifier) (d : Declared) → IsDeclaredEntry (Some (meaning_of scope given name d))
meaning-declared scope given name (DeclaredParameter is_local signed bounds value) = parameter-declared (parameter_of scope signed bounds value (given_of given name))
    (is-parameter scope signed bounds value (given_of given name))
meaning-declared scope given name (DeclaredPort direction true signed bounds first) = range-kept scope bounds
meaning-declared scope given name (DeclaredPort direction false signed bounds first) = range-kept scope bounds
meaning-declared scope given name (DeclaredNet signed bounds) = range-kept scope bounds
meaning-declared scope given name (DeclaredReg signed bounds first) = range-kept scope bounds
meaning-declared scope given name (DeclaredMemory signed bounds addresses) = tt
meaning-declared scope given name DeclaredGate = tt
meaning-declared scope given name DeclaredInstance = tt

option-declared : (f : Declaration → ScopeEntry) (d : Option Declaration) → ((x : Declaration) → IsDeclaredEntry (Some (f x))) → IsDeclaredEntry (option_map f d)
option-declared f None h = tt
option-declared f (Some x) h = h x

-- what a name of a module means has its declared bounds
module-declared : (m : SourceModule) (given : List GivenParameter) (scope : Scope) → names m given ≡ Ok scope → (name : Identifier) → IsDeclaredEntry (looked_up scope name)
module-declared m given scope named name =
    let own = scope_of m given in
    let is : own ≡ scope = (unless_faulty-ok (module_name_faults own m) own scope named).1 in
    let found_is : looked_up own name ≡ option_map (λ (d : Declaration). meaning_of own given d.name d.declared) (found (names_declared m) name) =
    ap (λ s. looked_up s name) (scope-fixed m given) ∙ in-meanings own given (names_declared m) name in
    subst (λ (s : Scope). IsDeclaredEntry (looked_up s name)) is
    (subst IsDeclaredEntry (sym found_is) (option-declared (λ (d : Declaration). meaning_of own given d.name d.declared) (found (names_declared m) name)
    (λ d. meaning-declared own given d.name d.declared)))

-- Names

abbrev IsSpelledDeclaration : Declaration → Type 0
IsSpelledDeclaration d = IsSpelled d.name

first-spelled : (all earlier rest : List Declaration) → AllHold IsSpelledDeclaration rest → AllHold IsSpelledDeclaration (first_declarations all earlier rest)
first-spelled all earlier [] h = tt
first-spelled all earlier (d ∷ rest) h = by_test (is_empty (of_name d.name earlier)) (first-spelled all (d ∷ earlier) rest h.1)
  where
    by_test : (test : Bool) → AllHold IsSpelledDeclaration (first_declarations all (d ∷ earlier) rest) →
        AllHold IsSpelledDeclaration (first_of_name test (joined_declaration all d) (first_declarations all (d ∷ earlier) rest))
    by_test true later = (h.0, later)
    by_test false later = later

-- the names of a module are spelled as names are
module-spelled : (modules : List SourceModule) → IsNamedUnit modules → (i : ℕ) (m : SourceModule) → slice_get modules i ≡ Some m → AllHold IsSpelledDeclaration (names_declared m)
module-spelled modules unit i m at = first-spelled (declarations_of m) [] (declarations_of m) (unit.spelled i m at)

map-there : {A B : Type 0} (f : A → B) (xs : List A) (i : ℕ) (x : A) → slice_get xs i ≡ Some x → slice_get (map f xs) i ≡ Some (f x)
map-there f [] i x at = absurd (cc)
map-there f (y ∷ xs) zero x at = ap (λ z. Some (f z)) (same_some y x at)
map-there f (y ∷ xs) (suc i) x at = map-there f xs i x at

abbrev instance_declaration : SourceInstance → Declaration
instance_declaration i = record { name = i.name; place = i.place; declared = DeclaredInstance }

-- and so are those of its items
item-spelled : (modules : List SourceModule) → IsNamedUnit modules → (here : Here) → IsModule modules here.instance → (item : SourceItem) → IsOf here.instance.inner item →
    AllHold IsSpelledDeclaration (item_declarations item)
item-spelled modules unit here in_unit item of =
    let m = here.instance.inner in
    AllHold-from IsSpelledDeclaration (item_declarations item)
    (λ i d at.
    let there = at-flat item_declarations (items_of m) of.0 item i d of.1 at in
    let declared : slice_get (declarations_of m) there.0 ≡ Some d = ap (λ l. slice_get l there.0) (sym (items-declare m)) ∙ there.1 in
    AllHold-slice_get IsSpelledDeclaration (declarations_of m) there.0 d (unit.spelled in_unit.0 m in_unit.1) declared)

-- and of its instances
instance-spelled : (modules : List SourceModule) → IsNamedUnit modules → (here : Here) → IsModule modules here.instance → (inner : SourceModule) (given : List GivenParameter) (i : SourceInstance) →
    IsInstance here inner given i → IsSpelled i.name
instance-spelled modules unit here in_unit inner given i of =
    let item = InstanceItem of.place of.module_name of.parameters of.instances in
    let own = map-there instance_declaration of.instances of.number i of.at in
    AllHold-slice_get IsSpelledDeclaration (item_declarations item) of.number (instance_declaration i) (item-spelled modules unit here in_unit item of.is) own

-- Nets and variables

pub record IsNamedSignal (signal : Signal) : Type 0 where
  pub name : IsObjectName signal.name
  pub word : IsOneWord signal.name
  pub range : IsDeclaredRange signal.range

abbrev pub IsNamedPart : Part → Type 0
IsNamedPart (SignalPart signal) = IsNamedSignal signal
IsNamedPart (MemoryPart memory) = IsOneWord memory.name
IsNamedPart (GatePart name kind drives path terminals) = IsOneWord name
IsNamedPart _ = Unit {0}

-- an instance of a unit, with its path
record IsNamedInstance (modules : List SourceModule) (instance : Entered) : Type 0 where
  in_unit : IsModule modules instance
  ends : EndsInDot instance.path
  plain : IsPlainName instance.path
  word : IsOneWord instance.path

signal-named : (path own : Identifier) → EndsInDot path → IsPlainName path → IsSpelled own → IsObjectName (path ++ own)
signal-named path own ends plain spelled = record { path = path; own = own; is = refl; ends = ends; plain = plain; spelled = spelled }

-- a declared name behind a path
own-word : (path own : Identifier) → IsOneWord path → IsSpelled own → IsOneWord (path ++ own)
own-word path own word spelled = words-append path own word (spelled-word own spelled)

-- the name of a gate, or its number
gate-word : (number : ℕ) (gate : SourceGate) (name : Option NamedPlace) (rest : List SourceGate) → AllHold IsSpelledDeclaration (gate_declarations (record gate { name = name } ∷ rest)) →
    IsOneWord (gate_name number name) × AllHold IsSpelledDeclaration (gate_declarations rest)
gate-word number gate None rest h = (words-append (codes "$g") (decimal number) (refl, (refl, tt)) (decimal-word number), h)
gate-word number gate (Some n) rest h = (spelled-word n.name h.0, h.1)

module _ (modules : List SourceModule) (unit : IsNamedUnit modules) (mode : Mode) where
  entry-named : (here : Here) → IsNamedInstance modules here.instance → (d : Declaration) → IsSpelled d.name → (entry : Option ScopeEntry) → IsDeclaredEntry entry →
      AllHold IsNamedPart (part_by_entry here d entry)
  entry-named here is d spelled None h = tt
  entry-named here is d spelled (Some (NetEntry range signed)) h = (
    record {
      name = signal-named here.instance.path d.name is.ends is.plain spelled;
      word = own-word here.instance.path d.name is.word spelled;
      range = h;
    },
    tt,
  )
  entry-named here is d spelled (Some (RegEntry range signed)) h = (
    record {
      name = signal-named here.instance.path d.name is.ends is.plain spelled;
      word = own-word here.instance.path d.name is.word spelled;
      range = h;
    },
    tt,
  )
  entry-named here is d spelled (Some (MemoryEntry range first last signed)) h = (own-word here.instance.path d.name is.word spelled, tt)
  entry-named here is d spelled (Some (ParameterEntry value signed)) h = tt
  entry-named here is d spelled (Some RefusedParameter) h = tt
  entry-named here is d spelled (Some WaitingParameter) h = tt
  entry-named here is d spelled (Some GateEntry) h = tt
  entry-named here is d spelled (Some InstanceEntry) h = tt

  declared-named : (here : Here) → IsHere (IsNamedInstance modules) modules mode here → (item : SourceItem) → AllHold IsNamedPart (declared_parts here item)
  declared-named here is item =
      let m = here.instance.inner in
      let spelled = module-spelled modules unit is.entered.in_unit.0 m is.entered.in_unit.1 in
      AllHold-flat_map IsNamedPart (parts_of_own here (names_declared m)) (item_declarations item)
      (AllHold-all (λ d. AllHold IsNamedPart (parts_of_own here (names_declared m) d)) (item_declarations item)
      (λ d.
      let owns = filter (λ (own : Declaration). same_place own.place d.place) (of_name d.name (names_declared m)) in
      AllHold-flat_map IsNamedPart (λ (own : Declaration). part_by_entry here own (looked_up here.scope own.name)) owns
      (AllHold-each IsSpelledDeclaration (λ (own : Declaration). AllHold IsNamedPart (part_by_entry here own (looked_up here.scope own.name))) owns
      (λ own h. entry-named here is.entered own h (looked_up here.scope own.name) (module-declared m here.instance.given here.scope is.scope own.name))
      (AllHold-filter IsSpelledDeclaration (λ (own : Declaration). same_place own.place d.place) (of_name d.name (names_declared m))
      (AllHold-filter IsSpelledDeclaration (λ (own : Declaration). same_name own.name d.name) (names_declared m) spelled)))))

  wire-named : (here : Here) (wire : SourceWire) (value : Option SourceExpression) → AllHold IsNamedPart (wire_parts here (record wire { value = value }))
  wire-named here wire None = tt
  wire-named here wire (Some value) = (tt, tt)

  gates-named : (here : Here) → IsOneWord here.instance.path → (kind : GateKind) (number : ℕ) (gates : List SourceGate) → AllHold IsSpelledDeclaration (gate_declarations gates) →
      AllHold IsNamedPart (gate_parts here kind number gates)
  gates-named here word kind number [] spelled = tt
  gates-named here word kind number (gate ∷ rest) spelled =
      let own = gate-word number gate gate.name rest spelled in
      (words-append here.instance.path (gate_name number gate.name) word own.0, gates-named here word kind (number + 1) rest own.1)

  item-named : (here : Here) → IsHere (IsNamedInstance modules) modules mode here → (gates : ℕ) (item : SourceItem) → IsOf here.instance.inner item → AllHold IsNamedPart (item_parts here gates item)
  item-named here is gates (ParameterItem group) of = tt
  item-named here is gates (PortItem group) of = declared-named here is (PortItem group)
  item-named here is gates (WireItem place signed range wires) of =
      AllHold-append IsNamedPart (declared_parts here (WireItem place signed range wires)) (flat_map (wire_parts here) wires) (declared-named here is (WireItem place signed range wires))
      (AllHold-flat_map IsNamedPart (wire_parts here) wires (AllHold-all (λ w. AllHold IsNamedPart (wire_parts here w)) wires (λ (w : SourceWire). wire-named here w w.value)))
  item-named here is gates (RegItem place signed range regs) of = declared-named here is (RegItem place signed range regs)
  item-named here is gates (IntegerItem place regs) of = declared-named here is (IntegerItem place regs)
  item-named here is gates (AssignItem place assignments) of =
      AllHold-map IsNamedPart (λ (a : SourceAssignment). assign_part here a.target a.value) assignments
      (AllHold-all (λ (a : SourceAssignment). IsNamedPart (assign_part here a.target a.value)) assignments (λ a. tt))
  item-named here is gates (GateItem place kind all) of = gates-named here is.entered.word kind (gates + 1) all (item-spelled modules unit here is.entered.in_unit (GateItem place kind all) of)
  item-named here is gates (InstanceItem place module_name parameters instances) of = tt
  item-named here is gates (InitialItem place body) of = (tt, tt)
  item-named here is gates (AlwaysItem place body) of = (tt, tt)

  port-named : (child : Child) (paths : Paths) (port : Identifier) (e : SourceExpression) (target : Option SourceTarget) → AllHold IsNamedPart (output_parts child paths port e target)
  port-named child paths port e None = tt
  port-named child paths port e (Some target) = (tt, tt)

  actual-named : (child : Child) (paths : Paths) (port : Identifier) (e : SourceExpression) (joined : Option Identifier) (direction : Option Direction) →
      AllHold IsNamedPart (actual_parts child paths port e joined direction)
  actual-named child paths port e (Some joined) direction = tt
  actual-named child paths port e None (Some Input) = (tt, tt)
  actual-named child paths port e None (Some Output) = port-named child paths port e (target_of e)
  actual-named child paths port e None None = tt

  connection-named : (child : Child) (paths : Paths) (port : Option Identifier) (actual : Option SourceExpression) → AllHold IsNamedPart (connection_parts child paths port actual)
  connection-named child paths None actual = tt
  connection-named child paths (Some port) None = tt
  connection-named child paths (Some port) (Some e) = actual-named child paths port e (joined_name child port e) (port_direction child.inner port)

  connections-named : (child : Child) (paths : Paths) (position : ℕ) (connections : List SourceConnection) → AllHold IsNamedPart (connections_parts child paths position connections)
  connections-named child paths position [] = tt
  connections-named child paths position (connection ∷ rest) =
      AllHold-append IsNamedPart (connection_parts child paths (connected_name (head_names child.inner.heads) position connection.name) connection.actual)
      (connections_parts child paths (position + 1) rest)
      (connection-named child paths (connected_name (head_names child.inner.heads) position connection.name) connection.actual) (connections-named child paths (position + 1) rest)

  child-named : (here : Here) → IsHere (IsNamedInstance modules) modules mode here → (inner : SourceModule) (given : List GivenParameter) (i : SourceInstance) → IsInstance here inner given i →
      IsNamedInstance modules (entered here inner given i)
  child-named here is inner given i of =
      let own = instance-spelled modules unit here is.entered.in_unit inner given i of in
      record {
        in_unit = enters-module modules mode here (record { scope = is.scope; entered = is.entered.in_unit; same_modules = is.same_modules; same_mode = is.same_mode }) inner given i of;
        ends = inr (here.instance.path ++ i.name, refl);
        plain =
            AllHold-append (λ (byte : ℕ). byte ≡ 91 → ⊥) (here.instance.path ++ i.name) (codes ".")
            (AllHold-append (λ (byte : ℕ). byte ≡ 91 → ⊥) here.instance.path i.name is.entered.plain (own-plain i.name own))
            (λ e. omega (arith, e), tt);
        word = words-append (here.instance.path ++ i.name) (codes ".") (own-word here.instance.path i.name is.entered.word own) (refl, tt);
      }

  -- the nets and variables of a walk
  pub parts-named : (top : SourceModule) → (k : ℕ) → slice_get modules k ≡ Some top → (parts : List Part) → walked_from modules mode top ≡ Ok parts → AllHold (λ part. IsNamedPart part) parts
  parts-named top k at parts e =
      walk-holds IsNamedPart (IsNamedInstance modules) modules mode
      (record {
        of_item = λ here is gates item of none. item-named here is gates item of;
        of_connections = λ here is inner given i of. connections-named (child_of here inner given) (paths_of here i) 0 i.connections;
        of_instance = tt;
        enters = child-named;
      }) top (record { in_unit = (k, at); ends = inl refl; plain = tt; word = tt }) parts e
