-- Each port that is joined is joined with a net or a variable of its width that stands one level above (IEEE 1364-2001, clause 12.3; that such a port is one object with it is own).
use Rattle.std.proofs.Common.{◌≡◌, ℕ, ◌+◌, Bool, true, false, ◌&&◌, List, [], ◌∷◌, ◌++◌, Option, Some, None, Ok, refl, sym, ap, ◌∙◌, subst, inl, inr, ◌⊎◌}
use Rattle.std.specs.Prelude.{nat_eq, slice_get}
use Rattle.std.proofs.lemmas.Bool.{eqb-true}
use Rattle.vf_base.specs.Base.{SourcePlace}
use Rattle.v_tree.specs.declared.item.Direction.{Direction}
use Rattle.v_tree.specs.Trees.{Identifier, SourceExpression, Number, Selected, Parenthesised, Prefixed, Infixed, Chosen, Concatenated, Replicated, NoIndex, IndexAt, IndexRange, SourceConnection}
use Rattle.v_tree.specs.Trees.{SourceInstance, SourceModule, place_of_expression, same_name}
use Rattle.v_names.specs.Names.{GivenParameter, scope_of}
use Rattle.v_names.specs.Scopes.{ScopeEntry, ParameterEntry, RefusedParameter, WaitingParameter, NetEntry, RegEntry, MemoryEntry, GateEntry, InstanceEntry, Scope, looked_up, range_width}
use Rattle.v_names.specs.Scopes.{declared_width, is_vector}
use Rattle.v_names.specs.SizedLaws.{and-left, and-right}
use Rattle.v_elab.specs.declared.Mode.{Mode}
use Rattle.v_elab.specs.Connections.{Child, Paths, PortJoined, joined_name, whole_if, port_width, port_direction, port_joined, connection_joins, connections_joins, connected_name, head_names}
use Rattle.v_elab.specs.Parts.{Joining, Signal, Part, SignalPart}
use Rattle.v_elab.specs.Walk.{Here, joining_if, joining_of, child_of, paths_of, entered, signal_part, walked_from}
use Rattle.flat_laws.specs.Lists.{same_some}
use Rattle.flat_laws.specs.Hierarchy.Given.{equal-name}
use Rattle.flat_laws.specs.Hierarchy.Visits.{IsAt}
use Rattle.flat_laws.specs.Names.Placed.{signal_record, name-part}

-- What a port is joined with

-- a net or a variable among the parts, by its name, its depth and its width
pub record IsOuter (parts : List Part) (name : Identifier) (depth width : ℕ) : Type 0 where
  pub number : ℕ
  pub signal : Signal
  pub is : slice_get parts number ≡ Some (SignalPart signal)
  pub name_is : signal.name ≡ name
  pub depth_is : signal.depth ≡ depth
  pub width_is : range_width signal.range ≡ width

outer-by : (modules : List SourceModule) (mode : Mode) (top : SourceModule) (parts : List Part) → walked_from modules mode top ≡ Ok parts → (path : Identifier) (scope : Scope) →
    (at : IsAt modules mode top path scope) → (name : Identifier) (entry : Option ScopeEntry) →
    looked_up scope name ≡ entry → is_vector entry ≡ true → IsOuter parts (path ++ name) at.instance.depth (declared_width entry)
outer-by modules mode top parts e path scope at name (Some (NetEntry range signed)) found v =
    let here : Here = record { modules = modules; mode = mode; instance = at.instance; scope = scope } in
    let r = name-part modules mode top parts e at.instance at.visited scope at.named name (NetEntry range signed) tt found (λ d. signal_part here d false range) (λ d. refl) in
    record {
      number = r.2.0;
      signal = signal_record here r.0 false range;
      is = r.2.1;
      name_is = ap (λ n. at.instance.path ++ n) r.1 ∙ ap (λ (p : Identifier). p ++ name) at.path_is;
      depth_is = refl;
      width_is = refl;
    }
outer-by modules mode top parts e path scope at name (Some (RegEntry range signed)) found v =
    let here : Here = record { modules = modules; mode = mode; instance = at.instance; scope = scope } in
    let r = name-part modules mode top parts e at.instance at.visited scope at.named name (RegEntry range signed) tt found (λ d. signal_part here d true range) (λ d. refl) in
    record {
      number = r.2.0;
      signal = signal_record here r.0 true range;
      is = r.2.1;
      name_is = ap (λ n. at.instance.path ++ n) r.1 ∙ ap (λ (p : Identifier). p ++ name) at.path_is;
      depth_is = refl;
      width_is = refl;
    }
outer-by modules mode top parts e path scope at name None found v = absurd (cc)
outer-by modules mode top parts e path scope at name (Some (MemoryEntry range first last signed)) found v = absurd (cc)
outer-by modules mode top parts e path scope at name (Some (ParameterEntry value signed)) found v = absurd (cc)
outer-by modules mode top parts e path scope at name (Some RefusedParameter) found v = absurd (cc)
outer-by modules mode top parts e path scope at name (Some WaitingParameter) found v = absurd (cc)
outer-by modules mode top parts e path scope at name (Some GateEntry) found v = absurd (cc)
outer-by modules mode top parts e path scope at name (Some InstanceEntry) found v = absurd (cc)

-- an actual that a port is joined with is a whole net or variable of its width
record IsWholeActual (child : Child) (port name : Identifier) : Type 0 where
  vector : is_vector (looked_up child.outer_scope name) ≡ true
  width : declared_width (looked_up child.outer_scope name) ≡ port_width child port

whole_if-is : (test : Bool) (name found : Identifier) → whole_if test name ≡ Some found → (test ≡ true) × (name ≡ found)
whole_if-is true name found e = (refl, same_some name found e)
whole_if-is false name found e = absurd (cc)

actual-is : (child : Child) (port : Identifier) (e : SourceExpression) (found : Identifier) → joined_name child port e ≡ Some found → IsWholeActual child port found
actual-is child port (Selected place name NoIndex) found e =
    let entry = looked_up child.outer_scope name in
    let r = whole_if-is (is_vector entry && nat_eq (declared_width entry) (port_width child port)) name found e in
    subst (IsWholeActual child port) r.1
    (record {
      vector = and-left (is_vector entry) (nat_eq (declared_width entry) (port_width child port)) r.0;
      width = eqb-true (declared_width entry) (port_width child port) (and-right (is_vector entry) (nat_eq (declared_width entry) (port_width child port)) r.0);
    })
actual-is child port (Selected place name (IndexAt index)) found e = absurd (cc)
actual-is child port (Selected place name (IndexRange from to)) found e = absurd (cc)
actual-is child port (Number place form value) found e = absurd (cc)
actual-is child port (Parenthesised place inner) found e = absurd (cc)
actual-is child port (Prefixed place operator operand) found e = absurd (cc)
actual-is child port (Infixed place operator left right) found e = absurd (cc)
actual-is child port (Chosen place condition first second) found e = absurd (cc)
actual-is child port (Concatenated place parts) found e = absurd (cc)
actual-is child port (Replicated place count parts) found e = absurd (cc)

-- a joined port with the name that it is joined into
record IsJoinedInto (child : Child) (paths : Paths) (port : Identifier) (joining : Joining) : Type 0 where
  name : Identifier
  into : joining.into ≡ paths.outer ++ name
  actual : IsWholeActual child port name

joining_of-append : (xs ys : List PortJoined) (port : Identifier) (joining : Joining) → joining_of (xs ++ ys) port ≡ Some joining →
    (joining_of xs port ≡ Some joining) ⊎ (joining_of ys port ≡ Some joining)
joining_of-append [] ys port joining e = inr e
joining_of-append (first ∷ xs) ys port joining e = by_test (same_name first.port port) e (λ d. joining_of-append xs ys port joining d)
  where
    by_test : (test : Bool) → joining_if test first.joining (joining_of (xs ++ ys) port) ≡ Some joining →
        (joining_of (xs ++ ys) port ≡ Some joining → (joining_of xs port ≡ Some joining) ⊎ (joining_of ys port ≡ Some joining)) →
        (joining_if test first.joining (joining_of xs port) ≡ Some joining) ⊎ (joining_of ys port ≡ Some joining)
    by_test true d rest = inl d
    by_test false d rest = rest d

one-joined : (child : Child) (paths : Paths) (own port : Identifier) (place : SourcePlace) (name : Option Identifier) (direction : Option Direction) (joining : Joining) →
    ((found : Identifier) → name ≡ Some found → IsWholeActual child own found) →
    joining_of (port_joined paths own place name direction) port ≡ Some joining → IsJoinedInto child paths port joining
one-joined child paths own port place (Some name) (Some direction) joining whole e = by_test (same_name own port) refl e
  where
    by_test : (test : Bool) → same_name own port ≡ test → joining_if test (record { into = paths.outer ++ name; direction = direction; place = place }) None ≡ Some joining →
        IsJoinedInto child paths port joining
    by_test true is d =
        let same = same_some (record { into = paths.outer ++ name; direction = direction; place = place }) joining d in
        record { name = name; into = ap (λ (j : Joining). j.into) (sym same); actual = subst (λ p. IsWholeActual child p name) (equal-name own port is) (whole name refl) }
    by_test false is d = absurd (cc)
one-joined child paths own port place (Some name) None joining whole e = absurd (cc)
one-joined child paths own port place None direction joining whole e = absurd (cc)

connection-joined : (child : Child) (paths : Paths) (own : Option Identifier) (actual : Option SourceExpression) (port : Identifier) (joining : Joining) →
    joining_of (connection_joins child paths own actual) port ≡ Some joining → IsJoinedInto child paths port joining
connection-joined child paths None actual port joining e = absurd (cc)
connection-joined child paths (Some own) None port joining e = absurd (cc)
connection-joined child paths (Some own) (Some actual) port joining e =
    one-joined child paths own port (place_of_expression actual) (joined_name child own actual) (port_direction child.inner own) joining (λ found d. actual-is child own actual found d) e

connections-joined : (child : Child) (paths : Paths) (position : ℕ) (connections : List SourceConnection) (port : Identifier) (joining : Joining) →
    joining_of (connections_joins child paths position connections) port ≡ Some joining →
    IsJoinedInto child paths port joining
connections-joined child paths position [] port joining e = absurd (cc)
connections-joined child paths position (connection ∷ rest) port joining e =
    let own = connected_name (head_names child.inner.heads) position connection.name in
    elim (joining_of-append (connection_joins child paths own connection.actual) (connections_joins child paths (position + 1) rest) port joining e) [
      | inl first ↦ connection-joined child paths own connection.actual port joining first
      | inr later ↦ connections-joined child paths (position + 1) rest port joining later
    ]

-- a port of an instance that a walk comes to is joined with a net or a variable of its width, one level above
pub port-outer : (modules : List SourceModule) (mode : Mode) (top : SourceModule) (parts : List Part) → walked_from modules mode top ≡ Ok parts → (here : Here) →
    (at : IsAt modules mode top here.instance.path here.scope) → at.instance.depth ≡ here.instance.depth →
    (inner : SourceModule) (given : List GivenParameter) (i : SourceInstance) (port : Identifier) (joining : Joining) → joining_of (entered here inner given i).joins port ≡ Some joining →
    IsOuter parts joining.into here.instance.depth (declared_width (looked_up (scope_of inner given) port))
port-outer modules mode top parts e here at depth inner given i port joining found =
    let j = connections-joined (child_of here inner given) (paths_of here i) 0 i.connections port joining found in
    let outer = outer-by modules mode top parts e here.instance.path here.scope at j.name (looked_up here.scope j.name) refl j.actual.vector in
    record { number = outer.number; signal = outer.signal; is = outer.is; name_is = outer.name_is ∙ sym j.into; depth_is = outer.depth_is ∙ depth; width_is = outer.width_is ∙ j.actual.width }
