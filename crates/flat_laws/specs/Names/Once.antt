-- No two nets, variables, memories or gates of a walk have one name: what an instance adds stands behind its path, and each name there is that of one declaration
-- or of one gate without a name (IEEE 1364-2001, clause 12.4 and clause 12.5; that a gate without a name has a number is own).
use Rattle.std.proofs.Common.{◌≡◌, ℕ, zero, suc, ◌+◌, ◌<◌, ◌≤◌, Bool, true, false, List, [], ◌∷◌, ◌++◌, length, map, Option, Some, None, Ok, refl, sym, ap, ◌∙◌, subst, arith}
use Rattle.std.specs.Prelude.{slice_get, flat_map, sum_by, codes, decimal}
use Rattle.std.proofs.lemmas.Grind.{flat_map-append}
use Rattle.std.proofs.lemmas.List.Sums.{sum_by-cons, sum_by-append}
use Rattle.vf_base.specs.Base.{SourcePlace}
use Rattle.four_value.specs.declared.operator.GateKind.{GateKind}
use Rattle.vf_base.specs.Lists.{AllHold}
use Rattle.v_design.specs.Expressions.{up_from}
use Rattle.v_design.specs.WellFormed.{most_parts}
use Rattle.v_tree.specs.declared.item.Direction.{Direction}
use Rattle.v_tree.specs.declared.item.Direction.TheVariants.{Input, Output}
use Rattle.v_tree.specs.Trees.{Identifier, SourceExpression, SourceTarget, NamedPlace, SourceParameters, SourceWire, SourceAssignment, SourceGate, SourceConnection, SourceInstance, SourceItem}
use Rattle.v_tree.specs.Trees.{ParameterItem, PortItem, WireItem, RegItem, IntegerItem, AssignItem, GateItem, InstanceItem, InitialItem, AlwaysItem, SourceModule, same_name}
use Rattle.v_names.specs.Faults.{same_place}
use Rattle.v_names.specs.Scopes.{ScopeEntry, ParameterEntry, RefusedParameter, WaitingParameter, NetEntry, RegEntry, MemoryEntry, GateEntry, InstanceEntry, Scope, looked_up}
use Rattle.v_names.specs.Names.{DeclaredGate, DeclaredInstance, Declaration, gate_declarations, item_declarations, declarations_of, is_plain, of_name, names_declared, GivenParameter, names}
use Rattle.v_width.specs.Targets.{target_of}
use Rattle.v_elab.specs.declared.Mode.{Mode}
use Rattle.v_elab.specs.declared.What.TheVariants.{Objects, Nodes}
use Rattle.v_elab.specs.Refusals.{as_refusal, checked, then_go}
use Rattle.v_elab.specs.Parts.{Part, SignalPart, MemoryPart, AssignPart, GatePart, ProcessPart, InstancePart, objects_of_part, nodes_of_part, over_limit, too_many_parts}
use Rattle.v_elab.specs.Connections.{most_depth, open_parameters, given_parameters, Child, Paths, joined_name, port_direction, actual_parts, output_parts, connection_parts, connections_parts}
use Rattle.v_elab.specs.Connections.{connected_name, head_names, drives_of}
use Rattle.v_elab.specs.Walk.{Entered, Here, part_by_entry, parts_of_own, declared_parts, assign_part, wire_parts, terminals_of, gate_name, gate_parts, item_parts, gates_in, checked_item, added}
use Rattle.v_elab.specs.Walk.{Walker, child_of, paths_of, entered, instance_parts, walked_instance, walked_instances, module_named, instance_item_faults, walked_instance_item, walked_item}
use Rattle.v_elab.specs.Walk.{walked_items, head_items, walked_module, walked, walked_from}
use Rattle.graph_order.specs.ListLaws.{AllHold-slice_get}
use Rattle.flat_laws.specs.Lists.{AllHold-from, at-filter, two-counted}
use Rattle.flat_laws.specs.Numbered.{AllHold-append, AllHold-filter}
use Rattle.flat_laws.specs.Made.{then_go-ok, unless_refused-ok, refusal_or-none, over_limit-none}
use Rattle.flat_laws.specs.Hierarchy.Given.{equal-name, name-same, part_name}
use Rattle.flat_laws.specs.Hierarchy.Walks.{same_parts, as_refusal-ok, checked_item-ok, instance-steps, items_of, IsOf, top_entered}
use Rattle.flat_laws.specs.Hierarchy.Levelled.{named-module, IsModule}
use Rattle.flat_laws.specs.Hierarchy.Visited.{module-steps}
use Rattle.flat_laws.specs.Names.Declared.{items-declare}
use Rattle.flat_laws.specs.Names.Placed.{at-flat}
use Rattle.flat_laws.specs.Names.Spelled.{IsDotless, IsSpelled, spelled-dotless, behind, behind-own, behind-instance, up_to_dot-whole, up_to_dot-front, one_if, own-bound, sum-up_from}
use Rattle.flat_laws.specs.Names.OnceDeclared.{IsNamedUnit, IsOnceIn, once-in, first_places, first-place, number_if, weight_behind, gate_weight, begins, bound-once}

-- Names of parts

-- the name of a net, a variable, a memory or a gate
abbrev pub label : Part → Option Identifier
label (SignalPart signal) = Some signal.name
label (MemoryPart memory) = Some memory.name
label (GatePart name kind drives path terminals) = Some name
label _ = None

abbrev pub is_named : Identifier → Option Identifier → ℕ
is_named name None = 0
is_named name (Some other) = one_if (same_name other name)

-- how many parts have a name
abbrev pub count_named : Identifier → List Part → ℕ
count_named name parts = sum_by (λ part. is_named name (label part)) parts

count-append : (name : Identifier) (one other : List Part) → count_named name (one ++ other) ≡ count_named name one + count_named name other
count-append name one other = sum_by-append (λ part. is_named name (label part)) one other

count-cons : (name : Identifier) (part : Part) (parts : List Part) → count_named name (part ∷ parts) ≡ is_named name (label part) + count_named name parts
count-cons name part parts = sum_by-cons (λ p. is_named name (label p)) part parts

nodes-append : (one other : List Part) → sum_by nodes_of_part (one ++ other) ≡ sum_by nodes_of_part one + sum_by nodes_of_part other
nodes-append one other = sum_by-append nodes_of_part one other

-- parts without a name
abbrev IsNameless : Part → Type 0
IsNameless part = label part ≡ None

nameless-none : (name : Identifier) (parts : List Part) → AllHold IsNameless parts → count_named name parts ≡ 0
nameless-none name [] h = refl
nameless-none name (part ∷ parts) h = let first : is_named name (label part) ≡ 0 = ap (is_named name) h.0 in omega (arith, count-cons name part parts, first, nameless-none name parts h.1)

-- What a step adds

-- a step adds so many nodes at least, and of each name so many parts at most
record Adds (parts result : List Part) (gates : ℕ) (bound : Identifier → ℕ) : Type 0 where
  few : sum_by nodes_of_part result ≤ most_parts
  more : sum_by nodes_of_part parts + gates ≤ sum_by nodes_of_part result
  named : (name : Identifier) → count_named name result ≤ count_named name parts + bound name

adds-none : (parts result : List Part) (bound : Identifier → ℕ) → sum_by nodes_of_part parts ≤ most_parts → parts ≡ result → Adds parts result 0 bound
adds-none parts result bound few e = subst (λ r. Adds parts r 0 bound) e (record { few = few; more = omega arith; named = λ name. omega arith })

adds-then : (parts middle result : List Part) (one other gates : ℕ) (first second bound : Identifier → ℕ) → Adds parts middle one first → Adds middle result other second → gates ≤ one + other →
    ((name : Identifier) → first name + second name ≤ bound name) →
    Adds parts result gates bound
adds-then parts middle result one other gates first second bound h k least most = record {
  few = k.few;
  more = omega (arith, h.more, k.more, least);
  named = λ name. omega (arith, h.named name, k.named name, most name);
}

-- parts that are added are few
few-parts : (parts : List Part) → too_many_parts parts ≡ None → sum_by nodes_of_part parts ≤ most_parts
few-parts parts e =
    let objects = refusal_or-none (over_limit Objects most_parts (sum_by objects_of_part parts)) _ e in
    let nodes = refusal_or-none (over_limit Nodes most_parts (sum_by nodes_of_part parts)) _ objects.1 in
    over_limit-none Nodes most_parts (sum_by nodes_of_part parts) nodes.0

adds-added : (parts more result : List Part) (gates : ℕ) (bound : Identifier → ℕ) → added parts more ≡ Ok result → gates ≤ sum_by nodes_of_part more →
    ((name : Identifier) → count_named name more ≤ bound name) → Adds parts result gates bound
adds-added parts more result gates bound e least most =
    let is = unless_refused-ok (too_many_parts (parts ++ more)) (parts ++ more) result e in
    let few = few-parts (parts ++ more) is.0 in
    subst (λ r. Adds parts r gates bound) is.1
    (record { few = few; more = omega (arith, nodes-append parts more, least); named = λ name. omega (arith, count-append name parts more, most name) })

-- Declarations

-- a declaration of a module of which nothing is wrong
record IsKnownIn (m : SourceModule) (d : Declaration) : Type 0 where
  spelled : IsSpelled d.name
  first : is_plain d.declared ≡ false → 1 ≤ length (first_places m d)

item-known : (m : SourceModule) (scope : Scope) → IsOnceIn m scope → (item : SourceItem) → IsOf m item → AllHold (IsKnownIn m) (item_declarations item)
item-known m scope is item of =
    AllHold-from (IsKnownIn m) (item_declarations item)
    (λ j d at.
    let there = at-flat item_declarations (items_of m) of.0 item j d of.1 at in
    let own : slice_get (declarations_of m) there.0 ≡ Some d = ap (λ l. slice_get l there.0) (sym (items-declare m)) ∙ there.1 in
    record {
      spelled = AllHold-slice_get (λ (o : Declaration). IsSpelled o.name) (declarations_of m) there.0 d is.spelled own;
      first = first-place m scope is there.0 d own;
    })

-- a declared name weighs what it stands for
own-weight : (m : SourceModule) (d : Declaration) → IsDotless d.name → weight_behind m (Some d.name) d ≡ length (first_places m d)
own-weight m d dotless =
    ap (λ (head : Identifier). number_if (same_name d.name head) (length (first_places m d))) (up_to_dot-whole d.name dotless)
    ∙ ap (λ b. number_if b (length (first_places m d))) (name-same d.name)

-- an instance's names stand behind its own
instance-weight : (m : SourceModule) (d : Declaration) (path whole : Identifier) → IsDotless d.name → 1 ≤ length (first_places m d) →
    begins (behind ((path ++ d.name) ++ codes ".") whole) ≤ weight_behind m (behind path whole) d
instance-weight m d path whole dotless some = by_rest (behind ((path ++ d.name) ++ codes ".") whole) refl
  where
    by_rest : (rest : Option Identifier) → behind ((path ++ d.name) ++ codes ".") whole ≡ rest → begins rest ≤ weight_behind m (behind path whole) d
    by_rest None e = omega arith
    by_rest (Some rest) e =
        let is : weight_behind m (behind path whole) d ≡ length (first_places m d) =
        ap (λ r. weight_behind m r d) (behind-instance path d.name whole rest e)
        ∙ ap (λ (head : Identifier). number_if (same_name d.name head) (length (first_places m d))) (up_to_dot-front d.name rest dotless)
        ∙ ap (λ b. number_if b (length (first_places m d))) (name-same d.name) in
        omega (arith, is, some)

-- Parts of declarations

entry-named : (here : Here) (d : Declaration) (entry : Option ScopeEntry) (name : Identifier) → count_named name (part_by_entry here d entry) ≤ one_if (same_name (here.instance.path ++ d.name) name)
entry-named here d None name = omega arith
entry-named here d (Some (NetEntry range signed)) name = omega arith
entry-named here d (Some (RegEntry range signed)) name = omega arith
entry-named here d (Some (MemoryEntry range first last signed)) name = omega arith
entry-named here d (Some (ParameterEntry value signed)) name = omega arith
entry-named here d (Some RefusedParameter) name = omega arith
entry-named here d (Some WaitingParameter) name = omega arith
entry-named here d (Some GateEntry) name = omega arith
entry-named here d (Some InstanceEntry) name = omega arith

count-flat : {A : Type 0} (f : A → List Part) (name : Identifier) (most : Bool) (xs : List A) → AllHold (λ x. count_named name (f x) ≤ one_if most) xs →
    count_named name (flat_map f xs) ≤ number_if most (length xs)
count-flat f name true [] h = omega arith
count-flat f name false [] h = omega arith
count-flat f name true (x ∷ xs) h = omega (arith, count-append name (f x) (flat_map f xs), h.0, count-flat f name true xs h.1)
count-flat f name false (x ∷ xs) h = omega (arith, count-append name (f x) (flat_map f xs), h.0, count-flat f name false xs h.1)

own-named : (here : Here) (d : Declaration) → IsDotless d.name → (name : Identifier) → count_named name (parts_of_own here (names_declared here.instance.inner) d) ≤ weight_behind here.instance.inner
    (behind here.instance.path name) d
own-named here d dotless name = by_name (same_name (here.instance.path ++ d.name) name) refl
  where
    m : SourceModule
    m = here.instance.inner

    each : AllHold (λ (own : Declaration). count_named name (part_by_entry here own (looked_up here.scope own.name)) ≤ one_if (same_name (here.instance.path ++ d.name) name))
        (first_places here.instance.inner d)
    each =
        AllHold-filter (λ (own : Declaration). count_named name (part_by_entry here own (looked_up here.scope own.name)) ≤ one_if (same_name (here.instance.path ++ d.name) name))
        (λ (own : Declaration). same_place own.place d.place)
        (of_name d.name (names_declared here.instance.inner))
        (AllHold-from (λ (own : Declaration). count_named name (part_by_entry here own (looked_up here.scope own.name)) ≤ one_if (same_name (here.instance.path ++ d.name) name))
        (of_name d.name (names_declared here.instance.inner))
        (λ i own at.
        let r = at-filter (λ (o : Declaration). same_name o.name d.name) (names_declared here.instance.inner) i own at in
        subst (λ (n : Identifier). count_named name (part_by_entry here own (looked_up here.scope own.name)) ≤ one_if (same_name (here.instance.path ++ n) name)) (equal-name own.name d.name r.2)
        (entry-named here own (looked_up here.scope own.name) name)))

    by_name : (test : Bool) → same_name (here.instance.path ++ d.name) name ≡ test → count_named name (parts_of_own here (names_declared here.instance.inner) d) ≤ weight_behind here.instance.inner
        (behind here.instance.path name) d
    by_name test same =
        let counted = count-flat (λ (own : Declaration). part_by_entry here own (looked_up here.scope own.name)) name test (first_places here.instance.inner d)
        (subst (λ b. AllHold (λ (own : Declaration). count_named name (part_by_entry here own (looked_up here.scope own.name)) ≤ one_if b) (first_places here.instance.inner d)) same each) in
        by_test test same counted
      where
        by_test : (t : Bool) → same_name (here.instance.path ++ d.name) name ≡ t → count_named name (parts_of_own here (names_declared here.instance.inner) d) ≤ number_if t
            (length (first_places here.instance.inner d)) →
            count_named name (parts_of_own here (names_declared here.instance.inner) d) ≤ weight_behind here.instance.inner (behind here.instance.path name) d
        by_test true e counted =
            let is : weight_behind here.instance.inner (behind here.instance.path name) d ≡ length (first_places here.instance.inner d) =
            ap (λ n. weight_behind here.instance.inner (behind here.instance.path n) d) (sym (equal-name (here.instance.path ++ d.name) name e))
            ∙ ap (λ r. weight_behind here.instance.inner r d) (behind-own here.instance.path d.name)
            ∙ own-weight here.instance.inner d dotless in
            omega (arith, is, counted)
        by_test false e counted = omega (arith, counted)

-- the nets, variables and memories that declarations give
declared-named : (here : Here) (declarations : List Declaration) → AllHold (IsKnownIn here.instance.inner) declarations → (name : Identifier) →
    count_named name (flat_map (parts_of_own here (names_declared here.instance.inner)) declarations) ≤ sum_by (weight_behind here.instance.inner (behind here.instance.path name)) declarations
declared-named here [] known name = omega arith
declared-named here (d ∷ declarations) known name =
    let m = here.instance.inner in
    omega (
      arith,
      count-append name (parts_of_own here (names_declared m) d) (flat_map (parts_of_own here (names_declared m)) declarations),
      own-named here d (spelled-dotless d.name known.0.spelled) name,
      declared-named here declarations known.1 name,
      sum_by-cons (weight_behind m (behind here.instance.path name)) d declarations,
    )

-- Gates

abbrev gate_part : Here → GateKind → Identifier → SourceGate → Part
gate_part here kind name gate = GatePart (here.instance.path ++ name) kind (drives_of here.instance.path here.scope gate.output) here.instance.path (terminals_of here.scope gate.inputs)

gates-nodes : (here : Here) (kind : GateKind) (number : ℕ) (gates : List SourceGate) → length gates ≤ sum_by nodes_of_part (gate_parts here kind number gates)
gates-nodes here kind number [] = omega arith
gates-nodes here kind number (gate ∷ gates) =
    omega (arith, gates-nodes here kind (number + 1) gates, sum_by-cons nodes_of_part (gate_part here kind (gate_name number gate.name) gate) (gate_parts here kind (number + 1) gates))

gates-named : (here : Here) (kind : GateKind) (number : ℕ) (gates : List SourceGate) → AllHold (IsKnownIn here.instance.inner) (gate_declarations gates) → (name : Identifier) →
    count_named name (gate_parts here kind number gates)
    ≤ sum_by (weight_behind here.instance.inner (behind here.instance.path name)) (gate_declarations gates) + sum_by (gate_weight (behind here.instance.path name)) (up_from number (length gates))
gates-named here kind number [] known name = omega arith
gates-named here kind number (gate ∷ gates) known name = by_name gate.name known (λ h. gates-named here kind (number + 1) gates h name)
  where
    by_name : (own : Option NamedPlace) → AllHold (IsKnownIn here.instance.inner) (gate_declarations (record gate { name = own } ∷ gates)) →
        (AllHold (IsKnownIn here.instance.inner) (gate_declarations gates) → count_named name (gate_parts here kind (number + 1) gates)
        ≤ sum_by (weight_behind here.instance.inner (behind here.instance.path name)) (gate_declarations gates) + sum_by (gate_weight (behind here.instance.path name))
        (up_from (number + 1) (length gates))) →
        count_named name (gate_parts here kind number (record gate { name = own } ∷ gates))
        ≤ sum_by (weight_behind here.instance.inner (behind here.instance.path name)) (gate_declarations (record gate { name = own } ∷ gates)) + sum_by (gate_weight (behind here.instance.path name))
        (up_from number (suc (length gates)))
    by_name None h rest =
        let own = codes "$g" ++ decimal number in
        let is : gate_weight (Some own) number ≡ 1 = ap one_if (name-same own) in
        let first = own-bound here.instance.path own name (λ r. gate_weight r number) (omega (arith, is)) in
        omega (
          arith,
          rest h,
          first,
          count-cons name (gate_part here kind own gate) (gate_parts here kind (number + 1) gates),
          sum_by-cons (gate_weight (behind here.instance.path name)) number (up_from (number + 1) (length gates)),
        )
    by_name (Some n) h rest =
        let d : Declaration = record { name = n.name; place = n.place; declared = DeclaredGate } in
        let some = h.0.first refl in
        let is = own-weight here.instance.inner d (spelled-dotless d.name h.0.spelled) in
        let first = own-bound here.instance.path n.name name (λ r. weight_behind here.instance.inner r d) (omega (arith, is, some)) in
        omega (
          arith,
          rest h.1,
          first,
          count-cons name (gate_part here kind n.name gate) (gate_parts here kind (number + 1) gates),
          sum_by-cons (weight_behind here.instance.inner (behind here.instance.path name)) d (gate_declarations gates),
          sum_by-cons (gate_weight (behind here.instance.path name)) number (up_from (number + 1) (length gates)),
        )

-- Items

abbrev pub named_by_item : Here → ℕ → SourceItem → Identifier → ℕ
named_by_item here gates item name =
    sum_by (weight_behind here.instance.inner (behind here.instance.path name)) (item_declarations item) + sum_by (gate_weight (behind here.instance.path name)) (up_from (gates + 1) (gates_in item))

wires-nameless : (here : Here) (wires : List SourceWire) → AllHold IsNameless (flat_map (wire_parts here) wires)
wires-nameless here [] = tt
wires-nameless here (wire ∷ wires) = AllHold-append IsNameless (wire_parts here wire) (flat_map (wire_parts here) wires) (by_value wire.value) (wires-nameless here wires)
  where
    by_value : (value : Option SourceExpression) → AllHold IsNameless (wire_parts here (record wire { value = value }))
    by_value None = tt
    by_value (Some value) = (refl, tt)

assigns-nameless : (here : Here) (assignments : List SourceAssignment) → AllHold IsNameless (map (λ (a : SourceAssignment). assign_part here a.target a.value) assignments)
assigns-nameless here [] = tt
assigns-nameless here (a ∷ assignments) = (refl, assigns-nameless here assignments)

item-named : (here : Here) (gates : ℕ) (item : SourceItem) → AllHold (IsKnownIn here.instance.inner) (item_declarations item) → (name : Identifier) →
    count_named name (item_parts here gates item) ≤ named_by_item here gates item name
item-named here gates (ParameterItem group) known name = omega arith
item-named here gates (PortItem group) known name = omega (arith, declared-named here (item_declarations (PortItem group)) known name)
item-named here gates (WireItem place signed range wires) known name =
    omega (
      arith,
      declared-named here (item_declarations (WireItem place signed range wires)) known name,
      count-append name (declared_parts here (WireItem place signed range wires)) (flat_map (wire_parts here) wires),
      nameless-none name (flat_map (wire_parts here) wires) (wires-nameless here wires),
    )
item-named here gates (RegItem place signed range regs) known name = omega (arith, declared-named here (item_declarations (RegItem place signed range regs)) known name)
item-named here gates (IntegerItem place regs) known name = omega (arith, declared-named here (item_declarations (IntegerItem place regs)) known name)
item-named here gates (AssignItem place assignments) known name = omega (arith, nameless-none name (item_parts here gates (AssignItem place assignments)) (assigns-nameless here assignments))
item-named here gates (GateItem place kind all) known name = gates-named here kind (gates + 1) all known name
item-named here gates (InstanceItem place module_name parameters instances) known name = omega arith
item-named here gates (InitialItem place body) known name = omega (arith, nameless-none name (item_parts here gates (InitialItem place body)) (refl, tt))
item-named here gates (AlwaysItem place body) known name = omega (arith, nameless-none name (item_parts here gates (AlwaysItem place body)) (refl, tt))

item-nodes : (here : Here) (gates : ℕ) (item : SourceItem) → gates_in item ≤ sum_by nodes_of_part (item_parts here gates item)
item-nodes here gates (ParameterItem group) = omega arith
item-nodes here gates (PortItem group) = omega arith
item-nodes here gates (WireItem place signed range wires) = omega arith
item-nodes here gates (RegItem place signed range regs) = omega arith
item-nodes here gates (IntegerItem place regs) = omega arith
item-nodes here gates (AssignItem place assignments) = omega arith
item-nodes here gates (GateItem place kind all) = gates-nodes here kind (gates + 1) all
item-nodes here gates (InstanceItem place module_name parameters instances) = omega arith
item-nodes here gates (InitialItem place body) = omega arith
item-nodes here gates (AlwaysItem place body) = omega arith

plain-adds : (here : Here) (gates : ℕ) (item : SourceItem) → AllHold (IsKnownIn here.instance.inner) (item_declarations item) → (parts result : List Part) →
    then_go (checked_item here gates item) (added parts) ≡ Ok result →
    Adds parts result (gates_in item) (named_by_item here gates item)
plain-adds here gates item known parts result e =
    let step = then_go-ok (checked_item here gates item) (added parts) result e in
    let none = checked_item-ok here gates item step.0 step.1 in
    let whole : added parts (item_parts here gates item) ≡ Ok result = ap (added parts) none.1 ∙ step.2 in
    adds-added parts (item_parts here gates item) result (gates_in item) (named_by_item here gates item) whole (item-nodes here gates item) (item-named here gates item known)

-- Connections

output-nameless : (child : Child) (paths : Paths) (port : Identifier) (e : SourceExpression) (target : Option SourceTarget) → AllHold IsNameless (output_parts child paths port e target)
output-nameless child paths port e None = tt
output-nameless child paths port e (Some target) = (refl, tt)

actual-nameless : (child : Child) (paths : Paths) (port : Identifier) (e : SourceExpression) (joined : Option Identifier) (direction : Option Direction) →
    AllHold IsNameless (actual_parts child paths port e joined direction)
actual-nameless child paths port e (Some joined) direction = tt
actual-nameless child paths port e None (Some Input) = (refl, tt)
actual-nameless child paths port e None (Some Output) = output-nameless child paths port e (target_of e)
actual-nameless child paths port e None None = tt

connection-nameless : (child : Child) (paths : Paths) (port : Option Identifier) (actual : Option SourceExpression) → AllHold IsNameless (connection_parts child paths port actual)
connection-nameless child paths None actual = tt
connection-nameless child paths (Some port) None = tt
connection-nameless child paths (Some port) (Some e) = actual-nameless child paths port e (joined_name child port e) (port_direction child.inner port)

connections-nameless : (child : Child) (paths : Paths) (position : ℕ) (connections : List SourceConnection) → AllHold IsNameless (connections_parts child paths position connections)
connections-nameless child paths position [] = tt
connections-nameless child paths position (connection ∷ rest) =
    AllHold-append IsNameless (connection_parts child paths (connected_name (head_names child.inner.heads) position connection.name) connection.actual)
    (connections_parts child paths (position + 1) rest)
    (connection-nameless child paths (connected_name (head_names child.inner.heads) position connection.name) connection.actual) (connections-nameless child paths (position + 1) rest)

-- The walk

-- the names of an instance stand behind its path, each once
abbrev begins_at : Identifier → Identifier → ℕ
begins_at path name = begins (behind path name)

abbrev WalkerAdds : List SourceModule → Walker → Type 0
WalkerAdds modules walker = (instance : Entered) → IsModule modules instance → (parts result : List Part) → walker instance parts ≡ Ok result → sum_by nodes_of_part parts ≤ most_parts →
    Adds parts result 0 (begins_at instance.path)

abbrev declaration_of_instance : SourceInstance → Declaration
declaration_of_instance i = record { name = i.name; place = i.place; declared = DeclaredInstance }

instances-add : (modules : List SourceModule) (walker : Walker) → WalkerAdds modules walker → (here : Here) (inner : SourceModule) → (k : ℕ) → slice_get modules k ≡ Some inner →
    (given : List GivenParameter) (instances : List SourceInstance) →
    AllHold (IsKnownIn here.instance.inner) (map declaration_of_instance instances) → (parts result : List Part) → walked_instances walker here inner given instances parts ≡ Ok result →
    sum_by nodes_of_part parts ≤ most_parts →
    Adds parts result 0 (λ name. sum_by (weight_behind here.instance.inner (behind here.instance.path name)) (map declaration_of_instance instances))
instances-add modules walker adds here inner k at given [] known parts result e few = adds-none parts result
    (λ name. sum_by (weight_behind here.instance.inner (behind here.instance.path name)) []) few (same_parts parts result (Ok parts) refl e)
instances-add modules walker adds here inner k at given (i ∷ rest) known parts result e few =
    let m = here.instance.inner in
    let step = then_go-ok (walked_instance walker here inner given i parts) (walked_instances walker here inner given rest) result e in
    let more = instance_parts here inner given i in
    let own = instance-steps walker here inner given i parts step.0 step.1 in
    let d = declaration_of_instance i in
    let own_few = adds-added parts more own.0 0 (λ name. 0) own.1 (omega arith)
    (λ name. omega (arith, nameless-none name more (refl, connections-nameless (child_of here inner given) (paths_of here i) 0 i.connections))) in
    let inside = adds (entered here inner given i) (k, at) own.0 step.0 own.2 own_few.few in
    let later = instances-add modules walker adds here inner k at given rest known.1 step.0 result step.2 inside.few in
    let first = adds-then parts own.0 step.0 0 0 0 (λ name. 0) (begins_at (paths_of here i).inner) (λ name. weight_behind m (behind here.instance.path name) d) own_few inside (omega arith)
    (λ name. omega (arith, instance-weight m d here.instance.path name (spelled-dotless i.name known.0.spelled) (known.0.first refl))) in
    adds-then parts step.0 result 0 0 0 (λ name. weight_behind m (behind here.instance.path name) d)
    (λ name. sum_by (weight_behind m (behind here.instance.path name)) (map declaration_of_instance rest))
    (λ name. sum_by (weight_behind m (behind here.instance.path name)) (map declaration_of_instance (i ∷ rest))) first later (omega arith)
    (λ name. omega (arith, sum_by-cons (weight_behind m (behind here.instance.path name)) d (map declaration_of_instance rest)))

instance_item-adds : (modules : List SourceModule) (walker : Walker) → WalkerAdds modules walker → (here : Here) → here.modules ≡ modules →
    (gates : ℕ) (found : Option SourceModule) (place : SourcePlace) (module_name : Identifier)
    (parameters : List SourceConnection) (instances : List SourceInstance) → module_named here.modules module_name ≡ found →
    AllHold (IsKnownIn here.instance.inner) (map declaration_of_instance instances) →
    (parts result : List Part) → walked_instance_item walker here found place parameters instances parts ≡ Ok result → sum_by nodes_of_part parts ≤ most_parts →
    Adds parts result 0 (named_by_item here gates (InstanceItem place module_name parameters instances))
instance_item-adds modules walker adds here same gates None place module_name parameters instances named known parts result e few = absurd (cc)
instance_item-adds modules walker adds here same gates (Some inner) place module_name parameters instances named known parts result e few =
    let wanted = given_parameters here.scope (open_parameters inner) 0 parameters in
    let step = then_go-ok (checked (instance_item_faults here inner parameters instances) wanted) (λ given. walked_instances walker here inner given instances parts) result e in
    let at = named-module modules module_name inner (ap (λ all. module_named all module_name) (sym same) ∙ named) in
    let h = instances-add modules walker adds here inner at.0 at.1 step.0 instances known parts result step.2 few in
    record { few = h.few; more = h.more; named = λ name. omega (arith, h.named name) }

item-adds : (modules : List SourceModule) (walker : Walker) → WalkerAdds modules walker → (here : Here) → here.modules ≡ modules → (gates : ℕ) (item : SourceItem) →
    AllHold (IsKnownIn here.instance.inner) (item_declarations item) →
    (parts result : List Part) → walked_item walker here gates item parts ≡ Ok result → sum_by nodes_of_part parts ≤ most_parts → Adds parts result (gates_in item) (named_by_item here gates item)
item-adds modules walker adds here same gates (InstanceItem place module_name parameters instances) known parts result e few =
    instance_item-adds modules walker adds here same gates (module_named here.modules module_name) place module_name parameters instances refl known parts result e few
item-adds modules walker adds here same gates (ParameterItem group) known parts result e few = plain-adds here gates (ParameterItem group) known parts result e
item-adds modules walker adds here same gates (PortItem group) known parts result e few = plain-adds here gates (PortItem group) known parts result e
item-adds modules walker adds here same gates (WireItem place signed range wires) known parts result e few = plain-adds here gates (WireItem place signed range wires) known parts result e
item-adds modules walker adds here same gates (RegItem place signed range regs) known parts result e few = plain-adds here gates (RegItem place signed range regs) known parts result e
item-adds modules walker adds here same gates (IntegerItem place regs) known parts result e few = plain-adds here gates (IntegerItem place regs) known parts result e
item-adds modules walker adds here same gates (AssignItem place assignments) known parts result e few = plain-adds here gates (AssignItem place assignments) known parts result e
item-adds modules walker adds here same gates (GateItem place kind all) known parts result e few = plain-adds here gates (GateItem place kind all) known parts result e
item-adds modules walker adds here same gates (InitialItem place body) known parts result e few = plain-adds here gates (InitialItem place body) known parts result e
item-adds modules walker adds here same gates (AlwaysItem place body) known parts result e few = plain-adds here gates (AlwaysItem place body) known parts result e

-- the names of some items, from so many gates on
abbrev named_by_items : Here → ℕ → List SourceItem → Identifier → ℕ
named_by_items here gates items name =
    sum_by (weight_behind here.instance.inner (behind here.instance.path name)) (flat_map item_declarations items) + sum_by (gate_weight (behind here.instance.path name))
    (up_from (gates + 1) (sum_by gates_in items))

items-add : (modules : List SourceModule) (walker : Walker) → WalkerAdds modules walker → (here : Here) → here.modules ≡ modules → (gates : ℕ) (items : List SourceItem) →
    AllHold (λ item. AllHold (IsKnownIn here.instance.inner) (item_declarations item)) items →
    (parts result : List Part) → walked_items walker here gates items parts ≡ Ok result → sum_by nodes_of_part parts ≤ most_parts →
    Adds parts result (sum_by gates_in items) (named_by_items here gates items)
items-add modules walker adds here same gates [] known parts result e few = adds-none parts result (named_by_items here gates []) few (same_parts parts result (Ok parts) refl e)
items-add modules walker adds here same gates (item ∷ rest) known parts result e few =
    let step = then_go-ok (walked_item walker here gates item parts) (walked_items walker here (gates + gates_in item) rest) result e in
    let first = item-adds modules walker adds here same gates item known.0 parts step.0 step.1 few in
    let later = items-add modules walker adds here same (gates + gates_in item) rest known.1 step.0 result step.2 first.few in
    adds-then parts step.0 result (gates_in item) (sum_by gates_in rest) (sum_by gates_in (item ∷ rest)) (named_by_item here gates item) (named_by_items here (gates + gates_in item) rest)
    (named_by_items here gates (item ∷ rest)) first later
    (omega (arith, sum_by-cons gates_in item rest))
    (λ name.
    let f = weight_behind here.instance.inner (behind here.instance.path name) in
    let g = gate_weight (behind here.instance.path name) in
    let moved : (gates + 1) + gates_in item ≡ (gates + gates_in item) + 1 = omega arith in
    let numbers : sum_by g (up_from ((gates + 1) + gates_in item) (sum_by gates_in rest)) ≡ sum_by g (up_from ((gates + gates_in item) + 1) (sum_by gates_in rest)) =
    ap (λ s. sum_by g (up_from s (sum_by gates_in rest))) moved in
    let count : sum_by g (up_from (gates + 1) (sum_by gates_in (item ∷ rest))) ≡ sum_by g (up_from (gates + 1) (gates_in item + sum_by gates_in rest)) =
    ap (λ n. sum_by g (up_from (gates + 1) n)) (sum_by-cons gates_in item rest) in
    omega (arith, sum_by-append f (item_declarations item) (flat_map item_declarations rest), sum-up_from g (gates + 1) (gates_in item) (sum_by gates_in rest), numbers, count))

parameters-gateless : (groups : List SourceParameters) → sum_by gates_in (map ParameterItem groups) ≡ 0
parameters-gateless [] = refl
parameters-gateless (group ∷ groups) = omega (arith, sum_by-cons gates_in (ParameterItem group) (map ParameterItem groups), parameters-gateless groups)

at-front : {A : Type 0} (P : A → Type 0) (one other : List A) → AllHold P (one ++ other) → AllHold P one
at-front P [] other h = tt
at-front P (x ∷ one) other h = (h.0, at-front P one other h.1)

at-back : {A : Type 0} (P : A → Type 0) (one other : List A) → AllHold P (one ++ other) → AllHold P other
at-back P [] other h = h
at-back P (x ∷ one) other h = at-back P one other h.1

module-adds : (modules : List SourceModule) → IsNamedUnit modules → (walker : Walker) → WalkerAdds modules walker → (here : Here) → here.modules ≡ modules → IsModule modules here.instance →
    names here.instance.inner here.instance.given ≡ Ok here.scope →
    (parts result : List Part) → walked_module walker here here.instance.inner parts ≡ Ok result → sum_by nodes_of_part parts ≤ most_parts → Adds parts result 0 (begins_at here.instance.path)
module-adds modules unit walker adds here same in_unit named parts result e few =
    let m = here.instance.inner in
    let is = once-in modules unit in_unit.0 m in_unit.1 here.instance.given here.scope named in
    let Known : SourceItem → Type 0 = λ item. AllHold (IsKnownIn m) (item_declarations item) in
    let known : AllHold Known (items_of m) = AllHold-from Known (items_of m) (λ i item at. item-known m here.scope is item (i, at)) in
    let heads = map ParameterItem m.parameters in
    let others = head_items m.heads ++ m.items in
    let s = module-steps walker here m parts result e in
    let first = items-add modules walker adds here same 0 heads (at-front Known heads others known) parts s.behind s.parameters few in
    let second = items-add modules walker adds here same 0 others (at-back Known heads others known) s.behind result s.rest first.few in
    adds-then parts s.behind result (sum_by gates_in heads) (sum_by gates_in others) 0 (named_by_items here 0 heads) (named_by_items here 0 others) (begins_at here.instance.path) first second
    (omega arith)
    (λ name.
    let f = weight_behind m (behind here.instance.path name) in
    let g = gate_weight (behind here.instance.path name) in
    let declared : sum_by f (declarations_of m) ≡ sum_by f (flat_map item_declarations heads) + sum_by f (flat_map item_declarations others) =
    ap (sum_by f) (sym (items-declare m) ∙ flat_map-append item_declarations heads others) ∙ sum_by-append f (flat_map item_declarations heads) (flat_map item_declarations others) in
    let gateless : sum_by g (up_from (0 + 1) (sum_by gates_in heads)) ≡ 0 = ap (λ n. sum_by g (up_from (0 + 1) n)) (parameters-gateless m.parameters) in
    omega (arith, declared, gateless, bound-once m here.scope is (sum_by gates_in others) (omega (arith, second.more, second.few)) (behind here.instance.path name)))

walked-adds : (modules : List SourceModule) → IsNamedUnit modules → (mode : Mode) (levels : ℕ) → WalkerAdds modules (walked modules mode levels)
walked-adds modules unit mode zero = λ instance in_unit parts result e few. adds-none parts result (begins_at instance.path) few (same_parts parts result (Ok parts) refl e)
walked-adds modules unit mode (suc levels) = λ instance in_unit parts result e few.
    let step = then_go-ok (as_refusal (names instance.inner instance.given)) (λ scope. walked_module (walked modules mode levels)
    (record { modules = modules; mode = mode; instance = instance; scope = scope }) instance.inner parts) result e in
    module-adds modules unit (walked modules mode levels) (walked-adds modules unit mode levels) (record { modules = modules; mode = mode; instance = instance; scope = step.0 }) refl in_unit
    (as_refusal-ok (names instance.inner instance.given) step.0 step.1) parts result step.2 few

-- Names differ

label-counted : (part : Part) (name : Identifier) → label part ≡ Some name → 1 ≤ is_named name (label part)
label-counted part name e = let is : is_named name (label part) ≡ 1 = ap (is_named name) e ∙ ap one_if (name-same name) in omega (arith, is)

-- of each name there is one net, variable, memory or gate of a walk at most
pub labels-few : (modules : List SourceModule) → IsNamedUnit modules → (mode : Mode) (top : SourceModule) → (k : ℕ) → slice_get modules k ≡ Some top → (parts : List Part) →
    walked_from modules mode top ≡ Ok parts → (name : Identifier) →
    count_named name parts ≤ 1
labels-few modules unit mode top k at parts e name = let adds = walked-adds modules unit mode (most_depth + 1) (top_entered top) (k, at) [] parts e (omega arith) in adds.named name

-- and so no two have one name
pub labels-once : (modules : List SourceModule) → IsNamedUnit modules → (mode : Mode) (top : SourceModule) → (k : ℕ) → slice_get modules k ≡ Some top → (parts : List Part) →
    walked_from modules mode top ≡ Ok parts →
    (i j : ℕ) (one other : Part) (name : Identifier) → slice_get parts i ≡ Some one → slice_get parts j ≡ Some other → label one ≡ Some name → label other ≡ Some name → i ≡ j
labels-once modules unit mode top k at parts e i j one other name at_one at_other is_one is_other =
    let most = labels-few modules unit mode top k at parts e name in
    let first = label-counted one name is_one in
    let second = label-counted other name is_other in
    let before : i < j → ⊥ = λ less. omega (arith, most, two-counted (λ part. is_named name (label part)) parts i j one other at_one at_other less first second) in
    let behind_it : j < i → ⊥ = λ less. omega (arith, most, two-counted (λ part. is_named name (label part)) parts j i other one at_other at_one less second first) in
    omega (arith, before, behind_it)

part-label : (part : Part) (name : Identifier) → part_name part ≡ Some name → label part ≡ Some name
part-label (SignalPart signal) name e = e
part-label (MemoryPart memory) name e = e
part-label (AssignPart drives value) name e = absurd (cc)
part-label (GatePart own kind drives path terminals) name e = absurd (cc)
part-label (ProcessPart process) name e = absurd (cc)
part-label InstancePart name e = absurd (cc)

-- nor do two nets, variables or memories
pub names-once : (modules : List SourceModule) → IsNamedUnit modules → (mode : Mode) (top : SourceModule) → (k : ℕ) → slice_get modules k ≡ Some top → (parts : List Part) →
    walked_from modules mode top ≡ Ok parts →
    (i j : ℕ) (one other : Part) (name : Identifier) → slice_get parts i ≡ Some one → slice_get parts j ≡ Some other → part_name one ≡ Some name → part_name other ≡ Some name → i ≡ j
names-once modules unit mode top k at parts e i j one other name at_one at_other is_one is_other =
    labels-once modules unit mode top k at parts e i j one other name at_one at_other (part-label one name is_one) (part-label other name is_other)
