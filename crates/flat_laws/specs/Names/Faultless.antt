-- Nothing is wrong with what the modules of a walk declare: ranges are no wider than vectors may be, and the expressions of parameters are constants (IEEE 1364-2001, clause 3.3 and clause 12.2).
use Rattle.std.proofs.Common.{◌≡◌, ℕ, ◌≤◌, Bool, true, false, ◌&&◌, ◌||◌, List, [], ◌∷◌, Option, Some, None, Ok, refl, sym, ap, ap₂, ◌∙◌, subst, inl, inr, arith}
use Rattle.std.specs.Prelude.{slice_get, flat_map, nat_lt, if◌then◌else◌}
use Rattle.std.proofs.lemmas.Bool.{cases_Bool, ltb-true, ltb-false}
use Rattle.vf_base.specs.Lists.{AllHold}
use Rattle.v_design.specs.Sized.{span, most_bits}
use Rattle.v_tree.specs.Trees.{SourceExpression, NamedPlace, SourceRange, SourceParameter, SourceWire, SourceContent, NoContent, FirstContent, MemoryBounds, SourceReg, SourceGate, SourceInstance}
use Rattle.v_tree.specs.Trees.{SourceItem, ParameterItem, PortItem, WireItem, RegItem, IntegerItem, AssignItem, GateItem, InstanceItem, InitialItem, AlwaysItem, SourceModule, place_of_expression}
use Rattle.four_value.specs.Values.{natural_number}
use Rattle.v_names.specs.Faults.{NoConstant, BadWidth, fault_if}
use Rattle.v_names.specs.Scopes.{SignedValue, DeclaredRange, Scope, range_width}
use Rattle.v_names.specs.Readings.{is_empty, natural_constant, number_or, constant_of}
use Rattle.v_names.specs.Constants.{ParameterValue, BoundUpTo, most_bound, exceeds, is_unfit_if_some, all_parameters, some_waiting, value_faults_within, value_faults, constant_name_faults}
use Rattle.v_names.specs.Constants.{constant_faults, optional_faults, bound_faults}
use Rattle.v_names.specs.Names.{Bounds, Unbounded, IntegerBounds, RangeBounds, bounds_of, Declared, DeclaredParameter, DeclaredPort, DeclaredNet, DeclaredReg, DeclaredMemory, DeclaredGate}
use Rattle.v_names.specs.Names.{DeclaredInstance, Declaration, reg_declared, reg_declarations, gate_declarations, item_declarations, declarations_of, plain_of_name, joined_declared, names_declared}
use Rattle.v_names.specs.Names.{GivenParameter}
use Rattle.v_names.specs.Names.{bound_number, range_of, most_kept, kept_bound, kept_range, bounds_wait, context_width, parameter_faults_within, item_name_faults, content_faults, names}
use Rattle.v_elab.specs.declared.Mode.{Mode}
use Rattle.v_elab.specs.ItemFaults.{size_faults, bounds_size_faults, bound_of, range_faults, declared_range_faults, wire_faults, content_size_faults, item_faults}
use Rattle.v_elab.specs.Parts.{Part}
use Rattle.v_elab.specs.Walk.{Entered, walked_from}
use Rattle.graph_order.specs.ListLaws.{AllHold-slice_get}
use Rattle.flat_laws.specs.Numbered.{AllHold-map, AllHold-all}
use Rattle.flat_laws.specs.Sizes.Complete.{append-none, fault_if-none, or-none, and-none}
use Rattle.flat_laws.specs.Hierarchy.Walks.{IsOf}
use Rattle.flat_laws.specs.Hierarchy.Processes.{items-named}
use Rattle.flat_laws.specs.Hierarchy.Visits.{IsVisited}
use Rattle.flat_laws.specs.Names.Declared.{declaration-item, first-of, item-there}
use Rattle.flat_laws.specs.Names.Valued.{names-parameters, constant-ready}

-- nothing is wrong with declared bounds
abbrev pub HasBounds : Scope → Bounds → Type 0
HasBounds scope Unbounded = Unit {0}
HasBounds scope IntegerBounds = Unit {0}
HasBounds scope (RangeBounds range) = (bound_faults scope most_bound range ≡ []) × (range_faults scope range ≡ [])

-- nor with what is declared
abbrev pub IsFaultless : Scope → Declared → Type 0
IsFaultless scope (DeclaredParameter is_local signed bounds value) =
    HasBounds scope bounds × (constant_name_faults scope value ≡ []) × (value_faults_within (context_width (range_of scope bounds)) scope ParameterValue value ≡ []) × (size_faults scope value ≡ [])
IsFaultless scope (DeclaredPort direction is_reg signed bounds first) = HasBounds scope bounds
IsFaultless scope (DeclaredNet signed bounds) = HasBounds scope bounds
IsFaultless scope (DeclaredReg signed bounds first) = HasBounds scope bounds
IsFaultless scope (DeclaredMemory signed bounds addresses) = HasBounds scope bounds
IsFaultless scope DeclaredGate = Unit {0}
IsFaultless scope DeclaredInstance = Unit {0}

-- Items

has-bounds : (scope : Scope) (range : Option SourceRange) → optional_faults (bound_faults scope most_bound) range ≡ [] → declared_range_faults scope range ≡ [] → HasBounds scope (bounds_of range)
has-bounds scope None names sizes = tt
has-bounds scope (Some range) names sizes = (names, sizes)

parameters-faultless : (scope : Scope) (is_local signed : Bool) (bounds : Bounds) → HasBounds scope bounds → (parameters : List SourceParameter) →
    flat_map (parameter_faults_within (context_width (range_of scope bounds)) scope) parameters ≡ [] → flat_map (λ (p : SourceParameter). size_faults scope p.value) parameters ≡ [] →
    AllHold (λ (p : SourceParameter). IsFaultless scope (DeclaredParameter is_local signed bounds p.value)) parameters
parameters-faultless scope is_local signed bounds h [] names sizes = tt
parameters-faultless scope is_local signed bounds h (p ∷ parameters) names sizes =
    let width = context_width (range_of scope bounds) in
    let n = append-none (parameter_faults_within width scope p) (flat_map (parameter_faults_within width scope) parameters) names in
    let s = append-none (size_faults scope p.value) (flat_map (λ (q : SourceParameter). size_faults scope q.value) parameters) sizes in
    let own = append-none (constant_name_faults scope p.value) (value_faults_within width scope ParameterValue p.value) n.0 in
    ((h, own.0, own.1, s.0), parameters-faultless scope is_local signed bounds h parameters n.1 s.1)

content-faultless : (scope : Scope) (signed : Bool) (bounds : Bounds) → HasBounds scope bounds → (content : SourceContent) → IsFaultless scope (reg_declared signed bounds content)
content-faultless scope signed bounds h NoContent = h
content-faultless scope signed bounds h (FirstContent value) = h
content-faultless scope signed bounds h (MemoryBounds addresses) = h

regs-faultless : (scope : Scope) (signed : Bool) (bounds : Bounds) → HasBounds scope bounds → (regs : List SourceReg) →
    AllHold (λ (d : Declaration). IsFaultless scope d.declared) (reg_declarations signed bounds regs)
regs-faultless scope signed bounds h [] = tt
regs-faultless scope signed bounds h (r ∷ regs) = (content-faultless scope signed bounds h r.content, regs-faultless scope signed bounds h regs)

gate-faultless : (scope : Scope) (gate : SourceGate) (name : Option NamedPlace) (gates : List SourceGate) → AllHold (λ (d : Declaration). IsFaultless scope d.declared) (gate_declarations gates) →
    AllHold (λ (d : Declaration). IsFaultless scope d.declared) (gate_declarations (record gate { name = name } ∷ gates))
gate-faultless scope gate None gates h = h
gate-faultless scope gate (Some n) gates h = (tt, h)

gates-faultless : (scope : Scope) (gates : List SourceGate) → AllHold (λ (d : Declaration). IsFaultless scope d.declared) (gate_declarations gates)
gates-faultless scope [] = tt
gates-faultless scope (gate ∷ gates) = gate-faultless scope gate gate.name gates (gates-faultless scope gates)

-- nothing is wrong with what an item declares, if nothing is with the item
pub item-declares : (scope : Scope) (item : SourceItem) → item_name_faults scope item ≡ [] → item_faults scope item ≡ [] →
    AllHold (λ (d : Declaration). IsFaultless scope d.declared) (item_declarations item)
item-declares scope (ParameterItem group) names sizes =
    let bounds = bounds_of group.range in
    let width = context_width (range_of scope bounds) in
    let n = append-none (optional_faults (bound_faults scope most_bound) group.range) (flat_map (parameter_faults_within width scope) group.parameters) names in
    let s = append-none (declared_range_faults scope group.range) (flat_map (λ (p : SourceParameter). size_faults scope p.value) group.parameters) sizes in
    AllHold-map (λ (d : Declaration). IsFaultless scope d.declared) _ group.parameters (parameters-faultless scope group.is_local group.signed bounds
    (has-bounds scope group.range n.0 s.0) group.parameters n.1 s.1)
item-declares scope (PortItem group) names sizes =
    let bounds = has-bounds scope group.range names sizes in AllHold-map (λ (d : Declaration). IsFaultless scope d.declared) _ group.names (AllHold-all _ group.names (λ (n : NamedPlace). bounds))
item-declares scope (WireItem place signed range wires) names sizes =
    let n = append-none (optional_faults (bound_faults scope most_bound) range) _ names in
    let s = append-none (declared_range_faults scope range) (flat_map (wire_faults scope) wires) sizes in
    let bounds = has-bounds scope range n.0 s.0 in
    AllHold-map (λ (d : Declaration). IsFaultless scope d.declared) _ wires (AllHold-all _ wires (λ (w : SourceWire). bounds))
item-declares scope (RegItem place signed range regs) names sizes =
    let n = append-none (optional_faults (bound_faults scope most_bound) range) (flat_map (λ (r : SourceReg). content_faults scope r.content) regs) names in
    let s = append-none (declared_range_faults scope range) (flat_map (λ (r : SourceReg). content_size_faults scope r.content) regs) sizes in
    regs-faultless scope signed (bounds_of range) (has-bounds scope range n.0 s.0) regs
item-declares scope (IntegerItem place regs) names sizes = regs-faultless scope true IntegerBounds tt regs
item-declares scope (AssignItem place assignments) names sizes = tt
item-declares scope (GateItem place kind gates) names sizes = gates-faultless scope gates
item-declares scope (InstanceItem place module_name parameters instances) names sizes =
    AllHold-map (λ (d : Declaration). IsFaultless scope d.declared) _ instances (AllHold-all _ instances (λ (i : SourceInstance). tt))
item-declares scope (InitialItem place body) names sizes = tt
item-declares scope (AlwaysItem place body) names sizes = tt

-- Declarations of a module

again-faultless : (scope : Scope) (declared : Declared) (again : Declaration) (kind : Declared) (others : List Declaration) → IsFaultless scope declared →
    IsFaultless scope (joined_declared declared (record again { declared = kind } ∷ others))
again-faultless scope (DeclaredPort direction is_reg signed bounds first) again (DeclaredNet signed' bounds') others h = h
again-faultless scope (DeclaredPort direction is_reg signed bounds first) again (DeclaredReg signed' bounds' first') others h = h
again-faultless scope (DeclaredPort direction is_reg signed bounds first) again (DeclaredParameter is_local signed' bounds' value) others h = h
again-faultless scope (DeclaredPort direction is_reg signed bounds first) again (DeclaredPort direction' is_reg' signed' bounds' first') others h = h
again-faultless scope (DeclaredPort direction is_reg signed bounds first) again (DeclaredMemory signed' bounds' addresses) others h = h
again-faultless scope (DeclaredPort direction is_reg signed bounds first) again DeclaredGate others h = h
again-faultless scope (DeclaredPort direction is_reg signed bounds first) again DeclaredInstance others h = h
again-faultless scope (DeclaredParameter is_local signed bounds value) again kind others h = h
again-faultless scope (DeclaredNet signed bounds) again kind others h = h
again-faultless scope (DeclaredReg signed bounds first) again kind others h = h
again-faultless scope (DeclaredMemory signed bounds addresses) again kind others h = h
again-faultless scope DeclaredGate again kind others h = h
again-faultless scope DeclaredInstance again kind others h = h

-- a port that is declared once more keeps its bounds
joined-faultless : (scope : Scope) (declared : Declared) (others : List Declaration) → IsFaultless scope declared → IsFaultless scope (joined_declared declared others)
joined-faultless scope declared [] h = h
joined-faultless scope declared (again ∷ others) h = again-faultless scope declared again again.declared others h

-- nothing is wrong with an item of an instance that a walk comes to
pub item-faultless : (modules : List SourceModule) (mode : Mode) (top : SourceModule) (parts : List Part) → walked_from modules mode top ≡ Ok parts → (instance : Entered) →
    IsVisited modules mode top instance → (scope : Scope) →
    names instance.inner instance.given ≡ Ok scope → (item : SourceItem) → IsOf instance.inner item → item_faults scope item ≡ []
item-faultless modules mode top parts e instance visited scope named (InstanceItem place module_name parameters instances) of = refl
item-faultless modules mode top parts e instance visited scope named (ParameterItem group) of = (item-there modules mode top parts e instance visited scope named (ParameterItem group) of tt).faultless
item-faultless modules mode top parts e instance visited scope named (PortItem group) of = (item-there modules mode top parts e instance visited scope named (PortItem group) of tt).faultless
item-faultless modules mode top parts e instance visited scope named (WireItem place signed range wires) of =
    (item-there modules mode top parts e instance visited scope named (WireItem place signed range wires) of tt).faultless
item-faultless modules mode top parts e instance visited scope named (RegItem place signed range regs) of =
    (item-there modules mode top parts e instance visited scope named (RegItem place signed range regs) of tt).faultless
item-faultless modules mode top parts e instance visited scope named (IntegerItem place regs) of =
    (item-there modules mode top parts e instance visited scope named (IntegerItem place regs) of tt).faultless
item-faultless modules mode top parts e instance visited scope named (AssignItem place assignments) of =
    (item-there modules mode top parts e instance visited scope named (AssignItem place assignments) of tt).faultless
item-faultless modules mode top parts e instance visited scope named (GateItem place kind gates) of =
    (item-there modules mode top parts e instance visited scope named (GateItem place kind gates) of tt).faultless
item-faultless modules mode top parts e instance visited scope named (InitialItem place body) of =
    (item-there modules mode top parts e instance visited scope named (InitialItem place body) of tt).faultless
item-faultless modules mode top parts e instance visited scope named (AlwaysItem place body) of =
    (item-there modules mode top parts e instance visited scope named (AlwaysItem place body) of tt).faultless

-- nothing is wrong with what a module declares, if nothing is with its items
pub module-faultless : (m : SourceModule) (given : List GivenParameter) (scope : Scope) → names m given ≡ Ok scope → ((item : SourceItem) → IsOf m item → item_faults scope item ≡ []) →
    (number : ℕ) (d : Declaration) → slice_get (names_declared m) number ≡ Some d → IsFaultless scope d.declared
module-faultless m given scope named none number d at =
    let own = first-of (declarations_of m) [] (declarations_of m) number d at in
    let item = declaration-item m own.0 own.1 own.2 in
    let names_none = items-named m given scope named item.0 item.1 in
    let own_none = AllHold-slice_get (λ (other : Declaration). IsFaultless scope other.declared) (item_declarations item.0) item.2.0 own.1
    (item-declares scope item.0 names_none (none item.0 item.1)) item.2.1 in
    subst (λ (other : Declaration). IsFaultless scope other.declared) own.3 (joined-faultless scope own.1.declared (plain_of_name own.1.name (declarations_of m)) own_none)

-- nor with what its module declares
pub declared-faultless : (modules : List SourceModule) (mode : Mode) (top : SourceModule) (parts : List Part) → walked_from modules mode top ≡ Ok parts → (instance : Entered) →
    IsVisited modules mode top instance → (scope : Scope) →
    names instance.inner instance.given ≡ Ok scope → (number : ℕ) (d : Declaration) → slice_get (names_declared instance.inner) number ≡ Some d → IsFaultless scope d.declared
declared-faultless modules mode top parts e instance visited scope named number d at =
    module-faultless instance.inner instance.given scope named (item-faultless modules mode top parts e instance visited scope named) number d at

-- Bounds

-- no name in such bounds waits
pub bounds-ready : (scope : Scope) (bounds : Bounds) → HasBounds scope bounds → bounds_wait scope bounds ≡ false
bounds-ready scope Unbounded h = refl
bounds-ready scope IntegerBounds h = refl
bounds-ready scope (RangeBounds range) h =
    let both = append-none (constant_faults scope (BoundUpTo most_bound) range.high) (constant_faults scope (BoundUpTo most_bound) range.low) h.0 in
    let high = append-none (constant_name_faults scope range.high) (value_faults scope (BoundUpTo most_bound) range.high) both.0 in
    let low = append-none (constant_name_faults scope range.low) (value_faults scope (BoundUpTo most_bound) range.low) both.1 in
    ap (λ b. b || some_waiting scope range.low) (constant-ready 0 scope (BoundUpTo most_bound) range.high high.0 high.1) ∙ constant-ready 0 scope (BoundUpTo most_bound) range.low low.0 low.1

-- such bounds span no more bits than a vector may have
pub bounds-narrow : (scope : Scope) (bounds : Bounds) → HasBounds scope bounds → nat_lt most_bits (range_width (range_of scope bounds)) ≡ false
bounds-narrow scope Unbounded h = refl
bounds-narrow scope IntegerBounds h = refl
bounds-narrow scope (RangeBounds range) h =
    let sizes = bounds_size_faults scope range in
    let wide = nat_lt most_bits (span (bound_of scope range.high) (bound_of scope range.low)) in
    let none = append-none sizes (fault_if (is_empty sizes && wide) range.place BadWidth) h.1 in
    and-none (is_empty sizes) wide (ap is_empty none.0) (fault_if-none (is_empty sizes && wide) range.place BadWidth none.1)

-- the number of a bound of which nothing is wrong is within its limit
number-fits : (limit : ℕ) (number : Option ℕ) → exceeds limit number ≡ false → number_or 0 number ≤ limit
number-fits limit None e = absurd (cc)
number-fits limit (Some n) e = ltb-false limit n e

value-fits : (limit : ℕ) (c : Option SignedValue) → is_unfit_if_some (BoundUpTo limit) c ≡ false → number_or 0 (natural_constant c) ≤ limit
value-fits limit None e = omega arith
value-fits limit (Some c) e = number-fits limit (natural_number c.signed c.value) e

pub bound-fits : (scope : Scope) (limit : ℕ) (e : SourceExpression) → constant_faults scope (BoundUpTo limit) e ≡ [] → bound_number scope e ≤ limit
bound-fits scope limit e h =
    let none = append-none (constant_name_faults scope e) (value_faults scope (BoundUpTo limit) e) h in
    let unfit = is_unfit_if_some (BoundUpTo limit) (constant_of scope 0 e) in
    let test = fault_if-none (all_parameters scope e && (some_waiting scope e || unfit)) (place_of_expression e) NoConstant none.1 in
    value-fits limit (constant_of scope 0 e) (or-none (some_waiting scope e) unfit (and-none (all_parameters scope e) (some_waiting scope e || unfit) (names-parameters scope e none.0) test))

kept-number : (n : ℕ) → n ≤ most_bound → kept_bound n ≡ n
kept-number n h =
    elim (cases_Bool (nat_lt most_kept n)) [
      | inl more ↦ let less = ltb-true most_kept n more in absurd (omega (arith, less, h))
      | inr other ↦ ap (λ b. if b then 0 else n) other
    ]

-- such bounds are kept as they are
kept-bounds : (scope : Scope) (bounds : Bounds) → HasBounds scope bounds → kept_range (range_of scope bounds) ≡ range_of scope bounds
kept-bounds scope Unbounded h = refl
kept-bounds scope IntegerBounds h = refl
kept-bounds scope (RangeBounds range) h =
    let both = append-none (constant_faults scope (BoundUpTo most_bound) range.high) (constant_faults scope (BoundUpTo most_bound) range.low) h.0 in
    ap₂ (λ (high low : ℕ). let r : DeclaredRange = record { ranged = true; high = high; low = low } in r) (kept-number (bound_number scope range.high) (bound-fits scope most_bound range.high both.0))
    (kept-number (bound_number scope range.low) (bound-fits scope most_bound range.low both.1))

pub bounds-fit : (scope : Scope) (bounds : Bounds) → HasBounds scope bounds → range_width (kept_range (range_of scope bounds)) ≤ most_bits
bounds-fit scope bounds h =
    let fits = ltb-false most_bits (range_width (range_of scope bounds)) (bounds-narrow scope bounds h) in
    subst (λ (r : DeclaredRange). range_width r ≤ most_bits) (sym (kept-bounds scope bounds h)) fits
