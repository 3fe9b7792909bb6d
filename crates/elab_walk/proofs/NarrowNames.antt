-- What an item declares has no more bits than a vector may have, where nothing is wrong with the names of its module and with the item (IEEE 1364-2001, clause 3.3; clause
-- 12.3.3 for ports that are declared once more).
use Rattle.std.proofs.Common.{◌≡◌, ℕ, zero, suc, ◌≤◌, Bool, true, false, ◌&&◌, List, [], ◌∷◌, ◌++◌, Option, Some, None, Ok, flat_map, cond, nat_eq, option_map, refl, sym, ap, ap₂, ◌∙◌, subst, arith}
use Rattle.std.specs.Prelude.{slice_get, not}
use Rattle.std.proofs.lemmas.Bool.{eqb-true}
use Rattle.vf_base.specs.Lists.{AllHold}
use Rattle.v_design.specs.Sized.{most_bits}
use Rattle.v_tree.specs.Trees.{Identifier, SourceItem, SourceModule, same_name}
use Rattle.v_names.specs.Faults.{DeclaredTwice, fault_if}
use Rattle.v_names.specs.Scopes.{DeclaredRange, ScopeEntry, ParameterEntry, RefusedParameter, WaitingParameter, NetEntry, RegEntry, MemoryEntry, GateEntry, InstanceEntry, Scope, looked_up, range_width}
use Rattle.v_names.specs.Scopes.{declared_width, is_parameter}
use Rattle.v_names.specs.Readings.{is_empty}
use Rattle.v_names.specs.SizedLaws.{and-left, and-right}
use Rattle.v_names.specs.Meanings.{found, in-meanings}
use Rattle.v_names.specs.Names.{Bounds, Unbounded, IntegerBounds, RangeBounds, Declared, DeclaredParameter, DeclaredPort, DeclaredNet, DeclaredReg, DeclaredMemory, DeclaredGate, DeclaredInstance}
use Rattle.v_names.specs.Names.{Declaration, GivenParameter, is_port, is_plain, of_name, plain_of_name, joined_declared, joined_declaration, first_of_name, first_declarations, names_declared}
use Rattle.v_names.specs.Names.{declarations_of, item_declarations, given_of, range_of, bound_number, kept_range, meaning_of, meanings, scope_of, declared_bounds, same_range, may_follow, twice_faults}
use Rattle.v_names.specs.Names.{parameters_faults, heads_faults, item_name_faults, module_name_faults, names}
use Rattle.v_elab.specs.ItemFaults.{item_faults}
use Rattle.graph_order.specs.ListLaws.{AllHold-slice_get}
use Rattle.flat_laws.specs.Lists.{same_some, AllHold-from}
use Rattle.flat_laws.specs.Sizes.Complete.{append-none, fault_if-none}
use Rattle.flat_laws.specs.Hierarchy.Given.{equal-name, name-same}
use Rattle.flat_laws.specs.Hierarchy.Walks.{items_of, IsOf}
use Rattle.flat_laws.specs.Hierarchy.Processes.{unless_faulty-ok, items-named}
use Rattle.flat_laws.specs.Names.Declared.{items-declare}
use Rattle.flat_laws.specs.Names.Placed.{at-flat, is-parameter}
use Rattle.flat_laws.specs.Names.Rounds.{scope-fixed}
use Rattle.flat_laws.specs.Names.Faultless.{HasBounds, IsFaultless, item-declares, bounds-fit}

-- Bounds

-- a port that is declared once more keeps its bounds
again-bounds : (declared : Declared) (again : Declaration) (kind : Declared) (others : List Declaration) →
    declared_bounds (joined_declared declared (record again { declared = kind } ∷ others)) ≡ declared_bounds declared
again-bounds (DeclaredPort direction is_reg signed bounds first) again (DeclaredNet signed' bounds') others = refl
again-bounds (DeclaredPort direction is_reg signed bounds first) again (DeclaredReg signed' bounds' first') others = refl
again-bounds (DeclaredPort direction is_reg signed bounds first) again (DeclaredParameter is_local signed' bounds' value) others = refl
again-bounds (DeclaredPort direction is_reg signed bounds first) again (DeclaredPort direction' is_reg' signed' bounds' first') others = refl
again-bounds (DeclaredPort direction is_reg signed bounds first) again (DeclaredMemory signed' bounds' addresses) others = refl
again-bounds (DeclaredPort direction is_reg signed bounds first) again DeclaredGate others = refl
again-bounds (DeclaredPort direction is_reg signed bounds first) again DeclaredInstance others = refl
again-bounds (DeclaredParameter is_local signed bounds value) again kind others = refl
again-bounds (DeclaredNet signed bounds) again kind others = refl
again-bounds (DeclaredReg signed bounds first) again kind others = refl
again-bounds (DeclaredMemory signed bounds addresses) again kind others = refl
again-bounds DeclaredGate again kind others = refl
again-bounds DeclaredInstance again kind others = refl

joined-bounds : (declared : Declared) (others : List Declaration) → declared_bounds (joined_declared declared others) ≡ declared_bounds declared
joined-bounds declared [] = refl
joined-bounds declared (again ∷ others) = again-bounds declared again again.declared others

abbrev ranged : ℕ → ℕ → DeclaredRange
ranged high low = record { ranged = true; high = high; low = low }

same-ranged : (high low high' low' : ℕ) → (nat_eq high high' && nat_eq low low') ≡ true → ranged high low ≡ ranged high' low'
same-ranged high low high' low' e =
    ap₂ ranged (eqb-true high high' (and-left (nat_eq high high') (nat_eq low low') e)) (eqb-true low low' (and-right (nat_eq high high') (nat_eq low low') e))

-- ranges that are the same have the same bounds
same-bounds : (scope : Scope) (one other : Bounds) → same_range (range_of scope one) (range_of scope other) ≡ true → range_of scope one ≡ range_of scope other
same-bounds scope Unbounded Unbounded e = refl
same-bounds scope Unbounded IntegerBounds e = absurd (cc)
same-bounds scope Unbounded (RangeBounds range) e = absurd (cc)
same-bounds scope IntegerBounds Unbounded e = absurd (cc)
same-bounds scope IntegerBounds IntegerBounds e = refl
same-bounds scope IntegerBounds (RangeBounds range) e = same-ranged 31 0 (bound_number scope range.high) (bound_number scope range.low) e
same-bounds scope (RangeBounds range) Unbounded e = absurd (cc)
same-bounds scope (RangeBounds range) IntegerBounds e = same-ranged (bound_number scope range.high) (bound_number scope range.low) 31 0 e
same-bounds scope (RangeBounds one) (RangeBounds other) e =
    same-ranged (bound_number scope one.high) (bound_number scope one.low) (bound_number scope other.high) (bound_number scope other.low) e

-- Declarations of one name

abbrev own_range : Scope → Declaration → DeclaredRange
own_range scope d = range_of scope (declared_bounds d.declared)

not-false : (b : Bool) → not b ≡ false → b ≡ true
not-false true e = refl
not-false false e = absurd (cc)

-- a declaration that may follow another one has its range
follows-one : (scope : Scope) (earlier : List Declaration) (d : Declaration) → may_follow scope earlier d ≡ true → (i : ℕ) (x : Declaration) → slice_get earlier i ≡ Some x →
    own_range scope x ≡ own_range scope d
follows-one scope [] d e i x at = absurd (cc)
follows-one scope (port ∷ []) d e zero x at =
    ap (own_range scope) (sym (same_some port x at))
    ∙ same-bounds scope (declared_bounds port.declared) (declared_bounds d.declared)
    (and-right (is_port port.declared && is_plain d.declared) (same_range (own_range scope port) (own_range scope d)) e)
follows-one scope (port ∷ []) d e (suc i) x at = absurd (cc)
follows-one scope (port ∷ other ∷ rest) d e i x at = absurd (cc)

there-later : (b : Bool) (y : Declaration) (xs : List Declaration) (i : ℕ) (x : Declaration) → slice_get xs i ≡ Some x → (j : ℕ) × (slice_get (cond b (y ∷ xs) xs) j ≡ Some x)
there-later true y xs i x at = (suc i, at)
there-later false y xs i x at = (i, at)

-- what is wrong with the first of some declarations and with the others
twice-split : (scope : Scope) (earlier : List Declaration) (y : Declaration) (rest : List Declaration) → twice_faults scope earlier (y ∷ rest) ≡ [] →
    (may_follow scope (of_name y.name earlier) y ≡ true) × (twice_faults scope (y ∷ earlier) rest ≡ [])
twice-split scope earlier y rest none =
    let test = not (may_follow scope (of_name y.name earlier) y) in
    let both = append-none (fault_if test y.place DeclaredTwice) (twice_faults scope (y ∷ earlier) rest) none in
    (not-false (may_follow scope (of_name y.name earlier) y) (fault_if-none test y.place DeclaredTwice both.0), both.1)

-- a declaration has the range of each earlier one of its name
follows : (scope : Scope) (rest earlier : List Declaration) → twice_faults scope earlier rest ≡ [] → (k : ℕ) (d : Declaration) → slice_get rest k ≡ Some d → (i : ℕ) (x : Declaration) →
    slice_get (of_name d.name earlier) i ≡ Some x → own_range scope x ≡ own_range scope d
follows scope [] earlier none k d at i x there = absurd (cc)
follows scope (y ∷ rest) earlier none zero d at i x there =
    let same = same_some y d at in
    follows-one scope (of_name y.name earlier) y (twice-split scope earlier y rest none).0 i x (ap (λ (z : Declaration). slice_get (of_name z.name earlier) i) same ∙ there)
    ∙ ap (own_range scope) same
follows scope (y ∷ rest) earlier none (suc k) d at i x there =
    let later = there-later (same_name y.name d.name) y (of_name d.name earlier) i x there in
    follows scope rest (y ∷ earlier) (twice-split scope earlier y rest none).1 k d at later.0 x later.1

-- the first declaration of a name is what the name is found as
abbrev IsFirst : Scope → List Declaration → Declaration → Type 0
IsFirst scope firsts d = (first : Declaration) × (found firsts d.name ≡ Some first) × (own_range scope first ≡ own_range scope d)

found-here : (all : List Declaration) (x : Declaration) (rest earlier : List Declaration) → of_name x.name earlier ≡ [] →
    found (first_declarations all earlier (x ∷ rest)) x.name ≡ Some (joined_declaration all x)
found-here all x rest earlier new =
    let more = first_declarations all (x ∷ earlier) rest in
    ap (λ (xs : List Declaration). found (first_of_name (is_empty xs) (joined_declaration all x) more) x.name) new
    ∙ ap (λ b. cond b (Some (joined_declaration all x)) (found more x.name)) (name-same x.name)

found-past : (b : Bool) (y : Declaration) (more : List Declaration) (name : Identifier) → same_name y.name name ≡ false → found (first_of_name b y more) name ≡ found more name
found-past true y more name e = ap (λ b. cond b (Some y) (found more name)) e
found-past false y more name e = refl

joined-range : (scope : Scope) (all : List Declaration) (x : Declaration) → own_range scope (joined_declaration all x) ≡ own_range scope x
joined-range scope all x = ap (range_of scope) (joined-bounds x.declared (plain_of_name x.name all))

-- the first declaration of a name has the range of each one of it
first-range : (scope : Scope) (all rest earlier : List Declaration) → twice_faults scope earlier rest ≡ [] → (k : ℕ) (d : Declaration) → slice_get rest k ≡ Some d → of_name d.name earlier ≡ [] →
    IsFirst scope (first_declarations all earlier rest) d
first-range scope all [] earlier none k d at new = absurd (cc)
first-range scope all (x ∷ rest) earlier none zero d at new =
    let same = same_some x d at in
    let here = found-here all x rest earlier (ap (λ (z : Declaration). of_name z.name earlier) same ∙ new) in
    (joined_declaration all x, ap (λ (z : Declaration). found (first_declarations all earlier (x ∷ rest)) z.name) (sym same) ∙ here, joined-range scope all x ∙ ap (own_range scope) same)
first-range scope all (x ∷ rest) earlier none (suc k) d at new =
    let later = (twice-split scope earlier x rest none).1 in
    by_test (same_name x.name d.name) refl later (λ new'. first-range scope all rest (x ∷ earlier) later k d at new')
  where
    by_test : (b : Bool) → same_name x.name d.name ≡ b → twice_faults scope (x ∷ earlier) rest ≡ [] →
        (of_name d.name (x ∷ earlier) ≡ [] → IsFirst scope (first_declarations all (x ∷ earlier) rest) d) → IsFirst scope (first_declarations all earlier (x ∷ rest)) d
    by_test true s later more =
        let same = equal-name x.name d.name s in
        let here = found-here all x rest earlier (ap (λ n. of_name n earlier) same ∙ new) in
        let there = ap (λ b. slice_get (cond b (x ∷ of_name d.name earlier) (of_name d.name earlier)) 0) s in (
          joined_declaration all x,
          ap (found (first_declarations all earlier (x ∷ rest))) (sym same) ∙ here,
          joined-range scope all x ∙ follows scope rest (x ∷ earlier) later k d at 0 x there,
        )
    by_test false s later more =
        let r = more (ap (λ b. cond b (x ∷ of_name d.name earlier) (of_name d.name earlier)) s ∙ new) in
        (r.0, found-past (is_empty (of_name x.name earlier)) (joined_declaration all x) (first_declarations all (x ∷ earlier) rest) d.name s ∙ r.1, r.2)

-- Widths

parameter-narrow : (e : Option ScopeEntry) → is_parameter e ≡ true → declared_width e ≤ most_bits
parameter-narrow (Some (ParameterEntry value signed)) e = omega arith
parameter-narrow (Some RefusedParameter) e = omega arith
parameter-narrow (Some WaitingParameter) e = omega arith
parameter-narrow (Some (NetEntry range signed)) e = absurd (cc)
parameter-narrow (Some (RegEntry range signed)) e = absurd (cc)
parameter-narrow (Some (MemoryEntry range first last signed)) e = absurd (cc)
parameter-narrow (Some GateEntry) e = absurd (cc)
parameter-narrow (Some InstanceEntry) e = absurd (cc)
parameter-narrow None e = absurd (cc)

meaning-narrow : (scope : Scope) (given : List GivenParameter) (name : Identifier) (declared : Declared) → range_width (kept_range (range_of scope (declared_bounds declared))) ≤ most_bits →
    declared_width (Some (meaning_of scope given name declared)) ≤ most_bits
meaning-narrow scope given name (DeclaredParameter is_local signed bounds value) h =
    parameter-narrow (Some (meaning_of scope given name (DeclaredParameter is_local signed bounds value))) (is-parameter scope signed bounds value (given_of given name))
meaning-narrow scope given name (DeclaredPort direction true signed bounds first) h = h
meaning-narrow scope given name (DeclaredPort direction false signed bounds first) h = h
meaning-narrow scope given name (DeclaredNet signed bounds) h = h
meaning-narrow scope given name (DeclaredReg signed bounds first) h = h
meaning-narrow scope given name (DeclaredMemory signed bounds addresses) h = h
meaning-narrow scope given name DeclaredGate h = omega arith
meaning-narrow scope given name DeclaredInstance h = omega arith

has-bounds : (scope : Scope) (declared : Declared) → IsFaultless scope declared → HasBounds scope (declared_bounds declared)
has-bounds scope (DeclaredParameter is_local signed bounds value) h = h.0
has-bounds scope (DeclaredPort direction is_reg signed bounds first) h = h
has-bounds scope (DeclaredNet signed bounds) h = h
has-bounds scope (DeclaredReg signed bounds first) h = h
has-bounds scope (DeclaredMemory signed bounds addresses) h = h
has-bounds scope DeclaredGate h = tt
has-bounds scope DeclaredInstance h = tt

-- Items

-- nothing is wrong with how often the names of a module that has a scope are declared
names-apart : (m : SourceModule) (given : List GivenParameter) (scope : Scope) → names m given ≡ Ok scope → twice_faults scope [] (declarations_of m) ≡ []
names-apart m given scope named =
    let ok = unless_faulty-ok (module_name_faults (scope_of m given) m) (scope_of m given) scope named in
    (append-none (twice_faults scope [] (declarations_of m)) (flat_map (parameters_faults scope) m.parameters ++ (heads_faults scope m.heads ++ flat_map (item_name_faults scope) m.items))
    (ap (λ s. module_name_faults s m) (sym ok.1) ∙ ok.0)).0

-- a name means its first declaration
name-means : (m : SourceModule) (given : List GivenParameter) (scope : Scope) → names m given ≡ Ok scope → (name : Identifier) →
    looked_up scope name ≡ option_map (λ (d : Declaration). meaning_of scope given d.name d.declared) (found (names_declared m) name)
name-means m given scope named name =
    let same = (unless_faulty-ok (module_name_faults (scope_of m given) m) (scope_of m given) scope named).1 in
    let fixed : scope ≡ meanings scope given (names_declared m) = sym same ∙ scope-fixed m given ∙ ap (λ s. meanings s given (names_declared m)) same in
    ap (λ s. looked_up s name) fixed ∙ in-meanings scope given (names_declared m) name

-- a declaration of a module of which nothing is wrong
declaration-narrow : (m : SourceModule) (given : List GivenParameter) (scope : Scope) → names m given ≡ Ok scope → (k : ℕ) (d : Declaration) → slice_get (declarations_of m) k ≡ Some d →
    IsFaultless scope d.declared → declared_width (looked_up scope d.name) ≤ most_bits
declaration-narrow m given scope named k d at faultless =
    let r = first-range scope (declarations_of m) (declarations_of m) [] (names-apart m given scope named) k d at refl in
    let width : range_width (kept_range (own_range scope r.0)) ≤ most_bits = subst (λ (own : DeclaredRange). range_width (kept_range own) ≤ most_bits) (sym r.2)
    (bounds-fit scope (declared_bounds d.declared) (has-bounds scope d.declared faultless)) in
    let is = name-means m given scope named d.name ∙ ap (option_map (λ (f : Declaration). meaning_of scope given f.name f.declared)) r.1 in
    subst (λ (e : Option ScopeEntry). declared_width e ≤ most_bits) (sym is) (meaning-narrow scope given r.0.name r.0.declared width)

pub item-narrow : (m : SourceModule) (given : List GivenParameter) (scope : Scope) → names m given ≡ Ok scope → (item : SourceItem) → IsOf m item → item_faults scope item ≡ [] →
    AllHold (λ (d : Declaration). declared_width (looked_up scope d.name) ≤ most_bits) (item_declarations item)
item-narrow m given scope named item of none =
    let faultless = item-declares scope item (items-named m given scope named item of) none in
    AllHold-from (λ (d : Declaration). declared_width (looked_up scope d.name) ≤ most_bits) (item_declarations item)
    (λ i d at.
    let place = at-flat item_declarations (items_of m) of.0 item i d of.1 at in
    declaration-narrow m given scope named place.0 d (ap (λ (l : List Declaration). slice_get l place.0) (sym (items-declare m)) ∙ place.1)
    (AllHold-slice_get (λ (own : Declaration). IsFaultless scope own.declared) (item_declarations item) i d faultless at))
