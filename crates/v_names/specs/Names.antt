-- The scope of a module with given parameters (IEEE 1364-2001, clause 12.2 for parameters, clause 12.3 for ports, clause 12.5 for scopes).
use Rattle.std.specs.Prelude.{ℕ, zero, suc, ◌+◌, Bool, true, false, not, ◌&&◌, ◌||◌, List, [], ◌∷◌, ◌++◌, map, filter, length, flat_map, Option, Some, None, Result, nat_lt, nat_eq, if◌then◌else◌}
use Rattle.vf_base.specs.Base.{SourcePlace}
use Rattle.vf_base.specs.declared.limits.TheConstants.{MAX_KEPT_BOUND}
use Rattle.four_value.specs.Values.{resized}
use Rattle.v_design.specs.Sized.{span, most_bits}
use Rattle.v_tree.specs.declared.item.Direction.{Direction}
use Rattle.v_tree.specs.Trees.{Identifier, SourceExpression, SourceTarget, selects_of, SourceEntry, SourceWaits, OnAnyRead, OnEntries, SourceStatement, NullStatement, BlockStatement, IfStatement}
use Rattle.v_tree.specs.Trees.{IfElseStatement, CaseStatement, ForStatement, WhileStatement, RepeatStatement, ForeverStatement, WaitStatement, EventStatement, DelayStatement, BlockingStatement}
use Rattle.v_tree.specs.Trees.{NonblockingStatement, IgnoredTask, FinishTask, SourceStatements, no_source_statements, more_source_statements, SourceCaseItems, no_source_items, labelled, otherwise}
use Rattle.v_tree.specs.Trees.{NamedPlace, SourceRange, SourceParameter, SourceParameters, SourcePorts, SourceWire, SourceContent, NoContent, FirstContent, MemoryBounds, SourceReg, SourceAssignment}
use Rattle.v_tree.specs.Trees.{SourceGate, SourceConnection, SourceInstance, SourceItem, ParameterItem, PortItem, WireItem, RegItem, IntegerItem, AssignItem, GateItem, InstanceItem, InitialItem}
use Rattle.v_tree.specs.Trees.{AlwaysItem, SourceHeads, PlainHeads, DeclaredHeads, SourceModule, same_name}
use Rattle.v_names.specs.Faults.{DeclaredTwice, Fault, fault_if, unless_faulty}
use Rattle.v_names.specs.Scopes.{SignedValue, DeclaredRange, ScopeEntry, ParameterEntry, RefusedParameter, WaitingParameter, NetEntry, RegEntry, MemoryEntry, GateEntry, InstanceEntry, Scope}
use Rattle.v_names.specs.Scopes.{looked_up}
use Rattle.v_names.specs.Readings.{number_of_constant, constant_of, number_or, is_empty}
use Rattle.v_names.specs.Constants.{AnyValue, ParameterValue, DelayValue, most_bound, most_address, some_waiting, value_faults_within, constant_name_faults, constant_faults, name_faults}
use Rattle.v_names.specs.Constants.{part_faults, optional_faults, bound_faults, fixed_select_faults, select_faults, known_faults}

-- Declarations

-- the declared bounds: none, those of an `integer`, or a range
pub data Bounds : Type 0 where
  Unbounded : Bounds
  IntegerBounds : Bounds
  RangeBounds : (range : SourceRange) → Bounds

pub data Declared : Type 0 where
  DeclaredParameter : (is_local signed : Bool) (bounds : Bounds) (value : SourceExpression) → Declared
  DeclaredPort : (direction : Direction) (is_reg signed : Bool) (bounds : Bounds) (first : Option SourceExpression) → Declared
  DeclaredNet : (signed : Bool) (bounds : Bounds) → Declared
  DeclaredReg : (signed : Bool) (bounds : Bounds) (first : Option SourceExpression) → Declared
  DeclaredMemory : (signed : Bool) (bounds : Bounds) (addresses : SourceRange) → Declared
  DeclaredGate : Declared
  DeclaredInstance : Declared

pub record Declaration : Type 0 where
  pub name : Identifier
  pub place : SourcePlace
  pub declared : Declared

abbrev pub bounds_of : Option SourceRange → Bounds
bounds_of None = Unbounded
bounds_of (Some range) = RangeBounds range

abbrev pub parameter_declarations : SourceParameters → List Declaration
parameter_declarations group =
    map (λ (p : SourceParameter). record { name = p.name; place = p.place; declared = DeclaredParameter group.is_local group.signed (bounds_of group.range) p.value }) group.parameters

abbrev pub port_declarations : SourcePorts → List Declaration
port_declarations group =
    map (λ (n : NamedPlace). record { name = n.name; place = n.place; declared = DeclaredPort group.direction group.is_reg group.signed (bounds_of group.range) None }) group.names

abbrev pub reg_declared : Bool → Bounds → SourceContent → Declared
reg_declared signed bounds NoContent = DeclaredReg signed bounds None
reg_declared signed bounds (FirstContent value) = DeclaredReg signed bounds (Some value)
reg_declared signed bounds (MemoryBounds addresses) = DeclaredMemory signed bounds addresses

abbrev pub reg_declarations : Bool → Bounds → List SourceReg → List Declaration
reg_declarations signed bounds regs = map (λ (r : SourceReg). record { name = r.name; place = r.place; declared = reg_declared signed bounds r.content }) regs

abbrev pub gate_declarations : List SourceGate → List Declaration
gate_declarations [] = []
gate_declarations (gate ∷ gates) = of_name gate.name ++ gate_declarations gates
  where
    of_name : Option NamedPlace → List Declaration
    of_name None = []
    of_name (Some n) = record { name = n.name; place = n.place; declared = DeclaredGate } ∷ []

-- what an item declares
abbrev pub item_declarations : SourceItem → List Declaration
item_declarations (ParameterItem group) = parameter_declarations group
item_declarations (PortItem group) = port_declarations group
item_declarations (WireItem place signed range wires) = map (λ (w : SourceWire). record { name = w.name; place = w.place; declared = DeclaredNet signed (bounds_of range) }) wires
item_declarations (RegItem place signed range regs) = reg_declarations signed (bounds_of range) regs
item_declarations (IntegerItem place regs) = reg_declarations true IntegerBounds regs
item_declarations (AssignItem place assignments) = []
item_declarations (GateItem place kind gates) = gate_declarations gates
item_declarations (InstanceItem place module_name parameters instances) = map (λ (i : SourceInstance). record { name = i.name; place = i.place; declared = DeclaredInstance }) instances
item_declarations (InitialItem place body) = []
item_declarations (AlwaysItem place body) = []

abbrev pub head_declarations : SourceHeads → List Declaration
head_declarations (PlainHeads names) = []
head_declarations (DeclaredHeads groups) = flat_map port_declarations groups

-- what a module declares, in text order
abbrev pub declarations_of : SourceModule → List Declaration
declarations_of m = flat_map parameter_declarations m.parameters ++ (head_declarations m.heads ++ flat_map item_declarations m.items)

-- Ports that are declared once more

abbrev pub is_port : Declared → Bool
is_port (DeclaredPort direction is_reg signed bounds first) = true
is_port _ = false

abbrev pub is_integer : Bounds → Bool
is_integer IntegerBounds = true
is_integer _ = false

-- a `reg` or a `wire`, no memory and no `integer`
abbrev pub is_plain : Declared → Bool
is_plain (DeclaredNet signed bounds) = true
is_plain (DeclaredReg signed bounds first) = not (is_integer bounds)
is_plain _ = false

abbrev pub of_name : Identifier → List Declaration → List Declaration
of_name name declarations = filter (λ (d : Declaration). same_name d.name name) declarations

abbrev pub plain_of_name : Identifier → List Declaration → List Declaration
plain_of_name name declarations = filter (λ (d : Declaration). is_plain d.declared) (of_name name declarations)

-- a port that is declared once more is a variable or signed if either declaration says so, and takes the first content
abbrev pub joined_declared : Declared → List Declaration → Declared
joined_declared d [] = d
joined_declared (DeclaredPort direction is_reg signed bounds first) (again ∷ others) = with_again again.declared
  where
    with_again : Declared → Declared
    with_again (DeclaredNet signed' bounds') = DeclaredPort direction is_reg (signed || signed') bounds first
    with_again (DeclaredReg signed' bounds' first') = DeclaredPort direction true (signed || signed') bounds first'
    with_again _ = DeclaredPort direction is_reg signed bounds first
joined_declared d (again ∷ others) = d

abbrev pub joined_declaration : List Declaration → Declaration → Declaration
joined_declaration all d = record { name = d.name; place = d.place; declared = joined_declared d.declared (plain_of_name d.name all) }

-- the first declaration of each name, with what a second one adds
abbrev pub first_of_name : Bool → Declaration → List Declaration → List Declaration
first_of_name true d rest = d ∷ rest
first_of_name false d rest = rest

abbrev pub first_declarations : List Declaration → List Declaration → List Declaration → List Declaration
first_declarations all earlier [] = []
first_declarations all earlier (d ∷ rest) =
    first_of_name (is_empty (of_name d.name earlier)) (joined_declaration all d) (first_declarations all (d ∷ earlier) rest)

abbrev pub names_declared : SourceModule → List Declaration
names_declared m = first_declarations (declarations_of m) [] (declarations_of m)

-- What each name means

-- a parameter that an instance sets
pub record GivenParameter : Type 0 where
  pub name : Identifier
  pub given : SignedValue

abbrev pub given_if : Bool → SignedValue → Option SignedValue → Option SignedValue
given_if true value other = Some value
given_if false value other = other

abbrev pub given_of : List GivenParameter → Identifier → Option SignedValue
given_of [] name = None
given_of (first ∷ given) name = given_if (same_name first.name name) first.given (given_of given name)

-- a bound that has no number counts as 0
abbrev pub bound_number : Scope → SourceExpression → ℕ
bound_number scope e = number_or 0 (number_of_constant scope e)

abbrev pub range_of : Scope → Bounds → DeclaredRange
range_of scope Unbounded = record { ranged = false; high = 0; low = 0 }
range_of scope IntegerBounds = record { ranged = true; high = 31; low = 0 }
range_of scope (RangeBounds range) = record { ranged = true; high = bound_number scope range.high; low = bound_number scope range.low }

abbrev pub bounds_wait : Scope → Bounds → Bool
bounds_wait scope Unbounded = false
bounds_wait scope IntegerBounds = false
bounds_wait scope (RangeBounds range) = some_waiting scope range.high || some_waiting scope range.low

-- a parameter with a range has its width and is signed where it says so; one without has those of its value
abbrev pub parameter_by_range : Bool → DeclaredRange → SignedValue → ScopeEntry
parameter_by_range signed range c = by_range range.ranged (nat_lt most_bits (span range.high range.low))
  where
    by_range : Bool → Bool → ScopeEntry
    by_range false too_wide = ParameterEntry c.value (signed || c.signed)
    by_range true true = RefusedParameter
    by_range true false = ParameterEntry (resized c.signed (span range.high range.low) c.value) signed

abbrev pub parameter_entry : Bool → DeclaredRange → Option SignedValue → ScopeEntry
parameter_entry signed range None = RefusedParameter
parameter_entry signed range (Some c) = parameter_by_range signed range c

abbrev pub waiting_or : Bool → ScopeEntry → ScopeEntry
waiting_or true entry = WaitingParameter
waiting_or false entry = entry

-- the width that is the context of a parameter's own expression
abbrev pub context_width : DeclaredRange → ℕ
context_width range = by_range range.ranged (nat_lt most_bits (span range.high range.low))
  where
    by_range : Bool → Bool → ℕ
    by_range true false = span range.high range.low
    by_range true true = 0
    by_range false too_wide = 0

-- a parameter's value: what the instance gives, else that of its expression
abbrev pub parameter_of : Scope → Bool → Bounds → SourceExpression → Option SignedValue → ScopeEntry
parameter_of scope signed bounds value (Some c) = waiting_or (bounds_wait scope bounds) (parameter_entry signed (range_of scope bounds) (Some c))
parameter_of scope signed bounds value None =
    waiting_or (bounds_wait scope bounds || some_waiting scope value)
    (parameter_entry signed (range_of scope bounds) (constant_of scope (context_width (range_of scope bounds)) value))

-- a bound of a net, a variable or a memory is kept as a number of 32 bits; a greater one is refused, and counts as 0
abbrev pub most_kept : ℕ
most_kept = MAX_KEPT_BOUND

abbrev pub kept_bound : ℕ → ℕ
kept_bound n = if nat_lt most_kept n then 0 else n

abbrev pub kept_range : DeclaredRange → DeclaredRange
kept_range range = record { ranged = range.ranged; high = kept_bound range.high; low = kept_bound range.low }

abbrev pub vector_entry : Bool → DeclaredRange → Bool → ScopeEntry
vector_entry true range signed = RegEntry (kept_range range) signed
vector_entry false range signed = NetEntry (kept_range range) signed

abbrev pub memory_entry : DeclaredRange → ℕ → ℕ → Bool → ScopeEntry
memory_entry range first last signed = MemoryEntry (kept_range range) (kept_bound first) (kept_bound last) signed

-- what a declaration means, by the parameters of a scope
abbrev pub meaning_of : Scope → List GivenParameter → Identifier → Declared → ScopeEntry
meaning_of scope given name (DeclaredParameter is_local signed bounds value) = parameter_of scope signed bounds value (given_of given name)
meaning_of scope given name (DeclaredPort direction is_reg signed bounds first) = vector_entry is_reg (range_of scope bounds) signed
meaning_of scope given name (DeclaredNet signed bounds) = vector_entry false (range_of scope bounds) signed
meaning_of scope given name (DeclaredReg signed bounds first) = vector_entry true (range_of scope bounds) signed
meaning_of scope given name (DeclaredMemory signed bounds addresses) = memory_entry (range_of scope bounds) (bound_number scope addresses.high) (bound_number scope addresses.low) signed
meaning_of scope given name DeclaredGate = GateEntry
meaning_of scope given name DeclaredInstance = InstanceEntry

abbrev pub meanings : Scope → List GivenParameter → List Declaration → Scope
meanings scope given declarations = map (λ (d : Declaration). record { name = d.name; entry = meaning_of scope given d.name d.declared }) declarations

abbrev pub is_parameter_declared : Declared → Bool
is_parameter_declared (DeclaredParameter is_local signed bounds value) = true
is_parameter_declared _ = false

-- at the start no parameter has a value
abbrev pub waiting_entry : Declared → ScopeEntry
waiting_entry (DeclaredParameter is_local signed bounds value) = WaitingParameter
waiting_entry _ = GateEntry

abbrev pub waiting_scope : List Declaration → Scope
waiting_scope declarations = map (λ (d : Declaration). record { name = d.name; entry = waiting_entry d.declared }) declarations

-- a parameter gets its value once those that it names have theirs
abbrev pub scope_after : ℕ → List GivenParameter → List Declaration → Scope
scope_after zero given declarations = waiting_scope declarations
scope_after (suc rounds) given declarations = meanings (scope_after rounds given declarations) given declarations

abbrev pub parameter_count : List Declaration → ℕ
parameter_count declarations = length (filter (λ (d : Declaration). is_parameter_declared d.declared) declarations)

-- the scope of a module: after as many rounds as it has parameters only those are waiting that rest on themselves; one more gives the ranges
abbrev pub scope_of : SourceModule → List GivenParameter → Scope
scope_of m given = let declarations = names_declared m in scope_after (parameter_count declarations + 1) given declarations

-- What is wrong with the names of a module

abbrev pub declared_bounds : Declared → Bounds
declared_bounds (DeclaredParameter is_local signed bounds value) = bounds
declared_bounds (DeclaredPort direction is_reg signed bounds first) = bounds
declared_bounds (DeclaredNet signed bounds) = bounds
declared_bounds (DeclaredReg signed bounds first) = bounds
declared_bounds (DeclaredMemory signed bounds addresses) = bounds
declared_bounds DeclaredGate = Unbounded
declared_bounds DeclaredInstance = Unbounded

-- whether two ranges have equal bounds, or neither has any
abbrev pub same_range : DeclaredRange → DeclaredRange → Bool
same_range one other = (not one.ranged && not other.ranged) || (one.ranged && other.ranged && nat_eq one.high other.high && nat_eq one.low other.low)

-- whether a declaration may follow the earlier ones of its name: it is the first one, or declares a port once more, with the same range
abbrev pub may_follow : Scope → List Declaration → Declaration → Bool
may_follow scope [] d = true
may_follow scope (port ∷ []) d = is_port port.declared && is_plain d.declared && same_range (range_of scope (declared_bounds port.declared)) (range_of scope (declared_bounds d.declared))
may_follow scope (d' ∷ d'' ∷ rest) d = false

abbrev pub twice_faults : Scope → List Declaration → List Declaration → List Fault
twice_faults scope earlier [] = []
twice_faults scope earlier (d ∷ rest) = fault_if (not (may_follow scope (of_name d.name earlier) d)) d.place DeclaredTwice ++ twice_faults scope (d ∷ earlier) rest

-- a name in the list of ports must be declared, and stands there once
abbrev pub head_faults : Scope → List NamedPlace → List NamedPlace → List Fault
head_faults scope earlier [] = []
head_faults scope earlier (head ∷ rest) =
    (known_faults (looked_up scope head.name) head.place ++ fault_if (not (is_empty (filter (λ (n : NamedPlace). same_name n.name head.name) earlier))) head.place DeclaredTwice)
    ++ head_faults scope (head ∷ earlier) rest

abbrev pub heads_faults : Scope → SourceHeads → List Fault
heads_faults scope (PlainHeads names) = head_faults scope [] names
heads_faults scope (DeclaredHeads groups) = flat_map (λ (g : SourcePorts). optional_faults (bound_faults scope most_bound) g.range) groups

abbrev pub entry_faults : Scope → SourceWaits → List Fault
entry_faults scope OnAnyRead = []
entry_faults scope (OnEntries entries) = flat_map (λ (e : SourceEntry). fixed_select_faults scope e.select) entries

abbrev pub target_faults : Scope → SourceTarget → List Fault
target_faults scope target = flat_map (select_faults scope) (selects_of target)

-- the target of a net
abbrev pub fixed_target_faults : Scope → SourceTarget → List Fault
fixed_target_faults scope target = flat_map (fixed_select_faults scope) (selects_of target)

abbrev mutual
  pub statement_name_faults : Scope → SourceStatement → List Fault
  statement_name_faults scope (NullStatement place) = []
  statement_name_faults scope (BlockStatement place statements) = statements_name_faults scope statements
  statement_name_faults scope (IfStatement place condition first) = name_faults scope condition ++ statement_name_faults scope first
  statement_name_faults scope (IfElseStatement place condition first second) = name_faults scope condition ++ (statement_name_faults scope first ++ statement_name_faults scope second)
  statement_name_faults scope (CaseStatement place kind value items) = name_faults scope value ++ case_name_faults scope items
  statement_name_faults scope (ForStatement place first_target first condition next_target next body) =
      target_faults scope first_target ++ (name_faults scope first ++ (name_faults scope condition
      ++ (target_faults scope next_target ++ (name_faults scope next ++ statement_name_faults scope body))))
  statement_name_faults scope (WhileStatement place condition body) = name_faults scope condition ++ statement_name_faults scope body
  statement_name_faults scope (RepeatStatement place count body) = name_faults scope count ++ statement_name_faults scope body
  statement_name_faults scope (ForeverStatement place body) = statement_name_faults scope body
  statement_name_faults scope (WaitStatement place condition body) = name_faults scope condition ++ statement_name_faults scope body
  statement_name_faults scope (EventStatement place waits body) = entry_faults scope waits ++ statement_name_faults scope body
  statement_name_faults scope (DelayStatement place delay body) = constant_faults scope DelayValue delay ++ statement_name_faults scope body
  statement_name_faults scope (BlockingStatement place target delay value) = target_faults scope target ++ (optional_faults (constant_faults scope DelayValue) delay ++ name_faults scope value)
  statement_name_faults scope (NonblockingStatement place target delay value) = target_faults scope target ++ (optional_faults (constant_faults scope DelayValue) delay ++ name_faults scope value)
  statement_name_faults scope (IgnoredTask place) = []
  statement_name_faults scope (FinishTask place) = []

  pub statements_name_faults : Scope → SourceStatements → List Fault
  statements_name_faults scope no_source_statements = []
  statements_name_faults scope (more_source_statements first rest) = statement_name_faults scope first ++ statements_name_faults scope rest

  pub case_name_faults : Scope → SourceCaseItems → List Fault
  case_name_faults scope no_source_items = []
  case_name_faults scope (labelled labels statement rest) = part_faults scope labels ++ (statement_name_faults scope statement ++ case_name_faults scope rest)
  case_name_faults scope (otherwise statement rest) = statement_name_faults scope statement ++ case_name_faults scope rest

abbrev pub content_faults : Scope → SourceContent → List Fault
content_faults scope NoContent = []
content_faults scope (FirstContent value) = constant_faults scope AnyValue value
content_faults scope (MemoryBounds addresses) = bound_faults scope most_address addresses

-- a parameter's own expression has the parameter's range as its context
abbrev pub parameter_faults_within : ℕ → Scope → SourceParameter → List Fault
parameter_faults_within width scope p = constant_name_faults scope p.value ++ value_faults_within width scope ParameterValue p.value

abbrev pub parameters_faults : Scope → SourceParameters → List Fault
parameters_faults scope group =
    optional_faults (bound_faults scope most_bound) group.range
    ++ flat_map (parameter_faults_within (context_width (range_of scope (bounds_of group.range))) scope) group.parameters

abbrev pub gate_name_faults : Scope → SourceGate → List Fault
gate_name_faults scope gate = fixed_target_faults scope gate.output ++ flat_map (name_faults scope) gate.inputs

abbrev pub actual_faults : Scope → SourceConnection → List Fault
actual_faults scope connection = optional_faults (name_faults scope) connection.actual

-- what is wrong with the names and the constants of an item
abbrev pub item_name_faults : Scope → SourceItem → List Fault
item_name_faults scope (ParameterItem group) = parameters_faults scope group
item_name_faults scope (PortItem group) = optional_faults (bound_faults scope most_bound) group.range
item_name_faults scope (WireItem place signed range wires) = optional_faults (bound_faults scope most_bound) range ++ flat_map (λ (w : SourceWire). optional_faults (name_faults scope) w.value) wires
item_name_faults scope (RegItem place signed range regs) = optional_faults (bound_faults scope most_bound) range ++ flat_map (λ (r : SourceReg). content_faults scope r.content) regs
item_name_faults scope (IntegerItem place regs) = flat_map (λ (r : SourceReg). content_faults scope r.content) regs
item_name_faults scope (AssignItem place assignments) = flat_map (λ (a : SourceAssignment). fixed_target_faults scope a.target ++ name_faults scope a.value) assignments
item_name_faults scope (GateItem place kind gates) = flat_map (gate_name_faults scope) gates
item_name_faults scope (InstanceItem place module_name parameters instances) =
    flat_map (λ (c : SourceConnection). optional_faults (constant_faults scope ParameterValue) c.actual) parameters
    ++ flat_map (λ (i : SourceInstance). flat_map (actual_faults scope) i.connections) instances
item_name_faults scope (InitialItem place body) = statement_name_faults scope body
item_name_faults scope (AlwaysItem place body) = statement_name_faults scope body

-- what is wrong with the names of a module
abbrev pub module_name_faults : Scope → SourceModule → List Fault
module_name_faults scope m =
    twice_faults scope [] (declarations_of m)
    ++ (flat_map (parameters_faults scope) m.parameters ++ (heads_faults scope m.heads ++ flat_map (item_name_faults scope) m.items))

-- the scope of a module, or the first thing that is wrong with its names
abbrev pub names : SourceModule → List GivenParameter → Result Scope Fault
names m given = let scope = scope_of m given in unless_faulty (module_name_faults scope m) scope
