-- What is wrong with the sizes and the kinds of names of an item (IEEE 1364-2001, clause 4.4 for sizes, clause 6.1 for assignments, clause 7.1 for gates, clause 9 for statements).
use Rattle.std.specs.Prelude.{ℕ, Bool, true, false, not, ◌&&◌, ◌||◌, List, [], ◌∷◌, ◌++◌, map, filter, flat_map, Option, Some, None, nat_eq, nat_lt}
use Rattle.v_design.specs.Sized.{span, most_bits}
use Rattle.v_tree.specs.Trees.{SourceExpression, NoIndex, SourceExpressions, no_parts, more_parts, SourceSelect, SourceTarget, OneSelect, SourceEntry, SourceWaits, OnAnyRead, OnEntries}
use Rattle.v_tree.specs.Trees.{SourceStatement, NullStatement, BlockStatement, IfStatement, IfElseStatement, CaseStatement, ForStatement, WhileStatement, RepeatStatement, ForeverStatement}
use Rattle.v_tree.specs.Trees.{WaitStatement, EventStatement, DelayStatement, BlockingStatement, NonblockingStatement, IgnoredTask, FinishTask, SourceStatements, no_source_statements}
use Rattle.v_tree.specs.Trees.{more_source_statements, SourceCaseItems, no_source_items, labelled, otherwise, NamedPlace, SourceRange, SourceParameter, SourceWire, SourceContent, NoContent}
use Rattle.v_tree.specs.Trees.{FirstContent, MemoryBounds, SourceReg, SourceAssignment, SourceGate, SourceItem, ParameterItem, PortItem, WireItem, RegItem, IntegerItem, AssignItem, GateItem}
use Rattle.v_tree.specs.Trees.{InstanceItem, InitialItem, AlwaysItem, place_of_expression, place_of_target, named_in}
use Rattle.v_names.specs.Faults.{BadWidth, BadConnection, WrongKind, Fault, fault_at, fault_if}
use Rattle.v_names.specs.Scopes.{Scope, looked_up, is_parameter, is_memory}
use Rattle.v_names.specs.Readings.{Reading, alone_faults, group_faults, reading_of, select_reading, number_of_constant, number_or, is_empty}
use Rattle.v_names.specs.Constants.{optional_faults}
use Rattle.v_width.specs.Targets.{Writer, ByNode, ByProcess, target_reading, assignment_faults, target_alone_faults, width_of_size}

-- an expression that is sized alone
abbrev pub size_faults : Scope → SourceExpression → List Fault
size_faults scope e = alone_faults (reading_of scope e)

-- the bounds of a range
abbrev pub bounds_size_faults : Scope → SourceRange → List Fault
bounds_size_faults scope range = size_faults scope range.high ++ size_faults scope range.low

abbrev pub bound_of : Scope → SourceExpression → ℕ
bound_of scope e = number_or 0 (number_of_constant scope e)

-- a range is at most as wide as a vector may be
abbrev pub range_faults : Scope → SourceRange → List Fault
range_faults scope range =
    bounds_size_faults scope range
    ++ fault_if (is_empty (bounds_size_faults scope range) && nat_lt most_bits (span (bound_of scope range.high) (bound_of scope range.low))) range.place BadWidth

abbrev pub declared_range_faults : Scope → Option SourceRange → List Fault
declared_range_faults scope range = optional_faults (range_faults scope) range

-- a target and its value are sized together
abbrev pub assigned_faults : Writer → Scope → SourceTarget → SourceExpression → List Fault
assigned_faults writer scope target value = assignment_faults (target_reading writer scope target) (reading_of scope value)

-- Gates

abbrev pub is_not_one : Option ℕ → Bool
is_not_one None = false
is_not_one (Some width) = not (nat_eq width 1)

-- a terminal has one bit
abbrev pub output_faults : Scope → SourceTarget → List Fault
output_faults scope target =
    let reading = target_reading ByNode scope target in
    target_alone_faults reading ++ fault_if (is_not_one reading.width) (place_of_target target) BadConnection

abbrev pub terminal_faults : Scope → SourceExpression → List Fault
terminal_faults scope e =
    let reading = reading_of scope e in
    alone_faults reading ++ fault_if (is_not_one (width_of_size reading.size)) (place_of_expression e) BadConnection

abbrev pub gate_faults : Scope → SourceGate → List Fault
gate_faults scope gate = output_faults scope gate.output ++ flat_map (terminal_faults scope) gate.inputs

-- Statements

-- a `wait` may not read a memory
abbrev pub memory_faults : Scope → SourceExpression → List Fault
memory_faults scope e = map (λ (n : NamedPlace). fault_at n.place WrongKind) (filter (λ (n : NamedPlace). is_memory (looked_up scope n.name)) (named_in e))

abbrev pub wait_faults : Scope → SourceExpression → List Fault
wait_faults scope condition =
    let reading = reading_of scope condition in
    group_faults (memory_faults scope condition ++ reading.here) reading.inside

-- an entry of an event control is no parameter and no memory
abbrev pub entry_select_faults : Scope → SourceSelect → List Fault
entry_select_faults scope select = by_kind (is_parameter (looked_up scope select.name) || is_memory (looked_up scope select.name))
  where
    by_kind : Bool → List Fault
    by_kind true = fault_at select.place WrongKind ∷ []
    by_kind false = alone_faults (select_reading scope select.place select.name select.index)

abbrev pub waits_faults : Scope → SourceWaits → List Fault
waits_faults scope OnAnyRead = []
waits_faults scope (OnEntries entries) = flat_map (λ (e : SourceEntry). entry_select_faults scope e.select) entries

-- what is wrong with the sizes of expressions in a group: here, and inside
pub record GroupFaults : Type 0 where
  pub here : List Fault
  pub inside : List Fault

abbrev pub with_reading : Reading → GroupFaults → GroupFaults
with_reading reading group = record { here = reading.here ++ group.here; inside = reading.inside ++ group.inside }

abbrev pub labels_faults : Scope → SourceExpressions → GroupFaults → GroupFaults
labels_faults scope no_parts group = group
labels_faults scope (more_parts label rest) group = with_reading (reading_of scope label) (labels_faults scope rest group)

abbrev pub items_labels_faults : Scope → SourceCaseItems → GroupFaults
items_labels_faults scope no_source_items = record { here = []; inside = [] }
items_labels_faults scope (labelled labels statement rest) = labels_faults scope labels (items_labels_faults scope rest)
items_labels_faults scope (otherwise statement rest) = items_labels_faults scope rest

-- a case sizes its expression and all labels together
abbrev pub case_faults : Scope → SourceExpression → SourceCaseItems → List Fault
case_faults scope value items = let group = with_reading (reading_of scope value) (items_labels_faults scope items) in group_faults group.here group.inside

abbrev mutual
  pub statement_faults : Scope → SourceStatement → List Fault
  statement_faults scope (NullStatement place) = []
  statement_faults scope (BlockStatement place statements) = statements_faults scope statements
  statement_faults scope (IfStatement place condition first) = size_faults scope condition ++ statement_faults scope first
  statement_faults scope (IfElseStatement place condition first second) = size_faults scope condition ++ (statement_faults scope first ++ statement_faults scope second)
  statement_faults scope (CaseStatement place kind value items) = case_faults scope value items ++ items_faults scope items
  statement_faults scope (ForStatement place first_target first condition next_target next body) =
      assigned_faults ByProcess scope first_target first ++ (size_faults scope condition ++ (assigned_faults ByProcess scope next_target next ++ statement_faults scope body))
  statement_faults scope (WhileStatement place condition body) = size_faults scope condition ++ statement_faults scope body
  statement_faults scope (RepeatStatement place count body) = size_faults scope count ++ statement_faults scope body
  statement_faults scope (ForeverStatement place body) = statement_faults scope body
  statement_faults scope (WaitStatement place condition body) = wait_faults scope condition ++ statement_faults scope body
  statement_faults scope (EventStatement place waits body) = waits_faults scope waits ++ statement_faults scope body
  statement_faults scope (DelayStatement place delay body) = size_faults scope delay ++ statement_faults scope body
  statement_faults scope (BlockingStatement place target delay value) = assigned_faults ByProcess scope target value ++ optional_faults (size_faults scope) delay
  statement_faults scope (NonblockingStatement place target delay value) = assigned_faults ByProcess scope target value ++ optional_faults (size_faults scope) delay
  statement_faults scope (IgnoredTask place) = []
  statement_faults scope (FinishTask place) = []

  pub statements_faults : Scope → SourceStatements → List Fault
  statements_faults scope no_source_statements = []
  statements_faults scope (more_source_statements first rest) = statement_faults scope first ++ statements_faults scope rest

  pub items_faults : Scope → SourceCaseItems → List Fault
  items_faults scope no_source_items = []
  items_faults scope (labelled labels statement rest) = statement_faults scope statement ++ items_faults scope rest
  items_faults scope (otherwise statement rest) = statement_faults scope statement ++ items_faults scope rest

-- Items

abbrev pub content_size_faults : Scope → SourceContent → List Fault
content_size_faults scope NoContent = []
content_size_faults scope (FirstContent value) = size_faults scope value
content_size_faults scope (MemoryBounds addresses) = bounds_size_faults scope addresses

abbrev pub wire_select : SourceWire → SourceTarget
wire_select wire = OneSelect (record { place = wire.place; name = wire.name; index = NoIndex })

abbrev pub wire_faults : Scope → SourceWire → List Fault
wire_faults scope wire = optional_faults (assigned_faults ByNode scope (wire_select wire)) wire.value

-- what is wrong with an item that is no instance
abbrev pub item_faults : Scope → SourceItem → List Fault
item_faults scope (ParameterItem group) = declared_range_faults scope group.range ++ flat_map (λ (p : SourceParameter). size_faults scope p.value) group.parameters
item_faults scope (PortItem group) = declared_range_faults scope group.range
item_faults scope (WireItem place signed range wires) = declared_range_faults scope range ++ flat_map (wire_faults scope) wires
item_faults scope (RegItem place signed range regs) = declared_range_faults scope range ++ flat_map (λ (r : SourceReg). content_size_faults scope r.content) regs
item_faults scope (IntegerItem place regs) = flat_map (λ (r : SourceReg). content_size_faults scope r.content) regs
item_faults scope (AssignItem place assignments) = flat_map (λ (a : SourceAssignment). assigned_faults ByNode scope a.target a.value) assignments
item_faults scope (GateItem place kind gates) = flat_map (gate_faults scope) gates
item_faults scope (InstanceItem place module_name parameters instances) = []
item_faults scope (InitialItem place body) = statement_faults scope body
item_faults scope (AlwaysItem place body) = statement_faults scope body
