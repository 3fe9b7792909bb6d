-- How many objects a node reads by the declarations of the names in its text, before nets are cut into pieces (own: IEEE 1364-2001 has no such limit).
use Rattle.std.specs.Prelude.{ℕ, ◌+◌, Bool, List, [], ◌∷◌, ◌++◌, map, flat_map, sum_by, Option, Some, None, nat_lt}
use Rattle.std.specs.List.{list_any}
use Rattle.v_design.specs.Sized.{span}
use Rattle.v_design.specs.WellFormed.{most_inputs}
use Rattle.v_tree.specs.declared.item.Direction.{Direction}
use Rattle.v_tree.specs.declared.item.Direction.TheVariants.{Input, Output}
use Rattle.v_tree.specs.Trees.{Identifier, SourceExpression, SourceStatement, EventStatement, SourceWire, SourceAssignment, SourceGate, SourceConnection, SourceItem, ParameterItem, PortItem}
use Rattle.v_tree.specs.Trees.{WireItem, RegItem, IntegerItem, AssignItem, GateItem, InstanceItem, InitialItem, AlwaysItem, names_in}
use Rattle.v_comb.specs.CombinationalForm.{each_once, names_read}
use Rattle.v_elab.specs.declared.Mode.{Mode}
use Rattle.v_elab.specs.declared.Mode.TheVariants.{Usual, Strict}
use Rattle.v_elab.specs.declared.What.TheVariants.{Inputs}
use Rattle.v_names.specs.Scopes.{ScopeEntry, NetEntry, RegEntry, MemoryEntry, Scope, looked_up}
use Rattle.v_elab.specs.Refusals.{Refusal}
use Rattle.v_elab.specs.Blocks.{block_targets}
use Rattle.v_elab.specs.Parts.{too_many_if}
use Rattle.v_elab.specs.Connections.{Child, joined_name, port_direction, connected_name, head_names}

-- how many objects a name stands for by its declaration: a memory for its words, a net or a variable for one, anything else for none
abbrev pub objects_of_entry : Option ScopeEntry → ℕ
objects_of_entry (Some (NetEntry range signed)) = 1
objects_of_entry (Some (RegEntry range signed)) = 1
objects_of_entry (Some (MemoryEntry range first last signed)) = span first last
objects_of_entry _ = 0

-- how many objects some names stand for
abbrev pub objects_named : Scope → List Identifier → ℕ
objects_named scope names = sum_by (λ (name : Identifier). objects_of_entry (looked_up scope name)) names

-- whether these are more than a node may read
abbrev pub reads_over : Scope → List Identifier → Bool
reads_over scope names = nat_lt most_inputs (objects_named scope names)

-- whether one of some nodes, each by the names that it reads, reads too many
abbrev pub some_reads_over : Scope → List (List Identifier) → Bool
some_reads_over scope nodes = list_any (reads_over scope) nodes

-- a node that reads too many objects is refused
abbrev pub reads_refused : Scope → List (List Identifier) → Option Refusal
reads_refused scope nodes = too_many_if (some_reads_over scope nodes) Inputs most_inputs

-- What nodes read: each name once

abbrev pub value_reads : SourceExpression → List Identifier
value_reads e = each_once [] (names_in e)

abbrev pub wire_reads : SourceWire → List (List Identifier)
wire_reads wire = by_value wire.value
  where
    by_value : Option SourceExpression → List (List Identifier)
    by_value None = []
    by_value (Some value) = value_reads value ∷ []

-- all terminals of a gate but its output
abbrev pub gate_reads : SourceGate → List Identifier
gate_reads gate = each_once [] (flat_map names_in gate.inputs)

-- a block that is a node doesn't read its targets
abbrev pub reads_beside : Option (List Identifier) → SourceStatement → List (List Identifier)
reads_beside None body = []
reads_beside (Some targets) body = each_once targets (names_read body) ∷ []

-- an `always` block, where by itself it has combinational form; in strict mode every block is a process
abbrev pub block_reads : Mode → Scope → SourceStatement → List (List Identifier)
block_reads Strict scope body = []
block_reads Usual scope (EventStatement place waits body) = reads_beside (block_targets scope (EventStatement place waits body)) body
block_reads Usual scope _ = []

-- the names that each node of an item reads
abbrev pub item_reads : Mode → Scope → SourceItem → List (List Identifier)
item_reads mode scope (ParameterItem group) = []
item_reads mode scope (PortItem group) = []
item_reads mode scope (WireItem place signed range wires) = flat_map wire_reads wires
item_reads mode scope (RegItem place signed range regs) = []
item_reads mode scope (IntegerItem place regs) = []
item_reads mode scope (AssignItem place assignments) = map (λ (a : SourceAssignment). value_reads a.value) assignments
item_reads mode scope (GateItem place kind gates) = map gate_reads gates
item_reads mode scope (InstanceItem place module_name parameters instances) = []
item_reads mode scope (InitialItem place body) = []
item_reads mode scope (AlwaysItem place body) = block_reads mode scope body

-- an input that is assigned its actual reads that in the outer scope; the actual of an output reads the port alone
abbrev pub actual_reads : SourceExpression → Option Identifier → Option Direction → List (List Identifier)
actual_reads e (Some joined) direction = []
actual_reads e None (Some Input) = value_reads e ∷ []
actual_reads e None (Some Output) = []
actual_reads e None None = []

abbrev pub connection_reads : Child → Option Identifier → Option SourceExpression → List (List Identifier)
connection_reads child None actual = []
connection_reads child (Some port) None = []
connection_reads child (Some port) (Some e) = actual_reads e (joined_name child port e) (port_direction child.inner port)

-- the names of the outer scope that each assignment of connections reads
abbrev pub connections_reads : Child → ℕ → List SourceConnection → List (List Identifier)
connections_reads child position [] = []
connections_reads child position (connection ∷ rest) =
    connection_reads child (connected_name (head_names child.inner.heads) position connection.name) connection.actual ++ connections_reads child (position + 1) rest
