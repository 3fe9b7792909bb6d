-- Connections of an instance: parameters and ports (IEEE 1364-2001, clause 12.2.2 and clause 12.3; that a port and a whole net or variable of equal width are one object is own).
use Rattle.std.specs.Prelude.{ℕ, ◌+◌, Bool, true, false, not, ◌&&◌, List, [], ◌∷◌, ◌++◌, map, filter, flat_map, Option, Some, None, slice_get, nat_eq, nat_lt}
use Rattle.vf_base.specs.Base.{SourcePlace}
use Rattle.vf_base.specs.declared.limits.TheConstants.{MAX_DEPTH}
use Rattle.four_value.specs.declared.logic.Bit.TheVariants.{Zero}
use Rattle.v_tree.specs.declared.item.Direction.{Direction}
use Rattle.v_tree.specs.declared.item.Direction.TheVariants.{Input, Output}
use Rattle.v_tree.specs.Trees.{Identifier, SourceExpression, Selected, NoIndex, SourceSelect, SourceTarget, selects_of, NamedPlace, SourcePorts, SourceConnection, SourceInstance, SourceHeads}
use Rattle.v_tree.specs.Trees.{PlainHeads, DeclaredHeads, SourceModule, place_of_expression, has_name}
use Rattle.v_names.specs.Faults.{UnknownName, DeclaredTwice, BadConnection, TooDeep, Fault, fault_at, fault_if}
use Rattle.v_names.specs.Scopes.{SignedValue, Scope, looked_up, declared_width, is_vector}
use Rattle.v_names.specs.Readings.{reading_of, tree_in, constant_of}
use Rattle.v_names.specs.Constants.{optional_faults}
use Rattle.v_names.specs.Names.{Declared, DeclaredParameter, DeclaredPort, Declaration, names_declared, of_name, GivenParameter, fixed_target_faults}
use Rattle.v_width.specs.Targets.{ByNode, target_reading, target_alone_faults, target_width_in, places_of_select, target_of, whole_places}
use Rattle.v_elab.specs.ItemFaults.{size_faults}
use Rattle.v_elab.specs.Parts.{Joining, Drive, Part, AssignPart}

-- the greatest depth of an instance; the top stands at 0
abbrev pub most_depth : ℕ
most_depth = MAX_DEPTH

-- Parameters

abbrev pub is_open_parameter : Declared → Bool
is_open_parameter (DeclaredParameter is_local signed bounds value) = not is_local
is_open_parameter _ = false

-- the parameters that an instance may set, in text order
abbrev pub open_parameters : SourceModule → List Identifier
open_parameters m = map (λ (d : Declaration). d.name) (filter (λ (d : Declaration). is_open_parameter d.declared) (names_declared m))

abbrev pub name_if : Bool → Identifier → Option Identifier
name_if true name = Some name
name_if false name = None

-- what a connection connects: by its name, or by its position among some names; none where there is no such
abbrev pub connected_name : List Identifier → ℕ → Option Identifier → Option Identifier
connected_name order position None = slice_get order position
connected_name order position (Some name) = name_if (has_name order name) name

-- a position that isn't there is a bad connection, a name that isn't there is unknown
abbrev pub missing_fault : Option Identifier → SourcePlace → List Fault
missing_fault None place = fault_at place BadConnection ∷ []
missing_fault (Some name) place = fault_at place UnknownName ∷ []

abbrev pub given_fault : List Identifier → SourceConnection → Option Identifier → List Fault
given_fault earlier connection None = missing_fault connection.name connection.place
given_fault earlier connection (Some name) = fault_if (has_name earlier name) connection.place DeclaredTwice

abbrev pub name_before : Option Identifier → List Identifier → List Identifier
name_before None names = names
name_before (Some name) names = name ∷ names

-- what is wrong with the parameters that an instance sets
abbrev pub given_faults : Scope → List Identifier → ℕ → List Identifier → List SourceConnection → List Fault
given_faults scope order position earlier [] = []
given_faults scope order position earlier (connection ∷ rest) =
    let name = connected_name order position connection.name in
    (given_fault earlier connection name ++ optional_faults (size_faults scope) connection.actual)
    ++ given_faults scope order (position + 1) (name_before name earlier) rest

-- what is refused counts as one unsigned bit 0
abbrev pub value_or_bit : Option SignedValue → SignedValue
value_or_bit None = record { value = Zero ∷ []; signed = false }
value_or_bit (Some c) = c

abbrev pub given_parameter : Scope → Option Identifier → Option SourceExpression → List GivenParameter
given_parameter scope None actual = []
given_parameter scope (Some name) None = []
given_parameter scope (Some name) (Some e) = record { name = name; given = value_or_bit (constant_of scope 0 e) } ∷ []

-- the parameters that an instance sets, each evaluated alone
abbrev pub given_parameters : Scope → List Identifier → ℕ → List SourceConnection → List GivenParameter
given_parameters scope order position [] = []
given_parameters scope order position (connection ∷ rest) =
    given_parameter scope (connected_name order position connection.name) connection.actual ++ given_parameters scope order (position + 1) rest

-- Ports

-- the names in the list of ports, in order
abbrev pub head_names : SourceHeads → List Identifier
head_names (PlainHeads names) = map (λ (n : NamedPlace). n.name) names
head_names (DeclaredHeads groups) = flat_map (λ (g : SourcePorts). map (λ (n : NamedPlace). n.name) g.names) groups

abbrev pub direction_of_first : List Declaration → Option Direction
direction_of_first [] = None
direction_of_first (d ∷ rest) = of_declared d.declared
  where
    of_declared : Declared → Option Direction
    of_declared (DeclaredPort direction is_reg signed bounds first) = Some direction
    of_declared _ = None

-- the direction of a port, none where its name is no port
abbrev pub port_direction : SourceModule → Identifier → Option Direction
port_direction m name = direction_of_first (of_name name (names_declared m))

-- the module of an instance with its scope, and the scope in which it stands
pub record Child : Type 0 where
  pub inner : SourceModule
  pub inner_scope : Scope
  pub outer_scope : Scope

abbrev pub port_width : Child → Identifier → ℕ
port_width child port = declared_width (looked_up child.inner_scope port)

abbrev pub whole_if : Bool → Identifier → Option Identifier
whole_if true name = Some name
whole_if false name = None

-- the net or variable that an actual is, where it is a whole one of the port's width
abbrev pub joined_name : Child → Identifier → SourceExpression → Option Identifier
joined_name child port (Selected place name NoIndex) =
    let entry = looked_up child.outer_scope name in
    whole_if (is_vector entry && nat_eq (declared_width entry) (port_width child port)) name
joined_name child port _ = None

-- an output's actual is a target whose indexes are constants
abbrev pub output_actual_faults : Scope → SourceExpression → Option SourceTarget → List Fault
output_actual_faults scope e None = fault_at (place_of_expression e) BadConnection ∷ size_faults scope e
output_actual_faults scope e (Some target) = target_alone_faults (target_reading ByNode scope target) ++ fixed_target_faults scope target

abbrev pub actual_faults_by : Scope → Option Identifier → Option Direction → SourceExpression → List Fault
actual_faults_by scope (Some joined) direction e = size_faults scope e
actual_faults_by scope None (Some Output) e = output_actual_faults scope e (target_of e)
actual_faults_by scope None (Some Input) e = size_faults scope e
actual_faults_by scope None None e = size_faults scope e

abbrev pub is_named : Option Identifier → Bool
is_named None = false
is_named (Some name) = true

-- a port that a name connects must be there, and no connection before it may be its own
abbrev pub port_faults : Child → List Identifier → SourceConnection → Option Identifier → List Fault
port_faults child earlier connection None = missing_fault connection.name connection.place ++ optional_faults (size_faults child.outer_scope) connection.actual
port_faults child earlier connection (Some port) =
    fault_if (is_named connection.name && has_name earlier port) connection.place BadConnection
    ++ optional_faults (λ e. actual_faults_by child.outer_scope (joined_name child port e) (port_direction child.inner port) e) connection.actual

-- what is wrong with the connections of an instance
abbrev pub connections_faults : Child → ℕ → List Identifier → List SourceConnection → List Fault
connections_faults child position earlier [] = []
connections_faults child position earlier (connection ∷ rest) =
    let port = connected_name (head_names child.inner.heads) position connection.name in
    port_faults child earlier connection port ++ connections_faults child (position + 1) (name_before port earlier) rest

-- an instance that stands too deep is refused at its name, and nothing more is said of it
abbrev pub instance_faults : Child → ℕ → SourceInstance → List Fault
instance_faults child depth i = by_depth (nat_lt most_depth depth)
  where
    by_depth : Bool → List Fault
    by_depth true = fault_at i.place TooDeep ∷ []
    by_depth false = connections_faults child 0 [] i.connections

-- What connections become

-- a port of an instance that is joined
pub record PortJoined : Type 0 where
  pub port : Identifier
  pub joining : Joining

-- the paths of an instance and of what it stands in: what stands before their names
pub record Paths : Type 0 where
  pub inner : Identifier
  pub outer : Identifier

abbrev pub drives_of : Identifier → Scope → SourceTarget → List Drive
drives_of path scope target = map (λ (s : SourceSelect). record { signal = path ++ s.name; places = places_of_select scope s; place = s.place }) (selects_of target)

-- an input is assigned its actual, sized for the port
abbrev pub input_part : Child → Paths → Identifier → SourceExpression → Part
input_part child paths port e =
    AssignPart (record { signal = paths.inner ++ port; places = whole_places (port_width child port); place = place_of_expression e } ∷ [])
    (record { path = paths.outer; value = tree_in (port_width child port) (reading_of child.outer_scope e) })

-- the actual of an output is assigned the port
abbrev pub output_part : Child → Paths → Identifier → SourceExpression → SourceTarget → Part
output_part child paths port e target =
    AssignPart (drives_of paths.outer child.outer_scope target)
    (record { path = paths.inner; value = tree_in (target_width_in ByNode child.outer_scope target) (reading_of child.inner_scope (Selected (place_of_expression e) port NoIndex)) })

abbrev pub output_parts : Child → Paths → Identifier → SourceExpression → Option SourceTarget → List Part
output_parts child paths port e None = []
output_parts child paths port e (Some target) = output_part child paths port e target ∷ []

abbrev pub actual_parts : Child → Paths → Identifier → SourceExpression → Option Identifier → Option Direction → List Part
actual_parts child paths port e (Some joined) direction = []
actual_parts child paths port e None (Some Input) = input_part child paths port e ∷ []
actual_parts child paths port e None (Some Output) = output_parts child paths port e (target_of e)
actual_parts child paths port e None None = []

abbrev pub connection_parts : Child → Paths → Option Identifier → Option SourceExpression → List Part
connection_parts child paths None actual = []
connection_parts child paths (Some port) None = []
connection_parts child paths (Some port) (Some e) = actual_parts child paths port e (joined_name child port e) (port_direction child.inner port)

-- the assignments of the connections, in their order
abbrev pub connections_parts : Child → Paths → ℕ → List SourceConnection → List Part
connections_parts child paths position [] = []
connections_parts child paths position (connection ∷ rest) =
    connection_parts child paths (connected_name (head_names child.inner.heads) position connection.name) connection.actual ++ connections_parts child paths (position + 1) rest

abbrev pub port_joined : Paths → Identifier → SourcePlace → Option Identifier → Option Direction → List PortJoined
port_joined paths port place (Some name) (Some direction) = record { port = port; joining = record { into = paths.outer ++ name; direction = direction; place = place } } ∷ []
port_joined paths port place (Some name) None = []
port_joined paths port place None direction = []

abbrev pub connection_joins : Child → Paths → Option Identifier → Option SourceExpression → List PortJoined
connection_joins child paths None actual = []
connection_joins child paths (Some port) None = []
connection_joins child paths (Some port) (Some e) = port_joined paths port (place_of_expression e) (joined_name child port e) (port_direction child.inner port)

-- the ports that are joined
abbrev pub connections_joins : Child → Paths → ℕ → List SourceConnection → List PortJoined
connections_joins child paths position [] = []
connections_joins child paths position (connection ∷ rest) =
    connection_joins child paths (connected_name (head_names child.inner.heads) position connection.name) connection.actual ++ connections_joins child paths (position + 1) rest
