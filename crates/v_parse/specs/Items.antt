-- Reading declarations, items, modules and units.
use Rattle.std.specs.Prelude.{ℕ, Bool, true, false, List, [], ◌∷◌, ◌++◌, Option, Some, None, if◌then◌else◌}
use Rattle.vf_base.specs.Base.{SourcePlace}
use Rattle.four_value.specs.declared.operator.GateKind.{GateKind}
use Rattle.four_value.specs.declared.operator.GateKind.TheVariants.{And, Nand, Or, Nor, Xor, Xnor, Buf, Not}
use Rattle.v_tree.specs.declared.item.Direction.{Direction}
use Rattle.v_tree.specs.declared.item.Direction.TheVariants.{Input, Output}
use Rattle.v_tree.specs.Trees.{SourceExpression, place_of_expression, NamedPlace, SourceRange, SourceParameter, SourceParameters, SourcePorts, SourceWire, SourceContent, NoContent, FirstContent}
use Rattle.v_tree.specs.Trees.{MemoryBounds, SourceReg, SourceAssignment, SourceGate, SourceConnection, SourceInstance, SourceItem, ParameterItem, PortItem, WireItem, RegItem, IntegerItem}
use Rattle.v_tree.specs.Trees.{AssignItem, GateItem, InstanceItem, InitialItem, AlwaysItem, SourceHeads, PlainHeads, DeclaredHeads, SourceModule, SourceUnit}
use Rattle.v_readers.specs.declared.class.Class.{Class}
use Rattle.v_readers.specs.declared.class.Class.TheVariants as classes
use Rattle.v_readers.specs.Reading.{Reader, ◌>>=◌, give, wrong, by_class, expect, step, name, end, repeat}
use Rattle.v_readers.specs.Separated.{separated}
use Rattle.v_expr.specs.Expressions.{expression}
use Rattle.v_expr.specs.Parts.{target, range}
use Rattle.v_stmt.specs.Statements.{statement}
use Rattle.v_parse.specs.Spelling.{parameter_word, direction_word, gate_word, has_one_input, actual_place}

-- Parts of declarations

unfoldable pub named : Reader NamedPlace
named = do
  n ← name
  give (record { name = n.0; place = n.1 })

abbrev pub signed_by : Option Class → Reader Bool
signed_by (Some classes.Signed) = do
  word ← step
  give true
signed_by _ = give false

-- whether the word `signed` stands here
unfoldable pub signed : Reader Bool
signed = by_class signed_by

abbrev pub width_by : ℕ → Option Class → Reader (Option SourceRange)
width_by k (Some classes.LeftBracket) = do
  r ← range k
  give (Some r)
width_by k _ = give None

-- a range, if there is one
unfoldable pub width : ℕ → Reader (Option SourceRange)
width k = by_class (width_by k)

abbrev pub value_by : ℕ → Option Class → Reader (Option SourceExpression)
value_by k (Some classes.Assign) = do
  sign ← step
  e ← expression k
  give (Some e)
value_by k _ = give None

-- a value behind its sign, if there is one
unfoldable pub value : ℕ → Reader (Option SourceExpression)
value k = by_class (value_by k)

-- Parameters

unfoldable pub parameter : ℕ → Reader SourceParameter
parameter k = do
  n ← name
  sign ← expect classes.Assign
  e ← expression k
  give (record { name = n.0; place = n.1; value = e })

-- parameters behind their word
unfoldable pub parameters : ℕ → Bool → Reader SourceParameters
parameters k is_local = do
  place ← expect (parameter_word is_local)
  s ← signed
  w ← width k
  ps ← separated classes.Comma (parameter k)
  give (record { place = place; is_local = is_local; signed = s; range = w; parameters = ps })

-- the first parameter of a group in the list of a module, behind the word
unfoldable pub group : ℕ → Reader SourceParameters
group k = do
  place ← expect classes.Parameter
  s ← signed
  w ← width k
  p ← parameter k
  give (record { place = place; is_local = false; signed = s; range = w; parameters = p ∷ [] })

-- the last group with one more element
abbrev pub with_last : {G P : Type 0} → (G → P → G) → List G → P → List G
with_last more [] p = []
with_last more (g ∷ []) p = more g p ∷ []
with_last more (g ∷ h ∷ groups) p = g ∷ with_last more (h ∷ groups) p

abbrev pub add_parameter : SourceParameters → SourceParameter → SourceParameters
add_parameter g p = record { place = g.place; is_local = g.is_local; signed = g.signed; range = g.range; parameters = g.parameters ++ p ∷ [] }

-- behind a comma stands a new group or a parameter of the last one
abbrev pub group_by : ℕ → List SourceParameters → Option Class → Reader (Option (List SourceParameters))
group_by k groups (Some classes.Parameter) = do
  g ← group k
  give (Some (groups ++ g ∷ []))
group_by k groups _ = do
  p ← parameter k
  give (Some (with_last add_parameter groups p))

abbrev pub groups_by : ℕ → List SourceParameters → Option Class → Reader (Option (List SourceParameters))
groups_by k groups (Some classes.Comma) = do
  comma ← step
  by_class (group_by k groups)
groups_by k groups _ = give None

abbrev pub groups_turn : ℕ → List SourceParameters → Reader (Option (List SourceParameters))
groups_turn k groups = by_class (groups_by k groups)

unfoldable pub groups : ℕ → Reader (List SourceParameters)
groups k = do
  g ← group k
  repeat (groups_turn k) (g ∷ [])

abbrev pub parameter_list_by : ℕ → Option Class → Reader (List SourceParameters)
parameter_list_by k (Some classes.Hash) = do
  hash ← step
  opening ← expect classes.LeftParen
  gs ← groups k
  closing ← expect classes.RightParen
  give gs
parameter_list_by k _ = give []

-- the parameter list of a module, if there is one
unfoldable pub parameter_list : ℕ → Reader (List SourceParameters)
parameter_list k = by_class (parameter_list_by k)

-- Ports

abbrev pub sort_by : Direction → Option Class → Reader Bool
sort_by direction (Some classes.Wire) = do
  word ← step
  give false
sort_by Output (Some classes.Reg) = do
  word ← step
  give true
sort_by direction _ = give false

-- whether ports are variables
unfoldable pub sort : Direction → Reader Bool
sort direction = by_class (sort_by direction)

-- ports before their names, from the word of their direction
unfoldable pub ports_head : ℕ → Direction → Reader SourcePorts
ports_head k direction = do
  place ← expect (direction_word direction)
  r ← sort direction
  s ← signed
  w ← width k
  give (record { place = place; direction = direction; is_reg = r; signed = s; range = w; names = [] })

-- the same with names
abbrev pub with_names : SourcePorts → List NamedPlace → SourcePorts
with_names g names = record { place = g.place; direction = g.direction; is_reg = g.is_reg; signed = g.signed; range = g.range; names = names }

unfoldable pub ports : ℕ → Direction → Reader SourcePorts
ports k direction = do
  g ← ports_head k direction
  names ← separated classes.Comma named
  give (with_names g names)

-- the first port of a group in the list of a module
unfoldable pub port : ℕ → Direction → Reader SourcePorts
port k direction = do
  g ← ports_head k direction
  n ← named
  give (with_names g (n ∷ []))

abbrev pub add_name : SourcePorts → NamedPlace → SourcePorts
add_name g n = with_names g (g.names ++ n ∷ [])

abbrev pub another_port : ℕ → List SourcePorts → Direction → Reader (Option (List SourcePorts))
another_port k ps direction = do
  p ← port k direction
  give (Some (ps ++ p ∷ []))

-- behind a comma stands a new group or a name of the last one
abbrev pub port_by : ℕ → List SourcePorts → Option Class → Reader (Option (List SourcePorts))
port_by k ps (Some classes.Input) = another_port k ps Input
port_by k ps (Some classes.Output) = another_port k ps Output
port_by k ps _ = do
  n ← named
  give (Some (with_last add_name ps n))

abbrev pub ports_by : ℕ → List SourcePorts → Option Class → Reader (Option (List SourcePorts))
ports_by k ps (Some classes.Comma) = do
  comma ← step
  by_class (port_by k ps)
ports_by k ps _ = give None

abbrev pub ports_turn : ℕ → List SourcePorts → Reader (Option (List SourcePorts))
ports_turn k ps = by_class (ports_by k ps)

-- the declared ports of a module, to the closing parenthesis
unfoldable pub declared_ports : ℕ → Direction → Reader SourceHeads
declared_ports k direction = do
  p ← port k direction
  ps ← repeat (ports_turn k) (p ∷ [])
  closing ← expect classes.RightParen
  give (DeclaredHeads ps)

abbrev pub heads_inside : ℕ → Option Class → Reader SourceHeads
heads_inside k (Some classes.RightParen) = do
  closing ← step
  give (PlainHeads [])
heads_inside k (Some classes.Name) = do
  names ← separated classes.Comma named
  closing ← expect classes.RightParen
  give (PlainHeads names)
heads_inside k (Some classes.Input) = declared_ports k Input
heads_inside k (Some classes.Output) = declared_ports k Output
heads_inside k _ = wrong

abbrev pub heads_by : ℕ → Option Class → Reader SourceHeads
heads_by k (Some classes.LeftParen) = do
  opening ← step
  by_class (heads_inside k)
heads_by k _ = give (PlainHeads [])

-- the list of ports of a module, if there is one
unfoldable pub heads : ℕ → Reader SourceHeads
heads k = by_class (heads_by k)

-- Nets and variables

unfoldable pub wire : ℕ → Reader SourceWire
wire k = do
  n ← name
  v ← value k
  give (record { name = n.0; place = n.1; value = v })

abbrev pub content_by : ℕ → Option Class → Reader SourceContent
content_by k (Some classes.Assign) = do
  sign ← step
  e ← expression k
  give (FirstContent e)
content_by k (Some classes.LeftBracket) = do
  r ← range k
  give (MemoryBounds r)
content_by k _ = give NoContent

-- what stands behind the name of a variable
unfoldable pub content : ℕ → Reader SourceContent
content k = by_class (content_by k)

unfoldable pub reg : ℕ → Reader SourceReg
reg k = do
  n ← name
  c ← content k
  give (record { name = n.0; place = n.1; content = c })

-- Assignments and gates

unfoldable pub assignment : ℕ → Reader SourceAssignment
assignment k = do
  t ← target k
  sign ← expect classes.Assign
  e ← expression k
  give (record { target = t; value = e })

abbrev pub gate_name_by : Option Class → Reader (Option NamedPlace)
gate_name_by (Some classes.Name) = do
  n ← named
  give (Some n)
gate_name_by _ = give None

-- the name of a gate, if it has one
unfoldable pub gate_name : Reader (Option NamedPlace)
gate_name = by_class gate_name_by

-- the inputs of a gate
unfoldable pub inputs : ℕ → GateKind → Reader (List SourceExpression)
inputs k kind = if has_one_input kind then (expression k >>= λ e. give (e ∷ [])) else separated classes.Comma (expression k)

unfoldable pub gate : ℕ → GateKind → Reader SourceGate
gate k kind = do
  n ← gate_name
  opening ← expect classes.LeftParen
  t ← target k
  comma ← expect classes.Comma
  es ← inputs k kind
  closing ← expect classes.RightParen
  give (record { name = n; output = t; inputs = es })

-- Connections

abbrev pub actual_by : ℕ → Option Class → Reader (Option SourceExpression)
actual_by k (Some classes.RightParen) = give None
actual_by k class = expression k >>= λ e. give (Some e)

-- what is connected by name, if anything is
unfoldable pub actual : ℕ → Reader (Option SourceExpression)
actual k = by_class (actual_by k)

-- what a parameter is given
unfoldable pub some_actual : ℕ → Reader (Option SourceExpression)
some_actual k = expression k >>= λ e. give (Some e)

-- a connection by name, with a reader of what is connected
unfoldable pub connection : Reader (Option SourceExpression) → Reader SourceConnection
connection connected = do
  dot ← expect classes.Dot
  n ← name
  opening ← expect classes.LeftParen
  a ← connected
  closing ← expect classes.RightParen
  give (record { name = Some n.0; place = n.1; actual = a })

-- connections by name, to the closing parenthesis
unfoldable pub named_connections : Reader (Option SourceExpression) → Reader (List SourceConnection)
named_connections connected = do
  cs ← separated classes.Comma (connection connected)
  closing ← expect classes.RightParen
  give cs

-- connections by position that a comma ends, and what stands behind the last of these commas
pub record Placed : Type 0 where
  pub ended : List SourceConnection
  pub last : Option SourceExpression

-- a connection by position that ends at this place
abbrev pub placed : SourcePlace → Option SourceExpression → SourceConnection
placed next_place last = record { name = None; place = actual_place next_place last; actual = last }

abbrev pub start_by : ℕ → Option Class → Reader Placed
start_by k (Some classes.Comma) = do
  comma ← step
  give (record { ended = placed comma None ∷ []; last = None })
start_by k class = expression k >>= λ e. give (record { ended = []; last = Some e })

-- the first connection by position, or the comma behind it where nothing is connected
unfoldable pub placed_start : ℕ → Reader Placed
placed_start k = by_class (start_by k)

abbrev pub one_more : ℕ → List SourceConnection → Option SourceExpression → Reader (Option Placed)
one_more k ended None = expression k >>= λ e. give (Some (record { ended = ended; last = Some e }))
one_more k ended (Some e) = give None

abbrev pub placed_by : ℕ → Placed → Option Class → Reader (Option Placed)
placed_by k s (Some classes.Comma) = do
  comma ← step
  give (Some (record { ended = s.ended ++ placed comma s.last ∷ []; last = None }))
placed_by k s (Some classes.RightParen) = give None
placed_by k s class = one_more k s.ended s.last

abbrev pub placed_turn : ℕ → Placed → Reader (Option Placed)
placed_turn k s = by_class (placed_by k s)

-- connections by position, to the closing parenthesis
unfoldable pub placed_connections : ℕ → Reader (List SourceConnection)
placed_connections k = do
  s ← placed_start k
  t ← repeat (placed_turn k) s
  closing ← expect classes.RightParen
  give (t.ended ++ placed closing t.last ∷ [])

abbrev pub connections_by : ℕ → Option Class → Reader (List SourceConnection)
connections_by k (Some classes.Dot) = named_connections (actual k)
connections_by k (Some classes.RightParen) = do
  closing ← step
  give []
connections_by k class = placed_connections k

-- the connections of an instance, to the closing parenthesis
unfoldable pub connections : ℕ → Reader (List SourceConnection)
connections k = by_class (connections_by k)

-- a connection by position that has its expression
unfoldable pub given_expression : ℕ → Reader SourceConnection
given_expression k = expression k >>= λ e. give (record { name = None; place = place_of_expression e; actual = Some e })

unfoldable pub given_expressions : ℕ → Reader (List SourceConnection)
given_expressions k = do
  cs ← separated classes.Comma (given_expression k)
  closing ← expect classes.RightParen
  give cs

abbrev pub given_inside : ℕ → Option Class → Reader (List SourceConnection)
given_inside k (Some classes.Dot) = named_connections (some_actual k)
given_inside k class = given_expressions k

abbrev pub given_by : ℕ → Option Class → Reader (List SourceConnection)
given_by k (Some classes.Hash) = do
  hash ← step
  opening ← expect classes.LeftParen
  by_class (given_inside k)
given_by k class = give []

-- the parameters that an instance is given
unfoldable pub given : ℕ → Reader (List SourceConnection)
given k = by_class (given_by k)

unfoldable pub inst : ℕ → Reader SourceInstance
inst k = do
  n ← name
  opening ← expect classes.LeftParen
  cs ← connections k
  give (record { name = n.0; place = n.1; connections = cs })

-- Items

-- what is declared behind a word, to the semicolon
unfoldable pub declared : {A : Type 0} → Reader A → Reader (List A)
declared element = do
  xs ← separated classes.Comma element
  closing ← expect classes.Semicolon
  give xs

unfoldable pub parameter_item : ℕ → Bool → Reader SourceItem
parameter_item k is_local = do
  g ← parameters k is_local
  closing ← expect classes.Semicolon
  give (ParameterItem g)

unfoldable pub port_item : ℕ → Direction → Reader SourceItem
port_item k direction = do
  g ← ports k direction
  closing ← expect classes.Semicolon
  give (PortItem g)

unfoldable pub wire_item : ℕ → Reader SourceItem
wire_item k = do
  place ← expect classes.Wire
  s ← signed
  w ← width k
  xs ← declared (wire k)
  give (WireItem place s w xs)

unfoldable pub reg_item : ℕ → Reader SourceItem
reg_item k = do
  place ← expect classes.Reg
  s ← signed
  w ← width k
  xs ← declared (reg k)
  give (RegItem place s w xs)

unfoldable pub integer_item : ℕ → Reader SourceItem
integer_item k = do
  place ← expect classes.Integer
  xs ← declared (reg k)
  give (IntegerItem place xs)

unfoldable pub assign_item : ℕ → Reader SourceItem
assign_item k = do
  place ← expect classes.AssignWord
  xs ← declared (assignment k)
  give (AssignItem place xs)

unfoldable pub gate_item : ℕ → GateKind → Reader SourceItem
gate_item k kind = do
  place ← expect (gate_word kind)
  xs ← declared (gate k kind)
  give (GateItem place kind xs)

unfoldable pub instance_item : ℕ → Reader SourceItem
instance_item k = do
  n ← name
  cs ← given k
  xs ← declared (inst k)
  give (InstanceItem n.1 n.0 cs xs)

unfoldable pub initial_item : ℕ → Reader SourceItem
initial_item k = do
  place ← expect classes.Initial
  s ← statement k
  give (InitialItem place s)

unfoldable pub always_item : ℕ → Reader SourceItem
always_item k = do
  place ← expect classes.Always
  s ← statement k
  give (AlwaysItem place s)

abbrev pub item_by : ℕ → Option Class → Reader SourceItem
item_by k (Some classes.Parameter) = parameter_item k false
item_by k (Some classes.LocalParameter) = parameter_item k true
item_by k (Some classes.Input) = port_item k Input
item_by k (Some classes.Output) = port_item k Output
item_by k (Some classes.Wire) = wire_item k
item_by k (Some classes.Reg) = reg_item k
item_by k (Some classes.Integer) = integer_item k
item_by k (Some classes.AssignWord) = assign_item k
item_by k (Some classes.AndWord) = gate_item k And
item_by k (Some classes.NandWord) = gate_item k Nand
item_by k (Some classes.OrWord) = gate_item k Or
item_by k (Some classes.NorWord) = gate_item k Nor
item_by k (Some classes.XorWord) = gate_item k Xor
item_by k (Some classes.XnorWord) = gate_item k Xnor
item_by k (Some classes.BufWord) = gate_item k Buf
item_by k (Some classes.NotWord) = gate_item k Not
item_by k (Some classes.Initial) = initial_item k
item_by k (Some classes.Always) = always_item k
item_by k (Some classes.Name) = instance_item k
item_by k _ = wrong

-- an item with at most so many levels below its outermost expressions and statement
unfoldable pub item : ℕ → Reader SourceItem
item k = by_class (item_by k)

-- Modules and units

abbrev pub items_by : ℕ → List SourceItem → Option Class → Reader (Option (List SourceItem))
items_by k items (Some classes.EndModule) = give None
items_by k items _ = do
  i ← item k
  give (Some (items ++ i ∷ []))

abbrev pub items_turn : ℕ → List SourceItem → Reader (Option (List SourceItem))
items_turn k items = by_class (items_by k items)

unfoldable pub module_reader : ℕ → Reader SourceModule
module_reader k = do
  word ← expect classes.Module
  n ← name
  ps ← parameter_list k
  hs ← heads k
  closing ← expect classes.Semicolon
  items ← repeat (items_turn k) []
  ending ← expect classes.EndModule
  give (record { name = n.0; place = n.1; parameters = ps; heads = hs; items = items })

abbrev pub modules_by : ℕ → List SourceModule → Option Class → Reader (Option (List SourceModule))
modules_by k modules None = give None
modules_by k modules (Some class) = do
  m ← module_reader k
  give (Some (modules ++ m ∷ []))

abbrev pub modules_turn : ℕ → List SourceModule → Reader (Option (List SourceModule))
modules_turn k modules = by_class (modules_by k modules)

-- the modules of a text, to its end
unfoldable pub unit_reader : ℕ → Reader SourceUnit
unit_reader k = do
  ms ← repeat (modules_turn k) []
  nothing ← end
  give (record { modules = ms })
