-- How declarations, items, modules and units are spelled, by recursion on their trees, with their places (IEEE 1364-2001, annexes A.1 to A.4 and A.6.1).
use Rattle.std.specs.Prelude.{◌≡◌, ◌<◌, Bool, true, false, List, [], ◌∷◌, ◌++◌, length, Option, Some, None, ◌⊎◌}
use Rattle.vf_base.specs.Base.{SourcePlace}
use Rattle.four_value.specs.declared.operator.GateKind.{GateKind}
use Rattle.four_value.specs.declared.operator.GateKind.TheVariants.{And, Nand, Or, Nor, Xor, Xnor, Buf, Not}
use Rattle.v_tree.specs.Tokens.{SourceToken}
use Rattle.v_tree.specs.declared.item.Direction.{Direction}
use Rattle.v_tree.specs.declared.item.Direction.TheVariants.{Input, Output}
use Rattle.v_tree.specs.Trees.{Identifier, SourceExpression, place_of_expression, NamedPlace, SourceRange, SourceParameter, SourceParameters, SourcePorts, SourceWire, SourceContent, NoContent}
use Rattle.v_tree.specs.Trees.{FirstContent, MemoryBounds, SourceReg, SourceAssignment, SourceGate, SourceConnection, SourceInstance, SourceItem, ParameterItem, PortItem, WireItem, RegItem}
use Rattle.v_tree.specs.Trees.{IntegerItem, AssignItem, GateItem, InstanceItem, InitialItem, AlwaysItem, SourceHeads, PlainHeads, DeclaredHeads, SourceModule, SourceUnit}
use Rattle.v_readers.specs.declared.class.Class.{Class}
use Rattle.v_readers.specs.declared.class.Class.TheVariants as classes
use Rattle.v_readers.specs.Classes.{token_of, name_token, IsName}
use Rattle.v_readers.specs.Separated.{SpellsList}
use Rattle.v_expr.specs.Spelling.{SpellsExpression, SpellsTarget, SpellsRange}
use Rattle.v_stmt.specs.Spelling.{SpellsStatement}

-- these tokens spell the elements one behind the other
abbrev pub SpellsEach : {A : Type 0} → (A → List SourceToken → Type 0) → List A → List SourceToken → Type 0
SpellsEach L [] ts = ts ≡ []
SpellsEach L (x ∷ xs) ts = (before after : List SourceToken) × L x before × SpellsEach L xs after × (ts ≡ before ++ after)

-- Parts of declarations

abbrev pub SpellsNamed : NamedPlace → List SourceToken → Type 0
SpellsNamed named ts = IsName named.name × (ts ≡ name_token named.name named.place ∷ [])

-- the word `signed`, or nothing
abbrev pub SpellsSigned : Bool → List SourceToken → Type 0
SpellsSigned false ts = ts ≡ []
SpellsSigned true ts = (place : SourcePlace) × (ts ≡ token_of classes.Signed place ∷ [])

-- a range, or nothing
abbrev pub SpellsWidth : Option SourceRange → List SourceToken → Type 0
SpellsWidth None ts = ts ≡ []
SpellsWidth (Some range) ts = SpellsRange range ts

-- a value behind its sign, or nothing
abbrev pub SpellsValue : Option SourceExpression → List SourceToken → Type 0
SpellsValue None ts = ts ≡ []
SpellsValue (Some value) ts =
    (sign_place : SourcePlace) × (after : List SourceToken) × SpellsExpression value after × (ts ≡ token_of classes.Assign sign_place ∷ after)

-- Parameters

abbrev pub SpellsParameter : SourceParameter → List SourceToken → Type 0
SpellsParameter parameter ts =
    IsName parameter.name × (sign_place : SourcePlace) × (after : List SourceToken) × SpellsExpression parameter.value after
    × (ts ≡ name_token parameter.name parameter.place ∷ token_of classes.Assign sign_place ∷ after)

-- parameters that are declared together behind their word
abbrev pub SpellsParameters : Class → SourceParameters → List SourceToken → Type 0
SpellsParameters word group ts =
    (sign width after : List SourceToken) × SpellsSigned group.signed sign × SpellsWidth group.range width
    × SpellsList SpellsParameter classes.Comma group.parameters after
    × (ts ≡ token_of word group.place ∷ (sign ++ (width ++ after)))

-- the word of a group of parameters
abbrev pub parameter_word : Bool → Class
parameter_word false = classes.Parameter
parameter_word true = classes.LocalParameter

-- a group in the parameter list of a module is none of local parameters
abbrev pub SpellsGroup : SourceParameters → List SourceToken → Type 0
SpellsGroup group ts = (group.is_local ≡ false) × SpellsParameters classes.Parameter group ts

-- the parameter list of a module, or nothing
abbrev pub SpellsParameterList : List SourceParameters → List SourceToken → Type 0
SpellsParameterList [] ts = ts ≡ []
SpellsParameterList (group ∷ groups) ts =
    (hash_place open_place close_place : SourcePlace) × (inside : List SourceToken) × SpellsList SpellsGroup classes.Comma (group ∷ groups) inside
    × (ts ≡ token_of classes.Hash hash_place ∷ token_of classes.LeftParen open_place ∷ (inside ++ token_of classes.RightParen close_place ∷ []))

-- Ports

abbrev pub direction_word : Direction → Class
direction_word Input = classes.Input
direction_word Output = classes.Output

-- what a port is, a net or a variable: the word `wire` may be left out, and only an output may be a variable
abbrev pub SpellsSort : Direction → Bool → List SourceToken → Type 0
SpellsSort direction false ts = (ts ≡ []) ⊎ ((place : SourcePlace) × (ts ≡ token_of classes.Wire place ∷ []))
SpellsSort Input true ts = ⊥
SpellsSort Output true ts = (place : SourcePlace) × (ts ≡ token_of classes.Reg place ∷ [])

-- ports that are declared together
abbrev pub SpellsPorts : SourcePorts → List SourceToken → Type 0
SpellsPorts group ts =
    (sort sign width after : List SourceToken) × SpellsSort group.direction group.is_reg sort × SpellsSigned group.signed sign × SpellsWidth group.range width
    × SpellsList SpellsNamed classes.Comma group.names after
    × (ts ≡ token_of (direction_word group.direction) group.place ∷ (sort ++ (sign ++ (width ++ after))))

-- what stands in parentheses
abbrev pub SpellsInside : (List SourceToken → Type 0) → List SourceToken → Type 0
SpellsInside L ts =
    (open_place close_place : SourcePlace) × (inside : List SourceToken) × L inside
    × (ts ≡ token_of classes.LeftParen open_place ∷ (inside ++ token_of classes.RightParen close_place ∷ []))

-- the list of ports of a module; without ports its parentheses may be left out
abbrev pub SpellsHeads : SourceHeads → List SourceToken → Type 0
SpellsHeads (PlainHeads []) ts = (ts ≡ []) ⊎ SpellsInside (λ inside. inside ≡ []) ts
SpellsHeads (PlainHeads (named ∷ names)) ts = SpellsInside (SpellsList SpellsNamed classes.Comma (named ∷ names)) ts
SpellsHeads (DeclaredHeads groups) ts = SpellsInside (SpellsList SpellsPorts classes.Comma groups) ts

-- Nets and variables

abbrev pub SpellsWire : SourceWire → List SourceToken → Type 0
SpellsWire wire ts = IsName wire.name × (after : List SourceToken) × SpellsValue wire.value after × (ts ≡ name_token wire.name wire.place ∷ after)

-- what stands behind the name of a variable
abbrev pub SpellsContent : SourceContent → List SourceToken → Type 0
SpellsContent NoContent ts = ts ≡ []
SpellsContent (FirstContent value) ts = SpellsValue (Some value) ts
SpellsContent (MemoryBounds bounds) ts = SpellsRange bounds ts

abbrev pub SpellsReg : SourceReg → List SourceToken → Type 0
SpellsReg reg ts = IsName reg.name × (after : List SourceToken) × SpellsContent reg.content after × (ts ≡ name_token reg.name reg.place ∷ after)

-- Assignments and gates

abbrev pub SpellsAssignment : SourceAssignment → List SourceToken → Type 0
SpellsAssignment assignment ts =
    (sign_place : SourcePlace) × (before after : List SourceToken) × SpellsTarget assignment.target before × SpellsExpression assignment.value after
    × (ts ≡ before ++ token_of classes.Assign sign_place ∷ after)

abbrev pub gate_word : GateKind → Class
gate_word And = classes.AndWord
gate_word Nand = classes.NandWord
gate_word Or = classes.OrWord
gate_word Nor = classes.NorWord
gate_word Xor = classes.XorWord
gate_word Xnor = classes.XnorWord
gate_word Buf = classes.BufWord
gate_word Not = classes.NotWord

-- whether a gate of this kind has one input alone
abbrev pub has_one_input : GateKind → Bool
has_one_input Buf = true
has_one_input Not = true
has_one_input _ = false

-- a name, or nothing
abbrev pub SpellsGateName : Option NamedPlace → List SourceToken → Type 0
SpellsGateName None ts = ts ≡ []
SpellsGateName (Some named) ts = SpellsNamed named ts

-- a gate has an output and an input at least; a `buf` and a `not` have one input
abbrev pub SpellsGate : GateKind → SourceGate → List SourceToken → Type 0
SpellsGate kind gate ts =
    (has_one_input kind ≡ true → length gate.inputs ≡ 1)
    × (open_place comma_place close_place : SourcePlace) × (name inside after : List SourceToken)
    × SpellsGateName gate.name name × SpellsTarget gate.output inside × SpellsList SpellsExpression classes.Comma gate.inputs after
    × (ts ≡ name ++ token_of classes.LeftParen open_place ∷ (inside ++ token_of classes.Comma comma_place ∷ (after ++ token_of classes.RightParen close_place ∷ [])))

-- Instances

-- what is connected, or nothing
abbrev pub SpellsActual : Option SourceExpression → List SourceToken → Type 0
SpellsActual None ts = ts ≡ []
SpellsActual (Some actual) ts = SpellsExpression actual ts

-- a connection by name, at the name
abbrev pub SpellsNamedConnection : SourceConnection → List SourceToken → Type 0
SpellsNamedConnection connection ts =
    (name : Identifier) × (connection.name ≡ Some name) × IsName name × (dot_place open_place close_place : SourcePlace) × (inside : List SourceToken)
    × SpellsActual connection.actual inside
    × (ts ≡ token_of classes.Dot dot_place ∷ name_token name connection.place ∷ token_of classes.LeftParen open_place
    ∷ (inside ++ token_of classes.RightParen close_place ∷ []))

-- the place of what is connected by position: that of the expression, or else of the token that follows
abbrev pub actual_place : SourcePlace → Option SourceExpression → SourcePlace
actual_place next_place None = next_place
actual_place next_place (Some actual) = place_of_expression actual

-- a connection by position
abbrev pub SpellsPlacedConnection : SourcePlace → SourceConnection → List SourceToken → Type 0
SpellsPlacedConnection next_place connection ts =
    (connection.name ≡ None) × (connection.place ≡ actual_place next_place connection.actual) × SpellsActual connection.actual ts

-- connections by position, one at least, with the place of the token that follows them
abbrev pub SpellsPlacedConnections : SourcePlace → List SourceConnection → List SourceToken → Type 0
SpellsPlacedConnections next_place [] ts = ⊥
SpellsPlacedConnections next_place (connection ∷ []) ts = SpellsPlacedConnection next_place connection ts
SpellsPlacedConnections next_place (connection ∷ other ∷ connections) ts =
    (comma_place : SourcePlace) × (before after : List SourceToken) × SpellsPlacedConnection comma_place connection before
    × SpellsPlacedConnections next_place (other ∷ connections) after × (ts ≡ before ++ token_of classes.Comma comma_place ∷ after)

-- connections are all by name or all by position
abbrev pub SpellsConnections : SourcePlace → List SourceConnection → List SourceToken → Type 0
SpellsConnections next_place connections ts =
    SpellsList SpellsNamedConnection classes.Comma connections ts ⊎ SpellsPlacedConnections next_place connections ts

-- an instance; empty parentheses are no connection, not one that is empty
abbrev pub SpellsInstance : SourceInstance → List SourceToken → Type 0
SpellsInstance inst ts =
    IsName inst.name × (open_place close_place : SourcePlace) × (inside : List SourceToken)
    × (((inst.connections ≡ []) × (inside ≡ [])) ⊎ ((0 < length inside) × SpellsConnections close_place inst.connections inside))
    × (ts ≡ name_token inst.name inst.place ∷ token_of classes.LeftParen open_place ∷ (inside ++ token_of classes.RightParen close_place ∷ []))

-- that something is connected
abbrev pub IsGiven : SourceConnection → Type 0
IsGiven connection = (actual : SourceExpression) × (connection.actual ≡ Some actual)

-- each connection has its expression
abbrev pub AreGiven : List SourceConnection → Type 0
AreGiven [] = Unit {0}
AreGiven (connection ∷ connections) = IsGiven connection × AreGiven connections

-- the parameters that an instance is given, each with its expression, or nothing
abbrev pub SpellsGiven : List SourceConnection → List SourceToken → Type 0
SpellsGiven [] ts = ts ≡ []
SpellsGiven (connection ∷ connections) ts =
    (hash_place open_place close_place : SourcePlace) × (inside : List SourceToken) × AreGiven (connection ∷ connections)
    × SpellsConnections close_place (connection ∷ connections) inside
    × (ts ≡ token_of classes.Hash hash_place ∷ token_of classes.LeftParen open_place ∷ (inside ++ token_of classes.RightParen close_place ∷ []))

-- Items

-- a word, then elements with commas between them, then a semicolon
abbrev pub SpellsDeclared : {A : Type 0} → Class → SourcePlace → Bool → Option SourceRange → (A → List SourceToken → Type 0) → List A → List SourceToken → Type 0
SpellsDeclared word place signed range L xs ts =
    (end_place : SourcePlace) × (sign width after : List SourceToken) × SpellsSigned signed sign × SpellsWidth range width × SpellsList L classes.Comma xs after
    × (ts ≡ token_of word place ∷ (sign ++ (width ++ (after ++ token_of classes.Semicolon end_place ∷ []))))

abbrev pub SpellsItem : SourceItem → List SourceToken → Type 0
SpellsItem (ParameterItem group) ts =
    (end_place : SourcePlace) × (before : List SourceToken) × SpellsParameters (parameter_word group.is_local) group before
    × (ts ≡ before ++ token_of classes.Semicolon end_place ∷ [])
SpellsItem (PortItem group) ts =
    (end_place : SourcePlace) × (before : List SourceToken) × SpellsPorts group before × (ts ≡ before ++ token_of classes.Semicolon end_place ∷ [])
SpellsItem (WireItem place signed range wires) ts = SpellsDeclared classes.Wire place signed range SpellsWire wires ts
SpellsItem (RegItem place signed range regs) ts = SpellsDeclared classes.Reg place signed range SpellsReg regs ts
SpellsItem (IntegerItem place regs) ts = SpellsDeclared classes.Integer place false None SpellsReg regs ts
SpellsItem (AssignItem place assignments) ts = SpellsDeclared classes.AssignWord place false None SpellsAssignment assignments ts
SpellsItem (GateItem place kind gates) ts = SpellsDeclared (gate_word kind) place false None (SpellsGate kind) gates ts
SpellsItem (InstanceItem place module_name parameters instances) ts =
    IsName module_name × (end_place : SourcePlace) × (before after : List SourceToken) × SpellsGiven parameters before
    × SpellsList SpellsInstance classes.Comma instances after
    × (ts ≡ name_token module_name place ∷ (before ++ (after ++ token_of classes.Semicolon end_place ∷ [])))
SpellsItem (InitialItem place body) ts = (after : List SourceToken) × SpellsStatement body after × (ts ≡ token_of classes.Initial place ∷ after)
SpellsItem (AlwaysItem place body) ts = (after : List SourceToken) × SpellsStatement body after × (ts ≡ token_of classes.Always place ∷ after)

-- Modules and units

abbrev pub SpellsModule : SourceModule → List SourceToken → Type 0
SpellsModule declared ts =
    IsName declared.name × (module_place header_end end_place : SourcePlace) × (parameters ports inside : List SourceToken)
    × SpellsParameterList declared.parameters parameters × SpellsHeads declared.heads ports × SpellsEach SpellsItem declared.items inside
    × (ts ≡ token_of classes.Module module_place ∷ name_token declared.name declared.place
    ∷ (parameters ++ (ports ++ token_of classes.Semicolon header_end ∷ (inside ++ token_of classes.EndModule end_place ∷ []))))

abbrev pub SpellsUnit : SourceUnit → List SourceToken → Type 0
SpellsUnit u ts = SpellsEach SpellsModule u.modules ts
