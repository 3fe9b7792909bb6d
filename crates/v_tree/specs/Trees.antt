-- The syntax tree of a source text as plain data (IEEE 1364-2001, annex A).
-- The place of an expression is that of its first token, and of a statement or an item that of its keyword or its first token.
use Rattle.std.specs.Prelude.{ℕ, Bool, true, false, ◌&&◌, ◌||◌, List, [], ◌∷◌, ◌++◌, map, Option, nat_eq}
use Rattle.vf_base.specs.Base.{SourcePlace}
use Rattle.four_value.specs.Values.{LogicValue}
use Rattle.four_value.specs.declared.logic.Edge.{Edge}
use Rattle.four_value.specs.declared.operator.CaseKind.{CaseKind}
use Rattle.four_value.specs.declared.operator.GateKind.{GateKind}
use Rattle.four_value.specs.declared.operator.UnaryOperator.{UnaryOperator}
use Rattle.four_value.specs.declared.operator.BinaryOperator.{BinaryOperator}
use Rattle.v_tree.specs.declared.token.NumberForm.{NumberForm}
use Rattle.v_tree.specs.declared.item.Direction.{Direction}

-- a name is its bytes
abbrev pub Identifier : Type 0
Identifier = List ℕ

-- Expressions

mutual
  pub data SourceExpression : Type 0 where
    Number : (place : SourcePlace) (form : NumberForm) (value : LogicValue) → SourceExpression
    Selected : (place : SourcePlace) (name : Identifier) (index : SourceIndex) → SourceExpression
    Parenthesised : (place : SourcePlace) (inner : SourceExpression) → SourceExpression
    Prefixed : (place : SourcePlace) (operator : UnaryOperator) (operand : SourceExpression) → SourceExpression
    Infixed : (place : SourcePlace) (operator : BinaryOperator) (left right : SourceExpression) → SourceExpression
    Chosen : (place : SourcePlace) (condition first second : SourceExpression) → SourceExpression
    Concatenated : (place : SourcePlace) (parts : SourceExpressions) → SourceExpression
    Replicated : (place : SourcePlace) (count : SourceExpression) (parts : SourceExpressions) → SourceExpression

  -- what stands in brackets behind a name
  pub data SourceIndex : Type 0 where
    NoIndex : SourceIndex
    IndexAt : (index : SourceExpression) → SourceIndex
    IndexRange : (from to : SourceExpression) → SourceIndex

  pub data SourceExpressions : Type 0 where
    no_parts : SourceExpressions
    more_parts : (first : SourceExpression) (rest : SourceExpressions) → SourceExpressions

-- a name with what stands in brackets behind it
pub record SourceSelect : Type 0 where
  pub place : SourcePlace
  pub name : Identifier
  pub index : SourceIndex

-- what is assigned: one select, or several in braces
pub data SourceTarget : Type 0 where
  OneSelect : (select : SourceSelect) → SourceTarget
  JoinedSelects : (place : SourcePlace) (selects : List SourceSelect) → SourceTarget

-- Statements

-- an entry of an event control
pub record SourceEntry : Type 0 where
  pub edge : Edge
  pub select : SourceSelect

-- what an event control waits for: any change of what its statement reads, or its entries
pub data SourceWaits : Type 0 where
  OnAnyRead : SourceWaits
  OnEntries : (entries : List SourceEntry) → SourceWaits

mutual
  pub data SourceStatement : Type 0 where
    NullStatement : (place : SourcePlace) → SourceStatement
    BlockStatement : (place : SourcePlace) (statements : SourceStatements) → SourceStatement
    IfStatement : (place : SourcePlace) (condition : SourceExpression) (first : SourceStatement) → SourceStatement
    IfElseStatement : (place : SourcePlace) (condition : SourceExpression) (first second : SourceStatement) → SourceStatement
    CaseStatement : (place : SourcePlace) (kind : CaseKind) (value : SourceExpression) (items : SourceCaseItems) → SourceStatement
    ForStatement : (place : SourcePlace) (first_target : SourceTarget) (first condition : SourceExpression) (next_target : SourceTarget) (next : SourceExpression) (body : SourceStatement) →
        SourceStatement
    WhileStatement : (place : SourcePlace) (condition : SourceExpression) (body : SourceStatement) → SourceStatement
    RepeatStatement : (place : SourcePlace) (count : SourceExpression) (body : SourceStatement) → SourceStatement
    ForeverStatement : (place : SourcePlace) (body : SourceStatement) → SourceStatement
    WaitStatement : (place : SourcePlace) (condition : SourceExpression) (body : SourceStatement) → SourceStatement
    EventStatement : (place : SourcePlace) (waits : SourceWaits) (body : SourceStatement) → SourceStatement
    DelayStatement : (place : SourcePlace) (delay : SourceExpression) (body : SourceStatement) → SourceStatement
    BlockingStatement : (place : SourcePlace) (target : SourceTarget) (delay : Option SourceExpression) (value : SourceExpression) → SourceStatement
    NonblockingStatement : (place : SourcePlace) (target : SourceTarget) (delay : Option SourceExpression) (value : SourceExpression) → SourceStatement
    -- a system task that is read and does nothing
    IgnoredTask : (place : SourcePlace) → SourceStatement
    -- `$finish` or `$stop`
    FinishTask : (place : SourcePlace) → SourceStatement

  pub data SourceStatements : Type 0 where
    no_source_statements : SourceStatements
    more_source_statements : (first : SourceStatement) (rest : SourceStatements) → SourceStatements

  pub data SourceCaseItems : Type 0 where
    no_source_items : SourceCaseItems
    labelled : (labels : SourceExpressions) (statement : SourceStatement) (rest : SourceCaseItems) → SourceCaseItems
    otherwise : (statement : SourceStatement) (rest : SourceCaseItems) → SourceCaseItems

-- Declarations and items

-- a name with its place
pub record NamedPlace : Type 0 where
  pub name : Identifier
  pub place : SourcePlace

-- a range, at its opening bracket
pub record SourceRange : Type 0 where
  pub place : SourcePlace
  pub high : SourceExpression
  pub low : SourceExpression

pub record SourceParameter : Type 0 where
  pub name : Identifier
  pub place : SourcePlace
  pub value : SourceExpression

-- parameters that are declared together, by `parameter` or by `localparam`, at that word
pub record SourceParameters : Type 0 where
  pub place : SourcePlace
  pub is_local : Bool
  pub signed : Bool
  pub range : Option SourceRange
  pub parameters : List SourceParameter

-- ports that are declared together, at the word of their direction
pub record SourcePorts : Type 0 where
  pub place : SourcePlace
  pub direction : Direction
  pub is_reg : Bool
  pub signed : Bool
  pub range : Option SourceRange
  pub names : List NamedPlace

-- a net, with the value that it is assigned where it is declared
pub record SourceWire : Type 0 where
  pub name : Identifier
  pub place : SourcePlace
  pub value : Option SourceExpression

-- what stands behind the name of a variable: nothing, its first content, or the bounds of a memory
pub data SourceContent : Type 0 where
  NoContent : SourceContent
  FirstContent : (value : SourceExpression) → SourceContent
  MemoryBounds : (bounds : SourceRange) → SourceContent

pub record SourceReg : Type 0 where
  pub name : Identifier
  pub place : SourcePlace
  pub content : SourceContent

pub record SourceAssignment : Type 0 where
  pub target : SourceTarget
  pub value : SourceExpression

pub record SourceGate : Type 0 where
  pub name : Option NamedPlace
  pub output : SourceTarget
  pub inputs : List SourceExpression

-- a connection, by the name of a port or a parameter or by its position; without a name its place is where its expression stands or would stand
pub record SourceConnection : Type 0 where
  pub name : Option Identifier
  pub place : SourcePlace
  pub actual : Option SourceExpression

pub record SourceInstance : Type 0 where
  pub name : Identifier
  pub place : SourcePlace
  pub connections : List SourceConnection

pub data SourceItem : Type 0 where
  ParameterItem : (group : SourceParameters) → SourceItem
  PortItem : (group : SourcePorts) → SourceItem
  WireItem : (place : SourcePlace) (signed : Bool) (range : Option SourceRange) (wires : List SourceWire) → SourceItem
  RegItem : (place : SourcePlace) (signed : Bool) (range : Option SourceRange) (regs : List SourceReg) → SourceItem
  IntegerItem : (place : SourcePlace) (regs : List SourceReg) → SourceItem
  AssignItem : (place : SourcePlace) (assignments : List SourceAssignment) → SourceItem
  GateItem : (place : SourcePlace) (kind : GateKind) (gates : List SourceGate) → SourceItem
  InstanceItem : (place : SourcePlace) (module_name : Identifier) (parameters : List SourceConnection) (instances : List SourceInstance) → SourceItem
  InitialItem : (place : SourcePlace) (body : SourceStatement) → SourceItem
  AlwaysItem : (place : SourcePlace) (body : SourceStatement) → SourceItem

-- the list of ports of a module: names alone, or declarations
pub data SourceHeads : Type 0 where
  PlainHeads : (names : List NamedPlace) → SourceHeads
  DeclaredHeads : (groups : List SourcePorts) → SourceHeads

-- a module, at its name
pub record SourceModule : Type 0 where
  pub name : Identifier
  pub place : SourcePlace
  pub parameters : List SourceParameters
  pub heads : SourceHeads
  pub items : List SourceItem

pub record SourceUnit : Type 0 where
  pub modules : List SourceModule

-- Words on expressions

-- the place of an expression's first token
abbrev pub place_of_expression : SourceExpression → SourcePlace
place_of_expression (Number place form value) = place
place_of_expression (Selected place name index) = place
place_of_expression (Parenthesised place inner) = place
place_of_expression (Prefixed place operator operand) = place
place_of_expression (Infixed place operator left right) = place
place_of_expression (Chosen place condition first second) = place
place_of_expression (Concatenated place parts) = place
place_of_expression (Replicated place count parts) = place

-- parts in a row
abbrev pub parts_of : List SourceExpression → SourceExpressions
parts_of [] = no_parts
parts_of (first ∷ rest) = more_parts first (parts_of rest)

abbrev pub place_of_target : SourceTarget → SourcePlace
place_of_target (OneSelect select) = select.place
place_of_target (JoinedSelects place selects) = place

-- the selects of a target, from the left
abbrev pub selects_of : SourceTarget → List SourceSelect
selects_of (OneSelect select) = select ∷ []
selects_of (JoinedSelects place selects) = selects

-- the expression that a select spells
abbrev pub select_expression : SourceSelect → SourceExpression
select_expression select = Selected select.place select.name select.index

abbrev mutual
  -- the names in an expression with their places, in text order
  pub named_in : SourceExpression → List NamedPlace
  named_in (Number place form value) = []
  named_in (Selected place name index) = record { name = name; place = place } ∷ named_in_index index
  named_in (Parenthesised place inner) = named_in inner
  named_in (Prefixed place operator operand) = named_in operand
  named_in (Infixed place operator left right) = named_in left ++ named_in right
  named_in (Chosen place condition first second) = named_in condition ++ (named_in first ++ named_in second)
  named_in (Concatenated place parts) = named_in_parts parts
  named_in (Replicated place count parts) = named_in count ++ named_in_parts parts

  pub named_in_index : SourceIndex → List NamedPlace
  named_in_index NoIndex = []
  named_in_index (IndexAt index) = named_in index
  named_in_index (IndexRange from to) = named_in from ++ named_in to

  pub named_in_parts : SourceExpressions → List NamedPlace
  named_in_parts no_parts = []
  named_in_parts (more_parts first rest) = named_in first ++ named_in_parts rest

-- the names in an expression, in text order
abbrev pub names_in : SourceExpression → List Identifier
names_in e = map (λ (n : NamedPlace). n.name) (named_in e)

abbrev pub names_in_index : SourceIndex → List Identifier
names_in_index index = map (λ (n : NamedPlace). n.name) (named_in_index index)

abbrev pub names_in_parts : SourceExpressions → List Identifier
names_in_parts parts = map (λ (n : NamedPlace). n.name) (named_in_parts parts)

-- whether two names are the same
abbrev pub same_name : Identifier → Identifier → Bool
same_name [] [] = true
same_name [] (b ∷ other) = false
same_name (a ∷ name) [] = false
same_name (a ∷ name) (b ∷ other) = nat_eq a b && same_name name other

-- whether a name stands in a list
abbrev pub has_name : List Identifier → Identifier → Bool
has_name [] name = false
has_name (other ∷ names) name = same_name other name || has_name names name
