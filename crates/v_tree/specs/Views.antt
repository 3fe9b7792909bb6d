-- The tree of the code as the plain tree.
use Rattle.std.specs.Prelude.{List, [], ◌∷◌, map, Option, Some, None}
use Rattle.vf_base.specs.Base.{source_place}
use Rattle.vf_base.specs.declared.ids.Place.{Place}
use Rattle.v_tree.specs.Trees as plain
use Rattle.v_tree.specs.declared.expression.Expr.{Expr, Row_of-Expr, end_of-Expr, more_of-Expr}
use Rattle.v_tree.specs.declared.expression.Expr.TheVariants as code
use Rattle.v_tree.specs.declared.expression.Index.{Index}
use Rattle.v_tree.specs.declared.expression.Index.TheVariants.{Whole, Bit, Part}
use Rattle.v_tree.specs.declared.expression.Select.{Select}
use Rattle.v_tree.specs.declared.expression.Target.{Target}
use Rattle.v_tree.specs.declared.expression.Target.TheVariants.{One, Joined}
use Rattle.v_tree.specs.declared.statement.Entry.{Entry}
use Rattle.v_tree.specs.declared.statement.Waits.{Waits}
use Rattle.v_tree.specs.declared.statement.Waits.TheVariants.{AnyRead, Entries}
use Rattle.v_tree.specs.declared.statement.Stmt.{Stmt, Row_of-Stmt, end_of-Stmt, more_of-Stmt, Row_of-CaseItem, end_of-CaseItem, more_of-CaseItem, Held-Stmt-If-3, None', Some'}
use Rattle.v_tree.specs.declared.statement.Stmt.TheVariants as statements
use Rattle.v_tree.specs.declared.statement.CaseItem.{CaseItem}
use Rattle.v_tree.specs.declared.statement.CaseItem.TheVariants.{Labelled, Default}
use Rattle.v_tree.specs.declared.item.Name.{Name}
use Rattle.v_tree.specs.declared.item.Range.{Range}
use Rattle.v_tree.specs.declared.item.Param.{Param}
use Rattle.v_tree.specs.declared.item.Params.{Params}
use Rattle.v_tree.specs.declared.item.Ports.{Ports}
use Rattle.v_tree.specs.declared.item.Wire.{Wire}
use Rattle.v_tree.specs.declared.item.Content.{Content}
use Rattle.v_tree.specs.declared.item.Content.TheVariants.{Nothing, First, Memory}
use Rattle.v_tree.specs.declared.item.Reg.{Reg}
use Rattle.v_tree.specs.declared.item.Assignment.{Assignment}
use Rattle.v_tree.specs.declared.item.Gate.{Gate}
use Rattle.v_tree.specs.declared.item.Connection.{Connection}
use Rattle.v_tree.specs.declared.item.Instance.{Instance}
use Rattle.v_tree.specs.declared.item.Item.{Item}
use Rattle.v_tree.specs.declared.item.Item.TheVariants as items
use Rattle.v_tree.specs.declared.item.Heads.{Heads}
use Rattle.v_tree.specs.declared.item.Heads.TheVariants.{Plain, Declared}
use Rattle.v_tree.specs.declared.item.Module.{Module}
use Rattle.v_tree.specs.declared.item.Unit.{Unit as CodeUnit}

-- Expressions

abbrev mutual
  -- an expression
  pub expression_of : Expr → plain.SourceExpression
  expression_of (code.Number place form value) = plain.Number (source_place place) form value
  expression_of (code.Name place name) = plain.Selected (source_place place) name plain.NoIndex
  expression_of (code.BitSelect' place name p index) = plain.Selected (source_place place) name (plain.IndexAt (expression_of index))
  expression_of (code.PartSelect' place name p from q to) = plain.Selected (source_place place) name (plain.IndexRange (expression_of from) (expression_of to))
  expression_of (code.Paren' place p inner) = plain.Parenthesised (source_place place) (expression_of inner)
  expression_of (code.Unary' place operator p operand) = plain.Prefixed (source_place place) operator (expression_of operand)
  expression_of (code.Binary' place operator p left q right) = plain.Infixed (source_place place) operator (expression_of left) (expression_of right)
  expression_of (code.Conditional' place p condition q first r second) = plain.Chosen (source_place place) (expression_of condition) (expression_of first) (expression_of second)
  expression_of (code.Concat' place shape parts) = plain.Concatenated (source_place place) (expressions_of_row parts)
  expression_of (code.Repeat' place p count shape parts) = plain.Replicated (source_place place) (expression_of count) (expressions_of_row parts)

  -- the expressions of a row
  pub expressions_of_row : {n : _} → Row_of-Expr n → plain.SourceExpressions
  expressions_of_row end_of-Expr = plain.no_parts
  expressions_of_row (more_of-Expr first rest) = plain.more_parts (expression_of first) (expressions_of_row rest)

-- a list of expressions
abbrev pub expressions_of : List Expr → plain.SourceExpressions
expressions_of [] = plain.no_parts
expressions_of (first ∷ rest) = plain.more_parts (expression_of first) (expressions_of rest)

-- an expression that may be there
abbrev pub expression_in : Option Expr → Option plain.SourceExpression
expression_in None = None
expression_in (Some e) = Some (expression_of e)

-- what stands in brackets behind a name
abbrev pub index_of : Index → plain.SourceIndex
index_of Whole = plain.NoIndex
index_of (Bit index) = plain.IndexAt (expression_of index)
index_of (Part from to) = plain.IndexRange (expression_of from) (expression_of to)

-- a select
abbrev pub select_of : Select → plain.SourceSelect
select_of s = record { place = source_place s.place; name = s.name; index = index_of s.index }

-- a target
abbrev pub target_of : Target → plain.SourceTarget
target_of (One select) = plain.OneSelect (select_of select)
target_of (Joined place selects) = plain.JoinedSelects (source_place place) (map select_of selects)

-- Statements

-- an entry of an event control
abbrev pub entry_of : Entry → plain.SourceEntry
entry_of e = record { edge = e.edge; select = select_of e.select }

-- what an event control waits for
abbrev pub waits_of : Waits → plain.SourceWaits
waits_of AnyRead = plain.OnAnyRead
waits_of (Entries entries) = plain.OnEntries (map entry_of entries)

abbrev mutual
  -- a statement
  pub statement_of : Stmt → plain.SourceStatement
  statement_of (statements.Null place) = plain.NullStatement (source_place place)
  statement_of (statements.Block' place shape body) = plain.BlockStatement (source_place place) (statements_of_row body)
  statement_of (statements.If' place condition p first second) = if_of place condition (statement_of first) second
  statement_of (statements.Case' place kind value shape items) = plain.CaseStatement (source_place place) kind (expression_of value) (items_of_row items)
  statement_of (statements.For' place first_target first condition next_target next p body) =
      plain.ForStatement (source_place place) (target_of first_target) (expression_of first) (expression_of condition) (target_of next_target) (expression_of next) (statement_of body)
  statement_of (statements.While' place condition p body) = plain.WhileStatement (source_place place) (expression_of condition) (statement_of body)
  statement_of (statements.Repeat' place count p body) = plain.RepeatStatement (source_place place) (expression_of count) (statement_of body)
  statement_of (statements.Forever' place p body) = plain.ForeverStatement (source_place place) (statement_of body)
  statement_of (statements.Wait' place condition p body) = plain.WaitStatement (source_place place) (expression_of condition) (statement_of body)
  statement_of (statements.Event' place waits p body) = plain.EventStatement (source_place place) (waits_of waits) (statement_of body)
  statement_of (statements.Delay' place delay p body) = plain.DelayStatement (source_place place) (expression_of delay) (statement_of body)
  statement_of (statements.Blocking place target delay value) = plain.BlockingStatement (source_place place) (target_of target) (expression_in delay) (expression_of value)
  statement_of (statements.Nonblocking place target delay value) = plain.NonblockingStatement (source_place place) (target_of target) (expression_in delay) (expression_of value)
  statement_of (statements.IgnoredTask place) = plain.IgnoredTask (source_place place)
  statement_of (statements.Finish place) = plain.FinishTask (source_place place)

  -- an `if`, with its `else` if it has one
  pub if_of : Place → Expr → plain.SourceStatement → Held-Stmt-If-3 → plain.SourceStatement
  if_of place condition first None' = plain.IfStatement (source_place place) (expression_of condition) first
  if_of place condition first (Some' p second) = plain.IfElseStatement (source_place place) (expression_of condition) first (statement_of second)

  -- the statements of a row
  pub statements_of_row : {n : _} → Row_of-Stmt n → plain.SourceStatements
  statements_of_row end_of-Stmt = plain.no_source_statements
  statements_of_row (more_of-Stmt first rest) = plain.more_source_statements (statement_of first) (statements_of_row rest)

  -- an item of a case before others
  pub item_before : CaseItem → plain.SourceCaseItems → plain.SourceCaseItems
  item_before (Labelled labels statement) rest = plain.labelled (expressions_of labels) (statement_of statement) rest
  item_before (Default statement) rest = plain.otherwise (statement_of statement) rest

  -- the items of a row
  pub items_of_row : {n : _} → Row_of-CaseItem n → plain.SourceCaseItems
  items_of_row end_of-CaseItem = plain.no_source_items
  items_of_row (more_of-CaseItem first rest) = item_before first (items_of_row rest)

-- a list of statements
abbrev pub statements_of : List Stmt → plain.SourceStatements
statements_of [] = plain.no_source_statements
statements_of (first ∷ rest) = plain.more_source_statements (statement_of first) (statements_of rest)

-- a list of items of a case
abbrev pub case_items_of : List CaseItem → plain.SourceCaseItems
case_items_of [] = plain.no_source_items
case_items_of (first ∷ rest) = item_before first (case_items_of rest)

-- the branch behind `else`, if there is one
abbrev pub if_else_of : Place → Expr → Stmt → Option Stmt → plain.SourceStatement
if_else_of place condition first None = plain.IfStatement (source_place place) (expression_of condition) (statement_of first)
if_else_of place condition first (Some second) = plain.IfElseStatement (source_place place) (expression_of condition) (statement_of first) (statement_of second)

-- Declarations and items

-- a name with its place
abbrev pub name_of : Name → plain.NamedPlace
name_of n = record { name = n.name; place = source_place n.place }

-- a name that may be there
abbrev pub name_in : Option Name → Option plain.NamedPlace
name_in None = None
name_in (Some n) = Some (name_of n)

-- a range
abbrev pub range_of : Range → plain.SourceRange
range_of r = record { place = source_place r.place; high = expression_of r.high; low = expression_of r.low }

-- a range that may be there
abbrev pub range_in : Option Range → Option plain.SourceRange
range_in None = None
range_in (Some r) = Some (range_of r)

-- a parameter
abbrev pub parameter_of : Param → plain.SourceParameter
parameter_of p = record { name = p.name; place = source_place p.place; value = expression_of p.value }

-- parameters that are declared together
abbrev pub parameters_of : Params → plain.SourceParameters
parameters_of p =
    record { place = source_place p.place; is_local = p.is_local; signed = p.signed; range = range_in p.range; parameters = map parameter_of p.params }

-- ports that are declared together
abbrev pub ports_of : Ports → plain.SourcePorts
ports_of p =
    record {
      place = source_place p.place;
      direction = p.direction;
      is_reg = p.is_reg;
      signed = p.signed;
      range = range_in p.range;
      names = map name_of p.names;
    }

-- a net
abbrev pub wire_of : Wire → plain.SourceWire
wire_of w = record { name = w.name; place = source_place w.place; value = expression_in w.value }

-- what stands behind the name of a variable
abbrev pub content_of : Content → plain.SourceContent
content_of Nothing = plain.NoContent
content_of (First value) = plain.FirstContent (expression_of value)
content_of (Memory bounds) = plain.MemoryBounds (range_of bounds)

-- a variable
abbrev pub reg_of : Reg → plain.SourceReg
reg_of r = record { name = r.name; place = source_place r.place; content = content_of r.content }

-- an assignment of a net
abbrev pub assignment_of : Assignment → plain.SourceAssignment
assignment_of a = record { target = target_of a.target; value = expression_of a.value }

-- a gate
abbrev pub gate_of : Gate → plain.SourceGate
gate_of g = record { name = name_in g.name; output = target_of g.output; inputs = map expression_of g.inputs }

-- a connection
abbrev pub connection_of : Connection → plain.SourceConnection
connection_of c = record { name = c.name; place = source_place c.place; actual = expression_in c.actual }

-- an instance
abbrev pub instance_of : Instance → plain.SourceInstance
instance_of i = record { name = i.name; place = source_place i.place; connections = map connection_of i.connections }

-- an item
abbrev pub item_of : Item → plain.SourceItem
item_of (items.Params group) = plain.ParameterItem (parameters_of group)
item_of (items.Ports group) = plain.PortItem (ports_of group)
item_of (items.Wire place signed range wires) = plain.WireItem (source_place place) signed (range_in range) (map wire_of wires)
item_of (items.Reg place signed range regs) = plain.RegItem (source_place place) signed (range_in range) (map reg_of regs)
item_of (items.Integer place regs) = plain.IntegerItem (source_place place) (map reg_of regs)
item_of (items.Assign place assignments) = plain.AssignItem (source_place place) (map assignment_of assignments)
item_of (items.Gate place kind gates) = plain.GateItem (source_place place) kind (map gate_of gates)
item_of (items.Instance place module_name parameters instances) =
    plain.InstanceItem (source_place place) module_name (map connection_of parameters) (map instance_of instances)
item_of (items.Initial place body) = plain.InitialItem (source_place place) (statement_of body)
item_of (items.Always place body) = plain.AlwaysItem (source_place place) (statement_of body)

-- the list of ports of a module
abbrev pub heads_of : Heads → plain.SourceHeads
heads_of (Plain names) = plain.PlainHeads (map name_of names)
heads_of (Declared groups) = plain.DeclaredHeads (map ports_of groups)

-- a module
abbrev pub module_of : Module → plain.SourceModule
module_of m =
    record {
      name = m.name;
      place = source_place m.place;
      parameters = map parameters_of m.params;
      heads = heads_of m.ports;
      items = map item_of m.items;
    }

-- a text's modules
abbrev pub unit_of : CodeUnit → plain.SourceUnit
unit_of u = record { modules = map module_of u.modules }
