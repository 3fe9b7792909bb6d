-- The plain data that the code's types stand for (each construct by the clause of IEEE 1364-2001 that the file of its plain type names).
use Rattle.std.specs.Prelude.{ℕ, List, [], ◌∷◌, map}
use mathlib.Core.Former.{Count}
use Rattle.vf_base.specs.declared.ids.WatchBit.{WatchBit}
use Rattle.vf_base.specs.Base.{object_number, node_number, source_place, watched_bit}
use Rattle.v_design.specs.Trees as plain
use Rattle.v_design.specs.Designs as plain_design
use Rattle.v_design.specs.Assignments as plain_update
use Rattle.v_design.specs.States as plain_state
use Rattle.v_design.specs.Grades as plain_grade
use Rattle.v_design.specs.declared.tree.PieceRef.{PieceRef}
use Rattle.v_design.specs.declared.tree.VectorRef.{VectorRef}
use Rattle.v_design.specs.declared.tree.MemoryRef.{MemoryRef}
use Rattle.v_design.specs.declared.tree.VariableRef.{VariableRef}
use Rattle.v_design.specs.declared.tree.WaitEntry.{WaitEntry}
use Rattle.v_design.specs.declared.tree.FlatExpr.{FlatExpr, Row_of-FlatExpr, end_of-FlatExpr, more_of-FlatExpr}
use Rattle.v_design.specs.declared.tree.FlatExpr.TheVariants.{Constant, Name, BitSelect', PartSelect, WordSelect', Unary', Binary', Conditional', Concatenation', Replication'}
use Rattle.v_design.specs.declared.tree.FlatTarget.{FlatTarget}
use Rattle.v_design.specs.declared.tree.FlatTarget.TheVariants.{Whole, Part}
use Rattle.v_design.specs.declared.tree.FlatTarget.TheVariants.{Bit as BitPart, Word as WordPart}
use Rattle.v_design.specs.declared.tree.FlatStmt.{FlatStmt, Row_of-FlatStmt, end_of-FlatStmt, more_of-FlatStmt, Row_of-CaseItem, end_of-CaseItem, more_of-CaseItem}
use Rattle.v_design.specs.declared.tree.FlatStmt.TheVariants.{Null, Block', If', Case', For', While', Repeat', Forever', Delay', EventControl', Wait', Blocking, Nonblocking, Finish}
use Rattle.v_design.specs.declared.plan.Object.{Object}
use Rattle.v_design.specs.declared.plan.NodeKind.{NodeKind}
use Rattle.v_design.specs.declared.plan.NodeKind.TheVariants.{Assign, Gate, Block}
use Rattle.v_design.specs.declared.plan.Node.{Node}
use Rattle.v_design.specs.declared.plan.Process.{Process}
use Rattle.v_design.specs.declared.plan.Site.{Site}
use Rattle.v_design.specs.declared.plan.Site.TheVariants.{Var, Out, Terminal}
use Rattle.v_design.specs.declared.plan.Fault.{Fault}
use Rattle.v_design.specs.declared.plan.JoinedName.{JoinedName}
use Rattle.v_design.specs.declared.plan.Update.{Update}
use Rattle.v_design.specs.declared.plan.Due.{Due}
use Rattle.vf_base.specs.Base as reports
use Rattle.vf_base.specs.declared.finding.End.{End}
use Rattle.vf_base.specs.declared.finding.End.TheVariants.{Detected, Possible, Undetected, Race, Hyper}

-- Names

-- a piece of a name
abbrev pub piece_of : PieceRef → plain.Piece
piece_of p = record { object = object_number p.object; width = p.width }

-- a name with its pieces
abbrev pub vector_of : VectorRef → plain.Vector
vector_of v = record { high = v.high; low = v.low; pieces = map piece_of v.pieces }

-- a memory with its words
abbrev pub memory_of : MemoryRef → plain.Memory
memory_of m = record { first = m.first; last = m.last; width = m.width; words = map object_number m.words }

-- a variable as a target
abbrev pub variable_of : VariableRef → plain.Variable
variable_of v = record { object = object_number v.object; width = v.width; high = v.high; low = v.low }

-- an entry of a wait
abbrev pub entry_of : WaitEntry → plain.Entry
entry_of e = record { object = object_number e.object; low = e.low; width = e.width; edge = e.edge }

-- Expressions

abbrev mutual
  -- an expression
  pub expression_of : FlatExpr → plain.Expression
  expression_of (Constant width signed value) = plain.Constant width signed value
  expression_of (Name width signed v) = plain.Name width signed (vector_of v)
  expression_of (BitSelect' width signed v p index) = plain.BitSelect width signed (vector_of v) (expression_of index)
  expression_of (PartSelect width signed v from to) = plain.PartSelect width signed (vector_of v) from to
  expression_of (WordSelect' width signed m p index) = plain.WordSelect width signed (memory_of m) (expression_of index)
  expression_of (Unary' width signed operator p a) = plain.Unary width signed operator (expression_of a)
  expression_of (Binary' width signed operator p a q b) = plain.Binary width signed operator (expression_of a) (expression_of b)
  expression_of (Conditional' width signed p c q a r b) = plain.Conditional width signed (expression_of c) (expression_of a) (expression_of b)
  expression_of (Concatenation' width signed shape parts) = plain.Concatenation width signed (expressions_of_row parts)
  expression_of (Replication' width signed count shape parts) = plain.Replication width signed count (expressions_of_row parts)

  -- the expressions of a row
  pub expressions_of_row : {n : Count} → Row_of-FlatExpr n → plain.Expressions
  expressions_of_row end_of-FlatExpr = plain.no_expressions
  expressions_of_row (more_of-FlatExpr first rest) = plain.more_expressions (expression_of first) (expressions_of_row rest)

-- a list of expressions
abbrev pub expressions_of : List FlatExpr → plain.Expressions
expressions_of [] = plain.no_expressions
expressions_of (first ∷ rest) = plain.more_expressions (expression_of first) (expressions_of rest)

-- Statements

-- a target
abbrev pub target_of : FlatTarget → plain.Target
target_of (Whole v) = plain.WholeTarget (variable_of v)
target_of (BitPart v index) = plain.BitTarget (variable_of v) (expression_of index)
target_of (Part v from to) = plain.PartTarget (variable_of v) from to
target_of (WordPart m index) = plain.WordTarget (memory_of m) (expression_of index)

abbrev mutual
  -- a statement
  pub statement_of : FlatStmt → plain.Statement
  statement_of Null = plain.Null
  statement_of (Block' place shape statements) = plain.Block (statements_of_row statements)
  statement_of (If' place condition p first q second) = plain.If (source_place place) (expression_of condition) (statement_of first) (statement_of second)
  statement_of (Case' place kind value shape items p default) = plain.Case (source_place place) kind (expression_of value) (items_of_row items) (statement_of default)
  statement_of (For' place first_targets first condition next_targets next p body) =
      plain.For (source_place place) (map target_of first_targets.items) (expression_of first) (expression_of condition) (map target_of next_targets.items) (expression_of next) (statement_of body)
  statement_of (While' place condition p body) = plain.While (source_place place) (expression_of condition) (statement_of body)
  statement_of (Repeat' place count p body) = plain.Repeat (source_place place) (expression_of count) (statement_of body)
  statement_of (Forever' place p body) = plain.Forever (source_place place) (statement_of body)
  statement_of (Delay' place delay p body) = plain.Delay (source_place place) delay (statement_of body)
  statement_of (EventControl' place entries p body) = plain.EventControl (source_place place) (map entry_of entries) (statement_of body)
  statement_of (Wait' place condition p body) = plain.Wait (source_place place) (expression_of condition) (statement_of body)
  statement_of (Blocking place targets delay value) = plain.Blocking (source_place place) (map target_of targets.items) delay (expression_of value)
  statement_of (Nonblocking place targets delay value) = plain.Nonblocking (source_place place) (map target_of targets.items) delay (expression_of value)
  statement_of (Finish place) = plain.Finish (source_place place)

  -- the statements of a row
  pub statements_of_row : {n : Count} → Row_of-FlatStmt n → plain.Statements
  statements_of_row end_of-FlatStmt = plain.no_statements
  statements_of_row (more_of-FlatStmt first rest) = plain.more_statements (statement_of first) (statements_of_row rest)

  -- the items of a row
  pub items_of_row : {n : Count} → Row_of-CaseItem n → plain.CaseItems
  items_of_row end_of-CaseItem = plain.no_items
  items_of_row (more_of-CaseItem labels statement rest) = plain.more_items (expressions_of labels.items) (statement_of statement) (items_of_row rest)

-- Designs

-- an object
abbrev pub object_of : Object → plain_design.FlatObject
object_of o =
    record {
      name = o.name;
      kind = o.kind;
      width = o.width;
      ranged = o.ranged;
      high = o.high;
      low = o.low;
      address = o.address;
      first = o.first;
      place = source_place o.place;
    }

-- a joined name
abbrev pub name_joined : JoinedName → plain_design.NameJoined
name_joined n = record { name = n.name; ranged = n.ranged; vector = record { high = n.high; low = n.low; pieces = map piece_of n.pieces } }

-- what a node does
abbrev pub node_kind_of : NodeKind → plain_design.FlatNodeKind
node_kind_of (Assign value places) = plain_design.AssignNode (expression_of value) places
node_kind_of (Gate kind terminals) = plain_design.GateNode kind (expressions_of terminals.items)
node_kind_of (Block statement) = plain_design.BlockNode (statement_of statement)

-- a node
abbrev pub node_of : Node → plain_design.FlatNode
node_of n = record { kind = node_kind_of n.kind; inputs = map object_number n.inputs; outputs = map object_number n.outputs; name = n.name }

-- a process
abbrev pub process_of : Process → plain_design.FlatProcess
process_of p = record { always = p.always; body = statement_of p.body; place = source_place p.place }

-- a design of these parts
abbrev pub flat_design : List Object → List JoinedName → List Node → List Process → plain_design.FlatDesign
flat_design objects joined nodes processes =
    record { objects = map object_of objects; joined = map name_joined joined; nodes = map node_of nodes; processes = map process_of processes }

-- Faults and plans

-- the site of a fault
abbrev pub site_of : Site → plain_design.FaultSite
site_of (Var object bit) = plain_design.VariableBit (object_number object) bit
site_of (Out node object bit) = plain_design.OutputBit (node_number node) (object_number object) bit
site_of (Terminal node terminal) = plain_design.GateTerminal (node_number node) terminal

-- a fault
abbrev pub fault_of : Fault → plain_design.StuckAt
fault_of f = record { site = site_of f.site; value = f.value }

-- a plan of these parts
abbrev pub test_plan : ℕ → List ℕ → List WatchBit → List Fault → plain_design.TestPlan
test_plan end strobes watched faults = record { end = end; strobes = strobes; watched = map watched_bit watched; faults = map fault_of faults }

-- Updates

-- an update
abbrev pub update_of : Update → plain_update.ValueUpdate
update_of u = record { object = object_number u.object; low = u.low; value = u.value; line = u.line }

-- an update with its time
abbrev pub due_of : Due → plain_state.LaterUpdate
due_of d = record { time = d.time; update = update_of d.update }

-- Grades

-- the grade of a fault
abbrev pub grade_of : End → plain_grade.FaultGrade
grade_of (Detected time) = plain_grade.Judged (plain_grade.Detected time)
grade_of (Possible time) = plain_grade.Judged (plain_grade.Possible time)
grade_of Undetected = plain_grade.Judged plain_grade.Undetected
grade_of (Race side pair) = plain_grade.Raced side (reports.reported_pair pair)
grade_of (Hyper time) = plain_grade.Looped time
