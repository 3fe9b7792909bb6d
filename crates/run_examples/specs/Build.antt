-- Short words for designs that are written out as plain data.
use Rattle.std.specs.Prelude.{ℕ, pred, Bool, true, false, List, [], ◌∷◌, map, None}
use Rattle.four_value.specs.Values.{LogicValue, bits_of}
use Rattle.v_design.specs.Trees.{Vector, Expression, Constant, Name, Unary, Binary, Expressions, no_expressions, more_expressions, Variable, WholeTarget, Statement, Block, Blocking, Nonblocking}
use Rattle.v_design.specs.Trees.{EventControl, Statements, no_statements, more_statements, Entry}
use Rattle.vf_base.specs.Base.{SourcePlace, WatchedBit}
use Rattle.v_design.specs.Designs.{FlatObject, FlatNodeKind, FlatNode, FlatProcess, TestPlan, StuckAt, VariableBit, OutputBit, GateTerminal}
use Rattle.v_design.specs.Grades.{FaultGrade, Raced}
use Rattle.four_value.specs.declared.logic.Bit.{Bit}
use Rattle.four_value.specs.declared.logic.Bit.TheVariants.{Z}
use Rattle.v_design.specs.declared.logic.ObjectKind.{ObjectKind}
use Rattle.v_design.specs.declared.logic.ObjectKind.TheVariants.{Var, Net}
use Rattle.four_value.specs.declared.logic.Edge.{Edge}
use Rattle.vf_base.specs.declared.finding.Side.{Side}
use Rattle.vf_base.specs.declared.finding.AccessKind.{AccessKind}
use Rattle.four_value.specs.declared.operator.UnaryOperator.TheVariants.{BitwiseNot}
use Rattle.four_value.specs.declared.operator.BinaryOperator.TheVariants.{BitwiseAnd, BitwiseXor, Add}

-- a place in a line
abbrev pub at : ℕ → SourcePlace
at line = record { line = line; column = 1 }

-- Objects

abbrev pub object : ObjectKind → ℕ → LogicValue → FlatObject
object kind width first =
    record { name = []; kind = kind; width = width; ranged = true; high = pred width; low = 0; address = 0; first = first; place = at 2 }

abbrev pub reg_bit : Bit → FlatObject
reg_bit b = object Var 1 (b ∷ [])

abbrev pub reg_vector : ℕ → ℕ → FlatObject
reg_vector width n = object Var width (bits_of width n)

abbrev pub wire_bit : FlatObject
wire_bit = object Net 1 (Z ∷ [])

-- Expressions

abbrev pub vector_of : ℕ → ℕ → Vector
vector_of number width = record { high = pred width; low = 0; pieces = record { object = number; width = width } ∷ [] }

-- an object of a width of its own as an operand, at a width
abbrev pub operand : ℕ → ℕ → ℕ → Expression
operand number own width = Name width false (vector_of number own)

abbrev pub bit_operand : ℕ → Expression
bit_operand number = operand number 1 1

abbrev pub number : ℕ → ℕ → Expression
number width n = Constant width false (bits_of width n)

abbrev pub not_of : Expression → Expression
not_of a = Unary 1 false BitwiseNot a

abbrev pub and_of : Expression → Expression → Expression
and_of a b = Binary 1 false BitwiseAnd a b

abbrev pub xor_of : Expression → Expression → Expression
xor_of a b = Binary 1 false BitwiseXor a b

abbrev pub plus_one : ℕ → ℕ → Expression
plus_one object width = Binary 32 false Add (operand object width 32) (number 32 1)

abbrev pub terminals : List Expression → Expressions
terminals [] = no_expressions
terminals (e ∷ rest) = more_expressions e (terminals rest)

-- Statements

abbrev pub variable : ℕ → ℕ → Variable
variable object width = record { object = object; width = width; high = pred width; low = 0 }

abbrev pub set_vector : ℕ → ℕ → ℕ → Expression → Statement
set_vector line object width value = Blocking (at line) (WholeTarget (variable object width) ∷ []) None value

abbrev pub set_bit : ℕ → ℕ → Expression → Statement
set_bit line object value = set_vector line object 1 value

abbrev pub later_vector : ℕ → ℕ → ℕ → Expression → Statement
later_vector line object width value = Nonblocking (at line) (WholeTarget (variable object width) ∷ []) 0 value

abbrev pub later_bit : ℕ → ℕ → Expression → Statement
later_bit line object value = later_vector line object 1 value

abbrev pub statements : List Statement → Statements
statements [] = no_statements
statements (s ∷ rest) = more_statements s (statements rest)

abbrev pub block : List Statement → Statement
block all = Block (statements all)

abbrev pub entry_of : Edge → ℕ → Entry
entry_of edge object = record { object = object; low = 0; width = 1; edge = edge }

abbrev pub wait_for : ℕ → Edge → ℕ → Statement → Statement
wait_for line edge object body = EventControl (at line) (entry_of edge object ∷ []) body

abbrev pub wait_for_two : ℕ → Edge → ℕ → Edge → ℕ → Statement → Statement
wait_for_two line edge object edge' object' body = EventControl (at line) (entry_of edge object ∷ entry_of edge' object' ∷ []) body

-- Designs and plans

abbrev pub process : Bool → ℕ → Statement → FlatProcess
process always line body = record { always = always; body = body; place = at line }

abbrev pub node : FlatNodeKind → List ℕ → List ℕ → FlatNode
node kind inputs outputs = record { kind = kind; inputs = inputs; outputs = outputs; name = [] }

abbrev pub watched_bit : ℕ → WatchedBit
watched_bit object = record { object = object; bit = 0 }

abbrev pub plan : ℕ → List ℕ → List ℕ → List StuckAt → TestPlan
plan end watched strobes faults = record { end = end; strobes = strobes; watched = map watched_bit watched; faults = faults }

abbrev pub variable_fault : ℕ → ℕ → Bool → StuckAt
variable_fault object bit value = record { site = VariableBit object bit; value = value }

abbrev pub output_fault : ℕ → ℕ → ℕ → Bool → StuckAt
output_fault node object bit value = record { site = OutputBit node object bit; value = value }

abbrev pub terminal_fault : ℕ → ℕ → Bool → StuckAt
terminal_fault node terminal value = record { site = GateTerminal node terminal; value = value }

abbrev pub race : Side → ℕ → ℕ → AccessKind → ℕ → ℕ → ℕ → AccessKind → ℕ → ℕ → ℕ → FaultGrade
race side time phase kind object process line kind' object' process' line' =
    Raced side (record {
      time = time;
      phase = phase;
      first = record { kind = kind; object = object; process = process; line = line };
      second = record { kind = kind'; object = object'; process = process'; line = line' };
    })
