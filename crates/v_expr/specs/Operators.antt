-- Which operator a token stands for, and how tightly it binds (IEEE 1364-2001, clause 4.1 and its table of precedence).
use Rattle.std.specs.Prelude.{ℕ, Option, Some, None}
use Rattle.four_value.specs.declared.operator.UnaryOperator.{UnaryOperator}
use Rattle.four_value.specs.declared.operator.UnaryOperator.TheVariants as unary
use Rattle.four_value.specs.declared.operator.BinaryOperator.{BinaryOperator}
use Rattle.four_value.specs.declared.operator.BinaryOperator.TheVariants as binary
use Rattle.v_readers.specs.declared.class.Class.{Class}
use Rattle.v_readers.specs.declared.class.Class.TheVariants as classes

-- the operator that a token of this class stands for before an operand
abbrev pub unary_of : Class → Option UnaryOperator
unary_of classes.Plus = Some unary.Plus
unary_of classes.Minus = Some unary.Minus
unary_of classes.Bang = Some unary.LogicalNot
unary_of classes.Tilde = Some unary.BitwiseNot
unary_of classes.And = Some unary.ReduceAnd
unary_of classes.Nand = Some unary.ReduceNand
unary_of classes.Or = Some unary.ReduceOr
unary_of classes.Nor = Some unary.ReduceNor
unary_of classes.Caret = Some unary.ReduceXor
unary_of classes.TildeCaret = Some unary.ReduceXnor
unary_of classes.CaretTilde = Some unary.ReduceXnor
unary_of _ = None

-- the operator that a token of this class stands for between two operands
abbrev pub binary_of : Class → Option BinaryOperator
binary_of classes.Star = Some binary.Multiply
binary_of classes.Slash = Some binary.Divide
binary_of classes.Percent = Some binary.Remainder
binary_of classes.Plus = Some binary.Add
binary_of classes.Minus = Some binary.Subtract
binary_of classes.ShiftLeft = Some binary.ShiftLeft
binary_of classes.ShiftRight = Some binary.ShiftRight
binary_of classes.ArithmeticShiftLeft = Some binary.ArithmeticShiftLeft
binary_of classes.ArithmeticShiftRight = Some binary.ArithmeticShiftRight
binary_of classes.Less = Some binary.Less
binary_of classes.LessEqual = Some binary.LessEqual
binary_of classes.Greater = Some binary.Greater
binary_of classes.GreaterEqual = Some binary.GreaterEqual
binary_of classes.Equal = Some binary.Equal
binary_of classes.NotEqual = Some binary.NotEqual
binary_of classes.CaseEqual = Some binary.CaseEqual
binary_of classes.CaseNotEqual = Some binary.CaseNotEqual
binary_of classes.And = Some binary.BitwiseAnd
binary_of classes.Caret = Some binary.BitwiseXor
binary_of classes.TildeCaret = Some binary.BitwiseXnor
binary_of classes.CaretTilde = Some binary.BitwiseXnor
binary_of classes.Or = Some binary.BitwiseOr
binary_of classes.LogicalAnd = Some binary.LogicalAnd
binary_of classes.LogicalOr = Some binary.LogicalOr
binary_of _ = None

-- the tighter an operator binds, the lower its level
abbrev pub level_of : BinaryOperator → ℕ
level_of binary.Multiply = 1
level_of binary.Divide = 1
level_of binary.Remainder = 1
level_of binary.Add = 2
level_of binary.Subtract = 2
level_of binary.ShiftLeft = 3
level_of binary.ShiftRight = 3
level_of binary.ArithmeticShiftLeft = 3
level_of binary.ArithmeticShiftRight = 3
level_of binary.Less = 4
level_of binary.LessEqual = 4
level_of binary.Greater = 4
level_of binary.GreaterEqual = 4
level_of binary.Equal = 5
level_of binary.NotEqual = 5
level_of binary.CaseEqual = 5
level_of binary.CaseNotEqual = 5
level_of binary.BitwiseAnd = 6
level_of binary.BitwiseXor = 7
level_of binary.BitwiseXnor = 7
level_of binary.BitwiseOr = 8
level_of binary.LogicalAnd = 9
level_of binary.LogicalOr = 10
