-- Sizes and signs: those of what stands together agree (IEEE 1364-2001, clause 4.4 and clause 4.5; bounds and indexes by clause 3.3 and clause 3.10).
use Rattle.std.specs.Prelude.{◌≡◌, ℕ, ◌+◌, ◌-◌, ◌*◌, ◌≤◌, ◌<◌, min, max, Bool, false, List, [], ◌∷◌, length, sum_by, Option, Some, None}
use Rattle.vf_base.specs.Lists.{AllHold}
use Rattle.vf_base.specs.declared.limits.TheConstants.{MAX_BITS}
use Rattle.v_design.specs.Trees.{Piece, Vector, Memory, Variable, Expression, Constant, Name, BitSelect, PartSelect, WordSelect, Unary, Binary, Conditional, Concatenation, Replication, Expressions}
use Rattle.v_design.specs.Trees.{no_expressions, more_expressions, Target, WholeTarget, BitTarget, PartTarget, WordTarget, Entry, Statement, Null, Block, If, Case, For, While, Repeat, Forever}
use Rattle.v_design.specs.Trees.{Delay, EventControl, Wait, Blocking, Nonblocking, Finish, Statements, no_statements, more_statements, CaseItems, no_items, more_items}
use Rattle.v_design.specs.Expressions.{width_of, sign_of}
use Rattle.v_design.specs.Assignments.{part_width, targets_width}
use Rattle.four_value.specs.declared.operator.UnaryOperator.{UnaryOperator}
use Rattle.four_value.specs.declared.operator.UnaryOperator.TheVariants.{Plus, Minus, LogicalNot, BitwiseNot, ReduceAnd, ReduceNand, ReduceOr, ReduceNor, ReduceXor, ReduceXnor}
use Rattle.four_value.specs.declared.operator.BinaryOperator.{BinaryOperator}
use Rattle.four_value.specs.declared.operator.BinaryOperator.TheVariants.{Multiply, Divide, Remainder, Add, Subtract, ShiftLeft, ShiftRight, ArithmeticShiftLeft, ArithmeticShiftRight, Less}
use Rattle.four_value.specs.declared.operator.BinaryOperator.TheVariants.{LessEqual, Greater, GreaterEqual, Equal, NotEqual, CaseEqual, CaseNotEqual, BitwiseAnd, BitwiseXor, BitwiseXnor, BitwiseOr}
use Rattle.four_value.specs.declared.operator.BinaryOperator.TheVariants.{LogicalAnd, LogicalOr}

-- How operators size their operands

-- how an operator sizes its one operand
pub data UnarySizing : Type 0 where
  -- the operand has the size and the sign of the whole
  OperandWithWhole : UnarySizing
  -- the operand is sized alone, and the answer is one unsigned bit
  OperandAlone : UnarySizing

-- sign and bitwise operators are sized with the whole, the others alone
abbrev pub unary_sizing : UnaryOperator → UnarySizing
unary_sizing Plus = OperandWithWhole
unary_sizing Minus = OperandWithWhole
unary_sizing LogicalNot = OperandAlone
unary_sizing BitwiseNot = OperandWithWhole
unary_sizing ReduceAnd = OperandAlone
unary_sizing ReduceNand = OperandAlone
unary_sizing ReduceOr = OperandAlone
unary_sizing ReduceNor = OperandAlone
unary_sizing ReduceXor = OperandAlone
unary_sizing ReduceXnor = OperandAlone

-- how an operator sizes its two operands
pub data BinarySizing : Type 0 where
  -- both operands have the size and the sign of the whole
  BothWithWhole : BinarySizing
  -- the left operand has those of the whole, the right one is sized alone
  LeftWithWhole : BinarySizing
  -- both operands are sized together, and the answer is one unsigned bit
  BothTogether : BinarySizing
  -- each operand is sized alone, and the answer is one unsigned bit
  EachAlone : BinarySizing

-- arithmetic and bitwise operators, shifts, comparisons, and the logical ones
abbrev pub binary_sizing : BinaryOperator → BinarySizing
binary_sizing Multiply = BothWithWhole
binary_sizing Divide = BothWithWhole
binary_sizing Remainder = BothWithWhole
binary_sizing Add = BothWithWhole
binary_sizing Subtract = BothWithWhole
binary_sizing ShiftLeft = LeftWithWhole
binary_sizing ShiftRight = LeftWithWhole
binary_sizing ArithmeticShiftLeft = LeftWithWhole
binary_sizing ArithmeticShiftRight = LeftWithWhole
binary_sizing Less = BothTogether
binary_sizing LessEqual = BothTogether
binary_sizing Greater = BothTogether
binary_sizing GreaterEqual = BothTogether
binary_sizing Equal = BothTogether
binary_sizing NotEqual = BothTogether
binary_sizing CaseEqual = BothTogether
binary_sizing CaseNotEqual = BothTogether
binary_sizing BitwiseAnd = BothWithWhole
binary_sizing BitwiseXor = BothWithWhole
binary_sizing BitwiseXnor = BothWithWhole
binary_sizing BitwiseOr = BothWithWhole
binary_sizing LogicalAnd = EachAlone
binary_sizing LogicalOr = EachAlone

-- The size that an expression has by itself

-- the size of an operator's answer over that of its operand
abbrev pub unary_width : UnarySizing → ℕ → ℕ
unary_width OperandWithWhole width = width
unary_width OperandAlone width = 1

-- the size of an operator's answer over those of its operands
abbrev pub binary_width : BinarySizing → ℕ → ℕ → ℕ
binary_width BothWithWhole left right = max left right
binary_width LeftWithWhole left right = left
binary_width BothTogether left right = 1
binary_width EachAlone left right = 1

-- the bits of some pieces
abbrev pub pieces_width : List Piece → ℕ
pieces_width pieces = sum_by (λ (piece : Piece). piece.width) pieces

abbrev mutual
  -- the size of an expression
  pub own_width : Expression → ℕ
  own_width (Constant width signed value) = length value
  own_width (Name width signed v) = pieces_width v.pieces
  own_width (BitSelect width signed v index) = 1
  own_width (PartSelect width signed v from to) = part_width from to
  own_width (WordSelect width signed m index) = m.width
  own_width (Unary width signed operator a) = unary_width (unary_sizing operator) (own_width a)
  own_width (Binary width signed operator a b) = binary_width (binary_sizing operator) (own_width a) (own_width b)
  own_width (Conditional width signed c a b) = max (own_width a) (own_width b)
  own_width (Concatenation width signed parts) = own_width_of_parts parts
  own_width (Replication width signed count parts) = count * own_width_of_parts parts

  -- the size of several expressions together
  pub own_width_of_parts : Expressions → ℕ
  own_width_of_parts no_expressions = 0
  own_width_of_parts (more_expressions part rest) = own_width part + own_width_of_parts rest

-- Agreement

-- the most bits of a vector
abbrev pub most_bits : ℕ
most_bits = MAX_BITS

-- an expression is sized alone
abbrev pub IsAlone : Expression → Type 0
IsAlone e = width_of e ≡ own_width e

-- an operand has the size and the sign of the whole
abbrev pub IsWithWhole : ℕ → Bool → Expression → Type 0
IsWithWhole width signed e = (width_of e ≡ width) × (sign_of e ≡ signed)

-- the operand of an operator is sized as it asks
abbrev pub UnaryAgrees : UnarySizing → ℕ → Bool → Expression → Type 0
UnaryAgrees OperandWithWhole width signed a = IsWithWhole width signed a
UnaryAgrees OperandAlone width signed a = (signed ≡ false) × IsAlone a

-- the operands of an operator are sized as it asks
abbrev pub BinaryAgrees : BinarySizing → ℕ → Bool → Expression → Expression → Type 0
BinaryAgrees BothWithWhole width signed a b = IsWithWhole width signed a × IsWithWhole width signed b
BinaryAgrees LeftWithWhole width signed a b = IsWithWhole width signed a × IsAlone b
BinaryAgrees BothTogether width signed a b = (signed ≡ false) × (width_of a ≡ max (own_width a) (own_width b)) × (width_of b ≡ width_of a) × (sign_of b ≡ sign_of a)
BinaryAgrees EachAlone width signed a b = (signed ≡ false) × IsAlone a × IsAlone b

-- the number of indexes between two bounds
abbrev pub span : ℕ → ℕ → ℕ
span high low = max high low - min high low + 1

-- the pieces of a name hold its bits
abbrev pub HasItsBits : Vector → Type 0
HasItsBits v = pieces_width v.pieces ≡ span v.high v.low

-- a memory has a word for each address
abbrev pub HasItsWords : Memory → Type 0
HasItsWords m = length m.words ≡ span m.first m.last

-- a part has at least one bit, and at least the size that it has by itself
abbrev pub HasRoom : ℕ → ℕ → Type 0
HasRoom width own = (1 ≤ own) × (own ≤ width) × (width ≤ most_bits)

abbrev mutual
  -- sizes and signs agree throughout an expression
  pub IsSized : Expression → Type 0
  IsSized (Constant width signed value) = HasRoom width (length value)
  IsSized (Name width signed v) = HasRoom width (pieces_width v.pieces) × HasItsBits v
  IsSized (BitSelect width signed v index) = HasRoom width 1 × (signed ≡ false) × HasItsBits v × IsAlone index × IsSized index
  IsSized (PartSelect width signed v from to) = HasRoom width (part_width from to) × (signed ≡ false) × HasItsBits v
  IsSized (WordSelect width signed m index) = HasRoom width m.width × HasItsWords m × IsAlone index × IsSized index
  IsSized (Unary width signed operator a) =
      HasRoom width (unary_width (unary_sizing operator) (own_width a)) × UnaryAgrees (unary_sizing operator) width signed a × IsSized a
  IsSized (Binary width signed operator a b) =
      HasRoom width (binary_width (binary_sizing operator) (own_width a) (own_width b)) × BinaryAgrees (binary_sizing operator) width signed a b × IsSized a × IsSized b
  IsSized (Conditional width signed c a b) =
      HasRoom width (max (own_width a) (own_width b)) × IsAlone c × IsWithWhole width signed a × IsWithWhole width signed b × IsSized c × IsSized a × IsSized b
  IsSized (Concatenation width signed parts) = HasRoom width (own_width_of_parts parts) × (signed ≡ false) × AreSizedAlone parts
  IsSized (Replication width signed count parts) = HasRoom width (count * own_width_of_parts parts) × (signed ≡ false) × AreSizedAlone parts

  -- several expressions, each sized alone
  pub AreSizedAlone : Expressions → Type 0
  AreSizedAlone no_expressions = Unit {0}
  AreSizedAlone (more_expressions part rest) = IsAlone part × IsSized part × AreSizedAlone rest

-- an expression that is sized alone, and throughout
abbrev pub IsSizedAlone : Expression → Type 0
IsSizedAlone e = IsAlone e × IsSized e

-- Statements

-- a variable has the bits that its bounds span
abbrev pub IsSizedVariable : Variable → Type 0
IsSizedVariable variable = (variable.width ≡ span variable.high variable.low) × (variable.width ≤ most_bits)

-- a target is a variable or a memory, with its index sized alone
abbrev pub IsSizedTarget : Target → Type 0
IsSizedTarget (WholeTarget variable) = IsSizedVariable variable
IsSizedTarget (BitTarget variable index) = IsSizedVariable variable × IsSizedAlone index
IsSizedTarget (PartTarget variable from to) = IsSizedVariable variable
IsSizedTarget (WordTarget memory index) = HasRoom memory.width 1 × HasItsWords memory × IsSizedAlone index

-- the value of an assignment has the size of the larger side
abbrev pub IsSizedAssignment : List Target → Expression → Type 0
IsSizedAssignment targets value =
    AllHold IsSizedTarget targets × (1 ≤ targets_width targets) × (width_of value ≡ max (targets_width targets) (own_width value)) × IsSized value

-- an entry of a wait has at least one bit
abbrev pub IsSizedEntry : Entry → Type 0
IsSizedEntry entry = HasRoom entry.width 1

-- a case sizes its expression and all labels together
abbrev pub greatest_own : Expressions → ℕ
greatest_own no_expressions = 0
greatest_own (more_expressions first rest) = max (own_width first) (greatest_own rest)

-- the greatest size of a case's labels
abbrev pub greatest_label : CaseItems → ℕ
greatest_label no_items = 0
greatest_label (more_items labels statement rest) = max (greatest_own labels) (greatest_label rest)

-- labels have the size and the sign of the case
abbrev pub AreLabels : ℕ → Bool → Expressions → Type 0
AreLabels width signed no_expressions = Unit {0}
AreLabels width signed (more_expressions label rest) = IsWithWhole width signed label × IsSized label × AreLabels width signed rest

-- delays end at 2 ^ 32
abbrev pub IsDelay : ℕ → Type 0
IsDelay delay = delay < 4294967296

-- a delay inside an assignment, if there is one
abbrev pub IsDelayIf : Option ℕ → Type 0
IsDelayIf None = Unit {0}
IsDelayIf (Some delay) = IsDelay delay

abbrev mutual
  -- sizes and signs agree throughout a statement
  pub IsSizedStatement : Statement → Type 0
  IsSizedStatement Null = Unit {0}
  IsSizedStatement (Block statements) = AreSizedStatements statements
  IsSizedStatement (If place condition first second) = IsSizedAlone condition × IsSizedStatement first × IsSizedStatement second
  IsSizedStatement (Case place kind value items default) =
      IsSized value × (width_of value ≡ max (own_width value) (greatest_label items)) × AreSizedItems (width_of value) (sign_of value) items × IsSizedStatement default
  IsSizedStatement (For place first_targets first condition next_targets next body) =
      IsSizedAssignment first_targets first × IsSizedAlone condition × IsSizedAssignment next_targets next × IsSizedStatement body
  IsSizedStatement (While place condition body) = IsSizedAlone condition × IsSizedStatement body
  IsSizedStatement (Repeat place count body) = IsSizedAlone count × IsSizedStatement body
  IsSizedStatement (Forever place body) = IsSizedStatement body
  IsSizedStatement (Delay place delay body) = IsDelay delay × IsSizedStatement body
  IsSizedStatement (EventControl place entries body) = AllHold IsSizedEntry entries × IsSizedStatement body
  IsSizedStatement (Wait place condition body) = IsSizedAlone condition × IsSizedStatement body
  IsSizedStatement (Blocking place targets delay value) = IsSizedAssignment targets value × IsDelayIf delay
  IsSizedStatement (Nonblocking place targets delay value) = IsSizedAssignment targets value × IsDelay delay
  IsSizedStatement (Finish place) = Unit {0}

  -- sizes and signs agree throughout several statements
  pub AreSizedStatements : Statements → Type 0
  AreSizedStatements no_statements = Unit {0}
  AreSizedStatements (more_statements first rest) = IsSizedStatement first × AreSizedStatements rest

  -- sizes and signs agree throughout the items of a case of some size and sign
  pub AreSizedItems : ℕ → Bool → CaseItems → Type 0
  AreSizedItems width signed no_items = Unit {0}
  AreSizedItems width signed (more_items labels statement rest) = AreLabels width signed labels × IsSizedStatement statement × AreSizedItems width signed rest

-- Levels

abbrev mutual
  -- an expression's level is 1, and each part stands one level below what it stands in
  pub levels_of : Expression → ℕ
  levels_of (Constant width signed value) = 1
  levels_of (Name width signed v) = 1
  levels_of (BitSelect width signed v index) = 1 + levels_of index
  levels_of (PartSelect width signed v from to) = 1
  levels_of (WordSelect width signed m index) = 1 + levels_of index
  levels_of (Unary width signed operator a) = 1 + levels_of a
  levels_of (Binary width signed operator a b) = 1 + max (levels_of a) (levels_of b)
  levels_of (Conditional width signed c a b) = 1 + max (levels_of c) (max (levels_of a) (levels_of b))
  levels_of (Concatenation width signed parts) = 1 + levels_of_parts parts
  levels_of (Replication width signed count parts) = 1 + levels_of_parts parts

  -- the levels of several expressions
  pub levels_of_parts : Expressions → ℕ
  levels_of_parts no_expressions = 0
  levels_of_parts (more_expressions part rest) = max (levels_of part) (levels_of_parts rest)

-- the levels of a target
abbrev pub levels_of_target : Target → ℕ
levels_of_target (WholeTarget variable) = 1
levels_of_target (BitTarget variable index) = 1 + levels_of index
levels_of_target (PartTarget variable from to) = 1
levels_of_target (WordTarget memory index) = 1 + levels_of index

-- the levels of several targets
abbrev pub levels_of_targets : List Target → ℕ
levels_of_targets [] = 0
levels_of_targets (target ∷ targets) = max (levels_of_target target) (levels_of_targets targets)

-- the levels of an assignment's two sides
abbrev pub levels_of_assignment : List Target → Expression → ℕ
levels_of_assignment targets value = max (levels_of_targets targets) (levels_of value)

abbrev mutual
  -- a statement's level is 1, and what stands in it is one level below
  pub levels_of_statement : Statement → ℕ
  levels_of_statement Null = 1
  levels_of_statement (Block statements) = 1 + levels_of_statements statements
  levels_of_statement (If place condition first second) = 1 + max (levels_of condition) (max (levels_of_statement first) (levels_of_statement second))
  levels_of_statement (Case place kind value items default) = 1 + max (levels_of value) (max (levels_of_items items) (levels_of_statement default))
  levels_of_statement (For place first_targets first condition next_targets next body) =
      1 + max (levels_of_assignment first_targets first) (max (levels_of condition) (max (levels_of_assignment next_targets next) (levels_of_statement body)))
  levels_of_statement (While place condition body) = 1 + max (levels_of condition) (levels_of_statement body)
  levels_of_statement (Repeat place count body) = 1 + max (levels_of count) (levels_of_statement body)
  levels_of_statement (Forever place body) = 1 + levels_of_statement body
  levels_of_statement (Delay place delay body) = 1 + levels_of_statement body
  levels_of_statement (EventControl place entries body) = 1 + levels_of_statement body
  levels_of_statement (Wait place condition body) = 1 + max (levels_of condition) (levels_of_statement body)
  levels_of_statement (Blocking place targets delay value) = 1 + levels_of_assignment targets value
  levels_of_statement (Nonblocking place targets delay value) = 1 + levels_of_assignment targets value
  levels_of_statement (Finish place) = 1

  -- the levels of several statements
  pub levels_of_statements : Statements → ℕ
  levels_of_statements no_statements = 0
  levels_of_statements (more_statements first rest) = max (levels_of_statement first) (levels_of_statements rest)

  -- the levels of the items of a case
  pub levels_of_items : CaseItems → ℕ
  levels_of_items no_items = 0
  levels_of_items (more_items labels statement rest) = max (levels_of_parts labels) (max (levels_of_statement statement) (levels_of_items rest))
