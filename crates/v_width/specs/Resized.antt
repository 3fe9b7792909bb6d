-- An expression at another size: the parts that are sized with the whole take it, those that are sized alone keep theirs (IEEE 1364-2001, clause 4.4).
use Rattle.std.specs.Prelude.{ℕ, Bool, true, false}
use Rattle.v_design.specs.Sized.{UnarySizing, OperandWithWhole, OperandAlone, unary_sizing, BinarySizing, BothWithWhole, LeftWithWhole, BothTogether, EachAlone, binary_sizing}
use Rattle.v_names.specs.SizedTrees.{SizedExpression, SizedConstant, SizedName, SizedBit, SizedPart, SizedWord, SizedUnary, SizedBinary, SizedChoice, SizedConcatenation, SizedReplication}

abbrev pub operand_with_whole : UnarySizing → Bool
operand_with_whole OperandWithWhole = true
operand_with_whole OperandAlone = false

abbrev pub left_with_whole : BinarySizing → Bool
left_with_whole BothWithWhole = true
left_with_whole LeftWithWhole = true
left_with_whole BothTogether = false
left_with_whole EachAlone = false

abbrev pub right_with_whole : BinarySizing → Bool
right_with_whole BothWithWhole = true
right_with_whole LeftWithWhole = false
right_with_whole BothTogether = false
right_with_whole EachAlone = false

-- the first of two trees where a test holds, else the second
abbrev pub tree_if : Bool → SizedExpression → SizedExpression → SizedExpression
tree_if true one other = one
tree_if false one other = other

abbrev pub with_size : SizedExpression → ℕ → Bool → SizedExpression
with_size (SizedConstant w s value) width signed = SizedConstant width signed value
with_size (SizedName w s name) width signed = SizedName width signed name
with_size (SizedBit w s name index) width signed = SizedBit width signed name index
with_size (SizedPart w s name from to) width signed = SizedPart width signed name from to
with_size (SizedWord w s name index) width signed = SizedWord width signed name index
with_size (SizedUnary w s operator operand) width signed =
    SizedUnary width signed operator (tree_if (operand_with_whole (unary_sizing operator)) (with_size operand width signed) operand)
with_size (SizedBinary w s operator left right) width signed =
    SizedBinary width signed operator (tree_if (left_with_whole (binary_sizing operator)) (with_size left width signed) left)
    (tree_if (right_with_whole (binary_sizing operator)) (with_size right width signed) right)
with_size (SizedChoice w s condition first second) width signed = SizedChoice width signed condition (with_size first width signed) (with_size second width signed)
with_size (SizedConcatenation w s parts) width signed = SizedConcatenation width signed parts
with_size (SizedReplication w s count parts) width signed = SizedReplication width signed count parts
