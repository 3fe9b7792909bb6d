use Rattle.std.proofs.Common.{◌≡◌, drop}
use Rattle.vf_base.specs.Lists.{joined}
use Rattle.v_design.specs.Expressions.{bit_at_place, place_of_number}
use Rattle.process_operands.specs.Sought.{sought_bit}
use Rattle.process_operands.proofs.part.bit_of_index.Given as goal

abbrev pub invariant-operands : goal.invariant-operands
invariant-operands l =
    sought_bit l.sought (joined (drop l.operand-index l.operands)) ≡ bit_at_place (joined l.operands) (place_of_number l.vector.high l.vector.low l.fn.index)
