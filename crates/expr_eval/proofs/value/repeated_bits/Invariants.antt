use Rattle.std.proofs.Common.{◌≡◌}
use Rattle.v_design.specs.Expressions.{repeated}
use Rattle.expr_eval.specs.Operands.{bits_so_far}
use Rattle.expr_eval.proofs.value.repeated_bits.Given as goal

abbrev pub invariant-times : goal.invariant-times
invariant-times l = bits_so_far l.all ≡ repeated l.counter l.bits
