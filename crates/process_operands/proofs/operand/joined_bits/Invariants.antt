use Rattle.std.proofs.Common.{◌≡◌, take, None}
use Rattle.vf_base.specs.Lists.{joined}
use Rattle.expr_eval.specs.Operands.{bits_so_far}
use Rattle.process_operands.proofs.operand.joined_bits.Given as goal

abbrev pub invariant-operands : goal.invariant-operands
invariant-operands l =
    record {
      bits : bits_so_far l.bits ≡ take 128 (joined (take l.operand-index l.operands));
      none : l.bits ≡ None → l.operand-index ≡ 0;
    }
