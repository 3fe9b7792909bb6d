use Rattle.std.proofs.Common.{take, ◌∙◌, ap, ◌++◌}
use Rattle.expr_eval.specs.Operands.{bits_so_far}
use Rattle.process_operands.proofs.Cuts.{joined-more}
use Rattle.process_operands.proofs.operand.joined_bits.Goals as goal

pub operands-preserved : goal.operands-preserved
operands-preserved c =
    record {
      bits = c.put_above.ensures ∙ ap (λ x. take 128 (bits_so_far c.operands.bits ++ x)) c.operand-item.is
          ∙ joined-more 128 c.operands.operand-index c.args.operands.now _ _ c.operands-test.true c.operands.invariant.bits;
      none = λ e. absurd (cc);
    }
