use Rattle.std.proofs.Common.{◌++◌, take, arith, sym, ◌∙◌, ap, length-append}
use Rattle.expr_eval.specs.Operands.{bits_so_far}
use Rattle.process_operands.proofs.Cuts.{cut-none}
use Rattle.process_operands.proofs.operand.put_above.Goals as goal

pub returns-in-None : goal.returns-in-None
returns-in-None c =
    cut-none 128 c.args.high (omega (arith, c.width-at_most_128.ensures.bits, c.width-at_most_128.ensures.in_range)) ∙ ap (λ low. take 128 (bits_so_far low ++ c.args.high)) (sym c.in-None.is)

pub returns-in-Ok : goal.returns-in-Ok
returns-in-Ok c =
    let both = c.in-Ok.ensures in
    both.0 ∙ cut-none 128 (c.in-Some.low ++ c.args.high) (omega (arith, both.1, length-append c.in-Some.low c.args.high)) ∙ ap (λ low. take 128 (bits_so_far low ++ c.args.high)) (sym c.in-Some.is)
