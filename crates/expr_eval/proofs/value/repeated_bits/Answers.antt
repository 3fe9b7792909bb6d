use Rattle.std.proofs.Common.{rules, ◌++◌, ap, sym, ◌∙◌}
use Rattle.expr_eval.specs.Operands.{bits_so_far}
use Rattle.expr_eval.specs.WidthLaws.{repeated-more, repeated-room}
use Rattle.expr_eval.proofs.value.repeated_bits.Goals as goal

pub put_left-requires : goal.put_left-requires
put_left-requires c = repeated-room c.args.count c.times.counter c.args.bits (bits_so_far c.times.all) (search rules) c.requires.few c.times.invariant

pub times-preserved : goal.times-preserved
times-preserved c = c.put_left.ensures ∙ ap (λ all. all ++ c.args.bits) c.times.invariant ∙ sym (repeated-more c.times.counter c.args.bits)
