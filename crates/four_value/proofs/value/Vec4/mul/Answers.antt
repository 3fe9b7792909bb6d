use Rattle.std.proofs.Common.{arith, ◌∙◌}
use Rattle.four_value.proofs.Numbers.{product_bits}
use Rattle.four_value.proofs.value.Vec4.mul.Goals as goal

pub returns : goal.returns
returns c =
    c.from_number.ensures
    ∙ product_bits c.args.self c.args.other c.width-2.result c.in-Some.left c.in-Some-as_number.right c.width-2.ensures.bits (omega arith) c.in-Some.ensures c.in-Some-as_number.ensures
