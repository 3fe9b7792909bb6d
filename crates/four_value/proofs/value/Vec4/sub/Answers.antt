use Rattle.std.proofs.Common.{arith, ◌<◌, ◌^◌, length, ◌∙◌}
use Rattle.four_value.proofs.Numbers.{difference_bits, number_of-lt}
use Rattle.four_value.proofs.value.Vec4.sub.Goals as goal

pub returns : goal.returns
returns c =
    c.from_number.ensures
    ∙ difference_bits c.args.self c.args.other c.width-2.result c.in-Some.left c.in-Some-as_number.right c.width-2.ensures.bits (omega arith) c.in-Some.ensures c.in-Some-as_number.ensures
    (let below : c.in-Some-as_number.right < 2 ^ length c.args.other = number_of-lt c.args.other c.in-Some-as_number.right c.in-Some-as_number.ensures in
    rw (c.width-2.ensures.bits, c.requires) below)
