use Rattle.std.proofs.Common.{arith, ap, ◌∙◌}
use Rattle.std.specs.Int.{w128, cast_unsigned}
use Rattle.std.proofs.lemmas.Int.{to_z-of_z}
use Rattle.four_value.specs.Values.{bits_of}
use Rattle.four_value.proofs.Numbers.{bits_of-cast_unsigned, IsWithin-fits}
use Rattle.four_value.proofs.value.Vec4.from_signed.Goals as goal

pub returns : goal.returns
returns c =
    c.from_number.ensures ∙ ap (bits_of c.args.width) (c.cast_unsigned.ensures ∙ ap (cast_unsigned w128) (to_z-of_z w128 c.args.value c.ranges.value))
    ∙ bits_of-cast_unsigned c.args.width c.args.value (omega arith) (IsWithin-fits c.args.value c.ranges.value)
