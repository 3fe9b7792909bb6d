use Rattle.std.proofs.Common.{ap, ◌∙◌}
use Rattle.four_value.specs.Bits.{not_bit, or_bit}
use Rattle.four_value.specs.Values.{reduced}
use Rattle.four_value.specs.declared.logic.Bit.TheVariants.{Zero}
use Rattle.four_value.proofs.Readings.{reduced-and}
use Rattle.four_value.proofs.value.Vec4.reduce_and.Goals as goal

pub returns : goal.returns
returns c = c.not-2.ensures ∙ ap not_bit (c.reduce_or.ensures ∙ ap (reduced or_bit Zero) c.not.ensures) ∙ reduced-and c.args.self
