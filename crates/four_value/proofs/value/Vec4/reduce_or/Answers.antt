use Rattle.std.proofs.Common.{ap, sym, ◌∙◌}
use Rattle.four_value.specs.Values.{truth_bit}
use Rattle.four_value.proofs.Readings.{reduced-or}
use Rattle.four_value.proofs.value.Vec4.reduce_or.Goals as goal

pub returns : goal.returns
returns c = c.as_bit.ensures ∙ ap truth_bit c.truth.ensures ∙ sym (reduced-or c.args.self)
