use Rattle.std.proofs.Common.{◌≡◌, ◌-◌, length, arith, ap, ◌∙◌}
use Rattle.four_value.specs.Values.{bit_at}
use Rattle.v_names.proofs.KnownLaws.{bit_at-top}
use Rattle.v_names.proofs.sizing.top.Goals as goal

pub returns : goal.returns
returns c =
    let place : c.from.result - 1 ≡ length c.args.value - 1 = omega (arith, c.from.ensures, c.width.ensures.bits) in
    c.bit.ensures ∙ ap (bit_at c.args.value) place ∙ bit_at-top c.args.value c.width.ensures.in_range.0
