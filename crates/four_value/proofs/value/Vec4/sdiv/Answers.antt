use Rattle.std.proofs.Common.{arith, rules, ap, ap₂, ◌∙◌}
use Rattle.std.specs.Prelude.{FitsSigned}
use Rattle.std.specs.Int.{w128, cast_unsigned, int_wrapping_div}
use Rattle.std.proofs.lemmas.Int.{to_z-of_z}
use Rattle.four_value.specs.Values.{bits_of_whole}
use Rattle.four_value.proofs.Numbers.{quotient_bits}
use Rattle.four_value.proofs.value.Vec4.sdiv.Goals as goal

pub returns : goal.returns
returns c =
    let left_fits : FitsSigned w128 c.in-Some.left = search rules in
    let right_fits : FitsSigned w128 c.in-Some-as_signed.right = search rules in
    let quotient_fits : FitsSigned w128 c.wrapping_div.result = record { sfits = c.wrapping_div.type_inv } in
    c.from_signed.ensures
    ∙ ap (bits_of_whole c.width-2.result)
    (to_z-of_z w128 c.wrapping_div.result quotient_fits ∙ c.wrapping_div.ensures
    ∙ ap₂ (int_wrapping_div w128) (to_z-of_z w128 c.in-Some.left left_fits) (to_z-of_z w128 c.in-Some-as_signed.right right_fits))
    ∙ quotient_bits c.args.self c.args.other c.width-2.result c.in-Some.left c.in-Some-as_signed.right c.width-2.ensures.bits (omega arith) c.in-Some.ensures c.in-Some-as_signed.ensures
    (λ e. c.if-right-eq0.false (ap (cast_unsigned w128) e)) left_fits
