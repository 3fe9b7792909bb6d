use Rattle.std.proofs.Common.{◌≡◌, true, false, Some, arith, ap, sym, ◌∙◌}
use Rattle.std.specs.Prelude.{FitsSigned}
use Rattle.std.specs.Int.{w128}
use Rattle.std.proofs.lemmas.Int.{to_z-of_z}
use Rattle.four_value.specs.Bits.{is_one}
use Rattle.four_value.specs.Values.{top_bit}
use Rattle.four_value.proofs.Numbers.{signed-negative, signed-natural, whole_number-negative, whole_number-natural}
use Rattle.four_value.proofs.value.Vec4.as_signed.Goals as goal

pub returns-then-top_is_one : goal.returns-then-top_is_one
returns-then-top_is_one c =
    let top : is_one (top_bit c.args.self) ≡ true = sym c.top_is_one.ensures ∙ c.if-top_is_one.true in
    let fits : FitsSigned w128 c.cast_signed.result = record { sfits = c.cast_signed.type_inv } in
    ap Some
    (to_z-of_z w128 c.cast_signed.result fits ∙ c.cast_signed.ensures
    ∙ signed-negative c.args.self c.width-width.result c.in-Some.number c.width-width.ensures.bits (omega arith) (omega arith) c.in-Some.ensures c.mask.result top c.mask.ensures)
    ∙ whole_number-negative c.args.self c.width-width.result c.in-Some.number c.width-width.ensures.bits (omega arith) (omega arith) c.in-Some.ensures top

pub returns-else-top_is_one : goal.returns-else-top_is_one
returns-else-top_is_one c =
    let top : is_one (top_bit c.args.self) ≡ false = sym c.top_is_one.ensures ∙ c.if-top_is_one.false in
    let fits : FitsSigned w128 c.cast_signed-else-top_is_one.result = record { sfits = c.cast_signed-else-top_is_one.type_inv } in
    ap Some
    (to_z-of_z w128 c.cast_signed-else-top_is_one.result fits ∙ c.cast_signed-else-top_is_one.ensures
    ∙ signed-natural c.args.self c.width-width.result c.in-Some.number c.width-width.ensures.bits (omega arith) (omega arith) c.in-Some.ensures top)
    ∙ whole_number-natural c.args.self c.width-width.result c.in-Some.number c.width-width.ensures.bits (omega arith) (omega arith) c.in-Some.ensures top
