use Rattle.std.proofs.Common.{◌≡◌, ◌-◌, true, false, arith, ap, ap₂, sym, replicate, ◌++◌, length, ◌∙◌}
use Rattle.std.proofs.lemmas.List.{length-replicate}
use Rattle.four_value.proofs.Places.{resized-cut, resized-wider}
use Rattle.four_value.proofs.value.Vec4.sresize.Goals as goal

pub returns-then-width-own_width : goal.returns-then-width-own_width
returns-then-width-own_width c =
    c.resize.ensures ∙ resized-cut false c.args.width c.args.self (omega arith) ∙ sym (resized-cut true c.args.width c.args.self (omega arith))

pub above-requires : goal.above-requires
above-requires c =
    let added : length c.filled.result ≡ c.args.width - c.width-own_width.result = ap length c.filled.ensures ∙ length-replicate _ _ in
    omega (arith, c.requires)

pub returns-else-width-own_width : goal.returns-else-width-own_width
returns-else-width-own_width c =
    let added : c.args.width - c.width-own_width.result ≡ c.args.width - length c.args.self = omega arith in
    c.above.ensures ∙ ap (λ high. c.args.self ++ high) (c.filled.ensures ∙ ap₂ replicate added c.top.ensures) ∙ resized-wider c.args.width c.args.self (omega arith)
