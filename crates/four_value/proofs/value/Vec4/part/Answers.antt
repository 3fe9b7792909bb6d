use Rattle.std.proofs.Common.{◌≡◌, ◌-◌, false, arith, ap, ap₂, length, drop, ◌∙◌}
use Rattle.std.proofs.lemmas.List.{length-drop, length-replicate}
use Rattle.four_value.specs.Values.{joined_to, resized}
use Rattle.four_value.specs.declared.logic.Bit.TheVariants.{X}
use Rattle.four_value.proofs.Places.{part_of-past, part_of-inside, part_of-over, resized-cut}
use Rattle.four_value.proofs.value.Vec4.part.Goals as goal

pub returns-then-low-from : goal.returns-then-low-from
returns-then-low-from c = c.filled.ensures ∙ part_of-past c.args.self c.args.low c.args.width (omega arith)

pub returns-then-width-kept : goal.returns-then-width-kept
returns-then-width-kept c =
    let inside : length (drop c.args.low c.args.self) ≡ length c.args.self - c.args.low = length-drop c.args.low c.args.self in
    c.resize.ensures ∙ ap (resized false c.args.width) c.from_place-inside.ensures ∙ resized-cut false c.args.width (drop c.args.low c.args.self) (omega arith)
    ∙ part_of-inside c.args.self c.args.low c.args.width (omega arith)

pub above-requires : goal.above-requires
above-requires c =
    let inside : length c.from_place-inside.result ≡ length c.args.self - c.args.low = ap length c.from_place-inside.ensures ∙ length-drop c.args.low c.args.self in
    let outside : length c.filled-else-width-kept.result ≡ c.args.width - (c.width-own_width.result - c.args.low) = ap length c.filled-else-width-kept.ensures ∙ length-replicate _ X in
    omega arith

pub returns-else-width-kept : goal.returns-else-width-kept
returns-else-width-kept c =
    c.above.ensures ∙ ap₂ joined_to c.filled-else-width-kept.ensures c.from_place-inside.ensures
    ∙ part_of-over c.args.self c.args.low c.args.width (c.width-own_width.result - c.args.low) (omega arith) (omega arith)
