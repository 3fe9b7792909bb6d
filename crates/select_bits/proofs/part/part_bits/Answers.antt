use Rattle.std.proofs.Common.{◌≡◌, ℕ, ◌+◌, ◌-◌, ◌<◌, ◌≤◌, List, Option, map, ap₂, ◌∙◌, arith}
use Rattle.v_design.specs.Expressions.{up_from, down_from, place_of}
use Rattle.select_bits.proofs.Alike.{rising-order, falling-order}
use Rattle.select_bits.proofs.part.part_bits.Goals as goal

pub returns-then-bounds : goal.returns-then-bounds
returns-then-bounds c range h l takes =
    let from = c.args.from in
    let to = c.args.to in
    let down : range.low ≤ range.high = omega (arith, h, l, c.if-bounds.true) in
    let order = rising-order range from to takes.0 down in
    let few = takes.1 in
    c.rising_part.ensures order.0 (omega (arith, few)) ∙ ap₂ (λ (high low : ℕ). map (place_of high low) (up_from to (from - to + 1))) h l ∙ order.1

pub returns-else-bounds : goal.returns-else-bounds
returns-else-bounds c range h l takes =
    let from = c.args.from in
    let to = c.args.to in
    let up : range.high < range.low = omega (arith, h, l, c.if-bounds.false) in
    let order = falling-order range from to takes.0 up in
    let few = takes.1 in
    c.falling_part.ensures order.0 (omega (arith, few)) ∙ ap₂ (λ (high low : ℕ). map (place_of high low) (down_from to (to - from + 1))) h l ∙ order.1
