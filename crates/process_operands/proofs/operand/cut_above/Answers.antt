use Rattle.std.proofs.Common.{◌≡◌, ◌+◌, ◌-◌, ◌++◌, length, arith, sym, ◌∙◌, ap}
use Rattle.std.proofs.lemmas.List.{take_at}
use Rattle.four_value.specs.ValueLaws.{length-part_of}
use Rattle.process_operands.proofs.Cuts.{part_of-first, cut-append}
use Rattle.process_operands.proofs.operand.cut_above.Goals as goal

pub returns-then-room-eq0 : goal.returns-then-room-eq0
returns-then-room-eq0 c = sym (take_at c.args.low c.args.high 128 (omega (arith, c.if-room-eq0.true, c.width-room.ensures.bits, c.width-room.ensures.in_range)))

pub unreachable-requires : goal.unreachable-requires
unreachable-requires c =
    let over = c.in-Err.ensures in
    let part = length-part_of c.args.high 0 (128 - c.width-room.result) in
    omega (arith, over.1, ap length c.part.ensures, part, c.width-room.ensures.bits, c.width-room.ensures.in_range)

pub returns : goal.returns
returns c =
    let both = c.in-Ok.ensures in
    let room = 128 - c.width-room.result in
    let fits : length c.args.low + room ≡ 128 = omega (arith, c.width-room.ensures.bits, c.width-room.ensures.in_range) in
    both.0
    ∙ ap (λ high. c.args.low ++ high) (c.part.ensures ∙ part_of-first c.args.high room 0 (omega (arith, c.requires, fits)))
    ∙ sym (cut-append 128 room c.args.low c.args.high fits)
