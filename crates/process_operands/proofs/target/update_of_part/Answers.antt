use Rattle.std.proofs.Common.{◌≡◌, ◌-◌, ◌<◌, Some, sym, ◌∙◌, ap, length, drop, get_or, arith}
use Rattle.std.proofs.lemmas.List.{take_all, length-drop}
use Rattle.vf_base.specs.Base.{object_number}
use Rattle.four_value.specs.Values.{LogicValue, part_of}
use Rattle.v_design.specs.Expressions.{place_of, part_indexes}
use Rattle.process_operands.specs.ChoiceLaws.{part-skip, part-found}
use Rattle.process_operands.proofs.Cuts.{part_of-first}
use Rattle.process_operands.proofs.target.update_of_part.Goals as goal

pub returns-in-Some : goal.returns-in-Some
returns-in-Some c =
    let v = c.args.variable.now in
    let i = c.bits.bit in
    let indexes = part_indexes c.args.from c.args.to in
    let place : place_of v.high v.low (get_or indexes i 0) ≡ Some c.in-Some.low = ap (place_of v.high v.low) (sym (c.from-index.ensures ∙ c.part_index.ensures)) ∙ sym c.place_of_index.ensures
    ∙ c.in-Some.is in
    let low : i < length c.args.value = omega (arith, c.bits-test.true, c.width.ensures.bits, c.from-bit-end.ensures) in
    let rest : c.part.result ≡ drop i c.args.value =
    c.part.ensures ∙ ap (λ n. part_of c.args.value i n) (omega (arith, c.width-in-Some.ensures.bits))
    ∙ part_of-first c.args.value (length c.args.value - i) i (omega (arith, low))
    ∙ take_all (length c.args.value - i) (drop i c.args.value) (omega (arith, length-drop i c.args.value)) in
    ap (λ (value : LogicValue). Some (record { object = object_number v.object; low = c.in-Some.low; value = value; line = c.args.line })) rest
    ∙ sym (part-found c.args.line (object_number v.object) i 0 c.in-Some.low (place_of v.high v.low) indexes c.args.value (omega (arith, low, c.requires)) place)
    ∙ c.bits.invariant

pub bits-preserved : goal.bits-preserved
bits-preserved c =
    let v = c.args.variable.now in
    let i = c.bits.bit in
    let indexes = part_indexes c.args.from c.args.to in
    let place = ap (place_of v.high v.low) (sym (c.from-index.ensures ∙ c.part_index.ensures)) ∙ sym c.place_of_index.ensures ∙ c.in-None.is in
    part-skip c.args.line (object_number v.object) i 0 (place_of v.high v.low) indexes c.args.value
    (omega (arith, c.bits-test.true, c.width.ensures.bits, c.from-bit-end.ensures, c.requires)) c.requires place
    ∙ c.bits.invariant
