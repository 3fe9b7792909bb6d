use Rattle.std.proofs.Common.{◌≡◌, ◌++◌, drop, map, length, get_or, arith, sym, ◌∙◌, ap, length-append}
use Rattle.std.proofs.Math.ListN.{get_or-map}
use Rattle.std.proofs.lemmas.List.{length-map}
use Rattle.v_design.specs.Plain.{piece_of}
use Rattle.v_design.specs.Assignments.{part_width}
use Rattle.v_design.specs.Expressions.{Has, place_of, part_indexes, part_places, bit_at_place, slices_at, read_slices}
use Rattle.expr_eval.specs.Operands.{bits_so_far}
use Rattle.process_operands.specs.Sought.{got}
use Rattle.process_operands.specs.PartReads.{got-place, length_none}
use Rattle.process_operands.proofs.part.read_part.Goals as goal

pub bits-preserved : goal.bits-preserved
bits-preserved c =
    let v = c.args.vector.now in
    let places = part_places v.high v.low c.args.from c.args.to in
    let progress = read_slices (slices_at places 0 (map piece_of v.pieces)) (drop c.args.used.now c.args.operands.now) in
    let n : length places ≡ part_width c.args.from c.args.to = length-map (part_indexes c.args.from c.args.to) (place_of v.high v.low) in
    let place_is : get_or places c.bits.bit (place_of v.high v.low 0) ≡ c.place_of_index-place.result =
    get_or-map (place_of v.high v.low) (part_indexes c.args.from c.args.to) c.bits.bit 0 ∙ sym
    (c.place_of_index-place.ensures ∙ ap (place_of v.high v.low) (c.from-index.ensures ∙ c.part_index.ensures)) in
    record {
      bits = omega (arith, ap length c.put_left.ensures, length-append (bits_so_far c.bits.part) c.of_bit.result, ap length c.of_bit.ensures, c.bits.invariant.bits);
      some = λ h.
          got-place bit_at_place progress places c.bits.bit (place_of v.high v.low 0) (bits_so_far c.bits.part) c.in_ok-value.value (drop c.bits.used c.args.operands.now)
          (drop c.read_bit_of_part.new.used c.args.operands.now)
          (omega (arith, c.bits-test.true, n, c.width_of_part-bit-end.ensures)) c.bits.invariant.some (λ z. length_none (bits_so_far c.bits.part) (c.bits.invariant.bits ∙ z))
          (ap (λ place. got (λ bits. bit_at_place bits place) progress) place_is ∙ c.in_ok-value.ensures.has)
          ∙ ap (λ bits. Has bits (drop c.read_bit_of_part.new.used c.args.operands.now)) (sym (c.put_left.ensures ∙ ap (λ b. bits_so_far c.bits.part ++ b) c.of_bit.ensures));
    }
