use Rattle.std.proofs.Common.{◌∷◌, [], drop, map, Option, sym, ◌∙◌, ap, ℕ}
use Rattle.v_design.specs.Plain.{piece_of}
use Rattle.v_design.specs.Expressions.{place_of, part_places, bit_at_place, slices_at, read_slices}
use Rattle.process_operands.specs.Sought.{got}
use Rattle.process_operands.specs.ReadLaws.{reads-nowhere, one-place}
use Rattle.process_operands.proofs.part.read_known_bit.Goals as goal

pub returns-in-None-clause-has : goal.returns-in-None-clause-has
returns-in-None-clause-has c =
    let v = c.args.vector.now in
    ap (λ (place : Option ℕ). got (λ bits. bit_at_place bits place) (read_slices (slices_at (place ∷ []) 0 (map piece_of v.pieces)) (drop c.args.used.now c.args.operands.now))) c.in-None.ensures.none
    ∙ reads-nowhere 0 (map piece_of v.pieces) (drop c.args.used.now c.args.operands.now)

pub returns-in_ok-bit-in-Some-clause-has : goal.returns-in_ok-bit-in-Some-clause-has
returns-in_ok-bit-in-Some-clause-has c =
    let v = c.args.vector.now in
    let same = one-place v.high v.low c.in-Some.within ∙ ap (λ i. place_of v.high v.low i ∷ []) c.in-Some.ensures.some in
    ap (λ places. got (λ bits. bit_at_place bits (place_of v.high v.low c.args.index)) (read_slices (slices_at places 0 (map piece_of v.pieces)) (drop c.args.used.now c.args.operands.now))) (sym same)
    ∙ ap (λ (place : Option ℕ). got (λ bits. bit_at_place bits place) (read_slices (slices_at (part_places v.high v.low c.in-Some.within c.in-Some.within) 0 (map piece_of v.pieces))
    (drop c.args.used.now c.args.operands.now))) (sym c.place_of_index-place.ensures)
    ∙ c.in_ok-bit-in-Some.ensures.has
