use Rattle.std.proofs.Common.{◌∷◌, [], drop, map, Option, ◌∙◌, ap, ℕ}
use Rattle.v_design.specs.Plain.{piece_of}
use Rattle.v_design.specs.Expressions.{place_of_number, bit_at_place, slices_at, read_slices}
use Rattle.process_operands.specs.Sought.{got}
use Rattle.process_operands.specs.ReadLaws.{reads-nowhere}
use Rattle.process_operands.proofs.part.read_constant_bit.Goals as goal

pub returns-in-None-clause-has : goal.returns-in-None-clause-has
returns-in-None-clause-has c =
    let v = c.args.vector.now in
    ap (λ (index : Option ℕ). got (λ bits. bit_at_place bits (place_of_number v.high v.low index))
    (read_slices (slices_at (place_of_number v.high v.low index ∷ []) 0 (map piece_of v.pieces)) (drop c.args.used.now c.args.operands.now))) c.in-None.is
    ∙ reads-nowhere 0 (map piece_of v.pieces) (drop c.args.used.now c.args.operands.now)
