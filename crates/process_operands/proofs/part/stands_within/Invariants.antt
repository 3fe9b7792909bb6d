use Rattle.std.proofs.Common.{◌≡◌, drop, map}
use Rattle.v_design.specs.Expressions.{place_of, part_indexes, part_places, some_place_within}
use Rattle.process_operands.proofs.part.stands_within.Given as goal

abbrev pub invariant-bits : goal.invariant-bits
invariant-bits l =
    some_place_within l.low l.high (map (place_of l.vector.high l.vector.low) (drop l.bit (part_indexes l.from l.to)))
    ≡ some_place_within l.low l.high (part_places l.vector.high l.vector.low l.from l.to)
