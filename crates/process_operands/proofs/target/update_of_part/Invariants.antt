use Rattle.std.proofs.Common.{◌≡◌, drop, map}
use Rattle.v_design.specs.Assignments.{part_update}
use Rattle.v_design.specs.Expressions.{place_of, part_indexes, part_places}
use Rattle.vf_base.specs.Base.{object_number}
use Rattle.process_operands.proofs.target.update_of_part.Given as goal

abbrev pub invariant-bits : goal.invariant-bits
invariant-bits l =
    part_update l.line (object_number l.variable.object) (map (place_of l.variable.high l.variable.low) (drop l.bit (part_indexes l.from l.to))) (drop l.bit l.value)
    ≡ part_update l.line (object_number l.variable.object) (part_places l.variable.high l.variable.low l.from l.to) l.value
