use Rattle.std.proofs.Common.{◌≡◌, ◌+◌, ◌*◌, ◌++◌, drop, map}
use Rattle.vf_base.specs.Base.{object_number}
use Rattle.v_design.specs.Plain.{expression_of, expressions_of}
use Rattle.v_design.specs.Sized.{levels_of, levels_of_parts}
use Rattle.v_elab.specs.Statements.{part_objects_in_text}
use Rattle.object_waits.proofs.reads.+reads.Given as goal

abbrev pub invariant-add_parts-parts : goal.invariant-add_parts-parts
invariant-add_parts-parts l = map object_number l.objects.items ++ part_objects_in_text (expressions_of (drop l.part-index l.parts)) ≡ map object_number l.initial.objects.items
    ++ part_objects_in_text (expressions_of l.parts)

abbrev pub decreases-add_objects : goal.decreases-add_objects
decreases-add_objects l = 2 * levels_of (expression_of l.expr.now)

abbrev pub decreases-add_parts : goal.decreases-add_parts
decreases-add_parts l = 2 * levels_of_parts (expressions_of l.parts.now) + 1
