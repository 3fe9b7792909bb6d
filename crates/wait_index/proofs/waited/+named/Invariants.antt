use Rattle.std.proofs.Common.{◌≡◌, ◌++◌, map, drop}
use Rattle.vf_base.specs.Base.{object_number}
use Rattle.v_design.specs.Plain.{expressions_of}
use Rattle.v_design.specs.Expressions.{piece_objects}
use Rattle.v_design.specs.Reads.{named_in_parts}
use Rattle.wait_index.proofs.waited.+named.Given as goal

abbrev pub invariant-add_named_parts-parts : goal.invariant-add_named_parts-parts
invariant-add_named_parts-parts l =
    map object_number l.objects.items ++ piece_objects (named_in_parts (expressions_of (drop l.part-index l.parts))) ≡ map object_number l.initial.objects.items
    ++ piece_objects (named_in_parts (expressions_of l.parts))
