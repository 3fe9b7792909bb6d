use Rattle.std.proofs.Common.{◌≡◌, drop}
use Rattle.v_tree.specs.Views.{expressions_of}
use Rattle.v_names.specs.Constants.{constant_part_faults}
use Rattle.name_checks.specs.Noted.{noted}
use Rattle.name_checks.proofs.constants.+constant.Given as goal

abbrev pub invariant-note_constant_parts-parts : goal.invariant-note_constant_parts-parts
invariant-note_constant_parts-parts l = noted l.first (constant_part_faults l.scope (expressions_of (drop l.part-index l.parts))) ≡ noted l.initial.first
    (constant_part_faults l.scope (expressions_of l.parts))
