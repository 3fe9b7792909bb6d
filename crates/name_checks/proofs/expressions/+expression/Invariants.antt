use Rattle.std.proofs.Common.{◌≡◌, drop}
use Rattle.v_tree.specs.Views.{expressions_of}
use Rattle.v_names.specs.Constants.{part_faults}
use Rattle.name_checks.specs.Noted.{noted}
use Rattle.name_checks.proofs.expressions.+expression.Given as goal

abbrev pub invariant-note_parts-parts : goal.invariant-note_parts-parts
invariant-note_parts-parts l = noted l.first (part_faults l.scope (expressions_of (drop l.part-index l.parts))) ≡ noted l.initial.first (part_faults l.scope (expressions_of l.parts))
