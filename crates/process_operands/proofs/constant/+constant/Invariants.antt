use Rattle.std.proofs.Common.{◌≡◌, drop}
use Rattle.v_design.specs.Plain.{expressions_of}
use Rattle.v_design.specs.Expressions.{are_constant}
use Rattle.process_operands.proofs.constant.+constant.Given as goal

abbrev pub invariant-name_nothing-parts : goal.invariant-name_nothing-parts
invariant-name_nothing-parts l = are_constant (expressions_of l.parts) ≡ are_constant (expressions_of (drop l.part-index l.parts))
