-- as GatedClock, with initial #5 en = 0; -- whether g rises at 5 is free
use Rattle.std.specs.Prelude.{◌≡◌, refl, true, false, [], ◌∷◌, Some, map}
use Rattle.v_design.specs.Trees.{Delay}
use Rattle.v_design.specs.Designs.{FlatDesign, TestPlan, AssignNode}
use Rattle.v_design.specs.Grades.{grade}
use Rattle.run_examples.specs.Build.{at, reg_bit, wire_bit, process, set_bit, later_bit, number, bit_operand, not_of, and_of, wait_for, node, plan, variable_fault, race}
use Rattle.four_value.specs.declared.logic.Bit.TheVariants.{Zero, One}
use Rattle.four_value.specs.declared.logic.Edge.TheVariants.{Pos}
use Rattle.vf_base.specs.declared.finding.Side.TheVariants.{Good}
use Rattle.vf_base.specs.declared.finding.AccessKind.TheVariants.{Held, Settle}

abbrev pub design : FlatDesign
design = record {
  objects = reg_bit Zero ∷ reg_bit One ∷ reg_bit Zero ∷ wire_bit ∷ [];
  joined = [];
  nodes = node (AssignNode (and_of (bit_operand 0) (bit_operand 1)) (0 ∷ [])) (0 ∷ 1 ∷ []) (3 ∷ []) ∷ [];
  processes = process true 4 (Delay (at 4) 5 (set_bit 4 0 (not_of (bit_operand 0)))) ∷ process true 5 (wait_for 5 Pos 3 (later_bit 5 2 (not_of (bit_operand 2)))) ∷
      process false 6 (Delay (at 6) 5 (set_bit 6 1 (number 1 0))) ∷ [];
}

abbrev pub test_plan : TestPlan
test_plan = plan 12 (2 ∷ []) (7 ∷ []) (variable_fault 1 0 false ∷ variable_fault 2 0 true ∷ [])

-- the grades of the listed faults
abbrev pub Grades : Type 0
Grades = map (grade design test_plan) test_plan.faults ≡ Some (race Good 5 1 Held 3 1 5 Settle 3 0 4) ∷ Some (race Good 5 1 Held 3 1 5 Settle 3 0 4) ∷ []

pub grades : Grades
grades = refl
