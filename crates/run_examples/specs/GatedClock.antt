-- reg clk = 0, en = 1, q = 0; wire g; assign g = clk & en; always #5 clk = ~clk; always @(posedge g) q <= ~q;
use Rattle.std.specs.Prelude.{◌≡◌, refl, true, false, [], ◌∷◌, Some, map}
use Rattle.v_design.specs.Trees.{Delay}
use Rattle.v_design.specs.Designs.{FlatDesign, TestPlan, AssignNode}
use Rattle.v_design.specs.Grades.{grade, Judged, Detected, Undetected}
use Rattle.run_examples.specs.Build.{at, reg_bit, wire_bit, process, set_bit, later_bit, bit_operand, not_of, and_of, wait_for, node, plan, variable_fault}
use Rattle.four_value.specs.declared.logic.Bit.TheVariants.{Zero, One}
use Rattle.four_value.specs.declared.logic.Edge.TheVariants.{Pos}

abbrev pub design : FlatDesign
design = record {
  objects = reg_bit Zero ∷ reg_bit One ∷ reg_bit Zero ∷ wire_bit ∷ [];
  joined = [];
  nodes = node (AssignNode (and_of (bit_operand 0) (bit_operand 1)) (0 ∷ [])) (0 ∷ 1 ∷ []) (3 ∷ []) ∷ [];
  processes = process true 4 (Delay (at 4) 5 (set_bit 4 0 (not_of (bit_operand 0)))) ∷ process true 5 (wait_for 5 Pos 3 (later_bit 5 2 (not_of (bit_operand 2)))) ∷ [];
}

abbrev pub test_plan : TestPlan
test_plan = plan 12 (2 ∷ []) (7 ∷ []) (variable_fault 1 0 false ∷ variable_fault 2 0 true ∷ [])

-- the grades of the listed faults
abbrev pub Grades : Type 0
Grades = map (grade design test_plan) test_plan.faults ≡ Some (Judged (Detected 7)) ∷ Some (Judged Undetected) ∷ []

pub grades : Grades
grades = refl
