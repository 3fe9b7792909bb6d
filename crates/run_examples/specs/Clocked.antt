-- reg clk = 0, d = 1, q1 = 0, q2 = 0; always #5 clk = ~clk; always @(posedge clk) q1 <= d; always @(posedge clk) q2 <= q1;
use Rattle.std.specs.Prelude.{◌≡◌, refl, true, false, [], ◌∷◌, Some, map}
use Rattle.v_design.specs.Trees.{Delay}
use Rattle.v_design.specs.Designs.{FlatDesign, TestPlan}
use Rattle.v_design.specs.Grades.{grade, Judged, Detected}
use Rattle.run_examples.specs.Build.{at, reg_bit, process, set_bit, later_bit, bit_operand, not_of, wait_for, plan, variable_fault}
use Rattle.four_value.specs.declared.logic.Bit.TheVariants.{Zero, One}
use Rattle.four_value.specs.declared.logic.Edge.TheVariants.{Pos}

abbrev pub design : FlatDesign
design = record {
  objects = reg_bit Zero ∷ reg_bit One ∷ reg_bit Zero ∷ reg_bit Zero ∷ [];
  joined = [];
  nodes = [];
  processes = process true 3 (Delay (at 3) 5 (set_bit 3 0 (not_of (bit_operand 0)))) ∷ process true 4 (wait_for 4 Pos 0 (later_bit 4 2 (bit_operand 1))) ∷
      process true 5 (wait_for 5 Pos 0 (later_bit 5 3 (bit_operand 2))) ∷ [];
}

abbrev pub test_plan : TestPlan
test_plan = plan 30 (3 ∷ []) (3 ∷ 13 ∷ 23 ∷ []) (variable_fault 1 0 false ∷ variable_fault 2 0 true ∷ variable_fault 3 0 false ∷ variable_fault 0 0 false ∷ variable_fault 0 0 true ∷ [])

-- the grades of the listed faults
abbrev pub Grades : Type 0
Grades = map (grade design test_plan) test_plan.faults ≡ Some (Judged (Detected 23)) ∷ Some (Judged (Detected 13)) ∷ Some (Judged (Detected 23)) ∷ Some (Judged (Detected 23)) ∷
    Some (Judged (Detected 23)) ∷ []

pub grades : Grades
grades = refl
