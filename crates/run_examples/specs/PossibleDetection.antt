-- reg clk = 0, q; always #5 clk = ~clk; always @(posedge clk) q <= 0;
use Rattle.std.specs.Prelude.{◌≡◌, refl, true, false, [], ◌∷◌, Some, map}
use Rattle.v_design.specs.Trees.{Delay}
use Rattle.v_design.specs.Designs.{FlatDesign, TestPlan}
use Rattle.v_design.specs.Grades.{grade, Judged, Possible}
use Rattle.run_examples.specs.Build.{at, reg_bit, process, set_bit, later_bit, number, bit_operand, not_of, wait_for, plan, variable_fault}
use Rattle.four_value.specs.declared.logic.Bit.TheVariants.{Zero, X}
use Rattle.four_value.specs.declared.logic.Edge.TheVariants.{Pos}

abbrev pub design : FlatDesign
design = record {
  objects = reg_bit Zero ∷ reg_bit X ∷ [];
  joined = [];
  nodes = [];
  processes = process true 3 (Delay (at 3) 5 (set_bit 3 0 (not_of (bit_operand 0)))) ∷ process true 4 (wait_for 4 Pos 0 (later_bit 4 1 (number 1 0))) ∷ [];
}

abbrev pub test_plan : TestPlan
test_plan = plan 20 (1 ∷ []) (3 ∷ 7 ∷ 17 ∷ []) (variable_fault 0 0 false ∷ [])

-- the grades of the listed faults
abbrev pub Grades : Type 0
Grades = map (grade design test_plan) test_plan.faults ≡ Some (Judged (Possible 7)) ∷ []

pub grades : Grades
grades = refl
